use Rattle.std.proofs.Common.{◌+◌, ◌∙◌}
use Rattle.translator.proofs.AxiomWords.{words_takes, stored}
use Rattle.translator.proofs.axioms.file_axioms.Goals as goal

pub put_clauses-requires : goal.put_clauses-requires
put_clauses-requires g c =
    words_takes (g.S.Store.terms c.args.store.now) (g.S.Store.contents c.args.store.now) g.M.Mapping.meaning g.met.M.Mapping.lawful (g.met.S.Store.laws c.args.store.now) c.args.start c.args.size
    _ _ _ _ _ _ c.axioms-count.ensures.memory c.axioms-count.ensures.count (λ j. c.from.ensures j + (c.from-2.ensures ∙ c.width.ensures) j) c.check_room.ensures c.in_ok-check_room.was _ c.move_words.ensures

pub returns : goal.returns
returns g c =
    let said = c.put_clauses.ensures in
    let done =
    stored (g.S.Store.terms c.args.store.now) (g.S.Store.contents c.args.store.now) g.M.Mapping.meaning g.met.M.Mapping.lawful (g.met.S.Store.laws c.args.store.now) c.args.start c.args.size
    _ _ _ _ _ _ c.axioms-count.ensures.memory c.axioms-count.ensures.count (λ j. c.from.ensures j + (c.from-2.ensures ∙ c.width.ensures) j) c.check_room.ensures c.in_ok-check_room.was _ c.move_words.ensures
    _ _ _ said.answer said.after said.kept in
    record { answer = done.0; after = done.1; same = said.same; memory = done.2 }
