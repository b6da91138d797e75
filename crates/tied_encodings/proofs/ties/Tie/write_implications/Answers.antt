-- The clauses are written one by one, in order.
use Rattle.std.proofs.Common.{◌≡◌, ◌+◌, ◌≤◌, length, drop, get_or, pos, refl, sym, ap, subst, ◌∙◌, arith, w32, to_z, of_z}
use Rattle.std.proofs.lemmas.Bool.{and_parts}
use Rattle.std.proofs.lemmas.List.{drop_all}
use Rattle.formula.proofs.Tests.{every_at}
use Rattle.formula.specs.Boolean.{local, words_of}
use Rattle.encodings.proofs.Writing.{Writing, writing_room}
use Rattle.tied_encodings.proofs.TieWords.{as_word, turned_word, implications, implications_words, implications_room, implications_more, implications_all}
use Rattle.tied_encodings.proofs.ties.Tie.write_implications.Goals as goal
use Rattle.tied_encodings.proofs.ties.Tie.write_implications.Goals.{in-Some, in_default}

pub slice_bounds-write_clause-end-in-Some : goal.slice_bounds-write_clause-end-in-Some
slice_bounds-write_clause-end-in-Some c =
    let x = c.args.self.now.literal in
    let ls = c.args.self.now.others.now in
    let found = c.in-Some.ensures.lookup.3 in
    let room = implications_room c.args.memory.now c.loop-place.memory _ c.loop-place.place x ls found.0
    (omega (arith, implications_words x ls)) c.loop-place.invariant.1 in
    omega arith

pub loop-place-preserved : goal.loop-place-preserved
loop-place-preserved c =
    let x = c.args.self.now.literal in
    let ls = c.args.self.now.others.now in
    let i = c.loop-place.place in
    let narrow = and_parts (local 127 x) _ c.args.self.now.narrow in
    let room : words_of (implications x ls) ≤ length c.args.memory.now = omega (arith, implications_words x ls) in
    elim c.match-get.branch [
      | in-Some w ↦
          let found = w.in-Some.ensures.lookup.3 in
          let word : to_z w32 (of_z w32 w.in-Some.other.now) ≡ get_or ls i (pos 0) =
          ap (λ z. to_z w32 (of_z w32 z)) (found.1 (pos 0)) ∙ as_word (get_or ls i (pos 0)) (every_at (local 127) ls i (pos 0) found.0 narrow.1) in
          rw (w.memory-is, w.count-is) (writing_room _ _ _ _ _ room
          (implications_more _ _ _ _ _ _ i x _ _ ls found.0 (turned_word x narrow.0) word refl room
          w.write_clause-count.ensures.room c.loop-place.invariant.1))
      | in_default w ↦
          let none = w.in_default.ensures.lookup.3 in
          let same : drop i ls ≡ drop (i + 1) ls = drop_all i ls none ∙ sym (drop_all (i + 1) ls (omega arith)) in
          rw (w.memory-is, w.count-is) (writing_room _ _ _ _ _ room
          (subst (λ ks. Writing c.args.memory.now c.loop-place.memory c.loop-place.count (implications x ks) (implications x ls)) same c.loop-place.invariant.1))
    ]

pub returns : goal.returns
returns c =
    let x = c.args.self.now.literal in
    let ls = c.args.self.now.others.now in
    let few = c.args.self.now.few in
    let all = implications_all _ _ _ c.loop-place.place x ls (omega arith) c.loop-place.invariant.1 in
    record { count = all.0 ∙ implications_words x ls; memory = all.1 }
