-- The words are moved one by one.
use Rattle.std.proofs.Common.{◌≤◌, leb, get_or, pos, sym, ap, ◌∙◌, subst, w32, SFits, rules}
use Rattle.std.proofs.lemmas.Int.{to_z-of_z}
use Rattle.std.proofs.lemmas.Bool.{leb-true}
use Rattle.formula.proofs.Tests.{every_at}
use Rattle.formula.specs.Boolean.{number}
use Rattle.mapping.specs.Memory.{moved_word}
use Rattle.encodings.proofs.Mapped.{mapped_at, mapped_step, mapped_all}
use Rattle.tied_encodings.proofs.moves.move_few.Goals as goal

pub move_word-requires : goal.move_word-requires
move_word-requires c =
    let xs = c.args.words.now in
    let i = c.loop-word.word-index in
    let fits : SFits w32 (get_or c.loop-word.words i (pos 0)) = search rules in
    let small : number (get_or xs i (pos 0)) ≤ 127 = leb-true (number (get_or xs i (pos 0))) 127 (every_at (λ w. leb (number w) 127) xs i (pos 0) c.loop-word-test.true c.requires.0) in
    (simp to_z-of_z (subst (λ z. number z ≤ 127) (sym (mapped_at (moved_word c.args.by) xs c.loop-word.words i c.loop-word-test.true c.loop-word.invariant)) small), c.requires.1)

pub loop-word-preserved : goal.loop-word-preserved
loop-word-preserved c =
    let i = c.loop-word.word-index in
    let fits : SFits w32 (get_or c.loop-word.words i (pos 0)) = search rules in
    let out : SFits w32 c.move_word.result = search rules in
    mapped_step (moved_word c.args.by) c.args.words.now c.loop-word.words i c.loop-word-test.true c.loop-word.invariant _
    (to_z-of_z w32 _ out ∙ (c.move_word.ensures ∙ ap (moved_word c.args.by) (to_z-of_z w32 _ fits)))

pub returns : goal.returns
returns c = mapped_all (moved_word c.args.by) c.args.words.now c.loop-word.words c.loop-word.word-index c.loop-word-test.false c.loop-word.invariant
