-- The words are moved one by one.
use Rattle.std.proofs.Common.{get_or, set, pos, ap, ◌∙◌, arith, w32, SFits, rules}
use Rattle.std.proofs.lemmas.Int.{to_z-of_z}
use Rattle.std.proofs.lemmas.List.{get_or_default}
use Rattle.std.proofs.lemmas.List.Edits.{map_over_more}
use Rattle.mapping.specs.Memory.{moved_word}
use Rattle.mapping.proofs.moves.move_words.Goals as goal

pub loop-word-preserved : goal.loop-word-preserved
loop-word-preserved c =
    let ws = c.loop-word.words in
    let i = c.loop-word.word-index in
    let fits : SFits w32 (get_or ws i (pos 0)) = search rules in
    let out : SFits w32 c.move_word.result = search rules in
    let moved = to_z-of_z w32 _ out ∙ c.move_word.ensures ∙ ap (moved_word c.args.by) (to_z-of_z w32 _ fits) in
    ap (set ws i) moved
    ∙ map_over_more (moved_word c.args.by) c.args.words.now ws i _ c.loop-word-test.true c.loop-word.invariant (get_or_default ws i _ _ (omega arith))
