use Rattle.std.proofs.Common.{◌≡◌, ◌+◌, [], ◌∷◌, length, get_or, pos, arith, w32, SFits, rules, length-append}
use Rattle.std.specs.List.{flat_map}
use Rattle.std.proofs.lemmas.List.Folds.{length-flat_map-take}
use Rattle.std.proofs.lemmas.Int.{to_z-of_z}
use Rattle.text_store.specs.Texts.{text_literal, text_line}
use Rattle.std.proofs.lemmas.List.{take_all}
use Rattle.text_store.specs.Bytes.{WroteFront}
use Rattle.text_store.proofs.Places.{room_behind, wrote_more}
use Rattle.text_store.proofs.writing.write_clause.Goals as goal

pub write_literal-end-requires : goal.write_literal-end-requires
write_literal-end-requires c =
    let l = get_or c.args.clause.now c.loop-literal.literal-index (pos 0) in
    let fit : SFits w32 l = search rules in
    let some = length-flat_map-take text_literal c.args.clause.now c.loop-literal.literal-index (pos 0) c.loop-literal-test.true in
    let line = length-append (flat_map text_literal c.args.clause.now) (48 ∷ []) in
    let whole = length-append (text_line c.args.clause.now) (10 ∷ []) in
    rw (to_z-of_z w32 l fit) (room_behind c.loop-literal.end c.loop-literal.out (length (text_literal l)) (omega (arith, c.loop-literal.auto.out)))

pub returns : goal.returns
returns c =
    let line = length-append (flat_map text_literal c.args.clause.now) (48 ∷ []) in
    let whole = length-append (text_line c.args.clause.now) (10 ∷ []) in
    let literals : WroteFront (flat_map text_literal c.args.clause.now) c.args.out.now c.loop-literal.end c.loop-literal.out = rw (take_all c.loop-literal.literal-index c.args.clause.now c.loop-literal-test.false) at c.loop-literal.invariant in
    let both : c.loop-literal.end + 1 + 1 ≡ c.loop-literal.end + 2 = omega arith in
    rw both at (wrote_more 10 (wrote_more 48 literals (omega arith)) (omega arith))
