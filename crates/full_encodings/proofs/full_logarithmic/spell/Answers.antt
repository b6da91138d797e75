-- Each turn puts the next digit behind those that are there.
use Rattle.std.proofs.Common.{◌∙◌, arith, w32, SFits, rules}
use Rattle.std.proofs.lemmas.Int.{to_z-of_z}
use Rattle.full_encodings.proofs.Spelled.{spelled_more, spelled_all}
use Rattle.full_encodings.proofs.full_logarithmic.spell.Goals as goal

pub loop-place-preserved : goal.loop-place-preserved
loop-place-preserved c =
    let g : SFits w32 c.digit_literal.result = search rules in
    spelled_more c.args.skipped c.args.count c.args.number c.loop-place.place c.loop-place.digits.items _ _ (omega arith) (omega arith)
    (to_z-of_z w32 c.digit_literal.result g ∙ c.digit_literal.ensures) c.loop-place.invariant c.push.ensures.items

pub returns : goal.returns
returns c = spelled_all c.args.skipped c.args.count c.args.number c.loop-place.place _ (omega arith) c.loop-place.invariant
