-- The digits above this place are there.
use Rattle.std.proofs.Common.{◌≡◌, ◌-◌, take}
use Rattle.encodings.specs.Digits.{spelled}
use Rattle.full_encodings.proofs.full_logarithmic.spell.Given as goal

abbrev pub invariant-loop-place : goal.invariant-loop-place
invariant-loop-place l = l.digits.items ≡ take (l.count - l.place) (spelled l.skipped l.count l.number)
