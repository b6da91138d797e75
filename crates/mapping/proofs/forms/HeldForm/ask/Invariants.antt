-- The literals before the place are held.
use Rattle.std.proofs.Common.{◌≡◌, take}
use Rattle.mapping.proofs.forms.HeldForm.ask.Given as goal

abbrev pub invariant-loop-place : goal.invariant-loop-place
invariant-loop-place g l = l.literals.items ≡ take l.place (take l.shape.count l.literal-items)
