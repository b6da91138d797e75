-- The literals before the place are written, the other places are as they were.
use Rattle.std.proofs.Common.{◌≡◌, map, take}
use Rattle.mapping.specs.Memory.{over}
use Rattle.encodings.specs.ListedForms.{signed_literal}
use Rattle.encodings.proofs.listed.write_form.Given as goal

abbrev pub invariant-loop-place : goal.invariant-loop-place
invariant-loop-place g l = l.places ≡ over (take l.place (map (signed_literal l.sign) l.literals.items)) l.initial.places
