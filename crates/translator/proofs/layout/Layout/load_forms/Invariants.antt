use Rattle.std.proofs.Common.{◌≡◌, map, take}
use Rattle.translator.specs.Placed.{form_in}
use Rattle.translator.specs.Places.{form_at}
use Rattle.translator.proofs.layout.Layout.load_forms.Given as goal

abbrev pub invariant-loop-literal : goal.invariant-loop-literal
invariant-loop-literal g l = map form_in l.forms.items ≡ map (form_at g.M.Mapping.meaning l.self.places.now) (take l.literal-index l.literals)
