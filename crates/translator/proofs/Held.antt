-- What code holds of a form is the form. Assumes nothing.
use Rattle.std.proofs.Common.{◌≡◌, ◌≤◌, length, arith}
use Rattle.std.proofs.lemmas.List.{length-map}
use Rattle.mapping.specs.Forms.{shifted, shifted_form, split, taken}
use Rattle.mapping.specs.declared.Kind.{Kind}
use Rattle.mapping.specs.declared.Kind.TheVariants.{AllOf, AnyOf}
use Rattle.translator.specs.declared.placed.PlacedForm.{PlacedForm}
use Rattle.translator.specs.Placed.{of_kind, form_in, own_literals}

-- a form has as many literals over the Booleans of the whole sheet
pub held_count : (p : PlacedForm) → length (own_literals p) ≡ length p.literals.items
held_count p = length-map p.literals.items (shifted p.start)

-- so a form has at most 8 choices, and a choice takes at most 8 literals
pub held_few : (p : PlacedForm) → (split (form_in p) ≤ 8) × (taken (form_in p) ≤ 8)
held_few p = by_kind p.kind
  where
    by_kind : (k : Kind) → (split (shifted_form p.start (of_kind k p.literals.items)) ≤ 8) × (taken (shifted_form p.start (of_kind k p.literals.items)) ≤ 8)
    by_kind AllOf = (omega (arith, held_count p, p.few), omega arith)
    by_kind AnyOf = (omega arith, omega (arith, held_count p, p.few))
