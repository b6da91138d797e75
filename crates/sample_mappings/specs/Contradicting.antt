-- A sample that is no mapping: its two axioms contradict each other, so no row of bits stands for a value. Assumes nothing.
use Rattle.std.specs.Prelude.{List, [], ◌∷◌, pos, negsuc}
use Rattle.formula.specs.Boolean.{Clause}
use Rattle.mapping.specs.Meanings.{Meaning, guarded}
use Rattle.encodings.specs.ListedForms.{form_by}
use Rattle.encodings.specs.Readings.{meaning_by}

-- one Boolean, which is to be on and to be off
abbrev pub clash : List Clause
clash = (pos 1 ∷ []) ∷ (negsuc 0 ∷ []) ∷ []

-- where the axioms hold, every value would be that Boolean; they hold nowhere, so the first two laws say nothing of it
abbrev pub contradicting : Meaning
contradicting = guarded (meaning_by (λ m. 1) (λ m. clash) (λ m s i. form_by (pos 1 ∷ []) s))
