-- A Boolean for each value beside an inner mapping, tied to its forms. Assumes nothing.
use Rattle.std.specs.Prelude.{◌≡◌, ℕ, ◌+◌, ◌≤◌, true, List, [], ◌∷◌, ◌++◌, map, ℤ}
use Rattle.std.specs.List.{flat_map}
use Rattle.formula.specs.Boolean.{Clause, opposite, words_of}
use Rattle.formula.specs.Sheets.{numbers}
use Rattle.formula.specs.declared.signed.Sign.{Sign}
use Rattle.formula.specs.declared.signed.Sign.TheVariants.{Plus, Minus}
use Rattle.mapping.specs.Forms.{Form, all_of, any_of, members, shifted}
use Rattle.mapping.specs.Meanings.{Meaning, Lawful, is_size, is_value}
use Rattle.encodings.specs.Readings.{meaning_by}
use Rattle.encodings.specs.Values.{value_literal, value_form}

-- a literal is tied to others: it brings each of them, and all of them bring it
abbrev pub tie : ℤ → List ℤ → List Clause
tie x ys = map (λ y. opposite x ∷ y ∷ []) ys ++ (x ∷ map opposite ys) ∷ []

-- the inner Booleans follow those of the values
module _ (inner : Meaning) where
  -- the literals of value i in the inner mapping
  abbrev pub inner_list : ℕ → ℕ → List ℤ
  inner_list m i = map (shifted m) (members (inner.form m Plus i))

  -- each value is tied to them, from the first to the last
  abbrev pub ties : ℕ → List Clause
  ties m = flat_map (λ i. tie (value_literal i) (inner_list m i)) (numbers 1 m)

  -- the inner axioms, and then the ties
  abbrev pub tied_axioms : ℕ → List Clause
  tied_axioms m = map (map (shifted m)) (inner.axioms m) ++ ties m

  abbrev pub tied_width : ℕ → ℕ
  tied_width m = m + inner.width m

  -- the tied mapping speaks of a value by its own Boolean
  abbrev pub tied : Meaning
  tied = meaning_by tied_width tied_axioms value_form

  -- the half-tied one does so with a plus only, and with a minus by the opposites of the inner literals
  abbrev pub half_form : ℕ → Sign → ℕ → Form
  half_form m Plus i = all_of (value_literal i ∷ [])
  half_form m Minus i = any_of (map opposite (inner_list m i))

  abbrev pub half_tied : Meaning
  half_tied = meaning_by tied_width tied_axioms half_form

  -- an inner mapping to which values can be tied: it keeps the laws, its plus forms ask for all of their literals, and with the values
  -- and ties beside it the limits on widths and words are kept
  pub record Tieable : Type 0 where
    pub lawful : Lawful inner
    pub plus_all : (m i : ℕ) → is_size m ≡ true → is_value m i ≡ true → inner.form m Plus i ≡ all_of (members (inner.form m Plus i))
    pub narrow : (m : ℕ) → is_size m ≡ true → m + inner.width m ≤ 127
    pub few : (m : ℕ) → is_size m ≡ true → words_of (inner.axioms m) ≤ 6016
