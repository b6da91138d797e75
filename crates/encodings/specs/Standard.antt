-- The mapping S: a Boolean for each value, one of which is on. Assumes nothing.
use Rattle.std.specs.Prelude.{ℕ, suc, ◌-◌, List, [], ◌∷◌, map}
use Rattle.std.specs.List.{flat_map}
use Rattle.formula.specs.Boolean.{Clause, opposite}
use Rattle.formula.specs.Sheets.{numbers}
use Rattle.mapping.specs.Meanings.{Meaning, guarded}
use Rattle.encodings.specs.Readings.{meaning_by}
use Rattle.encodings.specs.Values.{value_literal, value_form}

-- one of the values
abbrev pub some_value : ℕ → Clause
some_value m = map value_literal (numbers 1 m)

-- not both of two values
abbrev pub not_both : ℕ → ℕ → Clause
not_both j n = opposite (value_literal j) ∷ opposite (value_literal n) ∷ []

-- no two values: each value with each that follows it
abbrev pub exclusions : ℕ → List Clause
exclusions m = flat_map (λ j. map (not_both j) (numbers (suc j) (m - j))) (numbers 1 m)

-- S within its range
abbrev pub standard_within : Meaning
standard_within = meaning_by (λ m. m) (λ m. some_value m ∷ exclusions m) value_form

-- S, with nothing said out of range
abbrev pub standard : Meaning
standard = guarded standard_within
