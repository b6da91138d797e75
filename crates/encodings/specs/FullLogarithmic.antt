-- The mapping FL: the Booleans are binary digits that spell a value. Assumes nothing.
use Rattle.std.specs.Prelude.{ℕ, ◌+◌, ◌-◌, cond, List, [], ℤ, nat_le}
use Rattle.mapping.specs.Meanings.{Meaning, guarded}
use Rattle.encodings.specs.Digits.{digits, spare, spelled}
use Rattle.encodings.specs.ListedForms.{form_by}
use Rattle.encodings.specs.Readings.{meaning_by}

-- the literals of value i, where d patterns are spare: each of the first d values has two patterns that differ in the lowest digit
-- alone, so its other digits spell i - 1; all digits of any other value spell i - 1 + d
abbrev pub pattern : ℕ → ℕ → List ℤ
pattern m i = cond (nat_le i (spare m)) (spelled 1 (digits m - 1) (i - 1)) (spelled 0 (digits m) (i - 1 + spare m))

-- FL within its range
abbrev pub full_logarithmic_within : Meaning
full_logarithmic_within = meaning_by digits (λ m. []) (λ m s i. form_by (pattern m i) s)

-- FL, with nothing said out of range
abbrev pub full_logarithmic : Meaning
full_logarithmic = guarded full_logarithmic_within
