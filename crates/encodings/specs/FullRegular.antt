-- The mapping FR: a Boolean for each value but the first says "this value or more". Assumes nothing.
use Rattle.std.specs.Prelude.{ℕ, ◌+◌, ◌-◌, cond, List, [], ◌∷◌, map, ℤ, pos, ◌==◌}
use Rattle.formula.specs.Boolean.{Clause, opposite}
use Rattle.formula.specs.Sheets.{numbers}
use Rattle.mapping.specs.Meanings.{Meaning, guarded}
use Rattle.encodings.specs.ListedForms.{form_by}
use Rattle.encodings.specs.Readings.{meaning_by}

-- "value j or more", for j from 2 to m, is Boolean j - 1
abbrev pub at_least : ℕ → ℤ
at_least j = pos (j - 1)

-- "less than value j"
abbrev pub less_than : ℕ → ℤ
less_than j = opposite (at_least j)

-- value j + 1 or more is value j or more
abbrev pub link : ℕ → Clause
link j = less_than (j + 1) ∷ at_least j ∷ []

-- the links of j from 2 to m - 1
abbrev pub links : ℕ → List Clause
links m = map link (numbers 2 (m - 2))

-- the literals of value i: this value or more, and less than the next; the first value needs only the second, the last only the first
abbrev pub bounds : ℕ → ℕ → List ℤ
bounds m i = cond (i == 1) (less_than 2 ∷ []) (cond (i == m) (at_least m ∷ []) (at_least i ∷ less_than (i + 1) ∷ []))

-- FR within its range
abbrev pub full_regular_within : Meaning
full_regular_within = meaning_by (λ m. m - 1) links (λ m s i. form_by (bounds m i) s)

-- FR, with nothing said out of range
abbrev pub full_regular : Meaning
full_regular = guarded full_regular_within
