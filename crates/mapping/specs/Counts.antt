-- How many axioms a size has, and how many codes a value. Assumes nothing.
use Rattle.std.specs.Prelude.{ℕ, Bool, false, length, Some, None, Option, ◌==◌}
use Rattle.formula.specs.Boolean.{assignments}
use Rattle.formula.specs.Tests.{count}
use Rattle.mapping.specs.Meanings.{Meaning}

-- the axiom count of a size is the number of its axioms
abbrev pub axiom_count : Meaning → ℕ → ℕ
axiom_count M m = length (M.axioms m)

-- whether a reading is this value
abbrev pub reads_as : ℕ → Option ℕ → Bool
reads_as i (Some j) = i == j
reads_as i None = false

-- a row of bits that reads as a value is a code of it; the code count of a value is the number of its codes
abbrev pub code_count : Meaning → ℕ → ℕ → ℕ
code_count M m i = count (λ bits. reads_as i (M.reading m bits)) (assignments (M.width m))
