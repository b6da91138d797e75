-- The reading that all mappings share. Assumes nothing.
use Rattle.std.specs.Prelude.{ℕ, zero, suc, Bool, cond, List, Some, None, Option}
use Rattle.formula.specs.Boolean.{Clause, satisfies}
use Rattle.formula.specs.declared.signed.Sign.{Sign}
use Rattle.formula.specs.declared.signed.Sign.TheVariants.{Plus}
use Rattle.mapping.specs.Forms.{Form, true_form}
use Rattle.mapping.specs.Meanings.{Meaning}

-- the first of the n values from s on that passes the test
abbrev pub first_value : (ℕ → Bool) → ℕ → ℕ → Option ℕ
first_value test s zero = None
first_value test s (suc n) = cond (test s) (Some s) (first_value test (suc s) n)

-- where the axioms hold, the first value whose plus form is true, else none
abbrev pub read_by : (ℕ → List Clause) → (ℕ → Sign → ℕ → Form) → ℕ → List ℕ → Option ℕ
read_by axioms form m bits = cond (satisfies bits (axioms m)) (first_value (λ i. true_form bits (form m Plus i)) 1 m) None

-- the meaning that widths, axioms and forms give, with that reading
abbrev pub meaning_by : (ℕ → ℕ) → (ℕ → List Clause) → (ℕ → Sign → ℕ → Form) → Meaning
meaning_by width axioms form = record { width = width; axioms = axioms; form = form; reading = read_by axioms form }
