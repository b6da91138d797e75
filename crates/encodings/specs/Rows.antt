-- Rows of bits and their lengths.
use Rattle.std.specs.Prelude.{◌≡◌, ℕ, zero, suc, true, false, List, [], ◌∷◌, length, ◌≢◌, nat_le, refl}
use Rattle.std.proofs.Common.{ap, ⊎_elim}
use Rattle.std.proofs.lemmas.Bool.{and_parts, cases_Bool}
use Rattle.formula.specs.Boolean.{row}

pub row_length : (w : ℕ) (bits : List ℕ) → row w bits ≡ true → length bits ≡ w
row_length zero [] r = refl
row_length zero (b ∷ bits) r = cc
row_length (suc w) [] r = cc
row_length (suc w) (b ∷ bits) r = ap suc (row_length w bits (and_parts (nat_le b 1) (row w bits) r).1)

-- bits of another number are no row
pub row_refused : (w : ℕ) (bits : List ℕ) → (length bits ≢ w) → row w bits ≡ false
row_refused w bits ne = ⊎_elim (λ r. absurd (ne (row_length w bits r))) (λ r. r) (cases_Bool (row w bits))
