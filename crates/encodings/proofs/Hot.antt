-- Rows with one bit on: its place tells every bit.
use Rattle.std.proofs.Common.{◌≡◌, ℕ, zero, suc, ◌<◌, ◌≤◌, Bool, true, false, cond, eqb, List, [], ◌∷◌, length, get_or, refl, ap, ◌∙◌, arith}
use Rattle.std.proofs.lemmas.Bool.Decides.{nat_tests}
use Rattle.formula.specs.Boolean.{row}
use Rattle.encodings.specs.Descents.{ones, stair, stair_row, stair_ones}

-- the place of the first bit that is on, counted from 0
abbrev pub first_on : List ℕ → ℕ
first_on [] = 0
first_on (b ∷ bits) = cond (eqb 1 b) 0 (suc (first_on bits))

-- where no bit is on, each is off
pub off_where_none : (bits : List ℕ) (k : ℕ) → ones bits ≡ 0 → eqb 1 (get_or bits k 0) ≡ false
off_where_none [] k h = refl
off_where_none (b ∷ bits) zero h = at_bit (eqb 1 b) h
  where
    at_bit : (t : Bool) → cond t (suc (ones bits)) (ones bits) ≡ 0 → t ≡ false
    at_bit true e = absurd (omega arith)
    at_bit false e = refl
off_where_none (b ∷ bits) (suc k) h = at_bit (eqb 1 b) h (off_where_none bits k)
  where
    at_bit : (t : Bool) → cond t (suc (ones bits)) (ones bits) ≡ 0 → (ones bits ≡ 0 → eqb 1 (get_or bits k 0) ≡ false) → eqb 1 (get_or bits k 0) ≡ false
    at_bit true e later = absurd (omega arith)
    at_bit false e later = later e

-- a bit that is on stands within the row
pub first_on_within : (bits : List ℕ) → 1 ≤ ones bits → first_on bits < length bits
first_on_within [] h = h
first_on_within (b ∷ bits) h = at_bit (eqb 1 b) h (first_on_within bits)
  where
    at_bit : (t : Bool) → 1 ≤ cond t (suc (ones bits)) (ones bits) → (1 ≤ ones bits → first_on bits < length bits) →
        cond t 0 (suc (first_on bits)) < suc (length bits)
    at_bit true e later = omega arith
    at_bit false e later = let m = later e in omega arith

-- in a row with one bit on, a bit is on exactly at that place
pub on_at_one : (bits : List ℕ) (k : ℕ) → ones bits ≡ 1 → eqb 1 (get_or bits k 0) ≡ eqb k (first_on bits)
on_at_one [] k h = absurd (omega arith)
on_at_one (b ∷ bits) zero h = at_bit (eqb 1 b)
  where
    at_bit : (t : Bool) → t ≡ eqb 0 (cond t 0 (suc (first_on bits)))
    at_bit true = refl
    at_bit false = grind (arith, nat_tests)
on_at_one (b ∷ bits) (suc k) h = at_bit (eqb 1 b) h (on_at_one bits k)
  where
    at_bit : (t : Bool) → cond t (suc (ones bits)) (ones bits) ≡ 1 → (ones bits ≡ 1 → eqb 1 (get_or bits k 0) ≡ eqb k (first_on bits)) →
        eqb 1 (get_or bits k 0) ≡ eqb (suc k) (cond t 0 (suc (first_on bits)))
    at_bit true e later = off_where_none bits k (omega arith) ∙ grind (arith, nat_tests)
    at_bit false e later = later e ∙ grind (arith, nat_tests)

-- the row of w bits in which the bit at a place is on, and no other
abbrev pub hot : ℕ → ℕ → List ℕ
hot zero k = []
hot (suc w) zero = 1 ∷ stair w zero
hot (suc w) (suc k) = 0 ∷ hot w k

pub hot_row : (w k : ℕ) → row w (hot w k) ≡ true
hot_row zero k = refl
hot_row (suc w) zero = stair_row w zero
hot_row (suc w) (suc k) = hot_row w k

pub hot_ones : (w k : ℕ) → k < w → ones (hot w k) ≡ 1
hot_ones zero k h = absurd (omega arith)
hot_ones (suc w) zero h = ap suc (stair_ones w zero (omega arith))
hot_ones (suc w) (suc k) h = hot_ones w k (omega arith)

pub hot_on : (w k : ℕ) → k < w → get_or (hot w k) k 0 ≡ 1
hot_on zero k h = absurd (omega arith)
hot_on (suc w) zero h = refl
hot_on (suc w) (suc k) h = hot_on w k (omega arith)
