-- Rows in which no 1 follows a 0: the number of ones tells every bit.
use Rattle.std.specs.Prelude.{◌≡◌, ℕ, zero, suc, ◌≤◌, Bool, true, false, cond, List, [], ◌∷◌, length, ◌==◌, nat_eq, nat_lt, slice_index, refl}
use Rattle.std.proofs.Common.{ap, ◌∙◌, arith}
use Rattle.std.proofs.lemmas.Bool.{eqb-true}
use Rattle.std.proofs.lemmas.Bool.Decides.{nat_tests}
use Rattle.formula.specs.Boolean.{row}

-- the number of ones
abbrev pub ones : List ℕ → ℕ
ones [] = 0
ones (b ∷ bits) = cond (1 == b) (suc (ones bits)) (ones bits)

-- no 1 follows a 0
abbrev pub falls : List ℕ → Bool
falls [] = true
falls (b ∷ bits) = cond (1 == b) (falls bits) (ones bits == 0)

pub ones_most : (bits : List ℕ) → ones bits ≤ length bits
ones_most [] = omega arith
ones_most (b ∷ bits) = at_bit (1 == b) (ones_most bits)
  where
    at_bit : (t : Bool) → ones bits ≤ length bits → cond t (suc (ones bits)) (ones bits) ≤ suc (length bits)
    at_bit true h = omega arith
    at_bit false h = omega arith

-- a row without ones falls
none_falls : (bits : List ℕ) → ones bits ≡ 0 → falls bits ≡ true
none_falls [] h = refl
none_falls (b ∷ bits) h = at_bit (1 == b) h
  where
    at_bit : (t : Bool) → cond t (suc (ones bits)) (ones bits) ≡ 0 → cond t (falls bits) (ones bits == 0) ≡ true
    at_bit true e = absurd (omega arith)
    at_bit false e = grind (arith, nat_tests)

-- in a row that falls, the bits that are on are the first ones
pub on_below : (bits : List ℕ) (k : ℕ) → falls bits ≡ true → (1 == slice_index bits k) ≡ nat_lt k (ones bits)
on_below [] k f = grind (arith, nat_tests)
on_below (b ∷ bits) zero f = at_bit (1 == b) f
  where
    at_bit : (t : Bool) → cond t (falls bits) (ones bits == 0) ≡ true → t ≡ nat_lt 0 (cond t (suc (ones bits)) (ones bits))
    at_bit true e = grind (arith, nat_tests)
    at_bit false e = grind (arith, nat_tests)
on_below (b ∷ bits) (suc k) f = at_bit (1 == b) f (on_below bits k)
  where
    at_bit : (t : Bool) → cond t (falls bits) (ones bits == 0) ≡ true → (falls bits ≡ true → (1 == slice_index bits k) ≡ nat_lt k (ones bits)) →
        (1 == slice_index bits k) ≡ nat_lt (suc k) (cond t (suc (ones bits)) (ones bits))
    at_bit true e later = later e ∙ grind (arith, nat_tests)
    at_bit false e later = let z : ones bits ≡ 0 = eqb-true (ones bits) 0 e in later (none_falls bits z) ∙ grind (arith, nat_tests)

-- the row of w bits whose first bits, of a given number, are on
abbrev pub stair : ℕ → ℕ → List ℕ
stair zero a = []
stair (suc w) zero = 0 ∷ stair w zero
stair (suc w) (suc a) = 1 ∷ stair w a

pub stair_row : (w a : ℕ) → row w (stair w a) ≡ true
stair_row zero a = refl
stair_row (suc w) zero = stair_row w zero
stair_row (suc w) (suc a) = stair_row w a

pub stair_ones : (w a : ℕ) → a ≤ w → ones (stair w a) ≡ a
stair_ones zero a h = omega arith
stair_ones (suc w) zero h = stair_ones w zero (omega arith)
stair_ones (suc w) (suc a) h = ap suc (stair_ones w a (omega arith))

pub stair_falls : (w a : ℕ) → a ≤ w → falls (stair w a) ≡ true
stair_falls zero a h = refl
stair_falls (suc w) zero h = ap (λ n. nat_eq n 0) (stair_ones w zero (omega arith))
stair_falls (suc w) (suc a) h = stair_falls w a (omega arith)
