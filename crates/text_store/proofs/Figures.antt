-- Numbers and literals in decimal: how many digits they have, and the digits behind the sign. Assumes nothing.
use Rattle.std.proofs.Common.{◌≡◌, ℕ, zero, suc, ◌+◌, ◌*◌, ◌/◌, ◌%◌, ◌^◌, ◌<◌, ◌≤◌, true, false, cond, [], ◌∷◌, ◌++◌, List, length, ℤ, pos, negsuc, nat_abs, decimal, sym, refl, ap, arith, length-append}
use lib.Signed.{lt_z}
use Rattle.std.specs.Fmt.{signed_decimal}
use Rattle.std.proofs.lemmas.Fmt.{decimal_digit, decimal_by_steps, length-decimal-le}
use Rattle.std.proofs.lemmas.Bool.{cond-true, cond-false, le-ltb}

power_some : (k : ℕ) → 0 < 10 ^ k
power_some zero = omega arith
power_some (suc k) = omega (arith, power_some k)

-- a number from a power of ten on has a digit more than the power
digits_long : (k n : ℕ) → 10 ^ k ≤ n → n < 2 ^ 64 → k < length (decimal n)
digits_long k n some small = decimal_by_steps (λ m ds. (j : ℕ) → 10 ^ j ≤ m → j < length ds) one more n small k some
  where
    one : (m : ℕ) → m < 10 → (j : ℕ) → 10 ^ j ≤ m → j < 1
    one m l zero a = omega arith
    one m l (suc j) a = absurd (omega (arith, power_some j))

    more : (m : ℕ) (ds : List ℕ) → 10 ≤ m → ((j : ℕ) → 10 ^ j ≤ m / 10 → j < length ds) → (j : ℕ) → 10 ^ j ≤ m → j < length (ds ++ ((48 + m % 10) ∷ []))
    more m ds l h zero a = omega (arith, length-append ds ((48 + m % 10) ∷ []))
    more m ds l h (suc j) a = omega (arith, length-append ds ((48 + m % 10) ∷ []), h j (omega arith))

pub digits_are : (k n : ℕ) → 10 ^ k ≤ n → n < 10 * 10 ^ k → n < 2 ^ 64 → k + 1 ≡ length (decimal n)
digits_are k n low high small = omega (arith, digits_long k n low small, length-decimal-le (suc k) n (omega arith) (omega arith) small)

pub digit_is : (n : ℕ) → n < 10 → 1 ≡ length (decimal n)
digit_is n h = ap length (sym (decimal_digit n h))

-- a minus sign if the literal is negative
abbrev pub sign_of : ℤ → List ℕ
sign_of z = cond (lt_z z (pos 0)) (45 ∷ []) []

pub sign_minus : (z : ℤ) → lt_z z (pos 0) ≡ true → sign_of z ≡ 45 ∷ []
sign_minus z h = cond-true (lt_z z (pos 0)) (45 ∷ []) [] h

pub sign_none : (z : ℤ) → lt_z z (pos 0) ≡ false → sign_of z ≡ []
sign_none z h = cond-false (lt_z z (pos 0)) (45 ∷ []) [] h

pub signed_is : (z : ℤ) → signed_decimal z ≡ sign_of z ++ decimal (nat_abs z)
signed_is (pos n) = ap (λ s. s ++ decimal n) (sym (sign_none (pos n) (le-ltb n 0 (omega arith))))
signed_is (negsuc n) = refl
