-- The digits of a size are the least number of them that has a pattern for each value.
use Rattle.std.proofs.Common.{◌≡◌, ℕ, zero, suc, ◌+◌, ◌-◌, ◌*◌, ◌/◌, ◌^◌, ◌<◌, ◌≤◌, max, true, leb, sym, ap, ◌∙◌, subst, ⊎_elim, arith}
use Rattle.std.specs.Int.{IsPowerOfTwo}
use native.Mathlib.Nat.{two-pow-succ, pow-le-pow_right}
use Rattle.std.proofs.lemmas.Bool.{leb-true, leb-false, cond_both, cases_lt}
use Rattle.mapping.specs.Meanings.{is_size}
use Rattle.encodings.specs.Digits.{reaching, digits, spare}
use Rattle.encodings.specs.Limits.{size_low, size_high}

pub power_more : (k : ℕ) → 2 ^ suc k ≡ 2 * 2 ^ k
power_more k = let e = two-pow-succ k in omega arith

pub power_doubled : (k p : ℕ) → p ≡ 2 ^ k → p * 2 ≡ 2 ^ (k + 1)
power_doubled k p e =
    let next : suc k ≡ k + 1 = omega arith in
    let more = power_more k in
    let twice : p * 2 ≡ 2 ^ suc k = omega arith in twice ∙ ap (λ j. 2 ^ j) next

pub power_grows : (j k : ℕ) → j ≤ k → 2 ^ j ≤ 2 ^ k
power_grows j k h = pow-le-pow_right (omega arith) h

below_power : (m : ℕ) → m < 2 ^ m
below_power zero = omega arith
below_power (suc m) = let h = below_power m in let e = power_more m in omega arith

-- the search ends at a power that is enough, if the last one is
reaching_enough : (m k n : ℕ) → m ≤ 2 ^ (k + n) → m ≤ 2 ^ reaching m k n
reaching_enough m k zero h = let e : k + 0 ≡ k = omega arith in subst (λ j. m ≤ 2 ^ j) e h
reaching_enough m k (suc n) h =
    let e : k + suc n ≡ suc k + n = omega arith in
    cond_both (leb m (2 ^ k)) k (reaching m (suc k) n) (λ j. m ≤ 2 ^ j) (λ t. leb-true m (2 ^ k) t)
    (λ _. reaching_enough m (suc k) n (subst (λ j. m ≤ 2 ^ j) e h))

-- and passes only powers that are not
reaching_least : (m k n j : ℕ) → k ≤ j → j < reaching m k n → 2 ^ j < m
reaching_least m k zero j low = λ high. absurd (omega arith)
reaching_least m k (suc n) j low =
    cond_both (leb m (2 ^ k)) k (reaching m (suc k) n) (λ r. j < r → 2 ^ j < m) (λ _ high. absurd (omega arith))
    (λ t high. ⊎_elim (λ lt. reaching_least m (suc k) n j lt high)
    (λ le. let e : k ≡ j = omega arith in subst (λ i. 2 ^ i < m) e (leb-false m (2 ^ k) t)) (cases_lt k j))

-- there is a pattern for each value
pub digits_enough : (m : ℕ) → m ≤ 2 ^ digits m
digits_enough m =
    let e : 0 + m ≡ m = omega arith in
    let h = below_power m in
    reaching_enough m 0 m (subst (λ j. m ≤ 2 ^ j) (sym e) (omega arith))

-- and fewer digits do not have them
pub digits_least : (m k : ℕ) → k < digits m → 2 ^ k < m
digits_least m k h = reaching_least m 0 m k (omega arith) h

-- values and spare patterns are all patterns
pub spare_sum : (m : ℕ) → m + spare m ≡ 2 ^ digits m
spare_sum m = let h = digits_enough m in omega arith

-- a number of digits is known by its patterns
pub digits_above : (m k : ℕ) → 2 ^ k < m → k < digits m
digits_above m k h =
    ⊎_elim (λ lt. lt) (λ le. let e = digits_enough m in let g = power_grows (digits m) k le in absurd (omega arith)) (cases_lt k (digits m))

pub digits_reached : (m k : ℕ) → m ≤ 2 ^ k → digits m ≤ k
digits_reached m k h = ⊎_elim (λ lt. let e = digits_least m k lt in absurd (omega arith)) (λ le. le) (cases_lt k (digits m))

-- a power of two is known by its digits
power_of : (j k : ℕ) → 2 ^ k ≤ 2 ^ j → 2 ^ j < 2 * 2 ^ k → k ≡ j
power_of j k low high =
    ⊎_elim (λ lt. let g = power_grows (suc j) k lt in let e = power_more j in let one = power_grows 0 j (omega arith) in absurd (omega arith))
    (λ le. ⊎_elim (λ lt. let g = power_grows (suc k) j lt in let e = power_more k in absurd (omega arith)) (λ ge. omega arith) (cases_lt k j))
    (cases_lt j k)

-- the first power of two that has a pattern for each value has the digits of the size
power_digits : (m k : ℕ) → m ≤ 2 ^ k → 2 ^ k / 2 < max 1 m → k ≡ digits m
power_digits m zero enough first = let h = digits_reached m 0 enough in omega arith
power_digits m (suc k) enough first =
    let one = power_grows 0 k (omega arith) in
    let e = power_more k in
    let below : 2 ^ k < m = omega arith in
    let h = digits_reached m (suc k) enough in
    let l = digits_above m k below in omega arith

pub next_power : (m p k : ℕ) → IsPowerOfTwo p → m ≤ p → p / 2 < max 1 m → 2 ^ k ≤ p → p < 2 * 2 ^ k → (k ≡ digits m) × (p ≡ 2 ^ digits m)
next_power m p k power enough first low high =
    let e = power.1 in
    let same = power_digits m power.0 (omega arith) (subst (λ q. q / 2 < max 1 m) e first) in
    (power_of power.0 k (omega arith) (omega arith) ∙ same, e ∙ ap (λ j. 2 ^ j) same)

-- sizes 2 to 64
module _ (m : ℕ) (s : is_size m ≡ true) where
  pub digits_some : 1 ≤ digits m
  digits_some = digits_above m 0 (size_low m s)

  pub digits_few : digits m ≤ 6
  digits_few = digits_reached m 6 (size_high m s)

  -- the patterns of all digits but one are fewer than the values
  pub patterns_less : 2 ^ (digits m - 1) < m
  patterns_less = let h = digits_some in digits_least m (digits m - 1) (omega arith)

  pub patterns_twice : 2 ^ digits m ≡ 2 * 2 ^ (digits m - 1)
  patterns_twice =
      let h = digits_some in
      let e : digits m ≡ suc (digits m - 1) = omega arith in
      ap (λ k. 2 ^ k) e ∙ power_more (digits m - 1)

  -- each spare pattern is the second one of a value
  pub spare_most : spare m ≤ 2 ^ (digits m - 1)
  spare_most = let h = patterns_twice in let l = patterns_less in omega arith

  pub spare_less : spare m < m
  spare_less = let h = spare_most in let l = patterns_less in omega arith

  -- where a value leaves its lowest digit out, there is another
  pub digits_more : 1 ≤ spare m → 2 ≤ digits m
  digits_more some =
      ⊎_elim (λ lt. lt) (λ le. let g = power_grows (digits m) 1 le in let h = spare_sum m in let two = size_low m s in absurd (omega arith))
      (cases_lt 1 (digits m))

  -- a digit weighs at most 32
  pub weight_few : (k i : ℕ) → k ≡ digits m → i < k → 2 ^ i ≤ 32
  weight_few k i e h = let few = digits_few in power_grows i 5 (omega arith)

-- numbers of 32 bits have at most 32 digits, and fewer than 2^32 patterns to spare
pub digits_most : (m : ℕ) → m < 2 ^ 32 → digits m ≤ 32
digits_most m h = digits_reached m 32 (omega arith)

pub spare_below : (m k p : ℕ) → p ≡ 2 ^ k → k ≤ digits m → m < 2 ^ 32 → p - m < 2 ^ 32
spare_below zero k p e h small =
    let none = digits_reached 0 0 (omega arith) in
    let grows = power_grows k 0 (omega arith) in omega arith
spare_below (suc m) k p e h small =
    let most = digits_most (suc m) small in
    let grows = power_grows k 32 (omega arith) in omega arith
