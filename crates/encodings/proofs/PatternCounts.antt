-- How many literals FL's patterns have, and how many codes its values.
use Rattle.std.proofs.Common.{◌≡◌, ℕ, zero, suc, ◌+◌, ◌-◌, ◌*◌, ◌/◌, ◌%◌, ◌^◌, ◌<◌, ◌≤◌, true, cond, ◌&&◌, eqb, leb, ◌∷◌, length, sym, ap, ◌∙◌, ap₂, suc-mul, arith}
use Rattle.std.proofs.lemmas.Bool.{cond_both, leb-true, leb-false}
use Rattle.std.proofs.lemmas.Bool.Decides.{nat_tests}
use Rattle.formula.proofs.Assignments.{count_on_rows, count_by_first}
use Rattle.formula.proofs.Sums.{count_fixed}
use Rattle.formula.specs.Boolean.{assignments}
use Rattle.formula.specs.Sheets.{numbers}
use Rattle.formula.specs.Tests.{sum_of, count}
use Rattle.mapping.specs.Counts.{reads_as, code_count}
use Rattle.mapping.specs.Meanings.{is_size, is_value}
use Rattle.encodings.specs.Digits.{digits, spare}
use Rattle.encodings.specs.FullLogarithmic.{pattern, full_logarithmic_within, full_logarithmic}
use Rattle.encodings.proofs.DigitCounts.{power_more, digits_some, spare_most, spare_less, spare_sum}
use Rattle.encodings.specs.Guard.{width_within}
use Rattle.encodings.specs.Limits.{value_low, value_high}
use Rattle.encodings.proofs.Patterns.{lengths_by, shown, shown_first, shown_later, reading_weighed}
use Rattle.encodings.proofs.Spelling.{weighed, weighed_half}

-- each number is spelled by one row
weighed_once : (w n : ℕ) → n < 2 ^ w → count (λ bits. eqb n (weighed bits)) (assignments w) ≡ 1
weighed_once zero n h = grind (arith, nat_tests)
weighed_once (suc w) n h =
    let e = power_more w in
    let half = weighed_once w (n / 2) (omega arith) in
    let with-lowest : (d : ℕ) → ((x : ℕ) → eqb n (d + 2 * x) ≡ (eqb (n % 2) d && eqb (n / 2) x)) →
    count (λ bits. eqb n (d + 2 * weighed bits)) (assignments w) ≡ cond (eqb (n % 2) d) 1 0 =
    λ d agree. count_on_rows w (λ bits. eqb n (d + 2 * weighed bits)) (λ bits. eqb (n % 2) d && eqb (n / 2) (weighed bits)) (λ bits _. agree (weighed bits)) ∙
    (count_fixed (eqb (n % 2) d) (λ bits. eqb (n / 2) (weighed bits)) (assignments w) ∙ ap (λ c. cond (eqb (n % 2) d) c 0) half) in
    count_by_first w (λ bits. eqb n (weighed bits)) ∙
    (ap₂ ◌+◌ (with-lowest 0 (λ x. grind (arith, nat_tests))) (with-lowest 1 (λ x. grind (arith, nat_tests))) ∙ grind (arith, nat_tests))

-- and each half by two
half_twice : (w h : ℕ) → h < 2 ^ w → count (λ bits. eqb h (weighed bits / 2)) (assignments (suc w)) ≡ 2
half_twice w h below =
    let once = weighed_once w h below in
    let by_first : (b : ℕ) → count (λ bits. eqb h (weighed (b ∷ bits) / 2)) (assignments w) ≡ 1 =
    λ b. count_on_rows w (λ bits. eqb h (weighed (b ∷ bits) / 2)) (λ bits. eqb h (weighed bits)) (λ bits _. ap (eqb h) (weighed_half b bits)) ∙ once in
    count_by_first w (λ bits. eqb h (weighed bits / 2)) ∙ ap₂ ◌+◌ (by_first 0) (by_first 1)

module _ (m i : ℕ) (s : is_size m ≡ true) (v : is_value m i ≡ true) where
  -- the codes of a value are the rows whose number shows it
  codes_shown : code_count full_logarithmic m i ≡ count (λ bits. eqb i (shown (spare m) (weighed bits))) (assignments (digits m))
  codes_shown =
      ap (λ w. count (λ bits. reads_as i (full_logarithmic.reading m bits)) (assignments w)) (width_within full_logarithmic_within m s) ∙
      count_on_rows (digits m) (λ bits. reads_as i (full_logarithmic.reading m bits)) (λ bits. eqb i (shown (spare m) (weighed bits)))
      (λ bits r. ap (reads_as i) (reading_weighed m bits s r))

  codes_first : i ≤ spare m → count (λ bits. eqb i (shown (spare m) (weighed bits))) (assignments (digits m)) ≡ 2
  codes_first first =
      let low = value_low m i v in
      let some = digits_some m s in
      let most = spare_most m s in
      let e : digits m ≡ suc (digits m - 1) = omega arith in
      count_on_rows (digits m) (λ bits. eqb i (shown (spare m) (weighed bits))) (λ bits. eqb (i - 1) (weighed bits / 2))
      (λ bits _. sym (shown_first (spare m) (weighed bits) i low first)) ∙
      (ap (λ w. count (λ bits. eqb (i - 1) (weighed bits / 2)) (assignments w)) e ∙ half_twice (digits m - 1) (i - 1) (omega arith))

  codes_later : spare m < i → count (λ bits. eqb i (shown (spare m) (weighed bits))) (assignments (digits m)) ≡ 1
  codes_later later =
      let high = value_high m i v in
      let sum = spare_sum m in
      count_on_rows (digits m) (λ bits. eqb i (shown (spare m) (weighed bits))) (λ bits. eqb (i - 1 + spare m) (weighed bits))
      (λ bits _. sym (shown_later (spare m) (weighed bits) i later)) ∙ weighed_once (digits m) (i - 1 + spare m) (omega arith)

-- the first values, as many as there are spare patterns, have two codes, the others one
pub full_logarithmic_codes : (m i : ℕ) → is_size m ≡ true → is_value m i ≡ true → code_count full_logarithmic m i ≡ cond (leb i (spare m)) 2 1
full_logarithmic_codes m i s v = codes_shown m i s v ∙
    cond_both (leb i (spare m)) 2 1 (λ n. count (λ bits. eqb i (shown (spare m) (weighed bits))) (assignments (digits m)) ≡ n)
    (λ e. codes_first m i s v (leb-true i (spare m) e)) (λ e. codes_later m i s v (leb-false i (spare m) e))

-- a sum over a run of numbers, c each, but 1 less up to d
sum_less : (f : ℕ → ℕ) (d c s n : ℕ) → d < s + n → ((i : ℕ) → f i + cond (leb i d) 1 0 ≡ c) → sum_of f (numbers s n) + (suc d - s) ≡ n * c
sum_less f d c s zero h each = omega arith
sum_less f d c s (suc n) h each =
    let here = each s in
    let more = sum_less f d c (suc s) n (omega arith) each in
    let product = suc-mul n c in
    let gap : cond (leb s d) 1 0 + (suc d - suc s) ≡ suc d - s = grind (arith, nat_tests) in omega arith

pub pattern_lengths : (m : ℕ) → is_size m ≡ true → sum_of (λ i. length (pattern m i) + 1) (numbers 1 m) ≡ m * (digits m + 1) - spare m
pattern_lengths m s =
    let less = spare_less m s in
    let some = digits_some m s in
    let all = sum_less (λ i. length (pattern m i) + 1) (spare m) (digits m + 1) 1 m (omega arith)
    (λ i. lengths_by m i (λ n. n + 1 + cond (leb i (spare m)) 1 0 ≡ digits m + 1) (λ h. grind (arith, nat_tests)) (λ h. grind (arith, nat_tests))) in omega arith
