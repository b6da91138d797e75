-- FL keeps the laws: the number that a row spells shows exactly one value.
use Rattle.std.proofs.Common.{◌≡◌, ℕ, ◌+◌, ◌-◌, ◌*◌, ◌/◌, ◌^◌, ◌<◌, ◌≤◌, true, cond, eqb, ltb, leb, List, [], length, ℤ, Some, sym, refl, ap, ◌∙◌, subst, ap₂, arith}
use Rattle.std.proofs.lemmas.Bool.{cond-true, cond-false, cond_both, eq-eqb, le-leb, lt-leb, leb-true, leb-false, ltb-true, ltb-false}
use Rattle.std.proofs.lemmas.Bool.Decides.{nat_tests}
use Rattle.formula.specs.Boolean.{row, local, true_literal}
use Rattle.formula.specs.Tests.{every}
use Rattle.mapping.specs.Meanings.{is_size, is_value, Lawful}
use Rattle.encodings.specs.Digits.{digits, spare, spelled}
use Rattle.encodings.specs.FullLogarithmic.{pattern, full_logarithmic_within, full_logarithmic}
use Rattle.encodings.proofs.DigitCounts.{digits_some, digits_few, digits_more, patterns_twice, spare_most, spare_less, spare_sum}
use Rattle.encodings.specs.Guard.{reading_within}
use Rattle.encodings.specs.Limits.{value_low, value_high, value_from}
use Rattle.encodings.specs.Readers.{LawfulLists, lists_keep, lists_narrow, read_shown}
use Rattle.encodings.proofs.Spelling.{weighed, weighed_below, digit_row, digit_row_row, digit_row_weighed, spelled_true, half_true, spelled_local, spelled_length}

-- the value of the pattern of a number, with so many spare ones
abbrev pub shown : ℕ → ℕ → ℕ
shown d n = cond (ltb (n / 2) d) (n / 2 + 1) (n + 1 - d)

-- the number of a pattern of value i
abbrev code_number : ℕ → ℕ → ℕ
code_number d i = cond (leb i d) (2 * (i - 1)) (i - 1 + d)

-- the half tells the first values, the whole number the others
pub shown_first : (d n i : ℕ) → 1 ≤ i → i ≤ d → eqb (i - 1) (n / 2) ≡ eqb i (shown d n)
shown_first d n i low high = grind (arith, nat_tests)

pub shown_later : (d n i : ℕ) → d < i → eqb (i - 1 + d) n ≡ eqb i (shown d n)
shown_later d n i low = grind (arith, nat_tests)

shown_code : (d i : ℕ) → 1 ≤ i → i ≡ shown d (code_number d i)
shown_code d i low = grind (arith, nat_tests)

-- a value is among the first, or behind them
module _ (m i : ℕ) where
  pattern_by : (P : List ℤ → Type 0) → (i ≤ spare m → P (spelled 1 (digits m - 1) (i - 1))) →
      (spare m < i → P (spelled 0 (digits m) (i - 1 + spare m))) → P (pattern m i)
  pattern_by P first later =
      cond_both (leb i (spare m)) (spelled 1 (digits m - 1) (i - 1)) (spelled 0 (digits m) (i - 1 + spare m)) P
      (λ e. first (leb-true i (spare m) e)) (λ e. later (leb-false i (spare m) e))

  pub pattern_first : (k d : ℕ) → k ≡ digits m → d ≡ spare m → i ≤ d → spelled 1 (k - 1) (i - 1) ≡ pattern m i
  pattern_first k d p q h = ap (λ j. spelled 1 (j - 1) (i - 1)) p ∙
      sym (cond-true (leb i (spare m)) (spelled 1 (digits m - 1) (i - 1)) (spelled 0 (digits m) (i - 1 + spare m)) (le-leb i (spare m) (omega arith)))

  pub pattern_later : (k d : ℕ) → k ≡ digits m → d ≡ spare m → d < i → spelled 0 k (i - 1 + d) ≡ pattern m i
  pattern_later k d p q h = ap₂ (λ j e. spelled 0 j (i - 1 + e)) p q ∙
      sym (cond-false (leb i (spare m)) (spelled 1 (digits m - 1) (i - 1)) (spelled 0 (digits m) (i - 1 + spare m)) (lt-leb i (spare m) (omega arith)))

  -- the first values have a literal less than the others
  pub lengths_by : (P : ℕ → Type 0) → (i ≤ spare m → P (digits m - 1)) → (spare m < i → P (digits m)) → P (length (pattern m i))
  lengths_by P first later = pattern_by (λ ls. P (length ls))
      (λ h. subst P (sym (spelled_length 1 (digits m - 1) (i - 1))) (first h))
      (λ h. subst P (sym (spelled_length 0 (digits m) (i - 1 + spare m))) (later h))

-- the laws of one size
module _ (m : ℕ) (s : is_size m ≡ true) where
  -- a value's pattern is true on the rows whose number shows that value
  pub pattern_true : (bits : List ℕ) (i : ℕ) → row (digits m) bits ≡ true → is_value m i ≡ true →
      every (true_literal bits) (pattern m i) ≡ eqb i (shown (spare m) (weighed bits))
  pattern_true bits i r v =
      let low = value_low m i v in
      let high = value_high m i v in
      let most = spare_most m s in
      let sum = spare_sum m in
      pattern_by m i (λ ls. every (true_literal bits) ls ≡ eqb i (shown (spare m) (weighed bits)))
      (λ first. half_true (digits m) (i - 1) bits (digits_some m s) (omega arith) r ∙ shown_first (spare m) (weighed bits) i low first)
      (λ later. spelled_true (digits m) (i - 1 + spare m) bits r (omega arith) ∙ shown_later (spare m) (weighed bits) i later)

  shown_value : (bits : List ℕ) → row (digits m) bits ≡ true → is_value m (shown (spare m) (weighed bits)) ≡ true
  shown_value bits r =
      let below = weighed_below (digits m) bits r in
      let less = spare_less m s in
      let sum = spare_sum m in
      let n = weighed bits in
      cond_both (ltb (n / 2) (spare m)) (n / 2 + 1) (n + 1 - spare m) (λ i. is_value m i ≡ true)
      (λ e. let h = ltb-true (n / 2) (spare m) e in value_from m (n / 2 + 1) (omega arith) (omega arith))
      (λ e. let h = ltb-false (n / 2) (spare m) e in value_from m (n + 1 - spare m) (omega arith) (omega arith))

  code_below : (i : ℕ) → is_value m i ≡ true → code_number (spare m) i < 2 ^ digits m
  code_below i v =
      let low = value_low m i v in
      let high = value_high m i v in
      let most = spare_most m s in
      let twice = patterns_twice m s in
      let sum = spare_sum m in
      cond_both (leb i (spare m)) (2 * (i - 1)) (i - 1 + spare m) (λ n. n < 2 ^ digits m)
      (λ e. let h = leb-true i (spare m) e in omega arith) (λ _. omega arith)

  code_true : (i : ℕ) → is_value m i ≡ true →
      every (true_literal (digit_row (digits m) (code_number (spare m) i))) (pattern m i) ≡ true
  code_true i v =
      let n = code_number (spare m) i in
      pattern_true (digit_row (digits m) n) i (digit_row_row (digits m) n) v ∙
      eq-eqb i (shown (spare m) (weighed (digit_row (digits m) n)))
      (shown_code (spare m) i (value_low m i v) ∙ ap (shown (spare m)) (sym (digit_row_weighed (digits m) n (code_below i v))))

  pattern_local : (i : ℕ) → every (local (digits m)) (pattern m i) ≡ true
  pattern_local i =
      let some = digits_some m s in
      let e : 1 + (digits m - 1) ≡ digits m = omega arith in
      let z : 0 + digits m ≡ digits m = omega arith in
      pattern_by m i (λ ls. every (local (digits m)) ls ≡ true)
      (λ _. subst (λ w. every (local w) (spelled 1 (digits m - 1) (i - 1)) ≡ true) e (spelled_local 1 (digits m - 1) (i - 1)))
      (λ _. subst (λ w. every (local w) (spelled 0 (digits m) (i - 1 + spare m)) ≡ true) z (spelled_local 0 (digits m) (i - 1 + spare m)))

  lists_at : LawfulLists m (digits m) [] (pattern m)
  lists_at = record {
    width_least = digits_some m s;
    width_most = let few = digits_few m s in omega arith;
    shows = λ bits r _. (shown (spare m) (weighed bits), shown_value bits r, λ j v. pattern_true bits j r v);
    code = λ i v. (digit_row (digits m) (code_number (spare m) i), digit_row_row (digits m) (code_number (spare m) i), refl, code_true i v);
    axioms_local = refl;
    list_local = λ i _. pattern_local i;
    axioms_words = omega arith;
    list_least = λ i v. let low = value_low m i v in lengths_by m i (λ n. 1 ≤ n) (λ h. let more = digits_more m s (omega arith) in omega arith) (λ _. digits_some m s);
    list_most = λ i _. let few = digits_few m s in lengths_by m i (λ n. n ≤ 8) (λ _. omega arith) (λ _. omega arith);
  }

pub full_logarithmic_lawful : Lawful full_logarithmic
full_logarithmic_lawful = lists_keep digits (λ m. []) pattern lists_at

-- the patterns speak of the Booleans 1 to 127
pub pattern_narrow : (m i : ℕ) → is_size m ≡ true → is_value m i ≡ true → every (local 127) (pattern m i) ≡ true
pattern_narrow m i s v = lists_narrow m (digits m) [] (pattern m) (lists_at m s) i v

-- a row of FL reads as what its number shows
pub reading_weighed : (m : ℕ) (bits : List ℕ) → is_size m ≡ true → row (digits m) bits ≡ true →
    full_logarithmic.reading m bits ≡ Some (shown (spare m) (weighed bits))
reading_weighed m bits s r = reading_within full_logarithmic_within m s bits r ∙
    read_shown (λ _. []) full_logarithmic_within.form m bits (shown (spare m) (weighed bits)) refl (shown_value m s bits r) (λ j v. pattern_true m s bits j r v)
