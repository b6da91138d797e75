-- One pass over a row of digits, which gives the number that they spell.
use Rattle.std.proofs.Common.{◌≡◌, ℕ, zero, suc, ◌+◌, ◌*◌, ◌^◌, ◌<◌, ◌≤◌, Bool, true, false, cond, eqb, List, [], ◌∷◌, length, get_or, drop, Some, None, Option, sym, refl, ap, ◌∙◌, ap₂, arith}
use Rattle.std.proofs.lemmas.List.{at_drop_more, at_drop_all}
use Rattle.std.proofs.lemmas.Bool.{ne_eqb, cond-false}
use Rattle.std.proofs.lemmas.Bool.Decides.{nat_tests}
use Rattle.formula.specs.Boolean.{row}
use Rattle.mapping.specs.Meanings.{is_size}
use Rattle.encodings.specs.Digits.{digits, spare}
use Rattle.encodings.specs.FullLogarithmic.{full_logarithmic_within, full_logarithmic}
use Rattle.encodings.specs.Guard.{reading_no_row}
use Rattle.encodings.proofs.DigitCounts.{power_doubled}
use Rattle.encodings.proofs.Patterns.{shown, reading_weighed}
use Rattle.encodings.proofs.Spelling.{weighed}

-- digits read one by one: n is the number so far, and w the weight of the next
abbrev pub weighing : ℕ → ℕ → List ℕ → Option ℕ
weighing n w [] = Some n
weighing n w (b ∷ bits) = cond (eqb b 0) (weighing n (w * 2) bits) (cond (eqb b 1) (weighing (n + w) (w * 2) bits) None)

-- it ends in the number, or at a bit that is no 0 or 1
weighing_is : (n w : ℕ) (bits : List ℕ) → weighing n w bits ≡ cond (row (length bits) bits) (Some (n + w * weighed bits)) None
weighing_is n w [] = ap Some (omega arith)
weighing_is n w (zero ∷ bits) = weighing_is n (w * 2) bits ∙
    ap (λ k. cond (row (length bits) bits) (Some k) None) (omega arith)
weighing_is n w (suc zero ∷ bits) = weighing_is (n + w) (w * 2) bits ∙
    ap (λ k. cond (row (length bits) bits) (Some k) None) (omega arith)
weighing_is n w (suc (suc b) ∷ bits) = grind (arith, nat_tests)

-- the digit at a place of the pass, of any weight: a 0, a 1, or a bit that ends it; u is the number that the pass goes on with
module _ (bits : List ℕ) (i n w : ℕ) (h : i < length bits) where
  pub weighing_zero_any : (u : ℕ) → get_or bits i 0 ≡ 0 → u ≡ n → weighing u (w * 2) (drop (i + 1) bits) ≡ weighing n w (drop i bits)
  weighing_zero_any u e g = ap (λ x. weighing x (w * 2) (drop (i + 1) bits)) g ∙
      sym (at_drop_more (weighing n w) bits i 0 h ∙ ap (λ b. weighing n w (b ∷ drop (i + 1) bits)) e)

  pub weighing_one_any : (u : ℕ) → get_or bits i 0 ≡ 1 → u ≡ n + w → weighing u (w * 2) (drop (i + 1) bits) ≡ weighing n w (drop i bits)
  weighing_one_any u e g = ap (λ x. weighing x (w * 2) (drop (i + 1) bits)) g ∙
      sym (at_drop_more (weighing n w) bits i 0 h ∙ ap (λ b. weighing n w (b ∷ drop (i + 1) bits)) e)

  weighing_other_any : 1 < get_or bits i 0 → weighing n w (drop i bits) ≡ None
  weighing_other_any big =
      let no_zero = ne_eqb (get_or bits i 0) 0 (omega arith) in
      let no_one = ne_eqb (get_or bits i 0) 1 (omega arith) in
      at_drop_more (weighing n w) bits i 0 h ∙ (cond-false (eqb (get_or bits i 0) 0) _ _ no_zero ∙ cond-false (eqb (get_or bits i 0) 1) _ None no_one)

-- the same where the weight is the power of two of the place
module _ (bits : List ℕ) (i n : ℕ) (h : i < length bits) where
  next : (u : ℕ) → weighing u (2 ^ (i + 1)) (drop (i + 1) bits) ≡ weighing u (2 ^ i * 2) (drop (i + 1) bits)
  next u = ap (λ w. weighing u w (drop (i + 1) bits)) (sym (power_doubled i (2 ^ i) refl))

  pub weighing_zero : (u : ℕ) → get_or bits i 0 ≡ 0 → u ≡ n → weighing u (2 ^ (i + 1)) (drop (i + 1) bits) ≡ weighing n (2 ^ i) (drop i bits)
  weighing_zero u e g = next u ∙ weighing_zero_any bits i n (2 ^ i) h u e g

  pub weighing_one : (u : ℕ) → get_or bits i 0 ≡ 1 → u ≡ n + 2 ^ i → weighing u (2 ^ (i + 1)) (drop (i + 1) bits) ≡ weighing n (2 ^ i) (drop i bits)
  weighing_one u e g = next u ∙ weighing_one_any bits i n (2 ^ i) h u e g

  weighing_other : 1 < get_or bits i 0 → weighing n (2 ^ i) (drop i bits) ≡ None
  weighing_other big = weighing_other_any bits i n (2 ^ i) h big

-- the value that a number shows, if there is one
abbrev shown_by : ℕ → Option ℕ → Option ℕ
shown_by d (Some n) = Some (shown d n)
shown_by d None = None

-- so a row of FL is read in one pass, of any weights: n, w and i are the number, the weight and the place that the pass has come to
module _ (m : ℕ) (bits : List ℕ) (k d n w i : ℕ) (s : is_size m ≡ true) (p : k ≡ digits m) (q : d ≡ spare m) (l : length bits ≡ k)
    (so_far : weighing n w (drop i bits) ≡ weighing 0 1 bits) where
  pub reading_weighing_any : full_logarithmic.reading m bits ≡ shown_by d (weighing n w (drop i bits))
  reading_weighing_any =
      let number : weighed bits ≡ 0 + 1 * weighed bits = omega arith in
      at_row (row (digits m) bits) refl ∙
      (ap₂ (λ j e. shown_by e (cond (row j bits) (Some (weighed bits)) None)) (sym (l ∙ p)) (sym q) ∙
      ap (shown_by d) (ap (λ c. cond (row (length bits) bits) (Some c) None) number ∙ (sym (weighing_is 0 1 bits) ∙ sym so_far)))
    where
      at_row : (r : Bool) → row (digits m) bits ≡ r → full_logarithmic.reading m bits ≡ shown_by (spare m) (cond r (Some (weighed bits)) None)
      at_row true r = reading_weighed m bits s r
      at_row false r = reading_no_row full_logarithmic_within m bits r

  pub reading_ended_any : length bits ≤ i → full_logarithmic.reading m bits ≡ Some (shown d n)
  reading_ended_any h = reading_weighing_any ∙ ap (shown_by d) (at_drop_all (weighing n w) bits i h)

  pub reading_stopped_any : i < length bits → 1 < get_or bits i 0 → full_logarithmic.reading m bits ≡ None
  reading_stopped_any h big = reading_weighing_any ∙ ap (shown_by d) (weighing_other_any bits i n w h big)

-- the same where the weight is the power of two of the place
module _ (m : ℕ) (bits : List ℕ) (k d n i : ℕ) (s : is_size m ≡ true) (p : k ≡ digits m) (q : d ≡ spare m) (l : length bits ≡ k)
    (so_far : weighing n (2 ^ i) (drop i bits) ≡ weighing 0 1 bits) where
  reading_weighing : full_logarithmic.reading m bits ≡ shown_by d (weighing n (2 ^ i) (drop i bits))
  reading_weighing = reading_weighing_any m bits k d n (2 ^ i) i s p q l so_far

  pub reading_ended : length bits ≤ i → full_logarithmic.reading m bits ≡ Some (shown d n)
  reading_ended h = reading_weighing ∙ ap (shown_by d) (at_drop_all (weighing n (2 ^ i)) bits i h)

  pub reading_stopped : i < length bits → 1 < get_or bits i 0 → full_logarithmic.reading m bits ≡ None
  reading_stopped h big = reading_weighing ∙ ap (shown_by d) (weighing_other bits i n h big)
