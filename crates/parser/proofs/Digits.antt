-- The digits of a number, one by one. Assumes nothing.
use Rattle.std.proofs.Common.{◌≡◌, ℕ, ◌+◌, ◌-◌, ◌*◌, ◌^◌, ◌<◌, ◌≤◌, true, false, ◌&&◌, leb, List, ◌∷◌, length, get_or, drop, Some, None, sym, ap, ◌∙◌, subst, add-one, arith}
use Rattle.std.proofs.lemmas.List.{at_drop_more, at_drop_all}
use Rattle.std.proofs.lemmas.Bool.{and_from, and_parts, and_left, and_right, cond-true, cond-false, le-leb, leb-true}
use Rattle.std.specs.List.{list_all}
use Rattle.parser.specs.Fields.{is_digit, spelled, number_of}

-- a digit is a byte of at most 57
pub digit_high : (b : ℕ) → is_digit b ≡ true → b ≤ 57
digit_high b d = leb-true b 57 (and_parts (leb 48 b) (leb b 57) d).1

-- the first digit and the first i bytes behind it are digits, which spell n
module _ (whole bs : List ℕ) where
  pub record Read (i n : ℕ) : Type 0 where
    pub number : spelled n (drop i bs) ≡ spelled 0 whole
    pub digits : list_all is_digit (drop i bs) ≡ list_all is_digit whole
    pub small : n < 10 ^ (i + 1)

  pub read_first : (b : ℕ) → whole ≡ b ∷ bs → is_digit b ≡ true → Read 0 (b - 48)
  read_first b is digit =
      let high = digit_high b digit in
      let same : b - 48 ≡ 0 * 10 + (b - 48) = omega arith in
      record {
        number = ap (λ (n : ℕ). spelled n bs) same ∙ ap (spelled 0) (sym is);
        digits = sym (ap (list_all is_digit) is ∙ ap (λ t. t && list_all is_digit bs) digit);
        small = omega (arith, high);
      }

  module _ (i n : ℕ) (h : Read i n) where
    pub read_more : i < length bs → is_digit (get_or bs i 0) ≡ true → Read (i + 1) (n * 10 + (get_or bs i 0 - 48))
    read_more within digit =
        let b = get_or bs i 0 in
        let high = digit_high b digit in
        record {
          number = sym (at_drop_more (spelled n) bs i 0 within) ∙ h.number;
          digits = sym (at_drop_more (list_all is_digit) bs i 0 within ∙ ap (λ t. t && list_all is_digit (drop (i + 1) bs)) digit) ∙ h.digits;
          small = subst (λ (k : ℕ). n * 10 + (b - 48) < 10 ^ k) (sym (add-one (i + 1))) (omega (arith, h.small));
        }

    pub read_stop : i < length bs → is_digit (get_or bs i 0) ≡ false → None ≡ number_of whole
    read_stop within other =
        let none : list_all is_digit whole ≡ false = sym h.digits ∙ at_drop_more (list_all is_digit) bs i 0 within ∙ and_left (is_digit (get_or bs i 0)) _ other in
        sym (cond-false (leb 1 (length whole) && leb (length whole) 5 && list_all is_digit whole) _ _ (and_right (leb 1 (length whole) && leb (length whole) 5) (list_all is_digit whole) none))

    pub read_all : length bs ≤ i → 1 ≤ length whole → length whole ≤ 5 → Some n ≡ number_of whole
    read_all past some few =
        let all : list_all is_digit whole ≡ true = sym h.digits ∙ at_drop_all (list_all is_digit) bs i past in
        let is : n ≡ spelled 0 whole = sym (at_drop_all (spelled n) bs i past) ∙ h.number in
        ap Some is ∙ sym (cond-true (leb 1 (length whole) && leb (length whole) 5 && list_all is_digit whole) _ _ (and_from _ _ (and_from _ _ (le-leb _ _ some) (le-leb _ _ few)) all))
