-- The digits of a number, one by one from the highest.
use Rattle.std.proofs.Common.{◌≡◌, ℕ, zero, suc, ◌+◌, ◌-◌, ◌/◌, ◌%◌, ◌^◌, ◌<◌, ◌≤◌, List, [], ◌∷◌, ◌++◌, length, get_or, take, ℤ, pos, sym, ap, ◌∙◌, ap₂, ⊎_elim, arith}
use Rattle.std.proofs.Math.Nat.{div-div-eq-div-mul}
use Rattle.std.proofs.lemmas.Bool.{cases_lt}
use Rattle.std.proofs.lemmas.List.{get_or_at, get_or_append_left, take_more, take_all}
use Rattle.encodings.specs.Digits.{digit_literal, spelled}
use Rattle.encodings.proofs.DigitCounts.{power_more}
use Rattle.encodings.proofs.Spelling.{spelled_length}

-- the digit at a place
pub digit_at : (p c n i : ℕ) → i < c → get_or (spelled p c n) i (pos 0) ≡ digit_literal (p + (c - 1 - i)) (n / 2 ^ (c - 1 - i) % 2)
digit_at p zero n i h = absurd (omega arith)
digit_at p (suc c) n i h = ⊎_elim (λ l. before l (digit_at (suc p) c (n / 2) i l)) last (cases_lt i c)
  where
    long : length (spelled (suc p) c (n / 2)) ≡ c
    long = spelled_length (suc p) c (n / 2)

    before : i < c → get_or (spelled (suc p) c (n / 2)) i (pos 0) ≡ digit_literal (suc p + (c - 1 - i)) (n / 2 / 2 ^ (c - 1 - i) % 2) →
        get_or (spelled p (suc c) n) i (pos 0) ≡ digit_literal (p + (suc c - 1 - i)) (n / 2 ^ (suc c - 1 - i) % 2)
    before l e =
        let k : suc (c - 1 - i) ≡ suc c - 1 - i = omega arith in
        let place : suc p + (c - 1 - i) ≡ p + (suc c - 1 - i) = omega arith in
        get_or_append_left (spelled (suc p) c (n / 2)) (digit_literal p (n % 2) ∷ []) (pos 0) i (omega (arith, long)) ∙
        (e ∙
        ap₂ digit_literal place (ap (λ q. q % 2) (div-div-eq-div-mul n 2 (2 ^ (c - 1 - i)) ∙ (ap (λ w. n / w) (sym (power_more (c - 1 - i))) ∙ ap (λ j. n / 2 ^ j) k))))

    last : c ≤ i → get_or (spelled p (suc c) n) i (pos 0) ≡ digit_literal (p + (suc c - 1 - i)) (n / 2 ^ (suc c - 1 - i) % 2)
    last l =
        let none : 0 ≡ suc c - 1 - i = omega arith in
        let place : p ≡ p + (suc c - 1 - i) = omega arith in
        let whole : n ≡ n / 2 ^ 0 = omega arith in
        get_or_at (spelled (suc p) c (n / 2)) (digit_literal p (n % 2)) [] (pos 0) i (omega (arith, long)) ∙
        ap₂ digit_literal place (ap (λ q. q % 2) (whole ∙ ap (λ j. n / 2 ^ j) none))

-- with the digits above a place there, the digit at that place is next
pub spelled_more : (p c n k : ℕ) (front all : List ℤ) (x : ℤ) → 0 < k → k ≤ c → x ≡ digit_literal (p + (k - 1)) (n / 2 ^ (k - 1) % 2) →
    front ≡ take (c - k) (spelled p c n) → all ≡ front ++ x ∷ [] → all ≡ take (c - (k - 1)) (spelled p c n)
spelled_more p c n k front all x some most e so_far pushed =
    let long = spelled_length p c n in
    let place : c - 1 - (c - k) ≡ k - 1 = omega arith in
    let next : c - k + 1 ≡ c - (k - 1) = omega arith in
    let digit : x ≡ get_or (spelled p c n) (c - k) (pos 0) = e ∙ sym (digit_at p c n (c - k) (omega arith) ∙ ap (λ j. digit_literal (p + j) (n / 2 ^ j % 2)) place) in
    pushed ∙ (ap₂ (λ xs y. xs ++ y ∷ []) so_far digit ∙
    (sym (take_more (spelled p c n) (c - k) (pos 0) (omega arith)) ∙ ap (λ j. take j (spelled p c n)) next))

pub spelled_all : (p c n k : ℕ) (all : List ℤ) → k ≤ 0 → all ≡ take (c - k) (spelled p c n) → all ≡ spelled p c n
spelled_all p c n k all none so_far = let long = spelled_length p c n in so_far ∙ take_all (c - k) (spelled p c n) (omega arith)
