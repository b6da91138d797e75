-- Literals that spell a number are all true exactly on the row of its binary digits.
use Rattle.std.proofs.Common.{◌≡◌, ℕ, zero, suc, ◌+◌, ◌-◌, ◌*◌, ◌/◌, ◌%◌, ◌^◌, ◌<◌, ◌≤◌, Bool, true, false, cond, not, ◌&&◌, eqb, leb, List, [], ◌∷◌, ◌++◌, length, pos, negsuc, sym, refl, ap, ◌∙◌, subst, ap₂, arith, length-append}
use Rattle.std.proofs.Math.Bool.{and-true}
use Rattle.std.proofs.lemmas.Bool.{and_parts, and_from, cond_both, le-leb, false≢true}
use Rattle.std.proofs.lemmas.Bool.Decides.{nat_tests}
use Rattle.formula.proofs.Tests.{every_both, every_push}
use Rattle.formula.specs.Boolean.{row, local, true_literal}
use Rattle.formula.specs.Tests.{every}
use Rattle.encodings.specs.Digits.{digit_literal, spelled}
use Rattle.encodings.proofs.DigitCounts.{power_more}

-- the number that a row spells, its lowest digit first
abbrev pub weighed : List ℕ → ℕ
weighed [] = 0
weighed (b ∷ bits) = cond (eqb 1 b) 1 0 + 2 * weighed bits

pub weighed_below : (w : ℕ) (bits : List ℕ) → row w bits ≡ true → weighed bits < 2 ^ w
weighed_below zero [] r = omega arith
weighed_below zero (b ∷ bits) r = absurd (false≢true r)
weighed_below (suc w) [] r = absurd (false≢true r)
weighed_below (suc w) (b ∷ bits) r =
    let h = weighed_below w bits (and_parts (leb b 1) (row w bits) r).1 in
    let e = power_more w in
    cond_both (eqb 1 b) 1 0 (λ d. d + 2 * weighed bits < 2 ^ suc w) (λ _. omega arith) (λ _. omega arith)

-- its tail spells half of it
pub weighed_half : (b : ℕ) (bits : List ℕ) → weighed (b ∷ bits) / 2 ≡ weighed bits
weighed_half b bits = cond_both (eqb 1 b) 1 0 (λ d. (d + 2 * weighed bits) / 2 ≡ weighed bits) (λ _. omega arith) (λ _. omega arith)

-- the lowest w digits of a number as a row
abbrev pub digit_row : ℕ → ℕ → List ℕ
digit_row zero n = []
digit_row (suc w) n = n % 2 ∷ digit_row w (n / 2)

pub digit_row_row : (w n : ℕ) → row w (digit_row w n) ≡ true
digit_row_row zero n = refl
digit_row_row (suc w) n =
    and_from (leb (n % 2) 1) (row w (digit_row w (n / 2))) (le-leb (n % 2) 1 (omega arith)) (digit_row_row w (n / 2))

pub digit_row_weighed : (w n : ℕ) → n < 2 ^ w → weighed (digit_row w n) ≡ n
digit_row_weighed zero n h = omega arith
digit_row_weighed (suc w) n h =
    let e = power_more w in
    let more = digit_row_weighed w (n / 2) (omega arith) in
    ap (λ x. cond (eqb 1 (n % 2)) 1 0 + 2 * x) more ∙ grind (arith, nat_tests)

every_last : {X : Type 0} (test : X → Bool) (xs : List X) (x : X) → every test (xs ++ x ∷ []) ≡ (every test xs && test x)
every_last test xs x = every_both test xs (x ∷ []) ∙ ap (λ t. every test xs && t) (and-true (test x))

-- a literal of a later digit is one of the row's tail
digit_tail : (b : ℕ) (bits : List ℕ) (p d : ℕ) → true_literal (b ∷ bits) (digit_literal (suc p) d) ≡ true_literal bits (digit_literal p d)
digit_tail b bits p d = at_digit (eqb d 1)
  where
    at_digit : (t : Bool) → true_literal (b ∷ bits) (cond t (pos (suc (suc p))) (negsuc (suc p))) ≡ true_literal bits (cond t (pos (suc p)) (negsuc p))
    at_digit true = refl
    at_digit false = refl

spelled_tail : (b : ℕ) (bits : List ℕ) (p c n : ℕ) → every (true_literal (b ∷ bits)) (spelled (suc p) c n) ≡ every (true_literal bits) (spelled p c n)
spelled_tail b bits p zero n = refl
spelled_tail b bits p (suc c) n =
    every_last (true_literal (b ∷ bits)) (spelled (suc (suc p)) c (n / 2)) (digit_literal (suc p) (n % 2)) ∙
    (ap₂ ◌&&◌ (spelled_tail b bits (suc p) c (n / 2)) (digit_tail b bits p (n % 2)) ∙
    sym (every_last (true_literal bits) (spelled (suc p) c (n / 2)) (digit_literal p (n % 2))))

-- the lowest digit as a literal
lowest_true : (b : ℕ) (bits : List ℕ) (d : ℕ) → true_literal (b ∷ bits) (digit_literal 0 d) ≡ cond (eqb d 1) (eqb 1 b) (not (eqb 1 b))
lowest_true b bits d = at_digit (eqb d 1)
  where
    at_digit : (t : Bool) → true_literal (b ∷ bits) (cond t (pos 1) (negsuc 0)) ≡ cond t (eqb 1 b) (not (eqb 1 b))
    at_digit true = refl
    at_digit false = refl

-- a number is known by its half and its lowest digit
by_half : (x : Bool) (n h : ℕ) → (eqb (n / 2) h && cond (eqb (n % 2) 1) x (not x)) ≡ eqb n (cond x 1 0 + 2 * h)
by_half true n h = grind (arith, nat_tests)
by_half false n h = grind (arith, nat_tests)

pub spelled_true : (c n : ℕ) (bits : List ℕ) → row c bits ≡ true → n < 2 ^ c → every (true_literal bits) (spelled 0 c n) ≡ eqb n (weighed bits)
spelled_true zero n [] r h = grind (arith, nat_tests)
spelled_true zero n (b ∷ bits) r h = cc
spelled_true (suc c) n [] r h = cc
spelled_true (suc c) n (b ∷ bits) r h =
    let e = power_more c in
    let tail = spelled_true c (n / 2) bits (and_parts (leb b 1) (row c bits) r).1 (omega arith) in
    every_last (true_literal (b ∷ bits)) (spelled 1 c (n / 2)) (digit_literal 0 (n % 2)) ∙
    (ap₂ ◌&&◌ (spelled_tail b bits 0 c (n / 2) ∙ tail) (lowest_true b bits (n % 2)) ∙ by_half (eqb 1 b) n (weighed bits))

-- all digits but the lowest spell half of a row's number
pub half_true : (k n : ℕ) (bits : List ℕ) → 1 ≤ k → n < 2 ^ (k - 1) → row k bits ≡ true →
    every (true_literal bits) (spelled 1 (k - 1) n) ≡ eqb n (weighed bits / 2)
half_true zero n bits some h r = absurd (omega arith)
half_true (suc k) n [] some h r = cc
half_true (suc k) n (b ∷ bits) some h r =
    let e : suc k - 1 ≡ k = omega arith in
    ap (λ c. every (true_literal (b ∷ bits)) (spelled 1 c n)) e ∙ (spelled_tail b bits 0 k n ∙
    (spelled_true k n bits (and_parts (leb b 1) (row k bits) r).1 (subst (λ c. n < 2 ^ c) e h) ∙ ap (eqb n) (sym (weighed_half b bits))))

digit_local : (w p d : ℕ) → p < w → local w (digit_literal p d) ≡ true
digit_local w p d h = cond_both (eqb d 1) (pos (suc p)) (negsuc p) (λ l. local w l ≡ true) (λ _. grind (arith, nat_tests)) (λ _. grind (arith, nat_tests))

pub spelled_local : (p c n : ℕ) → every (local (p + c)) (spelled p c n) ≡ true
spelled_local p zero n = refl
spelled_local p (suc c) n =
    let e : suc p + c ≡ p + suc c = omega arith in
    every_push (local (p + suc c)) (spelled (suc p) c (n / 2)) (digit_literal p (n % 2))
    (subst (λ w. every (local w) (spelled (suc p) c (n / 2)) ≡ true) e (spelled_local (suc p) c (n / 2))) (digit_local (p + suc c) p (n % 2) (omega arith))

pub spelled_length : (p c n : ℕ) → length (spelled p c n) ≡ c
spelled_length p zero n = refl
spelled_length p (suc c) n =
    let more = spelled_length (suc p) c (n / 2) in
    let all = length-append (spelled (suc p) c (n / 2)) (digit_literal p (n % 2) ∷ []) in omega arith
