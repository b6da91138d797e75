-- Rows whose bits are all known: there is one of each width.
use Rattle.std.proofs.Common.{◌≡◌, ℕ, zero, suc, ◌+◌, ◌<◌, Bool, true, false, cond, not, ◌&&◌, eqb, leb, List, [], ◌∷◌, length, get_or, sym, refl, ap, ◌∙◌, ap₂, ⊎_elim, arith}
use Rattle.std.proofs.lemmas.Bool.{and_parts, and_from, cases_Bool, both_ways}
use Rattle.std.proofs.lemmas.Bool.Decides.{nat_tests}
use Rattle.formula.proofs.Assignments.{sum_first, count_on_rows}
use Rattle.formula.proofs.Sums.{count_fixed}
use Rattle.formula.specs.Boolean.{row, assignments}
use Rattle.formula.specs.Tests.{count}

-- both or neither
abbrev pub alike : Bool → Bool → Bool
alike a b = cond a b (not b)

pub alike_true : (a b : Bool) → alike a b ≡ true → a ≡ b
alike_true true b h = sym h
alike_true false true h = cc
alike_true false false h = refl

pub alike_from : (a b : Bool) → a ≡ b → alike a b ≡ true
alike_from true true e = refl
alike_from true false e = cc
alike_from false true e = cc
alike_from false false e = refl

-- the bits of a row are on where the test of their place, counted from 0, says so
abbrev pub agree : (ℕ → Bool) → List ℕ → Bool
agree test [] = true
agree test (b ∷ bits) = alike (eqb 1 b) (test 0) && agree (λ k. test (suc k)) bits

pub agree_from : (test : ℕ → Bool) (bits : List ℕ) → ((k : ℕ) → k < length bits → eqb 1 (get_or bits k 0) ≡ test k) → agree test bits ≡ true
agree_from test [] each = refl
agree_from test (b ∷ bits) each =
    and_from (alike (eqb 1 b) (test 0)) (agree (λ k. test (suc k)) bits) (alike_from (eqb 1 b) (test 0) (each 0 (omega arith)))
    (agree_from (λ k. test (suc k)) bits (λ k h. each (suc k) (omega arith)))

pub agree_at : (test : ℕ → Bool) (bits : List ℕ) → agree test bits ≡ true → (k : ℕ) → k < length bits → eqb 1 (get_or bits k 0) ≡ test k
agree_at test [] h k within = absurd (omega arith)
agree_at test (b ∷ bits) h zero within = alike_true (eqb 1 b) (test 0) (and_parts (alike (eqb 1 b) (test 0)) (agree (λ k. test (suc k)) bits) h).0
agree_at test (b ∷ bits) h (suc k) within =
    agree_at (λ n. test (suc n)) bits (and_parts (alike (eqb 1 b) (test 0)) (agree (λ n. test (suc n)) bits) h).1 k (omega arith)

-- the row that a test makes
abbrev pub known : (ℕ → Bool) → ℕ → List ℕ
known test zero = []
known test (suc w) = cond (test 0) 1 0 ∷ known (λ k. test (suc k)) w

pub known_row : (test : ℕ → Bool) (w : ℕ) → row w (known test w) ≡ true
known_row test zero = refl
known_row test (suc w) = and_from (leb (cond (test 0) 1 0) 1) (row w (known (λ k. test (suc k)) w)) (a_bit (test 0)) (known_row (λ k. test (suc k)) w)
  where
    a_bit : (t : Bool) → leb (cond t 1 0) 1 ≡ true
    a_bit true = refl
    a_bit false = refl

pub known_agrees : (test : ℕ → Bool) (w : ℕ) → agree test (known test w) ≡ true
known_agrees test zero = refl
known_agrees test (suc w) =
    and_from (alike (eqb 1 (cond (test 0) 1 0)) (test 0)) (agree (λ k. test (suc k)) (known (λ k. test (suc k)) w)) (itself (test 0)) (known_agrees (λ k. test (suc k)) w)
  where
    itself : (t : Bool) → alike (eqb 1 (cond t 1 0)) t ≡ true
    itself true = refl
    itself false = refl

-- two rows that agree with one test are one
pub agree_same : (test : ℕ → Bool) (w : ℕ) (a b : List ℕ) → row w a ≡ true → row w b ≡ true → agree test a ≡ true → agree test b ≡ true → a ≡ b
agree_same test zero [] [] r s h k = refl
agree_same test zero [] (y ∷ ys) r s h k = cc
agree_same test zero (x ∷ xs) b r s h k = cc
agree_same test (suc w) [] b r s h k = cc
agree_same test (suc w) (x ∷ xs) [] r s h k = cc
agree_same test (suc w) (x ∷ xs) (y ∷ ys) r s h k =
    let r' = and_parts (leb x 1) (row w xs) r in
    let s' = and_parts (leb y 1) (row w ys) s in
    let h' = and_parts (alike (eqb 1 x) (test 0)) (agree (λ n. test (suc n)) xs) h in
    let k' = and_parts (alike (eqb 1 y) (test 0)) (agree (λ n. test (suc n)) ys) k in
    ap₂ ◌∷◌ (one_bit x y r'.0 s'.0 (alike_true (eqb 1 x) (test 0) h'.0 ∙ sym (alike_true (eqb 1 y) (test 0) k'.0)))
    (agree_same (λ n. test (suc n)) w xs ys r'.1 s'.1 h'.1 k'.1)
  where
    one_bit : (p q : ℕ) → leb p 1 ≡ true → leb q 1 ≡ true → eqb 1 p ≡ eqb 1 q → p ≡ q
    one_bit p q r s e = grind (arith, nat_tests)

-- of the rows of a width one agrees with a test
pub agree_one : (test : ℕ → Bool) (w : ℕ) → count (agree test) (assignments w) ≡ 1
agree_one test zero = refl
agree_one test (suc w) =
    sum_first (λ bits. cond (agree test bits) 1 0) w ∙
    (ap₂ ◌+◌ (count_fixed (alike false (test 0)) (agree (λ k. test (suc k))) (assignments w)) (count_fixed (alike true (test 0)) (agree (λ k. test (suc k))) (assignments w)) ∙
    one_way (test 0) (count (agree (λ k. test (suc k))) (assignments w)) (agree_one (λ k. test (suc k)) w))
  where
    one_way : (t : Bool) (n : ℕ) → n ≡ 1 → cond (alike false t) n 0 + cond (alike true t) n 0 ≡ 1
    one_way true n e = omega arith
    one_way false n e = omega arith

-- where all bits of a row that passes are known, and one passes, exactly one does
pub passes_one : (w : ℕ) (p : List ℕ → Bool) (known-bits : ℕ → Bool) → ((bits : List ℕ) → row w bits ≡ true → p bits ≡ true → agree known-bits bits ≡ true) →
    (code : List ℕ) → row w code ≡ true → p code ≡ true → count p (assignments w) ≡ 1
passes_one w p known-bits all code r passes =
    count_on_rows w p (agree known-bits) same ∙ agree_one known-bits w
  where
    back : (bits : List ℕ) → row w bits ≡ true → agree known-bits bits ≡ true → p bits ≡ true
    back bits s h = ap p (agree_same known-bits w bits code s r h (all code r passes)) ∙ passes

    same : (bits : List ℕ) → row w bits ≡ true → p bits ≡ agree known-bits bits
    same bits s = ⊎_elim (λ yes-p. yes-p ∙ sym (all bits s yes-p))
        (λ no-p. ⊎_elim (λ yes-a. absurd (both_ways (p bits) no-p (back bits s yes-a))) (λ no-a. no-p ∙ sym no-a) (cases_Bool (agree known-bits bits))) (cases_Bool (p bits))
