-- Every row of bits, in parts. Assumes nothing.
use Rattle.std.proofs.Common.{◌≡◌, ℕ, zero, suc, ◌+◌, Bool, true, cond, List, ◌∷◌, ◌++◌, map, sym, refl, ap, ◌∙◌, ap₂, suc-add, zero-add, arith}
use Rattle.formula.specs.Boolean.{row, assignments}
use Rattle.formula.specs.Tests.{every, sum_of, count}
use Rattle.formula.proofs.Sums.{sum_same_where, sum_map}
use Rattle.formula.proofs.Tests.{every_append, every_map, sum_append}

-- the rows that are listed are rows
pub assignments_rows : (w : ℕ) → every (row w) (assignments w) ≡ true
assignments_rows zero = refl
assignments_rows (suc w) =
    every_append (row (suc w)) (map (λ bits. 0 ∷ bits) (assignments w)) (map (λ bits. 1 ∷ bits) (assignments w))
    (every_map (row (suc w)) (λ bits. 0 ∷ bits) (assignments w) (assignments_rows w))
    (every_map (row (suc w)) (λ bits. 1 ∷ bits) (assignments w) (assignments_rows w))

-- a sum over rows, by the first bit
pub sum_first : (f : List ℕ → ℕ) (w : ℕ) →
    sum_of f (assignments (suc w)) ≡ sum_of (λ bits. f (0 ∷ bits)) (assignments w) + sum_of (λ bits. f (1 ∷ bits)) (assignments w)
sum_first f w =
    sum_append f (map (λ bits. 0 ∷ bits) (assignments w)) (map (λ bits. 1 ∷ bits) (assignments w)) ∙
    ap₂ ◌+◌ (sum_map f (λ bits. 0 ∷ bits) (assignments w)) (sum_map f (λ bits. 1 ∷ bits) (assignments w))

pub count_by_first : (w : ℕ) (p : List ℕ → Bool) →
    count p (assignments (suc w)) ≡ count (λ bits. p (0 ∷ bits)) (assignments w) + count (λ bits. p (1 ∷ bits)) (assignments w)
count_by_first w p = sum_first (λ bits. cond (p bits) 1 0) w

-- tests that agree on rows count the same
pub count_on_rows : (w : ℕ) (p q : List ℕ → Bool) → ((bits : List ℕ) → row w bits ≡ true → p bits ≡ q bits) →
    count p (assignments w) ≡ count q (assignments w)
count_on_rows w p q same =
    sum_same_where (row w) (λ bits. cond (p bits) 1 0) (λ bits. cond (q bits) 1 0) (λ bits r. ap (λ t. cond t 1 0) (same bits r)) (assignments w) (assignments_rows w)

-- a sum over rows of a + b bits is the sum over a bits of the sums over b bits
pub in_two : (a b : ℕ) (f : List ℕ → ℕ) →
    sum_of f (assignments (a + b)) ≡ sum_of (λ xs. sum_of (λ ys. f (xs ++ ys)) (assignments b)) (assignments a)
in_two zero b f = ap (λ n. sum_of f (assignments n)) (zero-add b) ∙ omega arith
in_two (suc a) b f =
    ap (λ n. sum_of f (assignments n)) (suc-add a b) ∙ (sum_first f (a + b) ∙
    (ap₂ ◌+◌ (in_two a b (λ bits. f (0 ∷ bits))) (in_two a b (λ bits. f (1 ∷ bits))) ∙ sym (sum_first (λ xs. sum_of (λ ys. f (xs ++ ys)) (assignments b)) a)))
