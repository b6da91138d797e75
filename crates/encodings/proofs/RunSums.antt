-- Tests, sums and lengths over a run of numbers. Assumes nothing.
use Rattle.std.proofs.Common.{◌≡◌, ℕ, zero, suc, ◌+◌, ◌*◌, ◌<◌, ◌≤◌, Bool, true, length, refl, ap, suc-mul, zero-mul, arith}
use Rattle.std.proofs.lemmas.Bool.{and_from}
use Rattle.formula.specs.Sheets.{numbers}
use Rattle.formula.specs.Tests.{every, sum_of}

pub every_of_numbers : (test : ℕ → Bool) (s n : ℕ) → ((k : ℕ) → s ≤ k → k < s + n → test k ≡ true) → every test (numbers s n) ≡ true
every_of_numbers test s zero each = refl
every_of_numbers test s (suc n) each =
    and_from (test s) (every test (numbers (suc s) n)) (each s (omega arith) (omega arith))
    (every_of_numbers test (suc s) n (λ k low high. each k (omega arith) (omega arith)))

-- a sum of terms that are each at most c
pub sum_most : (f : ℕ → ℕ) (c s n : ℕ) → ((k : ℕ) → s ≤ k → k < s + n → f k ≤ c) → sum_of f (numbers s n) ≤ n * c
sum_most f c s zero each = omega (arith, zero-mul c)
sum_most f c s (suc n) each =
    let first = each s (omega arith) (omega arith) in
    let rest = sum_most f c (suc s) n (λ k low high. each k (omega arith) (omega arith)) in
    omega (arith, suc-mul n c)

pub length_numbers : (s n : ℕ) → length (numbers s n) ≡ n
length_numbers s zero = refl
length_numbers s (suc n) = ap suc (length_numbers (suc s) n)
