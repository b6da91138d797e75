-- What is made from a run of numbers.
use Rattle.std.specs.Prelude.{◌≡◌, ℕ, zero, suc, ◌+◌, ◌-◌, ◌*◌, ◌<◌, ◌≤◌, Bool, true, [], ◌∷◌, map, refl}
use Rattle.std.proofs.Common.{sym, ap, ap₂, ◌∙◌, zero-mul, suc-mul, add_comm, arith}
use Rattle.std.proofs.lemmas.Bool.{and_from}
use Rattle.formula.specs.Boolean.{Clause, words, words_of}
use Rattle.formula.specs.Sheets.{numbers}
use Rattle.formula.specs.Tests.{every}

-- the numbers from j to m - 1, one by one
pub numbers_more : (j m : ℕ) → j < m → numbers j (m - j) ≡ j ∷ numbers (j + 1) (m - (j + 1))
numbers_more j m h =
    let left : m - j ≡ suc (m - (j + 1)) = omega arith in
    let next : suc j ≡ j + 1 = omega arith in
    ap (numbers j) left ∙ ap (λ k. j ∷ numbers k (m - (j + 1))) next

pub numbers_none : (j m : ℕ) → m ≤ j → numbers j (m - j) ≡ []
numbers_none j m h = let left : m - j ≡ 0 = omega arith in ap (numbers j) left

-- a test that holds of each number of the run
pub every_numbers : {X : Type 0} (test : X → Bool) (f : ℕ → X) (s n : ℕ) →
    ((k : ℕ) → s ≤ k → k < s + n → test (f k) ≡ true) → every test (map f (numbers s n)) ≡ true
every_numbers test f s zero each = refl
every_numbers test f s (suc n) each =
    and_from (test (f s)) (every test (map f (numbers (suc s) n))) (each s (omega arith) (omega arith))
    (every_numbers test f (suc s) n (λ k low high. each k (omega arith) (omega arith)))

-- clauses of one length each
pub words_numbers : (f : ℕ → Clause) (c s n : ℕ) → ((k : ℕ) → words (f k) ≡ c) → words_of (map f (numbers s n)) ≡ n * c
words_numbers f c s zero each = sym (zero-mul c)
words_numbers f c s (suc n) each =
    ap₂ ◌+◌ (each s) (words_numbers f c (suc s) n each) ∙ (add_comm c (n * c) ∙ sym (suc-mul n c))
