-- Tests, sums and products over a list. Assumes nothing.
use Rattle.std.specs.Prelude.{ℕ, ◌+◌, ◌*◌, Bool, true, false, cond, ◌&&◌, ◌||◌, List, [], ◌∷◌}

-- each element passes the test
abbrev pub every : {X : Type 0} → (X → Bool) → List X → Bool
every test [] = true
every test (x ∷ xs) = test x && every test xs

-- at least one element passes the test
abbrev pub some : {X : Type 0} → (X → Bool) → List X → Bool
some test [] = false
some test (x ∷ xs) = test x || some test xs

-- the sum of f over the elements
abbrev pub sum_of : {X : Type 0} → (X → ℕ) → List X → ℕ
sum_of f [] = 0
sum_of f (x ∷ xs) = f x + sum_of f xs

-- the product of f over the elements; the empty product is 1
abbrev pub product_of : {X : Type 0} → (X → ℕ) → List X → ℕ
product_of f [] = 1
product_of f (x ∷ xs) = f x * product_of f xs

-- the number of elements that pass the test
abbrev pub count : {X : Type 0} → (X → Bool) → List X → ℕ
count test xs = sum_of (λ x. cond (test x) 1 0) xs
