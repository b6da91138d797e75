-- Sums and counts over lists: by parts, under a map, exchanged. Assumes nothing.
use Rattle.std.proofs.Common.{◌≡◌, ℕ, ◌+◌, Bool, true, false, cond, ◌&&◌, List, [], ◌∷◌, map, sym, refl, ap, ◌∙◌, ap₂, arith}
use Rattle.std.specs.List.{flat_map}
use Rattle.formula.specs.Tests.{every, sum_of, count}
use Rattle.formula.proofs.Tests.{sum_append}
use Rattle.std.proofs.lemmas.Bool.{and_parts}

-- equal terms have equal sums
pub sum_same : {X : Type 0} (f g : X → ℕ) → ((x : X) → f x ≡ g x) → (xs : List X) → sum_of f xs ≡ sum_of g xs
sum_same f g same [] = refl
sum_same f g same (x ∷ xs) = ap₂ ◌+◌ (same x) (sum_same f g same xs)

-- it is enough that they are equal where a test holds of every element
pub sum_same_where : {X : Type 0} (p : X → Bool) (f g : X → ℕ) → ((x : X) → p x ≡ true → f x ≡ g x) → (xs : List X) → every p xs ≡ true →
    sum_of f xs ≡ sum_of g xs
sum_same_where p f g same [] h = refl
sum_same_where p f g same (x ∷ xs) h = let parts = and_parts (p x) (every p xs) h in ap₂ ◌+◌ (same x parts.0) (sum_same_where p f g same xs parts.1)

pub sum_map : {X Y : Type 0} (f : Y → ℕ) (g : X → Y) (xs : List X) → sum_of f (map g xs) ≡ sum_of (λ x. f (g x)) xs
sum_map f g [] = refl
sum_map f g (x ∷ xs) = ap (λ n. f (g x) + n) (sum_map f g xs)

pub sum_joined : {X Y : Type 0} (f : Y → ℕ) (g : X → List Y) (xs : List X) → sum_of f (flat_map g xs) ≡ sum_of (λ x. sum_of f (g x)) xs
sum_joined f g [] = refl
sum_joined f g (x ∷ xs) = sum_append f (g x) (flat_map g xs) ∙ ap (λ n. sum_of f (g x) + n) (sum_joined f g xs)

pub sum_none : {X : Type 0} (xs : List X) → sum_of (λ _. 0) xs ≡ 0
sum_none [] = refl
sum_none (x ∷ xs) = let more = sum_none xs in omega arith

pub sum_add : {X : Type 0} (f g : X → ℕ) (xs : List X) → sum_of (λ x. f x + g x) xs ≡ sum_of f xs + sum_of g xs
sum_add f g [] = refl
sum_add f g (x ∷ xs) = let more = sum_add f g xs in omega arith

-- two sums may change places
pub sum_swap : {X Y : Type 0} (f : X → Y → ℕ) (xs : List X) (ys : List Y) →
    sum_of (λ x. sum_of (f x) ys) xs ≡ sum_of (λ y. sum_of (λ x. f x y) xs) ys
sum_swap f [] ys = sym (sum_none ys)
sum_swap f (x ∷ xs) ys = ap (λ n. sum_of (f x) ys + n) (sum_swap f xs ys) ∙ sym (sum_add (f x) (λ y. sum_of (λ z. f z y) xs) ys)

-- a test that holds of nothing counts nothing
pub count_none : {X : Type 0} (xs : List X) → count (λ (x : X). false) xs ≡ 0
count_none xs = sum_none xs

-- a fixed test in front of another: all or nothing
pub count_fixed : {X : Type 0} (b : Bool) (p : X → Bool) (xs : List X) → count (λ x. b && p x) xs ≡ cond b (count p xs) 0
count_fixed true p xs = refl
count_fixed false p xs = count_none xs
