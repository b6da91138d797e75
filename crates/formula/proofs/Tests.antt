-- Tests and sums over a list, by its parts. Assumes nothing.
use Rattle.std.proofs.Common.{◌≡◌, ℕ, zero, suc, ◌+◌, ◌<◌, Bool, true, ◌&&◌, List, [], ◌∷◌, ◌++◌, map, length, get_or, sym, refl, ap, ◌∙◌, ap₂, arith}
use Rattle.std.specs.List.{flat_map}
use Rattle.std.proofs.Math.Bool.{and_assoc}
use Rattle.std.proofs.lemmas.Bool.{and_parts, and_from}
use Rattle.formula.specs.Tests.{every, sum_of}

module _ {X : Type 0} (p : X → Bool) where
  pub every_append : (xs ys : List X) → every p xs ≡ true → every p ys ≡ true → every p (xs ++ ys) ≡ true
  every_append [] ys h k = k
  every_append (x ∷ xs) ys h k =
      let parts = and_parts (p x) (every p xs) h in
      and_from (p x) (every p (xs ++ ys)) parts.0 (every_append xs ys parts.1 k)

  -- a test of both parts
  pub every_both : (xs ys : List X) → every p (xs ++ ys) ≡ (every p xs && every p ys)
  every_both [] ys = refl
  every_both (x ∷ xs) ys = ap (λ t. p x && t) (every_both xs ys) ∙ sym (and_assoc (p x) (every p xs) (every p ys))

  pub every_joined : {Y : Type 0} (f : Y → List X) (ys : List Y) → every p (flat_map f ys) ≡ every (λ y. every p (f y)) ys
  every_joined f [] = refl
  every_joined f (y ∷ ys) = every_both (f y) (flat_map f ys) ∙ ap (λ t. every p (f y) && t) (every_joined f ys)

  pub every_push : (xs : List X) (x : X) → every p xs ≡ true → p x ≡ true → every p (xs ++ x ∷ []) ≡ true
  every_push xs x h k = every_append xs (x ∷ []) h (and_from (p x) true k refl)

  pub every_parts : (xs ys : List X) → every p (xs ++ ys) ≡ true → (every p xs ≡ true) × (every p ys ≡ true)
  every_parts [] ys h = (refl, h)
  every_parts (x ∷ xs) ys h =
      let parts = and_parts (p x) (every p (xs ++ ys)) h in
      let more = every_parts xs ys parts.1 in
      (and_from (p x) (every p xs) parts.0 more.0, more.1)

  pub every_weaker : (q : X → Bool) → ((x : X) → p x ≡ true → q x ≡ true) → (xs : List X) → every p xs ≡ true → every q xs ≡ true
  every_weaker q f [] h = refl
  every_weaker q f (x ∷ xs) h =
      let parts = and_parts (p x) (every p xs) h in
      and_from (q x) (every q xs) (f x parts.0) (every_weaker q f xs parts.1)

  pub every_at : (xs : List X) (i : ℕ) (d : X) → i < length xs → every p xs ≡ true → p (get_or xs i d) ≡ true
  every_at [] i d within h = absurd (omega arith)
  every_at (x ∷ xs) zero d within h = (and_parts (p x) (every p xs) h).0
  every_at (x ∷ xs) (suc i) d within h = every_at xs i d (omega arith) (and_parts (p x) (every p xs) h).1

  pub every_map : {Y : Type 0} (f : Y → X) (ys : List Y) → every (λ y. p (f y)) ys ≡ true → every p (map f ys) ≡ true
  every_map f [] h = refl
  every_map f (y ∷ ys) h =
      let parts = and_parts (p (f y)) (every (λ z. p (f z)) ys) h in
      and_from (p (f y)) (every p (map f ys)) parts.0 (every_map f ys parts.1)

  -- what is undone at each element is undone over the list
  pub map_back : {Y : Type 0} (f : X → Y) (g : Y → X) → ((x : X) → p x ≡ true → g (f x) ≡ x) → (xs : List X) → every p xs ≡ true → map g (map f xs) ≡ xs
  map_back f g back [] h = refl
  map_back f g back (x ∷ xs) h =
      let parts = and_parts (p x) (every p xs) h in
      ap₂ (λ y ys. y ∷ ys) (back x parts.0) (map_back f g back xs parts.1)

pub sum_append : {X : Type 0} (f : X → ℕ) (xs ys : List X) → sum_of f (xs ++ ys) ≡ sum_of f xs + sum_of f ys
sum_append f [] ys = omega arith
sum_append f (x ∷ xs) ys = let more = sum_append f xs ys in omega arith

pub sum_push : {X : Type 0} (f : X → ℕ) (xs : List X) (x : X) → sum_of f (xs ++ x ∷ []) ≡ sum_of f xs + f x
sum_push f xs x = let all = sum_append f xs (x ∷ []) in omega arith

pub sum_ones : {X : Type 0} (xs : List X) → sum_of (λ _. 1) xs ≡ length xs
sum_ones [] = refl
sum_ones (x ∷ xs) = let more = sum_ones xs in omega arith
