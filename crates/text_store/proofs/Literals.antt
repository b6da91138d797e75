-- Literals in a row, each with one low byte and not too long: what a line of them counts and measures. Assumes nothing.
use Rattle.std.proofs.Common.{◌≡◌, ℕ, ◌+◌, ◌*◌, ◌<◌, ◌≤◌, Bool, true, cond, not, eqb, ltb, leb, List, [], ◌∷◌, ◌++◌, length, ℤ, refl, mul-add, arith, length-append}
use Rattle.std.specs.List.{flat_map}
use Rattle.std.proofs.lemmas.Bool.{and_parts, leb-true, ne_eqb, not_from_false}
use Rattle.std.proofs.lemmas.Bool.Decides.{nat_tests}
use Rattle.formula.specs.Boolean.{Clause}
use Rattle.formula.specs.Tests.{every, sum_of}
use Rattle.text_store.specs.Bytes.{clean, lows}
use Rattle.formula.proofs.Tests.{every_append, every_weaker, sum_append}

pub lows_append : (bound : ℕ) (xs ys : List ℕ) → lows bound (xs ++ ys) ≡ lows bound xs + lows bound ys
lows_append bound xs ys = sum_append (λ b. cond (ltb b bound) 1 0) xs ys

pub clean_append : (mark : ℕ) (xs ys : List ℕ) → clean mark xs ≡ true → clean mark ys ≡ true → clean mark (xs ++ ys) ≡ true
clean_append mark xs ys h k = every_append (λ b. not (eqb mark b)) xs ys h k

-- bytes from a bound on: none is low, and none is a mark below it
pub lows_high : (bound : ℕ) (bytes : List ℕ) → every (leb bound) bytes ≡ true → lows bound bytes ≡ 0
lows_high bound [] h = refl
lows_high bound (b ∷ bytes) h =
    let parts = and_parts (leb bound b) (every (leb bound) bytes) h in
    let high = leb-true bound b parts.0 in
    let more = lows_high bound bytes parts.1 in
    grind (arith, nat_tests)

pub clean_high : (mark bound : ℕ) → mark < bound → (bytes : List ℕ) → every (leb bound) bytes ≡ true → clean mark bytes ≡ true
clean_high mark bound low bytes h =
    every_weaker (leb bound) (λ b. not (eqb mark b)) (λ b k. not_from_false (eqb mark b) (ne_eqb mark b (λ e. omega (arith, leb-true bound b k)))) bytes h

module _ (literal : ℤ → List ℕ) (fits : ℤ → Bool) where
  pub lows_joined : (bound : ℕ) → ((l : ℤ) → fits l ≡ true → lows bound (literal l) ≡ 1) → (c : Clause) → every fits c ≡ true → lows bound (flat_map literal c) ≡ length c
  lows_joined bound one [] h = refl
  lows_joined bound one (l ∷ c) h =
      let parts = and_parts (fits l) (every fits c) h in
      let more = lows_joined bound one c parts.1 in
      omega (arith, lows_append bound (literal l) (flat_map literal c), one l parts.0)

  pub clean_joined : (mark : ℕ) → ((l : ℤ) → fits l ≡ true → clean mark (literal l) ≡ true) → (c : Clause) → every fits c ≡ true → clean mark (flat_map literal c) ≡ true
  clean_joined mark each [] h = refl
  clean_joined mark each (l ∷ c) h =
      let parts = and_parts (fits l) (every fits c) h in
      clean_append mark (literal l) (flat_map literal c) (each l parts.0) (clean_joined mark each c parts.1)

-- a row is at most so many times as long as what it weighs, if each part is
pub length_joined_le : {X A : Type 0} (f : X → List A) (p : X → Bool) (weight : X → ℕ) (most : ℕ) → ((x : X) → p x ≡ true → length (f x) ≤ most * weight x) → (xs : List X) → every p xs ≡ true → length (flat_map f xs) ≤ most * sum_of weight xs
length_joined_le f p weight most short [] h = omega arith
length_joined_le f p weight most short (x ∷ xs) h =
    let parts = and_parts (p x) (every p xs) h in
    let more = length_joined_le f p weight most short xs parts.1 in
    omega (arith, length-append (f x) (flat_map f xs), short x parts.0, mul-add most (weight x) (sum_of weight xs))
