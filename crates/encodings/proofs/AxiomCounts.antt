-- How many axioms a tied mapping has, and FR, R and HR among them.
use Rattle.std.proofs.Common.{◌≡◌, ℕ, zero, suc, ◌+◌, ◌-◌, ◌*◌, ◌<◌, ◌≤◌, true, List, [], ◌∷◌, map, length, ℤ, refl, ap, ◌∙◌, ap₂, arith, length-append}
use Rattle.std.proofs.lemmas.List.{length-map}
use Rattle.std.specs.List.{flat_map}
use Rattle.formula.specs.Boolean.{opposite}
use Rattle.formula.specs.Sheets.{numbers}
use Rattle.formula.specs.Tests.{sum_of}
use Rattle.formula.specs.declared.signed.Sign.TheVariants.{Plus}
use Rattle.mapping.specs.Counts.{axiom_count}
use Rattle.mapping.specs.Forms.{members, shifted}
use Rattle.mapping.specs.Meanings.{Meaning, is_size, is_value}
use Rattle.encodings.specs.FullRegular.{bounds, link, full_regular_within, full_regular}
use Rattle.encodings.specs.HalfRegular.{half_regular}
use Rattle.encodings.specs.Regular.{regular}
use Rattle.encodings.specs.Ties.{tie, ties, inner_list, tied_axioms, tied, half_tied}
use Rattle.encodings.specs.Values.{value_literal}
use Rattle.encodings.specs.Guard.{axioms_within, form_within}
use Rattle.encodings.specs.Levels.{bounds_by}
use Rattle.encodings.specs.Limits.{size_low, value_from}
use Rattle.encodings.proofs.RunSums.{length_numbers}

pub length_joined : {X A : Type 0} (f : X → List A) (xs : List X) → length (flat_map f xs) ≡ sum_of (λ x. length (f x)) xs
length_joined f [] = refl
length_joined f (x ∷ xs) = length-append (f x) (flat_map f xs) ∙ ap (λ n. length (f x) + n) (length_joined f xs)

-- sums that agree on a run of numbers
pub sum_same_numbers : (f g : ℕ → ℕ) (s n : ℕ) → ((k : ℕ) → s ≤ k → k < s + n → f k ≡ g k) → sum_of f (numbers s n) ≡ sum_of g (numbers s n)
sum_same_numbers f g s zero same = refl
sum_same_numbers f g s (suc n) same =
    ap₂ ◌+◌ (same s (omega arith) (omega arith)) (sum_same_numbers f g (suc s) n (λ k low high. same k (omega arith) (omega arith)))

tie_length : (x : ℤ) (ls : List ℤ) → length (tie x ls) ≡ length ls + 1
tie_length x ls = length-append (map (λ y. opposite x ∷ y ∷ []) ls) ((x ∷ map opposite ls) ∷ []) ∙ ap (λ n. n + 1) (length-map ls (λ y. opposite x ∷ y ∷ []))

-- the inner axioms, and for each value one more than its inner literals
pub tied_count : (M : Meaning) (m : ℕ) → length (tied_axioms M m) ≡ length (M.axioms m) + sum_of (λ i. length (members (M.form m Plus i)) + 1) (numbers 1 m)
tied_count M m =
    length-append (map (map (shifted m)) (M.axioms m)) (ties M m) ∙
    ap₂ ◌+◌ (length-map (M.axioms m) (map (shifted m))) (length_joined (λ i. tie (value_literal i) (inner_list M m i)) (numbers 1 m) ∙
    sum_same_numbers (λ i. length (tie (value_literal i) (inner_list M m i))) (λ i. length (members (M.form m Plus i)) + 1) 1 m
    (λ i low high. tie_length (value_literal i) (inner_list M m i) ∙ ap (λ n. n + 1) (length-map (members (M.form m Plus i)) (shifted m))))

module _ (m : ℕ) (s : is_size m ≡ true) where
  pub full_regular_axioms : axiom_count full_regular m ≡ m - 2
  full_regular_axioms = ap length (axioms_within full_regular_within m s) ∙ (length-map (numbers 2 (m - 2)) link ∙ length_numbers 2 (m - 2))

  -- the first and the last value have one bound, the others two
  bounds_outer : (i : ℕ) → is_value m i ≡ true → (1 < i → i < m → ⊥) → length (bounds m i) ≡ 1
  bounds_outer i v outer = bounds_by (λ ls. length ls ≡ 1) m i v (λ e. refl) (λ l e. refl) (λ l h. absurd (outer l h))

  bounds_inner : (i : ℕ) → is_value m i ≡ true → 1 < i → i < m → length (bounds m i) ≡ 2
  bounds_inner i v low high = bounds_by (λ ls. length ls ≡ 2) m i v (λ e. absurd (omega arith)) (λ l e. absurd (omega arith)) (λ l h. refl)

  bounds_after : (k n : ℕ) → 2 ≤ k → k + n ≡ m → sum_of (λ i. length (bounds m i) + 1) (numbers k (suc n)) ≡ 3 * n + 2
  bounds_after k zero low e =
      let here = bounds_outer k (value_from m k (omega arith) (omega arith)) (λ l h. omega arith) in omega arith
  bounds_after k (suc n) low e =
      let here = bounds_inner k (value_from m k (omega arith) (omega arith)) (omega arith) (omega arith) in
      let rest = bounds_after (suc k) n (omega arith) (omega arith) in
      omega arith

  bounds_all : sum_of (λ i. length (bounds m i) + 1) (numbers 1 m) ≡ 3 * m - 2
  bounds_all =
      let two = size_low m s in
      let parts : m ≡ suc (suc (m - 2)) = omega arith in
      let first = bounds_outer 1 (value_from m 1 (omega arith) (omega arith)) (λ l h. omega arith) in
      let rest = bounds_after 2 (m - 2) (omega arith) (omega arith) in
      ap (λ n. sum_of (λ i. length (bounds m i) + 1) (numbers 1 n)) parts ∙ omega arith

  tied_bounds : length (tied_axioms full_regular m) ≡ 4 * m - 4
  tied_bounds =
      let two = size_low m s in
      let sums : sum_of (λ i. length (members (full_regular.form m Plus i)) + 1) (numbers 1 m) ≡ 3 * m - 2 =
      sum_same_numbers (λ i. length (members (full_regular.form m Plus i)) + 1) (λ i. length (bounds m i) + 1) 1 m
      (λ i low high. ap (λ f. length (members f) + 1) (form_within full_regular_within m s Plus i (value_from m i low (omega arith)))) ∙ bounds_all in
      omega (arith, tied_count full_regular m, full_regular_axioms)

  pub regular_axioms : axiom_count regular m ≡ 4 * m - 4
  regular_axioms = ap length (axioms_within (tied full_regular) m s) ∙ tied_bounds

  pub half_regular_axioms : axiom_count half_regular m ≡ 4 * m - 4
  half_regular_axioms = ap length (axioms_within (half_tied full_regular) m s) ∙ tied_bounds
