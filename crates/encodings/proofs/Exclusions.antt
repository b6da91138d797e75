-- S's axioms: a row satisfies them exactly when one of its bits is on.
use Rattle.std.proofs.Common.{◌≡◌, ℕ, zero, suc, ◌+◌, ◌-◌, ◌*◌, ◌<◌, ◌≤◌, Bool, true, false, cond, not, ◌&&◌, ◌||◌, eqb, leb, List, [], ◌∷◌, ◌++◌, map, length, get_or, sym, refl, ap, ◌∙◌, ap₂, arith, length-append}
use Rattle.std.specs.List.{flat_map}
use Rattle.std.proofs.lemmas.List.{length-map}
use Rattle.std.proofs.lemmas.Bool.{and_from}
use Rattle.std.proofs.lemmas.Bool.Decides.{nat_tests}
use Rattle.formula.specs.Boolean.{Clause, opposite, satisfies, true_clause, local, words, words_of}
use Rattle.formula.specs.Sheets.{numbers}
use Rattle.formula.specs.Tests.{every}
use Rattle.formula.proofs.Tests.{sum_append, every_append, every_both}
use Rattle.encodings.specs.Standard.{some_value, not_both, exclusions}
use Rattle.encodings.specs.Values.{value_literal}
use Rattle.encodings.specs.Descents.{ones}
use Rattle.encodings.specs.Limits.{value_from}
use Rattle.encodings.specs.Opposites.{opposite_local}
use Rattle.encodings.specs.Runs.{every_numbers, words_numbers}
use Rattle.encodings.proofs.RunSums.{length_numbers}

-- the exclusions of the n values from s on, by recursion
abbrev pub excluded : ℕ → ℕ → List Clause
excluded s zero = []
excluded s (suc n) = map (not_both s) (numbers (suc s) n) ++ excluded (suc s) n

joined_excluded : (m s n : ℕ) → s + n ≡ suc m → flat_map (λ j. map (not_both j) (numbers (suc j) (m - j))) (numbers s n) ≡ excluded s n
joined_excluded m s zero e = refl
joined_excluded m s (suc n) e =
    let left : m - s ≡ n = omega arith in
    ap₂ ◌++◌ (ap (λ k. map (not_both s) (numbers (suc s) k)) left) (joined_excluded m (suc s) n (omega arith))

pub exclusions_are : (m : ℕ) → exclusions m ≡ excluded 1 m
exclusions_are m = joined_excluded m 1 m (omega arith)

-- the exclusions of the values from the second on are those of the row's tail
pairs_tail : (b : ℕ) (bits : List ℕ) (j k n : ℕ) →
    satisfies (b ∷ bits) (map (not_both (suc (suc j))) (numbers (suc (suc k)) n)) ≡ satisfies bits (map (not_both (suc j)) (numbers (suc k) n))
pairs_tail b bits j k zero = refl
pairs_tail b bits j k (suc n) =
    ap (λ t. (not (eqb 1 (get_or bits j 0)) || (not (eqb 1 (get_or bits k 0)) || false)) && t) (pairs_tail b bits j (suc k) n)

excluded_tail : (b : ℕ) (bits : List ℕ) (k n : ℕ) → satisfies (b ∷ bits) (excluded (suc (suc k)) n) ≡ satisfies bits (excluded (suc k) n)
excluded_tail b bits k zero = refl
excluded_tail b bits k (suc n) =
    every_both (true_clause (b ∷ bits)) (map (not_both (suc (suc k))) (numbers (suc (suc (suc k))) n)) (excluded (suc (suc (suc k))) n) ∙
    (ap₂ ◌&&◌ (pairs_tail b bits k (suc k) n) (excluded_tail b bits (suc k) n) ∙
    sym (every_both (true_clause bits) (map (not_both (suc k)) (numbers (suc (suc k)) n)) (excluded (suc (suc k)) n)))

-- the first bit excludes each of the others that is on
pairs_skip : (a b : ℕ) (bits : List ℕ) (k n : ℕ) →
    satisfies (a ∷ b ∷ bits) (map (not_both 1) (numbers (suc (suc (suc k))) n)) ≡ satisfies (a ∷ bits) (map (not_both 1) (numbers (suc (suc k)) n))
pairs_skip a b bits k zero = refl
pairs_skip a b bits k (suc n) =
    ap (λ t. (not (eqb 1 a) || (not (eqb 1 (get_or bits k 0)) || false)) && t) (pairs_skip a b bits (suc k) n)

pairs_first : (a : ℕ) (bits : List ℕ) → satisfies (a ∷ bits) (map (not_both 1) (numbers 2 (length bits))) ≡ (not (eqb 1 a) || eqb (ones bits) 0)
pairs_first a [] = at_bit (eqb 1 a)
  where
    at_bit : (t : Bool) → true ≡ (not t || true)
    at_bit true = refl
    at_bit false = refl
pairs_first a (b ∷ bits) =
    ap (λ t. (not (eqb 1 a) || (not (eqb 1 b) || false)) && t) (pairs_skip a b bits 0 (length bits) ∙ pairs_first a bits) ∙ at_bits (eqb 1 a) (eqb 1 b)
  where
    at_bits : (t u : Bool) → ((not t || (not u || false)) && (not t || eqb (ones bits) 0)) ≡ (not t || eqb (cond u (suc (ones bits)) (ones bits)) 0)
    at_bits true true = grind (arith, nat_tests)
    at_bits true false = refl
    at_bits false u = refl

-- no two bits are on
pub satisfies_excluded : (bits : List ℕ) → satisfies bits (excluded 1 (length bits)) ≡ leb (ones bits) 1
satisfies_excluded [] = grind (arith, nat_tests)
satisfies_excluded (b ∷ bits) =
    every_both (true_clause (b ∷ bits)) (map (not_both 1) (numbers 2 (length bits))) (excluded 2 (length bits)) ∙
    (ap₂ ◌&&◌ (pairs_first b bits) (excluded_tail b bits 0 (length bits) ∙ satisfies_excluded bits) ∙ at_bit (eqb 1 b))
  where
    at_bit : (t : Bool) → ((not t || eqb (ones bits) 0) && leb (ones bits) 1) ≡ leb (cond t (suc (ones bits)) (ones bits)) 1
    at_bit true = grind (arith, nat_tests)
    at_bit false = refl

-- one bit is on
some_tail : (b : ℕ) (bits : List ℕ) (k n : ℕ) →
    true_clause (b ∷ bits) (map value_literal (numbers (suc (suc k)) n)) ≡ true_clause bits (map value_literal (numbers (suc k) n))
some_tail b bits k zero = refl
some_tail b bits k (suc n) = ap (λ t. eqb 1 (get_or bits k 0) || t) (some_tail b bits (suc k) n)

pub satisfies_some : (bits : List ℕ) → true_clause bits (some_value (length bits)) ≡ leb 1 (ones bits)
satisfies_some [] = grind (arith, nat_tests)
satisfies_some (b ∷ bits) = ap (λ t. eqb 1 b || t) (some_tail b bits 0 (length bits) ∙ satisfies_some bits) ∙ at_bit (eqb 1 b)
  where
    at_bit : (t : Bool) → (t || leb 1 (ones bits)) ≡ leb 1 (cond t (suc (ones bits)) (ones bits))
    at_bit true = grind (arith, nat_tests)
    at_bit false = refl

-- a row satisfies the axioms exactly when one bit is on
pub satisfies_one : (m : ℕ) (bits : List ℕ) → length bits ≡ m → satisfies bits (some_value m ∷ exclusions m) ≡ eqb (ones bits) 1
satisfies_one m bits l =
    ap (λ n. true_clause bits (some_value n) && satisfies bits (exclusions n)) (sym l) ∙
    (ap₂ ◌&&◌ (satisfies_some bits) (ap (satisfies bits) (exclusions_are (length bits)) ∙ satisfies_excluded bits) ∙ grind (arith, nat_tests))

-- the exclusions speak of the values
excluded_local : (w s n : ℕ) → 1 ≤ s → s + n ≤ suc w → every (every (local w)) (excluded s n) ≡ true
excluded_local w s zero low high = refl
excluded_local w s (suc n) low high =
    every_append (every (local w)) (map (not_both s) (numbers (suc s) n)) (excluded (suc s) n)
    (every_numbers (every (local w)) (not_both s) (suc s) n (λ k l h. pair_local s k low l (omega arith)))
    (excluded_local w (suc s) n (omega arith) (omega arith))
  where
    pair_local : (j k : ℕ) → 1 ≤ j → j < k → k ≤ w → every (local w) (not_both j k) ≡ true
    pair_local j k l h n =
        and_from (local w (opposite (value_literal j))) (local w (opposite (value_literal k)) && true)
        (opposite_local w (value_literal j) ∙ value_from w j l (omega arith))
        (ap (λ t. t && true) (opposite_local w (value_literal k) ∙ value_from w k (omega arith) n))

pairs_length : (j s n : ℕ) → length (map (not_both j) (numbers s n)) ≡ n
pairs_length j s n = length-map (numbers s n) (not_both j) ∙ length_numbers s n

-- two literals each, so three words
excluded_words : (s n : ℕ) → words_of (excluded s n) ≡ 3 * length (excluded s n)
excluded_words s zero = refl
excluded_words s (suc n) =
    let pairs = map (not_both s) (numbers (suc s) n) in
    sum_append words pairs (excluded (suc s) n) ∙
    omega (arith, words_numbers (not_both s) 3 (suc s) n (λ k. refl), pairs_length s (suc s) n, length-append pairs (excluded (suc s) n), excluded_words (suc s) n)

excluded_count : (s n : ℕ) → 2 * length (excluded s n) + n ≡ n * n
excluded_count s zero = refl
excluded_count s (suc n) =
    let pairs = map (not_both s) (numbers (suc s) n) in
    omega (arith, pairs_length s (suc s) n, length-append pairs (excluded (suc s) n), excluded_count (suc s) n)

-- the same of the axioms of a size
module _ (m : ℕ) where
  pub some_local : every (local m) (some_value m) ≡ true
  some_local = every_numbers (local m) value_literal 1 m (λ k low high. value_from m k low (omega arith))

  pub exclusions_local : every (every (local m)) (exclusions m) ≡ true
  exclusions_local = ap (every (every (local m))) (exclusions_are m) ∙ excluded_local m 1 m (omega arith) (omega arith)

  pub some_length : length (some_value m) ≡ m
  some_length = length-map (numbers 1 m) value_literal ∙ length_numbers 1 m

  pub exclusions_words : words_of (exclusions m) ≡ 3 * length (exclusions m)
  exclusions_words = ap words_of (exclusions_are m) ∙ (excluded_words 1 m ∙ ap (λ cs. 3 * length cs) (sym (exclusions_are m)))

  pub axioms_words : words_of (some_value m ∷ exclusions m) ≡ m + 1 + words_of (exclusions m)
  axioms_words = ap (λ n. n + 1 + words_of (exclusions m)) some_length

  pub exclusions_count : 2 * length (exclusions m) + m ≡ m * m
  exclusions_count = ap (λ cs. 2 * length cs + m) (exclusions_are m) ∙ excluded_count 1 m
