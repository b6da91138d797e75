-- What ties say: over a row of the values' bits and one of the inner mapping's, each value is on exactly when its inner literals are all true.
use Rattle.std.proofs.Common.{◌≡◌, ℕ, zero, suc, ◌+◌, ◌<◌, ◌≤◌, Bool, true, false, not, ◌&&◌, ◌||◌, eqb, List, [], ◌∷◌, ◌++◌, map, length, ℤ, pos, negsuc, sym, refl, ap, ◌∙◌, ap₂, arith}
use Rattle.std.proofs.lemmas.List.{get_or_append_left}
use Rattle.std.proofs.lemmas.Bool.Decides.{nat_tests}
use Rattle.formula.proofs.Tests.{every_both, every_joined, every_map, every_weaker}
use Rattle.formula.specs.Boolean.{opposite, true_literal, true_clause, satisfies, local}
use Rattle.formula.specs.Sheets.{numbers}
use Rattle.formula.specs.Tests.{every}
use Rattle.formula.specs.declared.signed.Sign.TheVariants.{Plus}
use Rattle.mapping.proofs.Shifting.{every_shifted, satisfies_shifted}
use Rattle.mapping.specs.Forms.{all_of, members, true_form, shifted}
use Rattle.mapping.specs.Meanings.{Meaning, LawfulAt, is_value}
use Rattle.encodings.specs.Ties.{tie, ties, inner_list, tied_axioms}
use Rattle.encodings.specs.Values.{value_literal}
use Rattle.encodings.proofs.Known.{alike, agree}
use Rattle.encodings.specs.Limits.{value_from}
use Rattle.encodings.specs.Opposites.{opposite_true, some_opposites}

module _ (bits : List ℕ) where
  brings_step : (o t e : Bool) → ((o || (t || false)) && (o || e)) ≡ (o || (t && e))
  brings_step true t e = refl
  brings_step false true e = refl
  brings_step false false e = refl

  or_true : (o : Bool) → true ≡ (o || true)
  or_true true = refl
  or_true false = refl

  -- a literal brings each of others
  brings : (x : ℤ) (ls : List ℤ) →
      satisfies bits (map (λ y. opposite x ∷ y ∷ []) ls) ≡ (true_literal bits (opposite x) || every (true_literal bits) ls)
  brings x [] = or_true (true_literal bits (opposite x))
  brings x (l ∷ ls) =
      ap (λ t. (true_literal bits (opposite x) || (true_literal bits l || false)) && t) (brings x ls) ∙
      brings_step (true_literal bits (opposite x)) (true_literal bits l) (every (true_literal bits) ls)

  both_ways_alike : (a e : Bool) → ((not a || e) && ((a || not e) && true)) ≡ alike a e
  both_ways_alike true true = refl
  both_ways_alike true false = refl
  both_ways_alike false true = refl
  both_ways_alike false false = refl

  -- a tie holds exactly when the literal is as the others are together
  pub tie_holds : (w : ℕ) (x : ℤ) (ls : List ℤ) → local w x ≡ true → every (local w) ls ≡ true →
      satisfies bits (tie x ls) ≡ alike (true_literal bits x) (every (true_literal bits) ls)
  tie_holds w x ls own others =
      every_both (true_clause bits) (map (λ y. opposite x ∷ y ∷ []) ls) ((x ∷ map opposite ls) ∷ []) ∙
      (ap₂ (λ s t. s && ((true_literal bits x || t) && true)) (brings x ls ∙ ap (λ t. t || every (true_literal bits) ls) (opposite_true bits w x own)) (some_opposites bits w ls others) ∙
      both_ways_alike (true_literal bits x) (every (true_literal bits) ls))

-- tests that agree on a run of numbers
pub every_same : (p q : ℕ → Bool) (s n : ℕ) → ((k : ℕ) → s ≤ k → k < s + n → p k ≡ q k) → every p (numbers s n) ≡ every q (numbers s n)
every_same p q s zero same = refl
every_same p q s (suc n) same =
    ap₂ ◌&&◌ (same s (omega arith) (omega arith)) (every_same p q (suc s) n (λ k low high. same k (omega arith) (omega arith)))

every_next : (p : ℕ → Bool) (s n : ℕ) → every p (numbers (suc s) n) ≡ every (λ i. p (suc i)) (numbers s n)
every_next p s zero = refl
every_next p s (suc n) = ap (λ t. p (suc s) && t) (every_next p (suc s) n)

-- the bits of the values, place by place
pub agree_numbers : (test : ℕ → Bool) (xs : List ℕ) →
    every (λ i. alike (true_literal xs (pos i)) (test i)) (numbers 1 (length xs)) ≡ agree (λ k. test (suc k)) xs
agree_numbers test [] = refl
agree_numbers test (b ∷ xs) = ap (λ t. alike (eqb 1 b) (test 1) && t)
    (every_next (λ i. alike (true_literal (b ∷ xs) (pos i)) (test i)) 1 (length xs) ∙
    (every_same (λ i. alike (true_literal (b ∷ xs) (pos (suc i))) (test (suc i))) (λ i. alike (true_literal xs (pos i)) (test (suc i))) 1 (length xs)
    (λ k low high. ap (λ t. alike t (test (suc k))) (tail k low)) ∙ agree_numbers (λ i. test (suc i)) xs))
  where
    tail : (k : ℕ) → 1 ≤ k → true_literal (b ∷ xs) (pos (suc k)) ≡ true_literal xs (pos k)
    tail zero low = absurd (omega arith)
    tail (suc k) low = refl

-- a literal of the values looks at their bits alone
pub value_in_front : (xs ys : List ℕ) (i : ℕ) → 1 ≤ i → i ≤ length xs → true_literal (xs ++ ys) (pos i) ≡ true_literal xs (pos i)
value_in_front xs ys zero low high = absurd (omega arith)
value_in_front xs ys (suc k) low high = ap (eqb 1) (get_or_append_left xs ys 0 k (omega arith))

-- a literal moved behind others is one of them all
pub shifted_local : (n w : ℕ) (l : ℤ) → local w l ≡ true → local (n + w) (shifted n l) ≡ true
shifted_local n w (pos a) h = grind (arith, nat_tests)
shifted_local n w (negsuc a) h = grind (arith, nat_tests)

pub every_shifted_local : (n w : ℕ) (ls : List ℤ) → every (local w) ls ≡ true → every (local (n + w)) (map (shifted n) ls) ≡ true
every_shifted_local n w ls h = every_map (local (n + w)) (shifted n) ls (every_weaker (local w) (λ l. local (n + w) (shifted n l)) (shifted_local n w) ls h)

-- a value's own literal is one of them too
pub value_local : (w m i : ℕ) → is_value m i ≡ true → local (m + w) (value_literal i) ≡ true
value_local w m i v = grind (arith, nat_tests)

-- the inner mapping's plus form of a value over its bits
abbrev pub own : Meaning → ℕ → List ℕ → ℕ → Bool
own M m ys i = true_form ys (M.form m Plus i)

module _ (M : Meaning) (m : ℕ) (L : LawfulAt M m)
    (all : (i : ℕ) → is_value m i ≡ true → M.form m Plus i ≡ all_of (members (M.form m Plus i))) where
  module _ (xs ys : List ℕ) (long : length xs ≡ m) where
    -- the inner literals of a value
    pub inner_true : (i : ℕ) → is_value m i ≡ true → every (true_literal (xs ++ ys)) (inner_list M m i) ≡ own M m ys i
    inner_true i v =
        ap (λ n. every (true_literal (xs ++ ys)) (map (shifted n) (members (M.form m Plus i)))) (sym long) ∙
        (every_shifted xs ys (M.width m) (members (M.form m Plus i)) (L.form_local Plus i v) ∙ sym (ap (true_form ys) (all i v)))

    inner_local : (i : ℕ) → is_value m i ≡ true → every (local (m + M.width m)) (inner_list M m i) ≡ true
    inner_local i v = every_shifted_local m (M.width m) (members (M.form m Plus i)) (L.form_local Plus i v)

    tie_at : (i : ℕ) → 1 ≤ i → i < 1 + m → satisfies (xs ++ ys) (tie (value_literal i) (inner_list M m i)) ≡ alike (true_literal xs (pos i)) (own M m ys i)
    tie_at i low high =
        let v = value_from m i low (omega arith) in
        tie_holds (xs ++ ys) (m + M.width m) (value_literal i) (inner_list M m i) (value_local (M.width m) m i v) (inner_local i v) ∙
        ap₂ alike (value_in_front xs ys i low (omega arith)) (inner_true i v)

    ties_hold : satisfies (xs ++ ys) (ties M m) ≡ agree (λ k. own M m ys (suc k)) xs
    ties_hold =
        every_joined (true_clause (xs ++ ys)) (λ i. tie (value_literal i) (inner_list M m i)) (numbers 1 m) ∙
        (every_same (λ i. satisfies (xs ++ ys) (tie (value_literal i) (inner_list M m i))) (λ i. alike (true_literal xs (pos i)) (own M m ys i)) 1 m tie_at ∙
        (ap (λ n. every (λ i. alike (true_literal xs (pos i)) (own M m ys i)) (numbers 1 n)) (sym long) ∙ agree_numbers (own M m ys) xs))

    -- a row satisfies the tied axioms exactly when its inner bits satisfy theirs, and the values' bits are as the inner forms say
    pub tied_holds : satisfies (xs ++ ys) (tied_axioms M m) ≡ (satisfies ys (M.axioms m) && agree (λ k. own M m ys (suc k)) xs)
    tied_holds =
        every_both (true_clause (xs ++ ys)) (map (map (shifted m)) (M.axioms m)) (ties M m) ∙
        ap₂ ◌&&◌ (ap (λ n. satisfies (xs ++ ys) (map (map (shifted n)) (M.axioms m))) (sym long) ∙ satisfies_shifted xs ys (M.width m) (M.axioms m) L.axioms_local) ties_hold
