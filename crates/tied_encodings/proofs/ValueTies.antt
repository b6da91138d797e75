-- The ties of all values, value by value.
use Rattle.std.proofs.Common.{◌≡◌, ℕ, ◌+◌, ◌-◌, ◌<◌, ◌≤◌, List, ◌++◌, length, take, drop, ℤ, sym, ap, ◌∙◌, subst, arith}
use borrow.Rule.Slice.PartMut.{put_mid}
use Rattle.std.specs.List.{flat_map}
use Rattle.formula.proofs.Tests.{sum_append}
use Rattle.formula.specs.Boolean.{Clause, words, words_of}
use Rattle.formula.specs.Sheets.{numbers}
use Rattle.mapping.proofs.Moving.{length_flat}
use Rattle.mapping.specs.Meanings.{Meaning}
use Rattle.mapping.specs.Memory.{flat, over}
use Rattle.encodings.proofs.Writing.{Writing, writing_none, writing_all, writing_part}
use Rattle.encodings.specs.Runs.{numbers_more, numbers_none}
use Rattle.encodings.specs.Ties.{tie, ties, inner_list}
use Rattle.encodings.specs.Values.{value_literal}

module _ (M : Meaning) (m : ℕ) where
  abbrev pub tie_of : ℕ → List Clause
  tie_of i = tie (value_literal i) (inner_list M m i)

  -- the ties of the values from a value on
  abbrev pub ties_left : ℕ → List Clause
  ties_left k = flat_map tie_of (numbers k (m + 1 - k))

  pub ties_next : (k : ℕ) → k ≤ m → ties_left k ≡ tie_of k ++ ties_left (k + 1)
  ties_next k h = ap (flat_map tie_of) (numbers_more k (m + 1) (omega arith))

  -- a pass over the values: with the ties of some written, those that are left make memory what it is to be
  module _ (before memory : List ℤ) (n k : ℕ) where
    -- where all of them fit, the next does
    pub ties_room : words_of (ties M m) ≤ length before → k ≤ m → Writing before memory n (ties_left k) (ties M m) → n + words_of (tie_of k) ≤ length before
    ties_room room h w =
        let sum = w.words in
        let parts = ap words_of (ties_next k h) ∙ sum_append words (tie_of k) (ties_left (k + 1)) in
        omega (arith, length_flat (ties M m), length_flat (ties_left k))

    pub ties_more : (part : List ℤ) (c long : ℕ) → k ≤ m → long ≡ length memory → words_of (ties M m) ≤ length before → c ≡ words_of (tie_of k) →
        part ≡ over (flat (tie_of k)) (take (long - n) (drop n memory)) → Writing before memory n (ties_left k) (ties M m) →
        Writing before (put_mid n (long - n) memory part) (n + c) (ties_left (k + 1)) (ties M m)
    ties_more part c long h l room count is w =
        let after = writing_part before memory part n long (tie_of k) (ties_left (k + 1)) (ties M m) l room is
        (subst (λ cs. Writing before memory n cs (ties M m)) (ties_next k h) w) in
        subst (λ i. Writing before (put_mid n (long - n) memory part) (n + i) (ties_left (k + 1)) (ties M m)) (sym count) after

    pub ties_all : m < k → Writing before memory n (ties_left k) (ties M m) → (n ≡ words_of (ties M m)) × (memory ≡ over (flat (ties M m)) before)
    ties_all h w = writing_all before memory n (ties M m) (subst (λ ks. Writing before memory n (flat_map tie_of ks) (ties M m)) (numbers_none k (m + 1) (omega arith)) w)

  pub ties_none : (memory : List ℤ) → Writing memory memory 0 (ties_left 1) (ties M m)
  ties_none memory =
      let all : m + 1 - 1 ≡ m = omega arith in
      subst (λ n. Writing memory memory 0 (flat_map tie_of (numbers 1 n)) (ties M m)) (sym all) (writing_none memory (ties M m))
