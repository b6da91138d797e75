-- The reading of a tied mapping: what the inner bits read as, where that value's own bit is the only one that is on. Each inner code is the end of one code.
use Rattle.std.proofs.Common.{◌≡◌, ℕ, suc, ◌+◌, ◌<◌, ◌≤◌, Bool, true, false, cond, ◌&&◌, eqb, List, [], ◌∷◌, ◌++◌, length, take, drop, is_some, Some, None, Option, sym, refl, ap, ◌∙◌, ap₂, ⊎_elim, arith}
use Rattle.std.proofs.Math.Bool.{and-true}
use Rattle.std.proofs.lemmas.List.{take-append-drop, length-take, take-append-le, drop-append-le, take_all, drop_all}
use Rattle.std.proofs.lemmas.Bool.{and_from, and_left, and_right, cases_Bool, cond-true, cond-false, both_ways, eqb-true}
use Rattle.formula.proofs.Assignments.{in_two, assignments_rows}
use Rattle.formula.proofs.Sums.{sum_same, sum_same_where, sum_swap, count_fixed}
use Rattle.formula.specs.Boolean.{row, satisfies, assignments, true_literal}
use Rattle.formula.specs.Tests.{count}
use Rattle.formula.specs.declared.signed.Sign.TheVariants.{Plus}
use Rattle.mapping.specs.Counts.{reads_as, code_count}
use Rattle.mapping.specs.Meanings.{Meaning, Lawful, LawfulAt, is_size, guarded}
use Rattle.encodings.specs.Ties.{tied_axioms, tied, half_tied, Tieable}
use Rattle.encodings.specs.Values.{value_literal, value_form}
use Rattle.encodings.specs.Guard.{read_within, reading_within, reading_no_row, width_within}
use Rattle.encodings.proofs.Known.{alike, agree, agree_one}
use Rattle.encodings.specs.Limits.{value_from}
use Rattle.encodings.specs.Readers.{read_shown, read_unsatisfied}
use Rattle.encodings.specs.Rows.{row_length}
use Rattle.encodings.proofs.RowParts.{row_append, row_parts}
use Rattle.encodings.proofs.TiedLaws.{plus_all_at, shows_two}
use Rattle.encodings.proofs.Tying.{own, tied_holds}

-- the bit of value i, and it alone, is on
abbrev pub alone : ℕ → List ℕ → Bool
alone i = agree (λ k. eqb (suc k) i)

-- what the inner reading and the values' bits give
abbrev pub confirmed : Option ℕ → List ℕ → Option ℕ
confirmed None xs = None
confirmed (Some i) xs = cond (row (length xs) xs && alone i xs) (Some i) None

pub agree_alike : (p q : ℕ → Bool) (xs : List ℕ) → ((k : ℕ) → k < length xs → p k ≡ q k) → agree p xs ≡ agree q xs
agree_alike p q [] same = refl
agree_alike p q (x ∷ xs) same =
    ap₂ (λ t u. alike (eqb 1 x) t && u) (same 0 (omega arith)) (agree_alike (λ k. p (suc k)) (λ k. q (suc k)) xs (λ k h. same (suc k) (omega arith)))

-- bits that a lawful mapping reads are a row
pub read_row : (M : Meaning) → Lawful M → (m : ℕ) (bits : List ℕ) (i : ℕ) → M.reading m bits ≡ Some i → row (M.width m) bits ≡ true
read_row M L m bits i e =
    (read_within (is_size m) (row (M.width m) bits) (M.reading m bits) i (ap (λ (N : Meaning). N.reading m bits) (sym L.outside) ∙ e)).0

module _ (M : Meaning) (T : Tieable M) (m : ℕ) (s : is_size m ≡ true) where
  abbrev L : LawfulAt M m
  L = T.lawful.at_size m s

  abbrev w : ℕ
  w = M.width m

  module _ (xs ys : List ℕ) (long : length xs ≡ m) where
    abbrev bits : List ℕ
    bits = xs ++ ys

    no_row : (r : row (m + w) bits ≡ false) (o : Option ℕ) → M.reading m ys ≡ o → None ≡ confirmed o xs
    no_row r None e = refl
    no_row r (Some i) e =
        let ys-row = read_row M T.lawful m ys i e in
        ⊎_elim (λ yes. absurd (both_ways (row (m + w) bits) r (row_append m w xs ys (ap (λ n. row n xs) (sym long) ∙ yes) ys-row)))
        (λ no. sym (cond-false (row (length xs) xs && alone i xs) (Some i) None (and_left (row (length xs) xs) (alone i xs) no)))
        (cases_Bool (row (length xs) xs))

    module _ (r : row m xs ≡ true) (q : row w ys ≡ true) where
      holds : satisfies bits (tied_axioms M m) ≡ (satisfies ys (M.axioms m) && agree (λ k. own M m ys (suc k)) xs)
      holds = tied_holds M m L (plus_all_at M T m s) xs ys long

      at_inner : (o : Option ℕ) → M.reading m ys ≡ o → (tied M).reading m bits ≡ confirmed o xs
      at_inner None e =
          read_unsatisfied (tied_axioms M) value_form m bits (holds ∙ and_left (satisfies ys (M.axioms m)) _ (sym (L.reads ys q) ∙ ap is_some e))
      at_inner (Some i) e = ⊎_elim yes no (cases_Bool (alone i xs))
        where
          own_is : agree (λ k. own M m ys (suc k)) xs ≡ alone i xs
          own_is = let l = long in
              agree_alike (λ k. own M m ys (suc k)) (λ k. eqb (suc k) i) xs (λ k h. L.form_true ys i e Plus (suc k) (value_from m (suc k) (omega arith) (omega arith)))

          both : row (length xs) xs ≡ true
          both = ap (λ n. row n xs) long ∙ r

          yes : alone i xs ≡ true → (tied M).reading m bits ≡ confirmed (Some i) xs
          yes h =
              let a = own_is ∙ h in
              let shown = shows_two M T m s xs ys r i e a in
              read_shown (tied_axioms M) value_form m bits i (holds ∙ and_from (satisfies ys (M.axioms m)) _ (sym (L.reads ys q) ∙ ap is_some e) a) shown.value
              (λ j v. and-true (true_literal bits (value_literal j)) ∙ shown.by_value j v) ∙
              sym (cond-true (row (length xs) xs && alone i xs) (Some i) None (and_from (row (length xs) xs) (alone i xs) both h))

          no : alone i xs ≡ false → (tied M).reading m bits ≡ confirmed (Some i) xs
          no h =
              read_unsatisfied (tied_axioms M) value_form m bits (holds ∙ and_right (satisfies ys (M.axioms m)) _ (own_is ∙ h)) ∙
              sym (cond-false (row (length xs) xs && alone i xs) (Some i) None (and_right (row (length xs) xs) (alone i xs) h))

    pub tied_read : (guarded (tied M)).reading m bits ≡ confirmed (M.reading m ys) xs
    tied_read = ⊎_elim
        (λ r. let parts = row_parts m w bits r in
        reading_within (tied M) m s bits r ∙ at_inner (ap (row m) front ∙ parts.0) (ap (row w) back ∙ parts.1) (M.reading m ys) refl)
        (λ r. reading_no_row (tied M) m bits r ∙ no_row r (M.reading m ys) refl)
        (cases_Bool (row (m + w) bits))
      where
        front : xs ≡ take m bits
        front = let l = long in sym (take-append-le m xs ys (omega arith) ∙ take_all m xs (omega arith))

        back : ys ≡ drop m bits
        back = let l = long in sym (drop-append-le m xs ys (omega arith) ∙ ap (λ zs. zs ++ ys) (drop_all m xs (omega arith)))

  -- the same of bits that are not cut yet
  pub tied_read_cut : (all : List ℕ) → m ≤ length all → (guarded (tied M)).reading m all ≡ confirmed (M.reading m (drop m all)) (take m all)
  tied_read_cut all h =
      ap ((guarded (tied M)).reading m) (sym (take-append-drop m all)) ∙ tied_read (take m all) (drop m all) (let l = length-take m all in omega arith)

  -- of the rows that end in a code of i, one has i's own bit alone on
  confirmed_as : (i : ℕ) (xs : List ℕ) → row (length xs) xs ≡ true → (o : Option ℕ) → reads_as i (confirmed o xs) ≡ (reads_as i o && alone i xs)
  confirmed_as i xs r None = refl
  confirmed_as i xs r (Some j) =
      ap (λ t. reads_as i (cond (t && alone j xs) (Some j) None)) r ∙ (by_bit (alone j xs) ∙ by_value (eqb i j) refl)
    where
      by_bit : (h : Bool) → reads_as i (cond h (Some j) None) ≡ (eqb i j && h)
      by_bit true = sym (and-true (eqb i j))
      by_bit false = sym (and_right (eqb i j) false refl)

      by_value : (e : Bool) → eqb i j ≡ e → (eqb i j && alone j xs) ≡ (eqb i j && alone i xs)
      by_value true p = ap (λ n. eqb i j && alone n xs) (sym (eqb-true i j p))
      by_value false p = and_left (eqb i j) (alone j xs) p ∙ sym (and_left (eqb i j) (alone i xs) p)

  tied_as : (i : ℕ) (xs ys : List ℕ) → row m xs ≡ true → reads_as i ((guarded (tied M)).reading m (xs ++ ys)) ≡ (reads_as i (M.reading m ys) && alone i xs)
  tied_as i xs ys r =
      let long = row_length m xs r in
      ap (reads_as i) (tied_read xs ys long) ∙ confirmed_as i xs (ap (λ n. row n xs) long ∙ r) (M.reading m ys)

  -- so a value has as many codes as in the inner mapping
  pub tied_codes : (i : ℕ) → code_count (guarded (tied M)) m i ≡ code_count M m i
  tied_codes i =
      ap (λ n. count (λ bits. reads_as i ((guarded (tied M)).reading m bits)) (assignments n)) (width_within (tied M) m s) ∙
      (in_two m w (λ bits. cond (reads_as i ((guarded (tied M)).reading m bits)) 1 0) ∙
      (sum_same_where (row m) _ _ (λ xs r. sum_same _ _ (λ ys. ap (λ t. cond t 1 0) (tied_as i xs ys r)) (assignments w)) (assignments m) (assignments_rows m) ∙
      (sum_swap (λ xs ys. cond (reads_as i (M.reading m ys) && alone i xs) 1 0) (assignments m) (assignments w) ∙
      sum_same _ (λ ys. cond (reads_as i (M.reading m ys)) 1 0)
      (λ ys. count_fixed (reads_as i (M.reading m ys)) (alone i) (assignments m) ∙ ap (λ n. cond (reads_as i (M.reading m ys)) n 0) (agree_one (λ k. eqb (suc k) i) m)) (assignments w))))

  -- with the inner mapping's minus forms nothing is read in another way
  pub half_tied_codes : (i : ℕ) → code_count (guarded (half_tied M)) m i ≡ code_count M m i
  half_tied_codes i = tied_codes i
