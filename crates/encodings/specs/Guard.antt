-- A meaning that keeps the laws on rows of the right width keeps them all once it is guarded.
use Rattle.std.specs.Prelude.{◌≡◌, ℕ, ◌≤◌, Bool, true, false, cond, ◌&&◌, List, [], length, is_some, Some, None, Option, ◌==◌, refl}
use Rattle.std.proofs.Common.{sym, ap, subst, ◌∙◌}
use Rattle.std.proofs.lemmas.Bool.{and_from, and_left, and_right, cond-true, cond-false}
use Rattle.formula.specs.Boolean.{row, satisfies, local, words_of}
use Rattle.formula.specs.Sheets.{by_sign}
use Rattle.formula.specs.Tests.{every}
use Rattle.formula.specs.declared.signed.Sign.{Sign}
use Rattle.mapping.specs.Forms.{any_of, members, true_form}
use Rattle.mapping.specs.Meanings.{Meaning, is_size, is_value, guarded, LawfulAt, Lawful}

cond_twice : {X : Type 0} (b : Bool) (x y : X) → cond b (cond b x y) y ≡ cond b x y
cond_twice true x y = refl
cond_twice false x y = refl

-- a guarded reading guards the width that it asks for
reading_twice : (s : Bool) (w : ℕ) (bits : List ℕ) (r : Option ℕ) →
    cond (s && row (cond s w 0) bits) (cond (s && row w bits) r None) None ≡ cond (s && row w bits) r None
reading_twice true w bits r = cond_twice (row w bits) r None
reading_twice false w bits r = refl

-- to guard twice is to guard once
pub guarded_twice : (M : Meaning) → guarded (guarded M) ≡ guarded M
guarded_twice M = λ i. record {
  width = λ m. cond_twice (is_size m) (M.width m) 0 i;
  axioms = λ m. cond_twice (is_size m) (M.axioms m) [] i;
  form = λ m s j. cond_twice (is_size m && is_value m j) (M.form m s j) (any_of []) i;
  reading = λ m bits. reading_twice (is_size m) (M.width m) bits (M.reading m bits) i;
}

-- the laws of one size, where readings are asked of rows alone
pub record LawfulOnRows (M : Meaning) (m : ℕ) : Type 0 where
  pub width_least : 1 ≤ M.width m
  pub width_most : M.width m ≤ 127
  pub reading_value : (bits : List ℕ) (i : ℕ) → row (M.width m) bits ≡ true → M.reading m bits ≡ Some i → is_value m i ≡ true
  pub reads : (bits : List ℕ) → row (M.width m) bits ≡ true → is_some (M.reading m bits) ≡ satisfies bits (M.axioms m)
  pub form_true : (bits : List ℕ) (i : ℕ) → row (M.width m) bits ≡ true → M.reading m bits ≡ Some i →
      (s : Sign) (j : ℕ) → is_value m j ≡ true → true_form bits (M.form m s j) ≡ by_sign s (j == i)
  pub code : (i : ℕ) → is_value m i ≡ true → (bits : List ℕ) × (row (M.width m) bits ≡ true) × (M.reading m bits ≡ Some i)
  pub axioms_local : every (every (local (M.width m))) (M.axioms m) ≡ true
  pub form_local : (s : Sign) (i : ℕ) → is_value m i ≡ true → every (local (M.width m)) (members (M.form m s i)) ≡ true
  pub axioms_words : words_of (M.axioms m) ≤ 8192
  pub form_least : (s : Sign) (i : ℕ) → is_value m i ≡ true → 1 ≤ length (members (M.form m s i))
  pub form_most : (s : Sign) (i : ℕ) → is_value m i ≡ true → length (members (M.form m s i)) ≤ 8

-- within the range, a guarded meaning is what it guards
module _ (M : Meaning) (m : ℕ) (s : is_size m ≡ true) where
  pub width_within : (guarded M).width m ≡ M.width m
  width_within = cond-true (is_size m) (M.width m) 0 s

  pub axioms_within : (guarded M).axioms m ≡ M.axioms m
  axioms_within = cond-true (is_size m) (M.axioms m) [] s

  pub form_within : (g : Sign) (i : ℕ) → is_value m i ≡ true → (guarded M).form m g i ≡ M.form m g i
  form_within g i v = cond-true (is_size m && is_value m i) (M.form m g i) (any_of []) (and_from (is_size m) (is_value m i) s v)

  pub reading_within : (bits : List ℕ) → row (M.width m) bits ≡ true → (guarded M).reading m bits ≡ M.reading m bits
  reading_within bits r =
      cond-true (is_size m && row (M.width m) bits) (M.reading m bits) None (and_from (is_size m) (row (M.width m) bits) s r)

-- bits that are no row have no reading, and no bits have one at a size out of range
module _ (M : Meaning) (m : ℕ) (bits : List ℕ) where
  pub reading_no_size : is_size m ≡ false → (guarded M).reading m bits ≡ None
  reading_no_size s = cond-false (is_size m && row (M.width m) bits) (M.reading m bits) None (and_left (is_size m) (row (M.width m) bits) s)

  pub reading_no_row : row (M.width m) bits ≡ false → (guarded M).reading m bits ≡ None
  reading_no_row r = cond-false (is_size m && row (M.width m) bits) (M.reading m bits) None (and_right (is_size m) (row (M.width m) bits) r)

-- where a guarded reading is a value, the bits are a row and the reading is what is guarded
pub read_within : (s r : Bool) (o : Option ℕ) (i : ℕ) → cond (s && r) o None ≡ Some i → (r ≡ true) × (o ≡ Some i)
read_within true true o i e = (refl, e)
read_within true false o i e = (cc, cc)
read_within false r o i e = (cc, cc)

module _ (M : Meaning) (m : ℕ) (s : is_size m ≡ true) (L : LawfulOnRows M m) where
  row_within : (bits : List ℕ) → row ((guarded M).width m) bits ≡ row (M.width m) bits
  row_within bits = ap (λ w. row w bits) (width_within M m s)

  guarded_at : LawfulAt (guarded M) m
  guarded_at = record {
    width_least = subst (λ w. 1 ≤ w) (sym (width_within M m s)) L.width_least;
    width_most = subst (λ w. w ≤ 127) (sym (width_within M m s)) L.width_most;
    reading_value = λ bits i e. let h = read_within (is_size m) (row (M.width m) bits) (M.reading m bits) i e in L.reading_value bits i h.0 h.1;
    reads = λ bits r. let r' = sym (row_within bits) ∙ r in ap is_some (reading_within M m s bits r') ∙ (L.reads bits r' ∙ ap (satisfies bits) (sym (axioms_within M m s)));
    form_true = λ bits i e g j v. let h = read_within (is_size m) (row (M.width m) bits) (M.reading m bits) i e in
        ap (true_form bits) (form_within M m s g j v) ∙ L.form_true bits i h.0 h.1 g j v;
    code = λ i v. let h = L.code i v in (h.0, row_within h.0 ∙ h.1, reading_within M m s h.0 h.1 ∙ h.2);
    axioms_local = subst (λ w. every (every (local w)) ((guarded M).axioms m) ≡ true) (sym (width_within M m s))
        (subst (λ cs. every (every (local (M.width m))) cs ≡ true) (sym (axioms_within M m s)) L.axioms_local);
    form_local = λ g i v. subst (λ w. every (local w) (members ((guarded M).form m g i)) ≡ true) (sym (width_within M m s))
        (subst (λ f. every (local (M.width m)) (members f) ≡ true) (sym (form_within M m s g i v)) (L.form_local g i v));
    axioms_words = subst (λ cs. words_of cs ≤ 8192) (sym (axioms_within M m s)) L.axioms_words;
    form_least = λ g i v. subst (λ f. 1 ≤ length (members f)) (sym (form_within M m s g i v)) (L.form_least g i v);
    form_most = λ g i v. subst (λ f. length (members f) ≤ 8) (sym (form_within M m s g i v)) (L.form_most g i v);
  }

-- so each mapping shows the laws within its range, on rows, and no more
pub guarded_keeps : (M : Meaning) → ((m : ℕ) → is_size m ≡ true → LawfulOnRows M m) → Lawful (guarded M)
guarded_keeps M L = record { at_size = λ m s. guarded_at M m s (L m s); outside = sym (guarded_twice M) }
