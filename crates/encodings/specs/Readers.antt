-- Meanings whose reading is the first value with a true plus form keep the laws where each row that satisfies the axioms has one value.
use Rattle.std.specs.Prelude.{◌≡◌, ℕ, zero, suc, ◌+◌, ◌<◌, ◌≤◌, Bool, true, false, cond, List, length, ℤ, is_some, Some, None, Option, ◌==◌, ◌≢◌, refl}
use Rattle.std.proofs.Common.{sym, ap, subst, ◌∙◌, arith}
use Rattle.std.proofs.lemmas.Bool.{cond-true, cond-false, eqb-true, eqb-false}
use Rattle.std.proofs.lemmas.Bool.Decides.{nat_tests}
use Rattle.formula.proofs.Tests.{every_weaker}
use Rattle.formula.specs.Boolean.{Clause, row, satisfies, local, words_of, true_literal}
use Rattle.formula.specs.Sheets.{by_sign}
use Rattle.formula.specs.Tests.{every}
use Rattle.formula.specs.declared.signed.Sign.{Sign}
use Rattle.formula.specs.declared.signed.Sign.TheVariants.{Plus}
use Rattle.mapping.specs.Forms.{Form, members, true_form}
use Rattle.mapping.specs.Meanings.{is_size, is_value, guarded, Lawful}
use Rattle.encodings.specs.ListedForms.{form_by}
use Rattle.encodings.specs.Readings.{first_value, read_by, meaning_by}
use Rattle.encodings.specs.Guard.{LawfulOnRows, guarded_keeps}
use Rattle.encodings.specs.Limits.{value_low, value_high, value_from}
use Rattle.encodings.specs.Opposites.{form_by_true, form_by_local, form_by_length}

first_step : (t : Bool) (s i : ℕ) (o : Option ℕ) → t ≡ (s == i) → ((s ≢ i) → o ≡ Some i) → cond t (Some s) o ≡ Some i
first_step true s i o e later = ap Some (eqb-true s i (sym e))
first_step false s i o e later = later (eqb-false s i (sym e))

-- a test that one value of a range passes alone finds it
pub first_value_found : (test : ℕ → Bool) (s n i : ℕ) → s ≤ i → i < s + n →
    ((j : ℕ) → s ≤ j → j < s + n → test j ≡ (j == i)) → first_value test s n ≡ Some i
first_value_found test s zero i low high only = let z : ◌≡◌ {A = ℕ} 0 1 = omega arith in cc
first_value_found test s (suc n) i low high only =
    first_step (test s) s i (first_value test (suc s) n) (only s (omega arith) (omega arith))
    (λ ne. first_value_found test (suc s) n i (omega arith) (omega arith) (λ j l h. only j (omega arith) (omega arith)))

-- what a row of bits that satisfies the axioms shows: one value, at which forms are as their sign says
abbrev pub Shows : ℕ → (Sign → ℕ → Form) → List ℕ → ℕ → Type 0
Shows m form bits i = (is_value m i ≡ true) × ((s : Sign) (j : ℕ) → is_value m j ≡ true → true_form bits (form s j) ≡ by_sign s (j == i))

-- what a mapping has to show of widths, axioms and forms of one size
pub record LawfulForms (m w : ℕ) (axioms : List Clause) (form : Sign → ℕ → Form) : Type 0 where
  pub width_least : 1 ≤ w
  pub width_most : w ≤ 127
  pub shows : (bits : List ℕ) → row w bits ≡ true → satisfies bits axioms ≡ true → (i : ℕ) × Shows m form bits i
  pub code : (i : ℕ) → is_value m i ≡ true → (bits : List ℕ) × (row w bits ≡ true) × (satisfies bits axioms ≡ true) × (true_form bits (form Plus i) ≡ true)
  pub axioms_local : every (every (local w)) axioms ≡ true
  pub form_local : (s : Sign) (i : ℕ) → is_value m i ≡ true → every (local w) (members (form s i)) ≡ true
  pub axioms_words : words_of axioms ≤ 8192
  pub form_least : (s : Sign) (i : ℕ) → is_value m i ≡ true → 1 ≤ length (members (form s i))
  pub form_most : (s : Sign) (i : ℕ) → is_value m i ≡ true → length (members (form s i)) ≤ 8

-- the one value whose plus form is true is what a row reads as
pub read_shown : (axioms : ℕ → List Clause) (form : ℕ → Sign → ℕ → Form) (m : ℕ) (bits : List ℕ) (i : ℕ) →
    satisfies bits (axioms m) ≡ true → is_value m i ≡ true →
    ((j : ℕ) → is_value m j ≡ true → true_form bits (form m Plus j) ≡ (j == i)) → read_by axioms form m bits ≡ Some i
read_shown axioms form m bits i holds v only =
    let low = value_low m i v in
    let high = value_high m i v in
    cond-true (satisfies bits (axioms m)) (first_value (λ j. true_form bits (form m Plus j)) 1 m) None holds ∙
    first_value_found (λ j. true_form bits (form m Plus j)) 1 m i low (omega arith) (λ j l h. only j (value_from m j l (omega arith)))

-- a row that does not satisfy the axioms has no reading
pub read_unsatisfied : (axioms : ℕ → List Clause) (form : ℕ → Sign → ℕ → Form) (m : ℕ) (bits : List ℕ) →
    satisfies bits (axioms m) ≡ false → read_by axioms form m bits ≡ None
read_unsatisfied axioms form m bits fails =
    cond-false (satisfies bits (axioms m)) (first_value (λ j. true_form bits (form m Plus j)) 1 m) None fails

module _ (width : ℕ → ℕ) (axioms : ℕ → List Clause) (form : ℕ → Sign → ℕ → Form) (m : ℕ)
    (L : LawfulForms m (width m) (axioms m) (form m)) where
  -- a row that satisfies the axioms reads as what it shows, any other as nothing
  read_where : (bits : List ℕ) (t : Bool) → satisfies bits (axioms m) ≡ t → row (width m) bits ≡ true →
      is_some (read_by axioms form m bits) ≡ t
  read_where bits true e r = let h = L.shows bits r e in ap is_some (read_shown axioms form m bits h.0 e h.1.0 (h.1.1 Plus))
  read_where bits false e r = ap is_some (read_unsatisfied axioms form m bits e)

  shown_at : (bits : List ℕ) (i : ℕ) → row (width m) bits ≡ true → read_by axioms form m bits ≡ Some i → Shows m (form m) bits i
  shown_at bits i r e =
      let holds : satisfies bits (axioms m) ≡ true = sym (read_where bits (satisfies bits (axioms m)) refl r) ∙ ap is_some e in
      let h = L.shows bits r holds in
      let same : h.0 ≡ i = some_same h.0 i (sym (read_shown axioms form m bits h.0 holds h.1.0 (h.1.1 Plus)) ∙ e) in
      subst (Shows m (form m) bits) same h.1
    where
      some_same : (a b : ℕ) → Some a ≡ Some b → a ≡ b
      some_same a b p = cc

  code_reads : (bits : List ℕ) (i : ℕ) → is_value m i ≡ true → row (width m) bits ≡ true → satisfies bits (axioms m) ≡ true →
      true_form bits (form m Plus i) ≡ true → read_by axioms form m bits ≡ Some i
  code_reads bits i v r holds plus =
      let h = L.shows bits r holds in
      read_shown axioms form m bits h.0 holds h.1.0 (h.1.1 Plus) ∙ ap Some (sym (eqb-true i h.0 (sym (h.1.1 Plus i v) ∙ plus)))

  lawful_by : LawfulOnRows (meaning_by width axioms form) m
  lawful_by = record {
    width_least = L.width_least;
    width_most = L.width_most;
    reading_value = λ bits i r e. (shown_at bits i r e).0;
    reads = λ bits r. read_where bits (satisfies bits (axioms m)) refl r;
    form_true = λ bits i r e. (shown_at bits i r e).1;
    code = λ i v. let h = L.code i v in (h.0, h.1, code_reads h.0 i v h.1 h.2 h.3);
    axioms_local = L.axioms_local;
    form_local = L.form_local;
    axioms_words = L.axioms_words;
    form_least = L.form_least;
    form_most = L.form_most;
  }

-- a mapping keeps the laws if its widths, axioms and forms do for each size
pub forms_keep : (width : ℕ → ℕ) (axioms : ℕ → List Clause) (form : ℕ → Sign → ℕ → Form) →
    ((m : ℕ) → is_size m ≡ true → LawfulForms m (width m) (axioms m) (form m)) → Lawful (guarded (meaning_by width axioms form))
forms_keep width axioms form L = guarded_keeps (meaning_by width axioms form) (λ m s. lawful_by width axioms form m (L m s))

-- the same of a list of literals for each value, which are all true at that value alone
pub record LawfulLists (m w : ℕ) (axioms : List Clause) (list : ℕ → List ℤ) : Type 0 where
  pub width_least : 1 ≤ w
  pub width_most : w ≤ 127
  pub shows : (bits : List ℕ) → row w bits ≡ true → satisfies bits axioms ≡ true →
      (i : ℕ) × (is_value m i ≡ true) × ((j : ℕ) → is_value m j ≡ true → every (true_literal bits) (list j) ≡ (j == i))
  pub code : (i : ℕ) → is_value m i ≡ true →
      (bits : List ℕ) × (row w bits ≡ true) × (satisfies bits axioms ≡ true) × (every (true_literal bits) (list i) ≡ true)
  pub axioms_local : every (every (local w)) axioms ≡ true
  pub list_local : (i : ℕ) → is_value m i ≡ true → every (local w) (list i) ≡ true
  pub axioms_words : words_of axioms ≤ 8192
  pub list_least : (i : ℕ) → is_value m i ≡ true → 1 ≤ length (list i)
  pub list_most : (i : ℕ) → is_value m i ≡ true → length (list i) ≤ 8

-- a literal of fewer Booleans is one of more
pub local_more : (w n : ℕ) → w ≤ n → (l : ℤ) → local w l ≡ true → local n l ≡ true
local_more w n h l own = grind (arith, nat_tests)

-- such lists speak of the Booleans 1 to 127
pub lists_narrow : (m w : ℕ) (axioms : List Clause) (list : ℕ → List ℤ) → LawfulLists m w axioms list →
    (i : ℕ) → is_value m i ≡ true → every (local 127) (list i) ≡ true
lists_narrow m w axioms list L i v = every_weaker (local w) (local 127) (local_more w 127 L.width_most) (list i) (L.list_local i v)

lists_forms : (m w : ℕ) (axioms : List Clause) (list : ℕ → List ℤ) → LawfulLists m w axioms list →
    LawfulForms m w axioms (λ s i. form_by (list i) s)
lists_forms m w axioms list L = record {
  width_least = L.width_least;
  width_most = L.width_most;
  shows = λ bits r e. let h = L.shows bits r e in
      (h.0, (h.1, λ s j v. form_by_true bits w (list j) (L.list_local j v) s ∙ ap (by_sign s) (h.2 j v)));
  code = L.code;
  axioms_local = L.axioms_local;
  form_local = λ s i v. form_by_local w (list i) s ∙ L.list_local i v;
  axioms_words = L.axioms_words;
  form_least = λ s i v. subst (λ n. 1 ≤ n) (sym (form_by_length (list i) s)) (L.list_least i v);
  form_most = λ s i v. subst (λ n. n ≤ 8) (sym (form_by_length (list i) s)) (L.list_most i v);
}

pub lists_keep : (width : ℕ → ℕ) (axioms : ℕ → List Clause) (list : ℕ → ℕ → List ℤ) →
    ((m : ℕ) → is_size m ≡ true → LawfulLists m (width m) (axioms m) (list m)) →
    Lawful (guarded (meaning_by width axioms (λ m s i. form_by (list m i) s)))
lists_keep width axioms list L =
    forms_keep width axioms (λ m s i. form_by (list m i) s) (λ m s. lists_forms m (width m) (axioms m) (list m) (L m s))
