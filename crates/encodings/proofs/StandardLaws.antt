-- S keeps the laws: its rows are those with one bit on, and the value is the place of that bit.
use Rattle.std.proofs.Common.{◌≡◌, ℕ, zero, suc, ◌+◌, ◌-◌, ◌*◌, ◌/◌, ◌≤◌, Bool, true, false, cond, ◌&&◌, eqb, List, [], ◌∷◌, length, get_or, Some, None, sym, refl, ap, ◌∙◌, ap₂, mul-le-mul, arith}
use Rattle.std.proofs.Math.Bool.{and-true}
use Rattle.std.proofs.lemmas.Bool.{eq-eqb, eqb-true, and_from}
use Rattle.std.proofs.lemmas.Bool.Decides.{nat_tests}
use Rattle.formula.specs.Boolean.{row, satisfies, true_literal, words_of}
use Rattle.formula.specs.Tests.{every}
use Rattle.mapping.specs.Counts.{axiom_count, reads_as, code_count}
use Rattle.mapping.specs.Meanings.{is_size, is_value, Lawful}
use Rattle.encodings.specs.Standard.{some_value, exclusions, standard_within, standard}
use Rattle.encodings.specs.Values.{value_literal}
use Rattle.encodings.specs.Descents.{ones}
use Rattle.encodings.proofs.Exclusions.{satisfies_one, some_local, exclusions_local, axioms_words, exclusions_words, exclusions_count}
use Rattle.encodings.specs.Guard.{axioms_within, reading_within, reading_no_row}
use Rattle.encodings.proofs.Hot.{first_on, first_on_within, on_at_one, hot, hot_row, hot_ones, hot_on}
use Rattle.encodings.proofs.HotScans.{search_one, search_is}
use Rattle.encodings.proofs.Known.{agree_from, passes_one}
use Rattle.encodings.specs.Limits.{size_low, size_high, value_low, value_high, value_from}
use Rattle.encodings.specs.Readers.{LawfulLists, lists_keep, read_shown, read_unsatisfied}
use Rattle.encodings.specs.Rows.{row_length}

-- in a row with one bit on, the Boolean of a value is true at the place of that bit alone
value_true : (bits : List ℕ) (j : ℕ) → ones bits ≡ 1 → 1 ≤ j → every (true_literal bits) (value_literal j ∷ []) ≡ eqb j (suc (first_on bits))
value_true bits zero h low = absurd (omega arith)
value_true bits (suc k) h low = and-true (eqb 1 (get_or bits k 0)) ∙ (on_at_one bits k h ∙ grind (arith, nat_tests))

-- with 64 values there are 6,113 words
pub words_few : (m : ℕ) → m ≤ 64 → words_of (some_value m ∷ exclusions m) ≤ 8192
words_few m h =
    let square : m * m ≤ 64 * 64 = mul-le-mul h h in
    omega (arith, axioms_words m, exclusions_words m, exclusions_count m)

-- the laws of one size
module _ (m : ℕ) (s : is_size m ≡ true) where
  -- a row that satisfies the axioms has one bit on
  pub one_where : (bits : List ℕ) → row m bits ≡ true → satisfies bits (some_value m ∷ exclusions m) ≡ eqb (ones bits) 1
  one_where bits r = satisfies_one m bits (row_length m bits r)

  value_of_one : (bits : List ℕ) → row m bits ≡ true → ones bits ≡ 1 → is_value m (suc (first_on bits)) ≡ true
  value_of_one bits r h =
      let l = row_length m bits r in
      let within = first_on_within bits (omega arith) in
      value_from m (suc (first_on bits)) (omega arith) (omega arith)

  code_at : (i : ℕ) → is_value m i ≡ true →
      (bits : List ℕ) × (row m bits ≡ true) × (satisfies bits (some_value m ∷ exclusions m) ≡ true) × (every (true_literal bits) (value_literal i ∷ []) ≡ true)
  code_at zero v = let low = value_low m 0 v in absurd (omega arith)
  code_at (suc k) v =
      let high = value_high m (suc k) v in
      let bits = hot m k in (
        bits,
        hot_row m k,
        one_where bits (hot_row m k) ∙ eq-eqb (ones bits) 1 (hot_ones m k high),
        ap (λ b. eqb 1 b && true) (hot_on m k high),
      )

  lists_at : LawfulLists m m (some_value m ∷ exclusions m) (λ i. value_literal i ∷ [])
  lists_at = record {
    width_least = let t = size_low m s in omega arith;
    width_most = let t = size_high m s in omega arith;
    shows = λ bits r e. let h = eqb-true (ones bits) 1 (sym (one_where bits r) ∙ e) in (
      suc (first_on bits),
      value_of_one bits r h,
      λ j v. value_true bits j h (value_low m j v),
    );
    code = code_at;
    axioms_local = and_from _ _ (some_local m) (exclusions_local m);
    list_local = λ i v. ap (λ t. t && true) v;
    axioms_words = words_few m (size_high m s);
    list_least = λ i v. omega arith;
    list_most = λ i v. omega arith;
  }

pub standard_lawful : Lawful standard
standard_lawful = lists_keep (λ m. m) (λ m. some_value m ∷ exclusions m) (λ m i. value_literal i ∷ []) lists_at

-- a row of S reads as the place of its one bit that is on
reading_hot : (m : ℕ) (bits : List ℕ) → is_size m ≡ true → (r o : Bool) → row m bits ≡ r → eqb (ones bits) 1 ≡ o →
    standard.reading m bits ≡ cond (r && o) (Some (suc (first_on bits))) None
reading_hot m bits s true true r o =
    let h = eqb-true (ones bits) 1 o in
    reading_within standard_within m s bits r ∙
    read_shown standard_within.axioms standard_within.form m bits (suc (first_on bits)) (one_where m s bits r ∙ o) (value_of_one m s bits r h)
    (λ j v. value_true bits j h (value_low m j v))
reading_hot m bits s true false r o =
    reading_within standard_within m s bits r ∙ read_unsatisfied standard_within.axioms standard_within.form m bits (one_where m s bits r ∙ o)
reading_hot m bits s false o r e = reading_no_row standard_within m bits r

-- so it is read in one pass
pub reading_searched : (m : ℕ) (bits : List ℕ) → is_size m ≡ true → length bits ≡ m → standard.reading m bits ≡ search_one None 0 bits
reading_searched m bits s l =
    let e : suc (first_on bits) ≡ 0 + suc (first_on bits) = omega arith in
    reading_hot m bits s (row m bits) (eqb (ones bits) 1) refl refl ∙
    (ap₂ (λ w n. cond (row w bits && eqb (ones bits) 1) (Some n) None) (sym l) e ∙ sym (search_is None 0 bits))

-- one axiom for "some value", and one for each pair of values
standard_axiom_count : (m : ℕ) → is_size m ≡ true → length (some_value m ∷ exclusions m) ≡ 1 + m * (m - 1) / 2
standard_axiom_count zero s = refl
standard_axiom_count (suc n) s =
    let less : suc n - 1 ≡ n = omega arith in
    let pairs : suc n * (suc n - 1) ≡ 2 * length (exclusions (suc n)) =
    ap (λ k. suc n * k) less ∙ omega (arith, exclusions_count (suc n)) in
    let half : suc n * (suc n - 1) / 2 ≡ length (exclusions (suc n)) = omega arith in
    omega arith

-- so a value has one code
pub standard_codes : (m i : ℕ) → is_size m ≡ true → is_value m i ≡ true → code_count standard m i ≡ 1
standard_codes m i s v =
    let code = (standard_lawful.at_size m s).code i v in
    passes_one (standard.width m) (λ bits. reads_as i (standard.reading m bits)) (λ k. eqb (suc k) i)
    (λ bits r e. agree_from (λ k. eqb (suc k) i) bits (λ k h. one_on bits (row m bits) (eqb (ones bits) 1) refl refl
    (ap (reads_as i) (sym (reading_hot m bits s (row m bits) (eqb (ones bits) 1) refl refl)) ∙ e) k))
    code.0 code.1 (ap (reads_as i) code.2 ∙ eq-eqb i i refl)
  where
    one_on : (bits : List ℕ) (r o : Bool) → row m bits ≡ r → eqb (ones bits) 1 ≡ o → reads_as i (cond (r && o) (Some (suc (first_on bits))) None) ≡ true →
        (k : ℕ) → eqb 1 (get_or bits k 0) ≡ eqb (suc k) i
    one_on bits true true r o e k = let is = eqb-true i (suc (first_on bits)) e in on_at_one bits k (eqb-true (ones bits) 1 o) ∙ grind (arith, nat_tests)
    one_on bits true false r o e k = cc
    one_on bits false o r q e k = cc

pub standard_axioms : (m : ℕ) → is_size m ≡ true → axiom_count standard m ≡ 1 + m * (m - 1) / 2
standard_axioms m s = ap length (axioms_within standard_within m s) ∙ standard_axiom_count m s
