-- A tied mapping keeps the laws if the inner one does, whether its minus forms are its own or the inner mapping's.
use Rattle.std.proofs.Common.{◌≡◌, ℕ, zero, suc, ◌+◌, ◌*◌, ◌≤◌, Bool, true, not, ◌&&◌, eqb, List, [], ◌∷◌, ◌++◌, map, length, take, drop, ℤ, pos, is_some, Some, None, Option, sym, refl, ap, ◌∙◌, subst, arith}
use Rattle.std.proofs.Math.Bool.{and-true}
use Rattle.std.proofs.lemmas.List.{take-append-drop, length-map}
use Rattle.std.proofs.lemmas.Bool.{and_parts, and_from, eq-eqb}
use Rattle.formula.proofs.Sums.{sum_joined}
use Rattle.formula.proofs.Tests.{every_append, every_map, every_weaker, every_joined, sum_append}
use Rattle.formula.specs.Boolean.{opposite, true_literal, satisfies, local, row, words, words_of}
use Rattle.formula.specs.Sheets.{numbers, by_sign}
use Rattle.formula.specs.Tests.{every, sum_of}
use Rattle.formula.specs.declared.signed.Sign.{Sign}
use Rattle.formula.specs.declared.signed.Sign.TheVariants.{Plus, Minus}
use Rattle.mapping.proofs.Moving.{words_moved}
use Rattle.mapping.specs.Forms.{all_of, members, true_form, shifted}
use Rattle.mapping.specs.Meanings.{Meaning, Lawful, LawfulAt, is_size, is_value, guarded}
use Rattle.encodings.specs.Ties.{tie, ties, inner_list, tied_axioms, tied_width, tied, half_form, half_tied, Tieable}
use Rattle.encodings.specs.Values.{value_literal}
use Rattle.encodings.proofs.Known.{agree, agree_at, known, known_row, known_agrees}
use Rattle.encodings.specs.Limits.{value_low, value_high, value_from, size_low, size_high}
use Rattle.encodings.specs.Opposites.{some_opposites, opposite_local, opposites_local}
use Rattle.encodings.specs.Readers.{Shows, LawfulForms, LawfulLists, lists_keep, forms_keep}
use Rattle.encodings.proofs.RunSums.{every_of_numbers, sum_most}
use Rattle.encodings.specs.Rows.{row_length}
use Rattle.encodings.proofs.RowParts.{row_append, row_parts}
use Rattle.encodings.proofs.Tying.{own, inner_true, tied_holds, value_in_front, value_local, every_shifted_local}

-- an option that is some is some value
pub some_value_of : (o : Option ℕ) → is_some o ≡ true → (i : ℕ) × (o ≡ Some i)
some_value_of None h = (0, cc)
some_value_of (Some i) h = (i, refl)

-- a literal of the values by the bit at its place
value_bit : (xs : List ℕ) (i : ℕ) (test : ℕ → Bool) → 1 ≤ i → i ≤ length xs → agree (λ k. test (suc k)) xs ≡ true → true_literal xs (pos i) ≡ test i
value_bit xs zero test low high a = absurd (omega arith)
value_bit xs (suc k) test low high a = agree_at (λ n. test (suc n)) xs a k (omega arith)

module _ (M : Meaning) (T : Tieable M) (m : ℕ) (s : is_size m ≡ true) where
  abbrev L : LawfulAt M m
  L = T.lawful.at_size m s

  abbrev w : ℕ
  w = M.width m

  pub plus_all_at : (i : ℕ) → is_value m i ≡ true → M.form m Plus i ≡ all_of (members (M.form m Plus i))
  plus_all_at i v = T.plus_all m i s v

  -- what a row of both kinds of bits shows: one value, by its own literals and by the inner ones
  pub record Showing (bits : List ℕ) (i : ℕ) : Type 0 where
    pub value : is_value m i ≡ true
    pub by_value : (j : ℕ) → is_value m j ≡ true → true_literal bits (value_literal j) ≡ eqb j i
    pub by_inner : (j : ℕ) → is_value m j ≡ true → every (true_literal bits) (inner_list M m j) ≡ eqb j i

  module _ (xs ys : List ℕ) (r : row m xs ≡ true) where
    long : length xs ≡ m
    long = row_length m xs r

    pub shows_two : (i : ℕ) → M.reading m ys ≡ Some i → agree (λ k. own M m ys (suc k)) xs ≡ true → Showing (xs ++ ys) i
    shows_two i reads a =
        let own_is : (j : ℕ) → is_value m j ≡ true → own M m ys j ≡ eqb j i = λ j v. L.form_true ys i reads Plus j v in
        let l = long in
        record {
          value = L.reading_value ys i reads;
          by_value = λ j v. let low = value_low m j v in let high = value_high m j v in
              value_in_front xs ys j low (omega arith) ∙ (value_bit xs j (own M m ys) low (omega arith) a ∙ own_is j v);
          by_inner = λ j v. inner_true M m L plus_all_at xs ys long j v ∙ own_is j v;
        }

  shows_tied : (bits : List ℕ) → row (m + w) bits ≡ true → satisfies bits (tied_axioms M m) ≡ true → (i : ℕ) × Showing bits i
  shows_tied bits r holds =
      let parts = row_parts m w bits r in
      let xs = take m bits in
      let ys = drop m bits in
      let whole : xs ++ ys ≡ bits = take-append-drop m bits in
      let both = and_parts (satisfies ys (M.axioms m)) (agree (λ k. own M m ys (suc k)) xs)
      (sym (tied_holds M m L plus_all_at xs ys (row_length m xs parts.0)) ∙ (ap (λ bs. satisfies bs (tied_axioms M m)) whole ∙ holds)) in
      let read = some_value_of (M.reading m ys) (L.reads ys parts.1 ∙ both.0) in
      (read.0, subst (λ bs. Showing bs read.0) whole (shows_two xs ys parts.0 read.0 read.1 both.1))

  -- a code of the inner mapping, with the values' bits that it asks for in front, is a code
  code_tied : (i : ℕ) → is_value m i ≡ true →
      (bits : List ℕ) × (row (m + w) bits ≡ true) × (satisfies bits (tied_axioms M m) ≡ true) × (every (true_literal bits) (value_literal i ∷ []) ≡ true)
  code_tied i v =
      let inner = L.code i v in
      let ys = inner.0 in
      let xs = known (λ k. own M m ys (suc k)) m in
      let r = known_row (λ k. own M m ys (suc k)) m in
      let a = known_agrees (λ k. own M m ys (suc k)) m in
      let holds : satisfies ys (M.axioms m) ≡ true = sym (L.reads ys inner.1) ∙ ap is_some inner.2 in
      let shown = shows_two xs ys r i inner.2 a in (
        xs ++ ys,
        row_append m w xs ys r inner.1,
        tied_holds M m L plus_all_at xs ys (row_length m xs r) ∙ and_from (satisfies ys (M.axioms m)) (agree (λ k. own M m ys (suc k)) xs) holds a,
        ap (λ t. t && true) (shown.by_value i v ∙ eq-eqb i i refl),
      )

  -- the literals are those of the values and of the inner mapping
  tie_local : (i : ℕ) → is_value m i ≡ true → every (every (local (m + w))) (tie (value_literal i) (inner_list M m i)) ≡ true
  tie_local i v =
      let n = m + w in
      let x = value_literal i in
      let ls = inner_list M m i in
      let mine : local n x ≡ true = value_local w m i v in
      let theirs : every (local n) ls ≡ true = every_shifted_local m w (members (M.form m Plus i)) (L.form_local Plus i v) in
      every_append (every (local n)) (map (λ y. opposite x ∷ y ∷ []) ls) ((x ∷ map opposite ls) ∷ [])
      (every_map (every (local n)) (λ y. opposite x ∷ y ∷ []) ls (every_weaker (local n) (λ y. every (local n) (opposite x ∷ y ∷ []))
      (λ y h. and_from (local n (opposite x)) (local n y && true) (opposite_local n x ∙ mine) (ap (λ t. t && true) h)) ls theirs))
      (ap (λ t. t && true) (and_from (local n x) (every (local n) (map opposite ls)) mine (opposites_local n ls ∙ theirs)))

  tied_local : every (every (local (m + w))) (tied_axioms M m) ≡ true
  tied_local =
      every_append (every (local (m + w))) (map (map (shifted m)) (M.axioms m)) (ties M m)
      (every_map (every (local (m + w))) (map (shifted m)) (M.axioms m) (every_weaker (every (local w)) (λ c. every (local (m + w)) (map (shifted m) c)) (every_shifted_local m w) (M.axioms m) L.axioms_local))
      (every_joined (every (local (m + w))) (λ i. tie (value_literal i) (inner_list M m i)) (numbers 1 m) ∙
      every_of_numbers (λ i. every (every (local (m + w))) (tie (value_literal i) (inner_list M m i))) 1 m (λ i low high. tie_local i (value_from m i low (omega arith))))

  -- words: a tie of n literals has 4n + 2
  tie_words : (x : ℤ) (ls : List ℤ) → words_of (tie x ls) ≡ 4 * length ls + 2
  tie_words x ls =
      sum_append words (map (λ y. opposite x ∷ y ∷ []) ls) ((x ∷ map opposite ls) ∷ []) ∙
      omega (arith, pairs_words ls, length-map ls opposite)
    where
      pairs_words : (ks : List ℤ) → words_of (map (λ y. opposite x ∷ y ∷ []) ks) ≡ 3 * length ks
      pairs_words [] = refl
      pairs_words (k ∷ ks) = let more = pairs_words ks in omega arith

  pub ties_words : words_of (ties M m) ≤ m * 34
  ties_words =
      let each : sum_of (λ i. words_of (tie (value_literal i) (inner_list M m i))) (numbers 1 m) ≤ m * 34 =
      sum_most (λ i. words_of (tie (value_literal i) (inner_list M m i))) 34 1 m (λ i low high.
      let few = L.form_most Plus i (value_from m i low (omega arith)) in
      omega (arith, tie_words (value_literal i) (inner_list M m i), length-map (members (M.form m Plus i)) (shifted m))) in
      subst (λ n. n ≤ m * 34) (sym (sum_joined words (λ i. tie (value_literal i) (inner_list M m i)) (numbers 1 m))) each

  pub tied_words : words_of (tied_axioms M m) ≤ 8192
  tied_words =
      let high = size_high m s in
      let few = T.few m s in
      let ties-few = ties_words in
      omega (arith, sum_append words (map (map (shifted m)) (M.axioms m)) (ties M m), words_moved m (M.axioms m))

  width_one : 1 ≤ m + w
  width_one = let low = size_low m s in omega arith

  lists_at : LawfulLists m (m + w) (tied_axioms M m) (λ i. value_literal i ∷ [])
  lists_at = record {
    width_least = width_one;
    width_most = T.narrow m s;
    shows = λ bits r holds. let shown = shows_tied bits r holds in
        (shown.0, shown.1.value, λ j v. and-true (true_literal bits (value_literal j)) ∙ shown.1.by_value j v);
    code = code_tied;
    axioms_local = tied_local;
    list_local = λ i v. ap (λ t. t && true) (value_local w m i v);
    axioms_words = tied_words;
    list_least = λ i v. omega arith;
    list_most = λ i v. omega arith;
  }

  -- the half-tied forms: a plus by the value, a minus by the inner literals
  half_shows : (bits : List ℕ) → row (m + w) bits ≡ true → satisfies bits (tied_axioms M m) ≡ true → (i : ℕ) × Shows m (half_form M m) bits i
  half_shows bits r holds = let shown = shows_tied bits r holds in (shown.0, (shown.1.value, at_sign shown.0 shown.1))
    where
      at_sign : (i : ℕ) → Showing bits i → (g : Sign) (j : ℕ) → is_value m j ≡ true → true_form bits (half_form M m g j) ≡ by_sign g (eqb j i)
      at_sign i h Plus j v = and-true (true_literal bits (value_literal j)) ∙ h.by_value j v
      at_sign i h Minus j v =
          some_opposites bits (m + w) (inner_list M m j) (every_shifted_local m w (members (M.form m Plus j)) (L.form_local Plus j v)) ∙ ap not (h.by_inner j v)

  half_local : (g : Sign) (i : ℕ) → is_value m i ≡ true → every (local (m + w)) (members (half_form M m g i)) ≡ true
  half_local Plus i v = ap (λ t. t && true) (value_local w m i v)
  half_local Minus i v = opposites_local (m + w) (inner_list M m i) ∙ every_shifted_local m w (members (M.form m Plus i)) (L.form_local Plus i v)

  -- an inner list is as long as the inner form
  pub inner_length : (i : ℕ) → length (inner_list M m i) ≡ length (members (M.form m Plus i))
  inner_length i = length-map (members (M.form m Plus i)) (shifted m)

  half_least : (g : Sign) (i : ℕ) → is_value m i ≡ true → 1 ≤ length (members (half_form M m g i))
  half_least Plus i v = omega arith
  half_least Minus i v = omega (arith, length-map (inner_list M m i) opposite, inner_length i, L.form_least Plus i v)

  half_most : (g : Sign) (i : ℕ) → is_value m i ≡ true → length (members (half_form M m g i)) ≤ 8
  half_most Plus i v = omega arith
  half_most Minus i v = omega (arith, length-map (inner_list M m i) opposite, inner_length i, L.form_most Plus i v)

  half_at : LawfulForms m (m + w) (tied_axioms M m) (half_form M m)
  half_at = record {
    width_least = width_one;
    width_most = T.narrow m s;
    shows = half_shows;
    code = code_tied;
    axioms_local = tied_local;
    form_local = half_local;
    axioms_words = tied_words;
    form_least = half_least;
    form_most = half_most;
  }

pub tied_lawful : (M : Meaning) → Tieable M → Lawful (guarded (tied M))
tied_lawful M T = lists_keep (tied_width M) (tied_axioms M) (λ m i. value_literal i ∷ []) (lists_at M T)

pub half_tied_lawful : (M : Meaning) → Tieable M → Lawful (guarded (half_tied M))
half_tied_lawful M T = forms_keep (tied_width M) (tied_axioms M) (half_form M) (half_at M T)
