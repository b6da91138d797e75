-- FR keeps the laws: its rows are those in which no 1 follows a 0, and the value is one more than the number of ones.
use Rattle.std.specs.Prelude.{◌≡◌, ℕ, zero, suc, ◌+◌, ◌-◌, ◌<◌, ◌≤◌, Bool, true, false, cond, not, ◌&&◌, List, [], ◌∷◌, length, ℤ, Some, None, ◌==◌, nat_le, refl}
use Rattle.std.proofs.Common.{sym, ap, ap₂, ◌∙◌, arith}
use Rattle.std.proofs.lemmas.Bool.{eq-eqb, eqb-true, eqb-false, cond_both}
use Rattle.std.proofs.lemmas.Bool.Decides.{nat_tests}
use Rattle.formula.specs.Boolean.{row, satisfies, local, true_literal}
use Rattle.formula.specs.Tests.{every}
use Rattle.mapping.specs.Meanings.{is_size, is_value, Lawful}
use Rattle.encodings.specs.FullRegular.{at_least, less_than, link, links, bounds, full_regular_within, full_regular}
use Rattle.encodings.specs.Descents.{ones, falls, ones_most, on_below, stair, stair_row, stair_ones, stair_falls}
use Rattle.encodings.specs.Guard.{reading_within, reading_no_row}
use Rattle.encodings.specs.Limits.{size_low, size_high, value_low, value_high, value_from}
use Rattle.encodings.specs.Readers.{LawfulLists, lists_keep, lists_narrow, read_shown, read_unsatisfied}
use Rattle.encodings.specs.Runs.{every_numbers, words_numbers}
use Rattle.encodings.specs.Rows.{row_length}
use Rattle.encodings.specs.Links.{at_least_is, less_than_is, at_least_local, less_than_local, link_local, satisfies_links}

-- a value is the first, the last or an inner one
pub bounds_by : (P : List ℤ → Type 0) (m i : ℕ) → is_value m i ≡ true → (i ≡ 1 → P (less_than 2 ∷ [])) →
    (1 < i → i ≡ m → P (at_least m ∷ [])) → (1 < i → i < m → P (at_least i ∷ less_than (i + 1) ∷ [])) → P (bounds m i)
bounds_by P m i v first last inner =
    let low = value_low m i v in
    let high = value_high m i v in
    cond_both (i == 1) (less_than 2 ∷ []) (cond (i == m) (at_least m ∷ []) (at_least i ∷ less_than (i + 1) ∷ [])) P (λ e. first (eqb-true i 1 e))
    (λ e. let n = eqb-false i 1 e in cond_both (i == m) (at_least m ∷ []) (at_least i ∷ less_than (i + 1) ∷ []) P
    (λ d. last (omega arith) (eqb-true i m d)) (λ d. let k = eqb-false i m d in inner (omega arith) (omega arith)))

module _ (bits : List ℕ) (f : falls bits ≡ true) where
  -- "value j or more" is on exactly up to the value
  at_least_true : (j : ℕ) → 1 < j → true_literal bits (at_least j) ≡ nat_le j (suc (ones bits))
  at_least_true zero h = absurd (omega arith)
  at_least_true (suc zero) h = absurd (omega arith)
  at_least_true (suc (suc k)) h = ap (true_literal bits) (at_least_is k) ∙ (on_below bits k f ∙ grind (arith, nat_tests))

  less_than_true : (j : ℕ) → 1 < j → true_literal bits (less_than j) ≡ not (nat_le j (suc (ones bits)))
  less_than_true zero h = absurd (omega arith)
  less_than_true (suc zero) h = absurd (omega arith)
  less_than_true (suc (suc k)) h = ap (true_literal bits) (less_than_is k) ∙ ap not (on_below bits k f ∙ grind (arith, nat_tests))

  -- so the bounds of a value are true at that value alone
  pub bounds_true : (m j : ℕ) → suc (ones bits) ≤ m → is_value m j ≡ true → every (true_literal bits) (bounds m j) ≡ (j == suc (ones bits))
  bounds_true m j most v = bounds_by (λ ls. every (true_literal bits) ls ≡ (j == suc (ones bits))) m j v
      (λ e. let a = less_than_true 2 (omega arith) in ap (λ t. t && true) a ∙ grind (arith, nat_tests))
      (λ l e. let a = at_least_true m (omega arith) in ap (λ t. t && true) a ∙ grind (arith, nat_tests))
      (λ l h. let a = at_least_true j l in let b = less_than_true (j + 1) (omega arith) in ap₂ (λ t u. t && (u && true)) a b ∙ grind (arith, nat_tests))

bounds_local : (m i : ℕ) → 1 < m → is_value m i ≡ true → every (local (m - 1)) (bounds m i) ≡ true
bounds_local m i two v = bounds_by (λ ls. every (local (m - 1)) ls ≡ true) m i v
    (λ e. ap (λ t. t && true) (less_than_local m 2 (omega arith) (omega arith)))
    (λ l e. ap (λ t. t && true) (at_least_local m m (omega arith) (omega arith)))
    (λ l h. ap₂ (λ t u. t && (u && true)) (at_least_local m i l (omega arith)) (less_than_local m (i + 1) (omega arith) (omega arith)))

-- the laws of one size
module _ (m : ℕ) (s : is_size m ≡ true) where
  two : 2 ≤ m
  two = size_low m s

  sixty_four : m ≤ 64
  sixty_four = size_high m s

  -- a row that satisfies the links shows one more than its ones
  pub falls_where : (bits : List ℕ) → row (m - 1) bits ≡ true → satisfies bits (links m) ≡ falls bits
  falls_where bits r = satisfies_links m bits two (row_length (m - 1) bits r)

  ones_below : (bits : List ℕ) → row (m - 1) bits ≡ true → suc (ones bits) ≤ m
  ones_below bits r = let a = ones_most bits in let l = row_length (m - 1) bits r in let t = two in omega arith

  stair_within : (i : ℕ) → is_value m i ≡ true → i - 1 ≤ m - 1
  stair_within i v = let h = value_high m i v in omega arith

  stair_shows : (i : ℕ) → is_value m i ≡ true → every (true_literal (stair (m - 1) (i - 1))) (bounds m i) ≡ true
  stair_shows i v =
      let within = stair_within i v in
      let o = stair_ones (m - 1) (i - 1) within in
      let low = value_low m i v in
      bounds_true (stair (m - 1) (i - 1)) (stair_falls (m - 1) (i - 1) within) m i (ones_below (stair (m - 1) (i - 1)) (stair_row (m - 1) (i - 1))) v ∙
      eq-eqb i (suc (ones (stair (m - 1) (i - 1)))) (omega arith)

  pub lists_at : LawfulLists m (m - 1) (links m) (bounds m)
  lists_at = record {
    width_least = let t = two in omega arith;
    width_most = let t = sixty_four in omega arith;
    shows = λ bits r e. (
      suc (ones bits),
      value_from m (suc (ones bits)) (omega arith) (ones_below bits r),
      λ j v. bounds_true bits (sym (falls_where bits r) ∙ e) m j (ones_below bits r) v,
    );
    code = λ i v. let r = stair_row (m - 1) (i - 1) in
        (stair (m - 1) (i - 1), r, falls_where (stair (m - 1) (i - 1)) r ∙ stair_falls (m - 1) (i - 1) (stair_within i v), stair_shows i v);
    axioms_local = every_numbers (every (local (m - 1))) link 2 (m - 2) (λ j low high. link_local m j low (let t = two in omega arith));
    list_local = λ i v. bounds_local m i two v;
    axioms_words = let w = words_numbers link 3 2 (m - 2) (λ j. refl) in let t = sixty_four in omega arith;
    list_least = λ i v. bounds_by (λ ls. 1 ≤ length ls) m i v (λ e. omega arith) (λ l e. omega arith) (λ l h. omega arith);
    list_most = λ i v. bounds_by (λ ls. length ls ≤ 8) m i v (λ e. omega arith) (λ l e. omega arith) (λ l h. omega arith);
  }

pub full_regular_lawful : Lawful full_regular
full_regular_lawful = lists_keep (λ m. m - 1) links bounds lists_at

-- the bounds speak of the Booleans 1 to 127
pub bounds_narrow : (m i : ℕ) → is_size m ≡ true → is_value m i ≡ true → every (local 127) (bounds m i) ≡ true
bounds_narrow m i s v = lists_narrow m (m - 1) (links m) (bounds m) (lists_at m s) i v

-- a row of FR reads as one more than its ones where no 1 follows a 0
pub reading_falls : (m : ℕ) (bits : List ℕ) → is_size m ≡ true → (r f : Bool) → row (m - 1) bits ≡ r → falls bits ≡ f →
    full_regular.reading m bits ≡ cond (r && f) (Some (suc (ones bits))) None
reading_falls m bits s true true r f = reading_within full_regular_within m s bits r ∙
    read_shown links full_regular_within.form m bits (suc (ones bits)) (falls_where m s bits r ∙ f)
    (value_from m (suc (ones bits)) (omega arith) (ones_below m s bits r)) (λ j v. bounds_true bits f m j (ones_below m s bits r) v)
reading_falls m bits s true false r f = reading_within full_regular_within m s bits r ∙ read_unsatisfied links full_regular_within.form m bits (falls_where m s bits r ∙ f)
reading_falls m bits s false f r e = reading_no_row full_regular_within m bits r
