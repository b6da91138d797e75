-- What the laws give at every size and value, out of range too. Assumes nothing.
use Rattle.std.proofs.Common.{◌≡◌, ℕ, ◌≤◌, Bool, true, cond, ◌&&◌, List, [], sym, refl, subst, ⊎_elim, arith, false, length}
use Rattle.std.proofs.lemmas.Bool.{cases_Bool, and_parts, both_ways}
use Rattle.formula.specs.Boolean.{Clause, local, words_of}
use Rattle.formula.specs.Tests.{every}
use Rattle.formula.specs.declared.signed.Sign.{Sign}
use Rattle.mapping.specs.Forms.{Form, any_of, members}
use Rattle.mapping.specs.Meanings.{Meaning, Lawful, is_size, is_value}

module _ (M : Meaning) (lawful : Lawful M) where
  -- a fact of every size in range that holds of no Booleans and no axioms holds of every size
  by_size : (P : ℕ → List Clause → Type 0) → P 0 [] → (m : ℕ) → (is_size m ≡ true → P (M.width m) (M.axioms m)) → P (M.width m) (M.axioms m)
  by_size P outside m inside =
      ⊎_elim inside
      (λ no_size. subst (λ (N : Meaning). P (N.width m) (N.axioms m)) (sym lawful.outside)
      (subst (λ (b : Bool). P (cond b (M.width m) 0) (cond b (M.axioms m) [])) (sym no_size) outside))
      (cases_Bool (is_size m))

  pub widths_few : (m : ℕ) → M.width m ≤ 127
  widths_few m = by_size (λ w cs. w ≤ 127) (omega arith) m (λ h. (lawful.at_size m h).width_most)

  pub axioms_few : (m : ℕ) → words_of (M.axioms m) ≤ 8192
  axioms_few m = by_size (λ w cs. words_of cs ≤ 8192) (omega arith) m (λ h. (lawful.at_size m h).axioms_words)

  pub axioms_own : (m : ℕ) → every (every (local (M.width m))) (M.axioms m) ≡ true
  axioms_own m = by_size (λ w cs. every (every (local w)) cs ≡ true) refl m (λ h. (lawful.at_size m h).axioms_local)

  -- the same for forms
  by_value : (P : Form → Type 0) → P (any_of []) → (m : ℕ) (s : Sign) (i : ℕ) → (is_size m ≡ true → is_value m i ≡ true → P (M.form m s i)) → P (M.form m s i)
  by_value P outside m s i inside =
      ⊎_elim (λ yes_both. let both = and_parts (is_size m) (is_value m i) yes_both in inside both.0 both.1)
      (λ not_both. subst (λ (N : Meaning). P (N.form m s i)) (sym lawful.outside)
      (subst (λ (b : Bool). P (cond b (M.form m s i) (any_of []))) (sym not_both) outside))
      (cases_Bool (is_size m && is_value m i))

  pub forms_few : (m : ℕ) (s : Sign) (i : ℕ) → length (members (M.form m s i)) ≤ 8
  forms_few m s i = by_value (λ f. length (members f) ≤ 8) (omega arith) m s i (λ h k. (lawful.at_size m h).form_most s i k)

  pub forms_own : (m : ℕ) (s : Sign) (i : ℕ) → every (local (M.width m)) (members (M.form m s i)) ≡ true
  forms_own m s i = by_value (λ f. every (local (M.width m)) (members f) ≡ true) refl m s i (λ h k. (lawful.at_size m h).form_local s i k)

  -- a size out of range has no forms
  pub no_form : (m : ℕ) (s : Sign) (i : ℕ) → is_size m ≡ false → members (M.form m s i) ≡ []
  no_form m s i no_size = by_value (λ f. members f ≡ []) refl m s i (λ h k. absurd (both_ways (is_size m) no_size h))
