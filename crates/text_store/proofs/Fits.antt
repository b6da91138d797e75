-- The first literal that does not fit, and what a store answers to it. Assumes nothing.
use Rattle.std.proofs.Common.{◌≡◌, ℕ, ◌≤◌, Bool, true, false, cond, not, leb, [], ◌∷◌, ℤ, pos, negsuc, nat_abs, Some, None, Option, Ok, Err, sym, refl, ap, ◌∙◌, ⊎_elim, arith, ◌<◌, ◌⊎◌, inl, inr, ◌+◌, List, length, get_or, drop, add-one, drop-cons}
use Rattle.std.proofs.Math.ListN.{drop_of_length-le}
use Rattle.std.specs.List.{find}
use Rattle.std.specs.Option.{option_map}
use Rattle.std.proofs.lemmas.Bool.{and_from, leb-true, cond-true, cond-false, cases_Bool, and_left, and_right, le-leb, lt-leb}
use Rattle.formula.specs.Boolean.{Clause, number, words}
use Rattle.formula.specs.Tests.{every}
use Rattle.store.specs.Stores.{Terms, Contents, fits, unfit, words_left, words_answer, answer_by, put_answer}
use Rattle.store.specs.declared.StoreFault.{StoreFault}
use Rattle.text_store.specs.ByteStores.{numbers_answer}

pub number_is : (l : ℤ) → number l ≡ nat_abs l
number_is (pos n) = refl
number_is (negsuc n) = refl

-- a search that has come to a place
module _ {X : Type 0} (p : X → Bool) (xs : List X) (i : ℕ) where
  pub find_here : (d : X) → i < length xs → p (get_or xs i d) ≡ true → find p (drop i xs) ≡ Some (get_or xs i d)
  find_here d h t = ap (find p) (drop-cons xs i d h) ∙ cond-true (p (get_or xs i d)) _ _ t

  pub find_next : (d : X) → i < length xs → p (get_or xs i d) ≡ false → find p (drop (i + 1) xs) ≡ find p (drop i xs)
  find_next d h f = ap (λ n. find p (drop n xs)) (add-one i) ∙ sym (ap (find p) (drop-cons xs i d h) ∙ cond-false (p (get_or xs i d)) _ _ f)

  pub find_ended : length xs ≤ i → find p (drop i xs) ≡ None
  find_ended h = ap (find p) (drop_of_length-le xs h)

module _ (largest : ℕ) where
  pub fits_from : (l : ℤ) → 1 ≤ nat_abs l → nat_abs l ≤ largest → fits largest l ≡ true
  fits_from l h k = rw (number_is l) (and_from (leb 1 (nat_abs l)) (leb (nat_abs l) largest) (le-leb 1 (nat_abs l) h) (le-leb (nat_abs l) largest k))

  pub fits_not : (l : ℤ) → (nat_abs l ≡ 0) ⊎ (largest < nat_abs l) → fits largest l ≡ false
  fits_not l (inl h) = rw (number_is l) (and_left (leb 1 (nat_abs l)) (leb (nat_abs l) largest) (lt-leb 1 (nat_abs l) (omega arith)))
  fits_not l (inr h) = rw (number_is l) (and_right (leb 1 (nat_abs l)) (leb (nat_abs l) largest) (lt-leb (nat_abs l) largest h))

  -- the first literal that does not fit has the number that the store refuses
  pub unfit_found : (c : Clause) → unfit largest c ≡ option_map nat_abs (find (λ l. not (fits largest l)) c)
  unfit_found [] = refl
  unfit_found (l ∷ c) = step (fits largest l) l (find (λ x. not (fits largest x)) c) (number_is l) (unfit_found c)
    where
      step : {n : ℕ} {rest : Option ℕ} (b : Bool) (x : ℤ) (found : Option ℤ) → n ≡ nat_abs x → rest ≡ option_map nat_abs found → cond b rest (Some n) ≡ option_map nat_abs (cond (not b) (Some x) found)
      step true x found h k = k
      step false x found h k = ap Some h

  pub unfit_none : (c : Clause) → unfit largest c ≡ None → every (fits largest) c ≡ true
  unfit_none [] h = refl
  unfit_none (l ∷ c) h =
      ⊎_elim
      (λ t. and_from (fits largest l) (every (fits largest) c) t (unfit_none c (sym (cond-true (fits largest l) _ _ t) ∙ h)))
      (λ f. let found = sym (cond-false (fits largest l) (unfit largest c) (Some (number l)) f) in let clash : ◌≡◌ {A = ℕ} 0 1 = cc in absurd (omega arith))
      (cases_Bool (fits largest l))

-- where the numbers of a clause are taken, all of its literals fit
pub numbers_taken : (found : Option ℕ) → Ok tt ≡ numbers_answer found → found ≡ None
numbers_taken None h = refl
numbers_taken (Some n) h = cc

-- where words are taken, they do not pass those left
pub words_taken : {Cell : Type 0} (T : Terms Cell) (K : Contents Cell) (n : ℕ) → Ok tt ≡ words_answer T K n → n ≤ words_left T K
words_taken T K n h = leb-true n (words_left T K) (passed _ (leb n (words_left T K)) h)
  where
    passed : (d : StoreFault) (b : Bool) → Ok (tt {0}) ≡ cond b (Ok (tt {0})) (Err d) → b ≡ true
    passed d true k = refl
    passed d false k = cc

-- a clause that fits, and whose words do not pass those left, is taken
pub put_taken : {Cell : Type 0} (T : Terms Cell) (K : Contents Cell) (c : Clause) → unfit T.largest c ≡ None → words c ≤ words_left T K → put_answer T K c ≡ Ok tt
put_taken T K c h k = ap (answer_by T K c) h ∙ cond-true (leb (words c) (words_left T K)) _ _ (le-leb (words c) (words_left T K) k)
