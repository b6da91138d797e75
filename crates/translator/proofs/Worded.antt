-- Clauses that lie in memory as words, put one by one. Assumes nothing.
use Rattle.std.proofs.Common.{◌≡◌, ℕ, zero, suc, ◌+◌, ◌<◌, ◌≤◌, Bool, true, false, ltb, List, [], ◌∷◌, ◌++◌, length, get_or, take, drop, ℤ, pos, negsuc, None, Some, Ok, Result, sym, refl, ap, ◌∙◌, subst, append_assoc, append-nil, arith, length-drop, ⊎_elim}
use Rattle.std.specs.List.{position, position_or_len}
use Rattle.std.specs.Bool.{◌==◌}
use Rattle.std.proofs.lemmas.Bool.{cases_lt, eqb-true, lt-ltb, cond-true}
use Rattle.std.proofs.lemmas.List.{drop-drop}
use Rattle.std.proofs.lemmas.List.Quantifiers.{position-Some}
use Rattle.std.proofs.lemmas.List.Sums.{fails_before_first}
use Rattle.formula.specs.Boolean.{Clause, number}
use Rattle.store.specs.Stores.{Terms, Contents, put_answer, after_put, appended}
use Rattle.store.specs.declared.StoreFault.{StoreFault}
use Rattle.translator.specs.Filing.{with_all}
use Rattle.translator.specs.Placed.{Takes}
use Rattle.translator.specs.Words.{ended_in}
use Rattle.translator.proofs.Filled.{with_none, with_one, taken_first, taken_rest}

-- a word that is no end goes on with the clause
pub ended_in_more : (c : Clause) (w : ℤ) (ws : List ℤ) → (w ≡ pos 0 → ⊥) → ended_in c (w ∷ ws) ≡ ended_in (c ++ w ∷ []) ws
ended_in_more c (pos zero) ws h = absurd (h refl)
ended_in_more c (pos (suc n)) ws h = refl
ended_in_more c (negsuc n) ws h = refl

-- a word that ends a clause
abbrev pub is_end : ℤ → Bool
is_end w = number w == 0

end_is : (w : ℤ) → is_end w ≡ true → w ≡ pos 0
end_is (pos n) h = ap pos (eqb-true n 0 h)
end_is (negsuc n) h = absurd (omega (arith, eqb-true (suc n) 0 h))

no_end : (w : ℤ) → is_end w ≡ false → w ≡ pos 0 → ⊥
no_end w h e = let both : true ≡ false = sym (ap is_end e) ∙ h in cc

-- the words before the first end are the first clause's
first_ended : (c : Clause) (ws : List ℤ) (n : ℕ) → n < length ws → is_end (get_or ws n (pos 0)) ≡ true → ((k : ℕ) → k < n → is_end (get_or ws k (pos 0)) ≡ false) →
    ended_in c ws ≡ (c ++ take n ws) ∷ ended_in [] (drop (suc n) ws)
first_ended c [] n within here before = absurd (omega arith)
first_ended c (w ∷ ws) zero within here before = ap (λ x. ended_in c (x ∷ ws)) (end_is w here) ∙ ap (λ x. x ∷ ended_in [] ws) (sym (append-nil c))
first_ended c (w ∷ ws) (suc n) within here before =
    ended_in_more c w ws (no_end w (before 0 (omega arith)))
    ∙ first_ended (c ++ w ∷ []) ws n (omega arith) here (λ k below. before (suc k) (omega arith))
    ∙ ap (λ x. x ∷ ended_in [] (drop (suc n) ws)) (append_assoc c (w ∷ []) (take n ws))

-- no clause ends in words with no end
none_ended : (c : Clause) (ws : List ℤ) → ((k : ℕ) → k < length ws → is_end (get_or ws k (pos 0)) ≡ false) → ended_in c ws ≡ []
none_ended c [] h = refl
none_ended c (w ∷ ws) h = ended_in_more c w ws (no_end w (h 0 (omega arith))) ∙ none_ended (c ++ w ∷ []) ws (λ k below. h (suc k) (omega arith))

never : (ws : List ℤ) → position is_end ws ≡ None → (k : ℕ) → k < length ws → is_end (get_or ws k (pos 0)) ≡ false
never ws none k below =
    fails_before_first is_end ws k (pos 0)
    (⊎_elim
    (λ inside. let both : Some (position_or_len is_end ws) ≡ None = sym (cond-true (ltb (position_or_len is_end ws) (length ws)) _ _ (lt-ltb _ _ inside)) ∙ none in cc)
    (λ past. omega arith)
    (cases_lt (position_or_len is_end ws) (length ws)))

module _ {Cell : Type 0} (T : Terms Cell) (K₀ : Contents Cell) (ws : List ℤ) where
  -- the clauses that end before a place are stored: what is left gives the whole
  pub record Going (T' : Terms Cell) (K : Contents Cell) (ws' : List ℤ) (begin : ℕ) : Type 0 where
    pub terms : T' ≡ T
    pub kept : ws' ≡ ws
    pub within : begin ≤ length ws
    pub whole : with_all T K (ended_in [] (drop begin ws)) ≡ with_all T K₀ (ended_in [] ws)
    pub takes : Takes T K (ended_in [] (drop begin ws))

  pub going_none : Takes T K₀ (ended_in [] ws) → Going T K₀ ws 0
  going_none takes = record { terms = refl; kept = refl; within = omega arith; whole = refl; takes = takes }

  module _ (T' : Terms Cell) (K : Contents Cell) (ws' : List ℤ) (begin n : ℕ) (h : Going T' K ws' begin) (found : position is_end (drop begin ws') ≡ Some n) where
    abbrev clause : Clause
    clause = take n (drop begin ws)

    first : (n < length (drop begin ws)) × (is_end (get_or (drop begin ws) n (pos 0)) ≡ true) × ((k : ℕ) → k < n → is_end (get_or (drop begin ws) k (pos 0)) ≡ false)
    first = position-Some is_end (drop begin ws) n (pos 0) (subst (λ xs. position is_end (drop begin xs) ≡ Some n) h.kept found)

    abbrev later : List Clause
    later = ended_in [] (drop (begin + n + 1) ws)

    next : ended_in [] (drop begin ws) ≡ clause ∷ later
    next =
        let at : begin + suc n ≡ begin + n + 1 = omega arith in
        first_ended [] (drop begin ws) n first.0 first.1 first.2 ∙ ap (λ xs. clause ∷ ended_in [] xs) (drop-drop (suc n) begin ws ∙ ap (λ m. drop m ws) at)

    takes : Takes T K (clause ∷ later)
    takes = subst (Takes T K) next h.takes

    pub put_ok : (r : Result (Unit {0}) StoreFault) (c : Clause) → c ≡ clause → r ≡ put_answer T' K c → r ≡ Ok tt
    put_ok r c is answer = answer ∙ (λ j. put_answer (h.terms j) K (is j)) ∙ taken_first T K clause later takes

    pub going_more : (r : Result (Unit {0}) StoreFault) (c : Clause) (T'' : Terms Cell) (K'' : Contents Cell) (ws'' : List ℤ) → c ≡ clause → r ≡ put_answer T' K c →
        K'' ≡ after_put r T' K c → T'' ≡ T' → ws'' ≡ ws' → Going T'' K'' ws'' (begin + n + 1)
    going_more r c T'' K'' ws'' is answer after same kept =
        let stored : K'' ≡ appended T K clause = after ∙ (λ j. after_put (put_ok r c is answer j) (h.terms j) K (is j)) in
        record {
          terms = same ∙ h.terms;
          kept = kept ∙ h.kept;
          within = omega (arith, first.0, length-drop begin ws);
          whole = ap (λ (k : Contents Cell). with_all T k later) stored ∙ with_one T K clause later ∙ ap (with_all T K) (sym next) ∙ h.whole;
          takes = subst (λ (k : Contents Cell). Takes T k later) (sym stored) (taken_rest T K clause later takes);
        }

  pub going_all : (T' : Terms Cell) (K : Contents Cell) (ws' : List ℤ) (begin : ℕ) → Going T' K ws' begin → position is_end (drop begin ws') ≡ None → K ≡ with_all T K₀ (ended_in [] ws)
  going_all T' K ws' begin h found =
      let none : ended_in [] (drop begin ws) ≡ [] = none_ended [] (drop begin ws) (never (drop begin ws) (subst (λ xs. position is_end (drop begin xs) ≡ None) h.kept found)) in
      sym (with_none T K) ∙ ap (with_all T K) (sym none) ∙ h.whole
