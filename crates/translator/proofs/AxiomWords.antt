-- The axioms of a variable as words in memory. Assumes nothing.
use Rattle.std.proofs.Common.{◌≡◌, ℕ, ◌+◌, ◌≤◌, true, List, [], ◌∷◌, ◌++◌, map, length, take, drop, ℤ, Ok, Result, sym, refl, ap, ◌∙◌, subst, append_assoc, append-nil, arith, ◌^◌, ◌<◌, Bool, leb, ltb, pos}
use Rattle.std.proofs.lemmas.List.{take_at, drop_at}
use Rattle.std.proofs.lemmas.Bool.{and_parts, leb-true, lt-ltb}
use Rattle.formula.specs.Boolean.{Clause, local, words_of, number}
use Rattle.formula.specs.Tests.{every}
use Rattle.mapping.specs.Forms.{shifted}
use Rattle.mapping.specs.Meanings.{Meaning, Lawful}
use Rattle.mapping.specs.Memory.{ended, flat, over, moved_word, shifted_word}
use Rattle.mapping.proofs.Moving.{length_flat, no_zero, moved_flat, words_moved, shifted_literal, shifted_flat}
use Rattle.mapping.proofs.Ranges.{axioms_own}
use Rattle.store.specs.Stores.{Terms, Bounded, Contents, fits, words_left}
use Rattle.store.specs.declared.StoreFault.{StoreFault}
use Rattle.translator.specs.Filing.{room_answer, axioms_answer, with_all, after_all}
use Rattle.translator.specs.Places.{placed_axioms}
use Rattle.translator.specs.Placed.{Takes}
use Rattle.translator.specs.Words.{ended_in, axioms_left}
use Rattle.translator.proofs.Fitting.{clause_fits, shifted_number}
use Rattle.formula.proofs.Tests.{every_weaker, every_map, every_append}
use Rattle.translator.proofs.Rooms.{room_ok}
use Rattle.translator.proofs.Worded.{ended_in_more}

-- words that end clauses without zeros give the clauses back
ended_clause : (L : ℕ) (c₀ c : Clause) (ws : List ℤ) → every (fits L) c ≡ true → ended_in c₀ (ended c ++ ws) ≡ (c₀ ++ c) ∷ ended_in [] ws
ended_clause L c₀ [] ws fit = ap (λ x. x ∷ ended_in [] ws) (sym (append-nil c₀))
ended_clause L c₀ (l ∷ c) ws fit =
    let both = and_parts (fits L l) (every (fits L) c) fit in
    ended_in_more c₀ l (ended c ++ ws) (no_zero L l both.0)
    ∙ ended_clause L (c₀ ++ l ∷ []) c ws both.1
    ∙ ap (λ x. x ∷ ended_in [] ws) (append_assoc c₀ (l ∷ []) c)

ended_flat : (L : ℕ) (cs : List Clause) → every (every (fits L)) cs ≡ true → ended_in [] (flat cs) ≡ cs
ended_flat L [] fit = refl
ended_flat L (c ∷ cs) fit =
    let both = and_parts (every (fits L) c) (every (every (fits L)) cs) fit in
    ended_clause L [] c (flat cs) both.0 ∙ ap (λ x. c ∷ x) (ended_flat L cs both.1)

-- words of so few Booleans, moved, have 32 bits
module _ (w start : ℕ) where
  pub small_words : start + w < 2 ^ 31 → (cs : List Clause) → every (every (local w)) cs ≡ true → every (λ x. ltb (number (shifted_word start x)) (2 ^ 31)) (flat cs) ≡ true
  small_words within [] own = refl
  small_words within (c ∷ cs) own =
      let both = and_parts (every (local w) c) (every (every (local w)) cs) own in
      every_append small (ended c) (flat cs)
      (every_append small c (pos 0 ∷ []) (every_weaker (local w) small one c both.0) refl)
      (small_words within cs both.1)
    where
      small : ℤ → Bool
      small x = ltb (number (shifted_word start x)) (2 ^ 31)

      one : (l : ℤ) → local w l ≡ true → small l ≡ true
      one l own =
          let high = leb-true (number l) w (and_parts (leb 1 (number l)) (leb (number l) w) own).1 in
          lt-ltb _ _ (omega (arith, shifted_number start l, ap number (shifted_literal start l (no_zero w l own))))

module _ {Cell : Type 0} (T : Terms Cell) (K : Contents Cell) (M : Meaning) (lawful : Lawful M) (bounded : Bounded T) (start m : ℕ) where
  abbrev own : every (every (local (M.width m))) (M.axioms m) ≡ true
  own = axioms_own M lawful m

  placed_fit : start + M.width m ≤ T.largest → every (every (fits T.largest)) (placed_axioms M start m) ≡ true
  placed_fit within =
      every_map (every (fits T.largest)) (map (shifted start)) (M.axioms m)
      (every_weaker (every (local (M.width m))) (λ c. every (fits T.largest) (map (shifted start) c)) (clause_fits T.largest start (M.width m) within) (M.axioms m) own)

  -- the clauses that end in the moved words are the placed axioms
  pub placed_ended : start + M.width m ≤ T.largest → ended_in [] (map (shifted_word start) (flat (M.axioms m))) ≡ placed_axioms M start m
  placed_ended within = ap (ended_in []) (shifted_flat (M.width m) start (M.axioms m) own) ∙ ended_flat T.largest (placed_axioms M start m) (placed_fit within)

  -- what the mapping has written is asked for and stored
  module _ (before written : List ℤ) (count h : ℕ) (answer : Result (Unit {0}) StoreFault) (u : Unit {0})
      (wrote : written ≡ over (flat (M.axioms m)) before) (counted : count ≡ words_of (M.axioms m)) (highest : h ≡ start + M.width m)
      (said : answer ≡ room_answer T K h count) (ok : answer ≡ Ok u) where
    room : (h ≤ T.largest) × (count ≤ words_left T K)
    room = room_ok T K h count u (sym said ∙ ok)

    within : start + M.width m ≤ T.largest
    within = omega (arith, room.0, highest)

    long : length (flat (M.axioms m)) ≡ count
    long = length_flat (M.axioms m) ∙ sym counted

    part_is : take count written ≡ flat (M.axioms m)
    part_is = ap (take count) wrote ∙ take_at (flat (M.axioms m)) _ count long

    module _ (moved : List ℤ) (is : moved ≡ map (moved_word start) (take count written)) where
      front : moved ≡ flat (placed_axioms M start m)
      front = is ∙ ap (map (moved_word start)) part_is ∙ moved_flat (M.width m) start (omega (arith, bounded.largest, within)) (M.axioms m) own

      ended_are : ended_in [] moved ≡ placed_axioms M start m
      ended_are = ap (ended_in []) front ∙ ended_flat T.largest (placed_axioms M start m) (placed_fit within)

      pub words_takes : Takes T K (ended_in [] moved)
      words_takes = subst (Takes T K) (sym ended_are) (record {
        fit = placed_fit within;
        room = omega (arith, room.1, counted, words_moved start (M.axioms m));
      })

      answer_is : answer ≡ axioms_answer M T K start m
      answer_is = said ∙ (λ i. room_answer T K (highest i) (counted i))

      pub stored : (r : Result (Unit {0}) StoreFault) (K' : Contents Cell) (ws : List ℤ) → r ≡ Ok tt → K' ≡ with_all T K (ended_in [] moved) → ws ≡ moved →
          (r ≡ axioms_answer M T K start m) × (K' ≡ after_all r T K (placed_axioms M start m)) × (ws ++ drop count written ≡ over (flat (axioms_left r M start m)) before)
      stored r K' ws is_ok after kept =
          let same-long : length (flat (M.axioms m)) ≡ length (flat (placed_axioms M start m)) =
          length_flat (M.axioms m) ∙ sym (words_moved start (M.axioms m)) ∙ sym (length_flat (placed_axioms M start m)) in
          let rest : drop count written ≡ drop (length (flat (placed_axioms M start m))) before =
          ap (drop count) wrote ∙ drop_at (flat (M.axioms m)) _ count long ∙ ap (λ (n : ℕ). drop n before) same-long in (
            is_ok ∙ sym ok ∙ answer_is,
            after ∙ ap (with_all T K) ended_are ∙ sym (ap (λ (x : Result (Unit {0}) StoreFault). after_all x T K (placed_axioms M start m)) is_ok),
            (λ i. (kept ∙ front) i ++ rest i) ∙ sym (ap (λ (x : Result (Unit {0}) StoreFault). over (flat (axioms_left x M start m)) before) is_ok),
          )
