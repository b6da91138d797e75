-- Pieces that a mark ends: they are found again, and the last of them has one place. Assumes nothing.
use Rattle.std.proofs.Common.{◌≡◌, ℕ, true, false, cond, not, eqb, List, [], ◌∷◌, ◌++◌, map, sym, refl, ap, ◌∙◌, inl, inr, append_assoc}
use Rattle.std.specs.List.{flat_map}
use Rattle.std.proofs.lemmas.Bool.{and_parts, and_left, and_right, not-true, not_from_true, eq-eqb, cond-true, cond-false}
use Rattle.formula.specs.Tests.{every}
use Rattle.text_store.specs.Bytes.{onto, pieces, clean, Closed}

-- the bytes through the last mark
abbrev marked : ℕ → List ℕ → List ℕ
marked mark [] = []
marked mark (b ∷ bytes) = cond (clean mark (b ∷ bytes)) [] (b ∷ marked mark bytes)

module _ (mark : ℕ) where
  itself : eqb mark mark ≡ true
  itself = eq-eqb mark mark refl

  pub pieces_ended : (piece rest : List ℕ) → clean mark piece ≡ true → pieces mark (piece ++ mark ∷ rest) ≡ piece ∷ pieces mark rest
  pieces_ended [] rest h = cond-true (eqb mark mark) _ _ itself
  pieces_ended (b ∷ piece) rest h =
      let parts = and_parts (not (eqb mark b)) (clean mark piece) h in
      cond-false (eqb mark b) _ _ (not-true (eqb mark b) parts.0) ∙ ap (onto b) (pieces_ended piece rest parts.1)

  -- what is written with a mark behind each piece is cut into the same pieces
  pub pieces_joined : {X : Type 0} (f : X → List ℕ) (xs : List X) (rest : List ℕ) → every (λ x. clean mark (f x)) xs ≡ true → pieces mark (flat_map (λ x. f x ++ mark ∷ []) xs ++ rest) ≡ map f xs ++ pieces mark rest
  pieces_joined f [] rest h = refl
  pieces_joined f (x ∷ xs) rest h =
      let parts = and_parts (clean mark (f x)) (every (λ y. clean mark (f y)) xs) h in
      let more = flat_map (λ y. f y ++ mark ∷ []) xs in
      ap (pieces mark) (append_assoc (f x ++ mark ∷ []) more rest ∙ append_assoc (f x) (mark ∷ []) (more ++ rest))
      ∙ pieces_ended (f x) (more ++ rest) parts.0
      ∙ ap (λ ps. f x ∷ ps) (pieces_joined f xs rest parts.1)

  marked_clean : (bytes : List ℕ) → clean mark bytes ≡ true → marked mark bytes ≡ []
  marked_clean [] h = refl
  marked_clean (b ∷ bytes) h = cond-true (clean mark (b ∷ bytes)) _ _ h

  holds_mark : (front back : List ℕ) → clean mark ((front ++ mark ∷ []) ++ back) ≡ false
  holds_mark [] back = and_left (not (eqb mark mark)) (clean mark back) (not_from_true (eqb mark mark) itself)
  holds_mark (b ∷ front) back = and_right (not (eqb mark b)) (clean mark ((front ++ mark ∷ []) ++ back)) (holds_mark front back)

  marked_front : (front back : List ℕ) → clean mark back ≡ true → marked mark ((front ++ mark ∷ []) ++ back) ≡ front ++ mark ∷ []
  marked_front [] back h = cond-false (clean mark (mark ∷ back)) _ _ (holds_mark [] back) ∙ ap (λ bs. mark ∷ bs) (marked_clean back h)
  marked_front (b ∷ front) back h =
      cond-false (clean mark (b ∷ ((front ++ mark ∷ []) ++ back))) _ _ (holds_mark (b ∷ front) back) ∙ ap (λ bs. b ∷ bs) (marked_front front back h)

  marked_closed : (bytes back : List ℕ) → Closed mark bytes → clean mark back ≡ true → marked mark (bytes ++ back) ≡ bytes
  marked_closed bytes back (inl e) h = rw e (marked_clean back h)
  marked_closed bytes back (inr p) h = rw p.1 (marked_front p.0 back h)

  -- where the unmarked rest begins is settled by the bytes
  pub same_front : (xs ys s t : List ℕ) → Closed mark xs → Closed mark ys → clean mark s ≡ true → clean mark t ≡ true → xs ++ s ≡ ys ++ t → xs ≡ ys
  same_front xs ys s t p q h k e = sym (marked_closed xs s p h) ∙ ap (marked mark) e ∙ marked_closed ys t q k
