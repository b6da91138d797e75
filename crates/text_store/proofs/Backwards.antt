-- A walk back over bytes that end with a mark. Assumes nothing.
use Rattle.std.proofs.Common.{◌≡◌, ℕ, ◌+◌, ◌-◌, ◌<◌, ◌≤◌, Bool, true, false, cond, not, eqb, ltb, List, [], ◌∷◌, ◌++◌, length, get_or, take, sym, refl, ap, ◌∙◌, inl, inr, append_assoc, arith, length-append}
use mir.Val.{bool_byte}
use Rattle.std.proofs.lemmas.List.{take_at, take_more, length_push, length-take-le}
use Rattle.std.proofs.lemmas.Bool.{and_from, not_from_false, ne_eqb}
use Rattle.std.proofs.lemmas.Bool.Decides.{nat_tests}
use Rattle.text_store.specs.Bytes.{clean, Closed, lows, PieceFrom}

pub lows_le : (bound : ℕ) (bytes : List ℕ) → lows bound bytes ≤ length bytes
lows_le bound [] = omega arith
lows_le bound (b ∷ bytes) = let h = lows_le bound bytes in grind (arith, nat_tests)

-- a byte that is low counts as one
counted : (low : Bool) (n : ℕ) → n + bool_byte low ≡ cond low 1 0 + n
counted true n = omega arith
counted false n = omega arith

module _ (mark bound : ℕ) (bytes : List ℕ) where
  -- at the end stands the mark alone
  pub piece_none : Closed mark bytes → 0 < length bytes → (count : ℕ) → count ≡ bool_byte (ltb mark bound) → PieceFrom mark bound bytes (length bytes - 1) count
  piece_none (inl e) some count low = let none = ap length e in absurd (omega arith)
  piece_none (inr p) some count low =
      let long : length p.0 ≡ length bytes - 1 = omega (arith, ap length p.1, length_push p.0 mark) in
      record {
        piece = [];
        within = omega arith;
        whole = ap (λ front. front ++ mark ∷ []) (ap (take (length bytes - 1)) p.1 ∙ take_at p.0 (mark ∷ []) (length bytes - 1) long) ∙ sym p.1;
        unmarked = refl;
        count_is = omega (arith, low, counted (ltb mark bound) 0);
      }

  module _ (start count : ℕ) (p : PieceFrom mark bound bytes start count) where
    -- how far the count can be
    pub piece_within : start + count ≤ length bytes
    piece_within =
        let few = lows_le bound (p.piece ++ mark ∷ []) in
        omega (arith, ap length p.whole, length-append (take start bytes) (p.piece ++ mark ∷ []), length-take-le start bytes (omega arith), p.count_is)

    module _ (some : 0 < start) where
      back : start - 1 + 1 ≡ start
      back = omega arith

      inside : start - 1 < length bytes
      inside = omega (arith, p.within)

      -- the byte before the piece, behind those before it
      last : take start bytes ≡ take (start - 1) bytes ++ get_or bytes (start - 1) 0 ∷ []
      last = ap (λ n. take n bytes) (sym back) ∙ take_more bytes (start - 1) 0 inside

      -- one byte more, which is not the mark
      pub piece_more : (get_or bytes (start - 1) 0 ≡ mark → ⊥) → (low : ℕ) → low ≡ bool_byte (ltb (get_or bytes (start - 1) 0) bound) → PieceFrom mark bound bytes (start - 1) (count + low)
      piece_more other low h =
          let b = get_or bytes (start - 1) 0 in
          record {
            piece = b ∷ p.piece;
            within = inside;
            whole = sym (append_assoc (take (start - 1) bytes) (b ∷ []) (p.piece ++ mark ∷ [])) ∙ ap (λ front. front ++ (p.piece ++ mark ∷ [])) (sym last) ∙ p.whole;
            unmarked = and_from (not (eqb mark b)) (clean mark p.piece) (not_from_false (eqb mark b) (ne_eqb mark b (λ e. other (sym e)))) p.unmarked;
            count_is = ap (λ n. count + n) h ∙ counted (ltb b bound) count ∙ ap (λ n. cond (ltb b bound) 1 0 + n) p.count_is;
          }

      -- the mark stands before the piece
      pub piece_first : get_or bytes (start - 1) 0 ≡ mark → Closed mark (take start bytes)
      piece_first e = inr (take (start - 1) bytes, last ∙ ap (λ b. take (start - 1) bytes ++ b ∷ []) e)
