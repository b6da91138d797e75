-- A row in which no 1 follows a 0 is ones at the front, and only zeros behind them.
use Rattle.std.proofs.Common.{◌≡◌, ℕ, zero, suc, ◌+◌, ◌-◌, Bool, true, false, cond, ◌&&◌, eqb, List, [], ◌∷◌, length, drop, Some, None, refl, sym, ap, ◌∙◌, arith}
use Rattle.std.specs.Bool.{then_some}
use Rattle.std.specs.List.{prefix_len, list_all}
use Rattle.std.proofs.lemmas.Bool.Decides.{nat_tests}
use Rattle.formula.specs.Boolean.{row}
use Rattle.mapping.specs.Meanings.{is_size}
use Rattle.encodings.specs.Descents.{ones, falls}
use Rattle.encodings.specs.FullRegular.{full_regular}
use Rattle.encodings.specs.Levels.{reading_falls}

-- the ones at the front, and whether only zeros follow
abbrev pub front : List ℕ → ℕ
front bits = prefix_len (λ b. eqb b 1) bits

abbrev pub zeros : List ℕ → Bool
zeros bits = list_all (λ b. eqb b 0) bits

behind : (bits : List ℕ) → suc (front bits) ≡ 1 + front bits
behind bits = omega arith

zeros_row : (bits : List ℕ) → (row (length bits) bits && eqb (ones bits) 0) ≡ zeros bits
zeros_row [] = refl
zeros_row (zero ∷ bits) = zeros_row bits
zeros_row (suc zero ∷ bits) = grind (arith, nat_tests)
zeros_row (suc (suc b) ∷ bits) = grind (arith, nat_tests)

-- a row falls exactly where only zeros follow its front
front_falls : (bits : List ℕ) → (row (length bits) bits && falls bits) ≡ zeros (drop (front bits) bits)
front_falls [] = refl
front_falls (zero ∷ bits) = zeros_row bits
front_falls (suc zero ∷ bits) = front_falls bits ∙ ap (λ n. zeros (drop n (1 ∷ bits))) (behind bits)
front_falls (suc (suc b) ∷ bits) = grind (arith, nat_tests)

zeros_ones : (bits : List ℕ) → zeros bits ≡ true → ones bits ≡ 0
zeros_ones [] h = refl
zeros_ones (zero ∷ bits) h = zeros_ones bits h
zeros_ones (suc b ∷ bits) h = grind (arith, nat_tests)

front_ones : (bits : List ℕ) → zeros (drop (front bits) bits) ≡ true → ones bits ≡ front bits
front_ones [] h = refl
front_ones (zero ∷ bits) h = zeros_ones bits h
front_ones (suc zero ∷ bits) h = ap suc (front_ones bits (ap (λ n. zeros (drop n (1 ∷ bits))) (behind bits) ∙ h)) ∙ behind bits
front_ones (suc (suc b) ∷ bits) h = grind (arith, nat_tests)

-- so it reads as one more than the ones at its front
module _ (m : ℕ) (bits : List ℕ) (s : is_size m ≡ true) (l : length bits ≡ m - 1) where
  reading_falling : (t : Bool) → zeros (drop (front bits) bits) ≡ t → full_regular.reading m bits ≡ cond t (Some (suc (ones bits))) None
  reading_falling t z =
      reading_falls m bits s (row (m - 1) bits) (falls bits) refl refl ∙
      ap (λ b. cond b (Some (suc (ones bits))) None) (ap (λ w. row w bits && falls bits) (sym l) ∙ (front_falls bits ∙ z))

  pub reading_front : full_regular.reading m bits ≡ then_some (zeros (drop (front bits) bits)) (front bits + 1)
  reading_front = at_rest (zeros (drop (front bits) bits)) refl
    where
      at_rest : (t : Bool) → zeros (drop (front bits) bits) ≡ t → full_regular.reading m bits ≡ then_some t (front bits + 1)
      at_rest true z = reading_falling true z ∙ ap Some (ap suc (front_ones bits z) ∙ omega arith)
      at_rest false z = reading_falling false z
