-- Clauses that lie in memory as words, moved behind other Booleans. Assumes nothing.
use Rattle.std.proofs.Common.{◌≡◌, ℕ, zero, suc, ◌+◌, ◌^◌, ◌<◌, ◌≤◌, true, leb, List, [], ◌∷◌, ◌++◌, map, length, ℤ, pos, negsuc, sym, refl, ap, ◌∙◌, append_assoc, arith, length-append}
use Rattle.std.proofs.lemmas.List.{map-append, length-map}
use Rattle.std.proofs.lemmas.Bool.{and_parts, leb-true}
use Rattle.formula.specs.Boolean.{Clause, number, local, words, words_of}
use Rattle.formula.specs.Tests.{every}
use Rattle.mapping.specs.Forms.{shifted}
use Rattle.mapping.specs.Memory.{ended, flat, moved_word, shifted_word}

length_ended : (c : Clause) → length (ended c) ≡ words c
length_ended c = length-append c (pos 0 ∷ [])

pub length_flat : (cs : List Clause) → length (flat cs) ≡ words_of cs
length_flat [] = refl
length_flat (c ∷ cs) = length-append (ended c) (flat cs) ∙ (λ i. length_ended c i + length_flat cs i)

pub flat_append : (bs cs : List Clause) → flat (bs ++ cs) ≡ flat bs ++ flat cs
flat_append [] cs = refl
flat_append (b ∷ bs) cs = ap (λ ws. ended b ++ ws) (flat_append bs cs) ∙ sym (append_assoc (ended b) (flat bs) (flat cs))

-- a literal is no end
pub no_zero : (w : ℕ) (l : ℤ) → local w l ≡ true → l ≡ pos 0 → ⊥
no_zero w l own e = omega (arith, leb-true 1 (number l) (and_parts (leb 1 (number l)) (leb (number l) w) own).0, ap number e)

-- a literal moves as a literal, where nothing bounds the words
pub shifted_literal : (n : ℕ) (w : ℤ) → (w ≡ pos 0 → ⊥) → shifted_word n w ≡ shifted n w
shifted_literal n (pos zero) h = absurd (h refl)
shifted_literal n (pos (suc a)) h = refl
shifted_literal n (negsuc a) h = refl

-- so do clauses: words that nothing bounds are the words of the moved clauses
module _ (w start : ℕ) where
  pub shifted_clause : (c : Clause) → every (local w) c ≡ true → map (shifted_word start) c ≡ map (shifted start) c
  shifted_clause [] own = refl
  shifted_clause (l ∷ c) own =
      let both = and_parts (local w l) (every (local w) c) own in
      λ i. shifted_literal start l (no_zero w l both.0) i ∷ shifted_clause c both.1 i

  pub shifted_flat : (cs : List Clause) → every (every (local w)) cs ≡ true → map (shifted_word start) (flat cs) ≡ flat (map (map (shifted start)) cs)
  shifted_flat [] own = refl
  shifted_flat (c ∷ cs) own =
      let both = and_parts (every (local w) c) (every (every (local w)) cs) own in
      map-append (shifted_word start) (ended c) (flat cs)
      ∙ (λ i. (map-append (shifted_word start) c (pos 0 ∷ []) ∙ ap (λ xs. xs ++ pos 0 ∷ []) (shifted_clause c both.0)) i ++ shifted_flat cs both.1 i)

module _ (w start : ℕ) (within : start + w < 2 ^ 31) where
  high : (l : ℤ) → local w l ≡ true → number l ≤ w
  high l own = leb-true (number l) w (and_parts (leb 1 (number l)) (leb (number l) w) own).1

  -- a literal of so few Booleans moves as a literal
  moved_literal : (l : ℤ) → local w l ≡ true → moved_word start l ≡ shifted start l
  moved_literal (pos zero) own = absurd (no_zero w (pos 0) own refl)
  moved_literal (pos (suc a)) own = ap pos (omega (arith, within, high (pos (suc a)) own))
  moved_literal (negsuc a) own = ap negsuc (omega (arith, within, high (negsuc a) own))

  -- moved words are the words of the moved clauses
  pub moved_clause : (c : Clause) → every (local w) c ≡ true → map (moved_word start) c ≡ map (shifted start) c
  moved_clause [] own = refl
  moved_clause (l ∷ c) own =
      let both = and_parts (local w l) (every (local w) c) own in
      λ i. moved_literal l both.0 i ∷ moved_clause c both.1 i

  pub moved_flat : (cs : List Clause) → every (every (local w)) cs ≡ true → map (moved_word start) (flat cs) ≡ flat (map (map (shifted start)) cs)
  moved_flat [] own = refl
  moved_flat (c ∷ cs) own =
      let both = and_parts (every (local w) c) (every (every (local w)) cs) own in
      map-append (moved_word start) (ended c) (flat cs)
      ∙ (λ i. (map-append (moved_word start) c (pos 0 ∷ []) ∙ ap (λ xs. xs ++ pos 0 ∷ []) (moved_clause c both.0)) i ++ moved_flat cs both.1 i)

pub words_moved : (start : ℕ) (cs : List Clause) → words_of (map (map (shifted start)) cs) ≡ words_of cs
words_moved start [] = refl
words_moved start (c ∷ cs) = λ i. (length-map c (shifted start) i + 1) + words_moved start cs i
