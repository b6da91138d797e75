-- Literals and clauses behind other Booleans: over a row with so many bits in front they are what they are over the rest. Assumes nothing.
use Rattle.std.proofs.Common.{◌≡◌, ℕ, zero, suc, ◌+◌, true, not, ◌&&◌, ◌||◌, eqb, List, [], ◌∷◌, ◌++◌, map, length, get_or, ℤ, pos, negsuc, refl, ap, ◌∙◌, ap₂, add_comm, suc-add}
use Rattle.std.proofs.lemmas.List.{get_or-append-add}
use Rattle.std.proofs.lemmas.Bool.{and_parts}
use Rattle.formula.specs.Boolean.{Clause, true_literal, satisfies, local}
use Rattle.formula.specs.Tests.{every, some}
use Rattle.mapping.specs.Forms.{shifted}

module _ (xs ys : List ℕ) (w : ℕ) where
  bit_behind : (n : ℕ) → get_or (xs ++ ys) (n + length xs) 0 ≡ get_or ys n 0
  bit_behind n = ap (λ k. get_or (xs ++ ys) k 0) (add_comm n (length xs)) ∙ get_or-append-add xs ys n 0

  pub shifted_true : (l : ℤ) → local w l ≡ true → true_literal (xs ++ ys) (shifted (length xs) l) ≡ true_literal ys l
  shifted_true (pos zero) h = cc
  shifted_true (pos (suc n)) h = ap (λ k. true_literal (xs ++ ys) (pos k)) (suc-add n (length xs)) ∙ ap (eqb 1) (bit_behind n)
  shifted_true (negsuc n) h = ap (λ b. not (eqb 1 b)) (bit_behind n)

  pub every_shifted : (ls : List ℤ) → every (local w) ls ≡ true →
      every (true_literal (xs ++ ys)) (map (shifted (length xs)) ls) ≡ every (true_literal ys) ls
  every_shifted [] h = refl
  every_shifted (l ∷ ls) h = let parts = and_parts (local w l) (every (local w) ls) h in ap₂ ◌&&◌ (shifted_true l parts.0) (every_shifted ls parts.1)

  pub some_shifted : (ls : List ℤ) → every (local w) ls ≡ true →
      some (true_literal (xs ++ ys)) (map (shifted (length xs)) ls) ≡ some (true_literal ys) ls
  some_shifted [] h = refl
  some_shifted (l ∷ ls) h = let parts = and_parts (local w l) (every (local w) ls) h in ap₂ ◌||◌ (shifted_true l parts.0) (some_shifted ls parts.1)

  pub satisfies_shifted : (cs : List Clause) → every (every (local w)) cs ≡ true →
      satisfies (xs ++ ys) (map (map (shifted (length xs))) cs) ≡ satisfies ys cs
  satisfies_shifted [] h = refl
  satisfies_shifted (c ∷ cs) h =
      let parts = and_parts (every (local w) c) (every (every (local w)) cs) h in ap₂ ◌&&◌ (some_shifted c parts.0) (satisfies_shifted cs parts.1)
