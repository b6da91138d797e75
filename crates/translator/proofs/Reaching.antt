-- The last of a clause's Booleans, literal by literal. Assumes nothing.
use Rattle.std.proofs.Common.{◌≡◌, ℕ, max, List, [], ◌∷◌, arith}
use Rattle.std.specs.List.{fold}
use Rattle.formula.specs.declared.signed.Literal.{Literal}
use Rattle.mapping.specs.Meanings.{Meaning}
use Rattle.translator.specs.declared.places.Place.{Place}
use Rattle.translator.specs.Places.{reach}

module _ (M : Meaning) (ps : List Place) where
  abbrev pub last : Literal → ℕ
  last l = reach M ps (l ∷ [])

  -- the highest so far, and those of the literals to come
  reach_from : (n : ℕ) (ls : List Literal) → fold (λ a l. max a (last l)) n ls ≡ max n (reach M ps ls)
  reach_from n [] = omega arith
  reach_from n (l ∷ ls) = omega (arith, reach_from (max n (last l)) ls)

  pub reach_all : (ls : List Literal) → fold (λ a l. max a (last l)) 0 ls ≡ reach M ps ls
  reach_all ls = omega (arith, reach_from 0 ls)
