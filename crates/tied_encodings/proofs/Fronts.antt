-- A front of memory, and what its words are after a move.
use Rattle.std.proofs.Common.{◌≡◌, ℕ, List, ◌++◌, map, length, take, drop, ℤ, sym, ap, ◌∙◌, ap₂}
use Rattle.std.proofs.lemmas.List.{length-map, take_at, drop_at}
use Rattle.mapping.specs.Memory.{over}

module _ (xs before memory : List ℤ) (k : ℕ) (at : k ≡ length xs) (e : memory ≡ over xs before) where
  pub front_is : take k memory ≡ xs
  front_is = ap (take k) e ∙ take_at xs (drop (length xs) before) k (sym at)

  pub front_mapped : (f : ℤ → ℤ) (changed : List ℤ) → changed ≡ map f (take k memory) → changed ++ drop k memory ≡ over (map f xs) before
  front_mapped f changed m =
      ap₂ ◌++◌ (m ∙ ap (map f) front_is)
      (ap (drop k) e ∙ (drop_at xs (drop (length xs) before) k (sym at) ∙ ap (λ i. drop i before) (sym (length-map xs f))))
