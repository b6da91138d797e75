-- Lists in a row, by fronts. Assumes nothing.
use Rattle.std.proofs.Common.{◌≡◌, ℕ, ◌+◌, ◌<◌, ◌≤◌, List, [], ◌++◌, length, get_or, take, drop, sym, ap, ◌∙◌, arith, length-append, take-append-drop}
use Rattle.std.specs.List.{flat_map}
use Rattle.std.proofs.lemmas.Grind.{flat_map-append}
use Rattle.std.proofs.lemmas.List.{flat_map_more, take_more}

module _ {X A : Type 0} (f : X → List A) where
  -- one more of a list that is gone through
  pub joined_step : (xs : List X) (i : ℕ) (d : X) → i < length xs → flat_map f (take (i + 1) xs) ≡ flat_map f (take i xs) ++ f (get_or xs i d)
  joined_step xs i d h = ap (flat_map f) (take_more xs i d h) ∙ sym (flat_map_more f [] (take i xs) (get_or xs i d))

  pub length_joined_take : (n : ℕ) (xs : List X) → length (flat_map f (take n xs)) ≤ length (flat_map f xs)
  length_joined_take n xs =
      let whole = flat_map-append f (take n xs) (drop n xs) in
      let all = ap (flat_map f) (take-append-drop n xs) in
      omega (arith, ap length (sym all ∙ whole), length-append (flat_map f (take n xs)) (flat_map f (drop n xs)))
