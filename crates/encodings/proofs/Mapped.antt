-- Words that are changed in place, one by one. Assumes nothing.
use Rattle.std.proofs.Common.{◌≡◌, ℕ, ◌+◌, ◌<◌, ◌≤◌, List, ◌++◌, map, length, get_or, take, drop, set, ℤ, pos, ap, ◌∙◌, ap₂, append-nil, arith, length-append, length-drop}
use Rattle.std.proofs.lemmas.List.Edits.{map_over_more}
use Rattle.std.proofs.lemmas.List.{drop_more, drop_all, take_all, length-map, length-take, get_or_at, get_or_default}

module _ (f : ℤ → ℤ) where
  module _ (xs ys : List ℤ) (i : ℕ) (h : i < length xs) (inv : ys ≡ map f (take i xs) ++ drop i xs) where
    -- the next word is as it was
    pub mapped_at : get_or ys i (pos 0) ≡ get_or xs i (pos 0)
    mapped_at =
        ap (λ zs. get_or zs i (pos 0)) (inv ∙ ap (λ zs. map f (take i xs) ++ zs) (drop_more xs i (pos 0) h)) ∙
        get_or_at (map f (take i xs)) (get_or xs i (pos 0)) (drop (i + 1) xs) (pos 0) i (omega (arith, length-map (take i xs) f, length-take i xs))

    mapped_long : i < length ys
    mapped_long = omega (arith, ap length inv, length-append (map f (take i xs)) (drop i xs), length-map (take i xs) f, length-take i xs, length-drop i xs)

    pub mapped_step : (z : ℤ) → z ≡ f (get_or ys i (pos 0)) → set ys i z ≡ map f (take (i + 1) xs) ++ drop (i + 1) xs
    mapped_step z e = ap (set ys i) e ∙ map_over_more f xs ys i (get_or ys i (pos 0)) h inv (get_or_default ys i (pos 0) (get_or ys i (pos 0)) mapped_long)

  pub mapped_all : (xs ys : List ℤ) (i : ℕ) → length xs ≤ i → ys ≡ map f (take i xs) ++ drop i xs → ys ≡ map f xs
  mapped_all xs ys i h inv = inv ∙ (ap₂ (λ a b. map f a ++ b) (take_all i xs h) (drop_all i xs h) ∙ append-nil (map f xs))
