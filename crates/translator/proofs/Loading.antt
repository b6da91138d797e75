-- Lists that are set element by element beside a list that is gone through. Assumes nothing.
use Rattle.std.proofs.Common.{◌≡◌, ℕ, ◌+◌, ◌<◌, List, [], ◌∷◌, ◌++◌, map, length, get_or, take, set, sym, ap, ◌∙◌, subst}
use Rattle.std.proofs.lemmas.List.{map_push, take_more, take_more_set}
use Rattle.std.proofs.ByRecursion.{All-push}
use Rattle.std.specs.List.{AllByRecursion}

-- one element more on both sides
pub mapped_more : {X Y Z : Type 0} (f : X → Z) (h : Y → Z) (xs : List X) (ys : List Y) (i : ℕ) (x : X) (d : Y) → i < length xs → i < length ys →
    map f (take i xs) ≡ map h (take i ys) → f x ≡ h (get_or ys i d) → map f (take (i + 1) (set xs i x)) ≡ map h (take (i + 1) ys)
mapped_more f h xs ys i x d in-xs in_ys same here =
    ap (map f) (take_more_set xs i x in-xs) ∙ map_push f (take i xs) x ∙ (λ j. same j ++ here j ∷ [])
    ∙ sym (map_push h (take i ys) (get_or ys i d)) ∙ ap (map h) (sym (take_more ys i d in_ys))

pub all_more_set : {X : Type 0} (P : X → Type 0) (xs : List X) (i : ℕ) (x : X) → i < length xs → AllByRecursion P (take i xs) → P x → AllByRecursion P (take (i + 1) (set xs i x))
all_more_set P xs i x within all here = subst (AllByRecursion P) (sym (take_more_set xs i x within)) (All-push P (take i xs) x all here)
