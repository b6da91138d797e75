-- The literals of a form, one by one. Assumes nothing.
use Rattle.std.proofs.Common.{◌≡◌, ℕ, ◌+◌, ◌<◌, List, [], ◌∷◌, ◌++◌, length, get_or, take, set, ℤ, sym, ap, ◌∙◌, append_assoc, add_assoc}
use Rattle.std.proofs.lemmas.List.{take_more, take_more_set}

-- one literal more, behind those that are copied
pub copied_more : (front : List ℤ) (at i : ℕ) (before ls : List ℤ) (d : ℤ) → take (at + i) front ≡ before ++ take i ls → at + i < length front → i < length ls →
    take (at + (i + 1)) (set front (at + i) (get_or ls i d)) ≡ before ++ take (i + 1) ls
copied_more front at i before ls d copy within below =
    ap (λ n. take n (set front (at + i) (get_or ls i d))) (sym (add_assoc at i 1))
    ∙ take_more_set front (at + i) (get_or ls i d) within
    ∙ ap (λ xs. xs ++ get_or ls i d ∷ []) copy
    ∙ append_assoc before (take i ls) (get_or ls i d ∷ [])
    ∙ ap (λ xs. before ++ xs) (sym (take_more ls i d below))
