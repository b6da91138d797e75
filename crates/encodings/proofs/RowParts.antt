-- Rows of bits behind one another. Assumes nothing.
use Rattle.std.proofs.Common.{◌≡◌, ℕ, zero, suc, ◌+◌, true, false, leb, List, [], ◌∷◌, ◌++◌, take, drop, sym, refl, ap, ◌∙◌, suc-add, zero-add}
use Rattle.std.proofs.lemmas.Bool.{and_parts, and_from, both_ways}
use Rattle.formula.specs.Boolean.{row}

-- two rows behind one another, and a row cut in two
pub row_append : (a b : ℕ) (xs ys : List ℕ) → row a xs ≡ true → row b ys ≡ true → row (a + b) (xs ++ ys) ≡ true
row_append zero b [] ys r s = ap (λ w. row w ys) (zero-add b) ∙ s
row_append zero b (x ∷ xs) ys r s = cc
row_append (suc a) b [] ys r s = cc
row_append (suc a) b (x ∷ xs) ys r s =
    let parts = and_parts (leb x 1) (row a xs) r in
    ap (λ w. row w (x ∷ (xs ++ ys))) (suc-add a b) ∙ and_from (leb x 1) (row (a + b) (xs ++ ys)) parts.0 (row_append a b xs ys parts.1 s)

pub row_parts : (a b : ℕ) (bits : List ℕ) → row (a + b) bits ≡ true → (row a (take a bits) ≡ true) × (row b (drop a bits) ≡ true)
row_parts zero b bits r = (refl, ap (λ w. row w bits) (sym (zero-add b)) ∙ r)
row_parts (suc a) b [] r = let e : false ≡ true = ap (λ w. row w []) (sym (suc-add a b)) ∙ r in absurd (both_ways false refl e)
row_parts (suc a) b (x ∷ bits) r =
    let whole = and_parts (leb x 1) (row (a + b) bits) (ap (λ w. row w (x ∷ bits)) (sym (suc-add a b)) ∙ r) in
    let parts = row_parts a b bits whole.1 in
    (and_from (leb x 1) (row a (take a bits)) whole.0 parts.0, parts.1)
