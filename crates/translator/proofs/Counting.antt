-- The words of a product, counted form by form. Assumes nothing.
use Rattle.std.proofs.Common.{◌≡◌, ℕ, ◌+◌, ◌*◌, ◌^◌, ◌<◌, ◌≤◌, List, [], ◌∷◌, map, length, take, sum_by, Option, sym, ap, ◌∙◌, subst, add_assoc, add-zero, zero-add, mul_assoc, mul-le-mul, mul-one, arith, lit<, length-take}
use native.Mathlib.Nat.{pow-le-pow_right, one-mul, mul_comm, pow-suc}
use Rattle.std.specs.Bool.{⊤}
use Rattle.std.specs.Iterator.{Yields, Drains}
use Rattle.std.specs.Iterator.Runs.{EachRunFrom, YieldsRun}
use Rattle.std.specs.List.{fold}
use Rattle.std.proofs.lemmas.List.{map-id, take-map}
use Rattle.std.proofs.lemmas.Iterator.{YieldsList}
use Rattle.std.proofs.iter.Yields.{gives_Drains}
use Rattle.std.proofs.lemmas.Iterator.Consumers.{YieldsList-so_far}
use Rattle.formula.specs.Boolean.{words_of}
use Rattle.formula.specs.Tests.{sum_of, product_of}
use Rattle.mapping.specs.Forms.{split, taken, distributed}
use Rattle.mapping.proofs.Distribution.{words_distributed}
use Rattle.translator.specs.declared.placed.PlacedForm.{PlacedForm}
use Rattle.translator.specs.Placed.{form_in}
use Rattle.translator.proofs.Held.{held_few}

abbrev pub split_of : PlacedForm → ℕ
split_of p = split (form_in p)

abbrev pub taken_of : PlacedForm → ℕ
taken_of p = taken (form_in p)

abbrev pub multiplied : List ℕ → ℕ
multiplied ns = fold (λ a n. a * n) 1 ns

abbrev splits : List PlacedForm → ℕ
splits ps = product_of split (map form_in ps)

abbrev takes : List PlacedForm → ℕ
takes ps = sum_of taken (map form_in ps)

splits_few : (ps : List PlacedForm) → splits ps ≤ 8 ^ length ps
splits_few [] = omega arith
splits_few (p ∷ ps) = omega (arith, mul-le-mul (splits_few ps) (held_few p).0, mul_comm (splits ps) (split_of p), pow-suc 8 (length ps))

fold_splits : (n : ℕ) (ps : List PlacedForm) → fold (λ a x. a * x) n (map split_of ps) ≡ n * splits ps
fold_splits n [] = sym (mul-one n)
fold_splits n (p ∷ ps) = fold_splits (n * split_of p) ps ∙ mul_assoc n (split_of p) (splits ps)

splits_are : (ps : List PlacedForm) → multiplied (map split_of ps) ≡ splits ps
splits_are ps = fold_splits 1 ps ∙ one-mul (splits ps)

fold_takes : (n : ℕ) (ps : List PlacedForm) → fold (λ a p. a + taken_of p) n ps ≡ n + takes ps
fold_takes n [] = sym (add-zero n)
fold_takes n (p ∷ ps) = fold_takes (n + taken_of p) ps ∙ add_assoc n (taken_of p) (takes ps)

takes_are : (ps : List PlacedForm) → sum_by taken_of ps ≡ takes ps
takes_are ps = fold_takes 0 ps ∙ zero-add (takes ps)

takes_few : (ps : List PlacedForm) → takes ps ≤ 8 * length ps
takes_few [] = omega arith
takes_few (p ∷ ps) = omega (arith, (held_few p).1, takes_few ps)

-- a product of numbers fits where that of each front does
pub product_within : {S : Type 0} {steps : S → Option ℕ → S → Type 0} (s : S) (all : List ℕ) (top : ℕ) → YieldsList steps (λ n. n) s all →
    ((n : ℕ) → multiplied (take n all) < top) → EachRunFrom steps s (λ p. multiplied p.items < top)
unfolding YieldsRun
product_within {steps = steps} s all top road fits = λ p seen at.
    let here : Yields steps s p.items p.gave.0.0 = subst (λ u. Yields steps u p.items p.gave.0.0) at p.gave.0.1 in
    subst (λ ns. multiplied ns < top) (sym (sym (map-id p.items) ∙ YieldsList-so_far road p.items p.gave.0.0 here)) (fits (length p.items))

pub product_is : {S : Type 0} {steps : S → Option ℕ → S → Type 0} (s : S) (all : List ℕ) (r : ℕ) → YieldsList steps (λ n. n) s all →
    ((ns : List ℕ) × (⊤ → Drains steps s ns) × (r ≡ multiplied ns)) → r ≡ multiplied all
product_is {steps = steps} s all r road ran = ran.2 ∙ ap multiplied (sym (map-id ran.0) ∙ gives_Drains steps (λ n. n) ran.0 all s road.runs (ran.1 tt))

module _ (ps : List PlacedForm) (few : length ps ≤ 16) where
  most : (n : ℕ) → n ≤ 16 → 8 ^ n ≤ 8 ^ 16
  most n small = pow-le-pow_right {n = 8} (lit< tt) small

  -- at most 2^48 clauses of at most 129 words; also of the first forms
  pub front_fits : (n : ℕ) → multiplied (take n (map split_of ps)) < 2 ^ 64
  front_fits n =
      let is = ap multiplied (take-map split_of n ps) ∙ splits_are (take n ps) in
      omega (arith, is, splits_few (take n ps), most (length (take n ps)) (omega (arith, few, length-take n ps)))

  pub product_few : (clauses : ℕ) → clauses ≡ multiplied (map split_of ps) → clauses ≤ 8 ^ 16
  product_few clauses is = omega (arith, is, splits_are ps, splits_few ps, most (length ps) few)

  pub sum_few : (literals : ℕ) → literals ≡ sum_by taken_of ps → literals ≤ 128
  sum_few literals is = omega (arith, is, takes_are ps, takes_few ps, few)

  pub counted : (clauses literals : ℕ) → clauses ≡ multiplied (map split_of ps) → literals ≡ sum_by taken_of ps →
      clauses * (literals + 1) ≡ words_of (distributed (map form_in ps))
  counted clauses literals product sum = (λ j. (product ∙ splits_are ps) j * ((sum ∙ takes_are ps) j + 1)) ∙ sym (words_distributed (map form_in ps))
