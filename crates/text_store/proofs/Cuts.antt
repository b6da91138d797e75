-- Cuts of any store's contents. Assumes nothing.
use Rattle.std.proofs.Common.{◌≡◌, ℕ, ◌≤◌, min, List, length, sym, ap, ◌∙◌, ap₂, ⊎_elim, arith}
use Rattle.std.proofs.lemmas.List.{take_all, take-take}
use Rattle.std.proofs.lemmas.Bool.{cases_lt}
use Rattle.formula.specs.Boolean.{Clause}
use Rattle.store.specs.Stores.{Contents, after_cut}

module _ {Cell : Type 0} (K : Contents Cell) where
  same_contents : {list raw list' raw' : List Clause} → list ≡ list' → raw ≡ raw' → ◌≡◌ {A = Contents Cell} (record { list = list; raw = raw; memory = K.memory }) (record { list = list'; raw = raw'; memory = K.memory })
  same_contents p q = ap₂ (λ xs ys. record { list = xs; raw = ys; memory = K.memory }) p q

  -- to cut behind the end changes nothing
  pub cut_none : (n : ℕ) → length K.list ≤ n → length K.raw ≤ n → after_cut n K ≡ K
  cut_none n h k = same_contents (take_all n K.list h) (take_all n K.raw k)

  -- the deeper cut counts
  pub cut_cut : (m n : ℕ) → m ≤ n → after_cut m (after_cut n K) ≡ after_cut m K
  cut_cut m n h = same_contents (take-take m n K.list h) (take-take m n K.raw h)

  -- a cut to n is one to the lesser of n and the number of clauses
  pub cut_least : (count m n : ℕ) → count ≡ length K.list → count ≡ length K.raw → m ≡ min n count → after_cut m K ≡ after_cut n K
  cut_least count m n p q e =
      ⊎_elim
      (λ low. ap (λ k. after_cut k K) (omega arith))
      (λ high. cut_none m (omega arith) (omega arith) ∙ sym (cut_none n (omega arith) (omega arith)))
      (cases_lt n count)
