-- The steps of the recursion over a product's forms. Assumes nothing.
use Rattle.std.proofs.Common.{◌≡◌, ℕ, ◌+◌, ◌^◌, ◌<◌, ◌≤◌, ltb, List, [], ◌∷◌, ◌++◌, map, length, get_or, take, ℤ, pos, Ok, Result, sym, refl, ap, ◌∙◌, subst, append_assoc, arith, length-append}
use Rattle.std.proofs.lemmas.List.{get_or-map, take_all, take_at, take_more, get_or_default}
use Rattle.std.proofs.lemmas.Bool.{ltb-true}
use Rattle.formula.proofs.Tests.{every_at}
use Rattle.formula.specs.Boolean.{Clause, number}
use Rattle.mapping.specs.Forms.{distributed, shifted}
use Rattle.mapping.specs.declared.Kind.TheVariants.{AllOf, AnyOf}
use Rattle.store.specs.Stores.{Terms, Contents, put_answer, after_put, appended}
use Rattle.store.specs.declared.StoreFault.{StoreFault}
use Rattle.translator.specs.declared.placed.PlacedForm.{PlacedForm}
use Rattle.translator.specs.Filing.{with_all}
use Rattle.translator.specs.Placed.{form_in, own_literals, product_behind, Takes, Ready}
use Rattle.translator.proofs.Filled.{with_none, with_one, with_append, taken_first, taken_parts}
use Rattle.translator.proofs.Held.{held_count}
use Rattle.translator.proofs.Products.{left, left_more, left_none, product_all, product_any, product_none, Going}

-- literal i of a form, over the Booleans of the whole sheet
abbrev pub moved : PlacedForm → ℕ → ℤ
moved p i = shifted p.start (get_or p.literals.items i (pos 0))

pub own_at : (p : PlacedForm) (i : ℕ) → i < length p.literals.items → get_or (own_literals p) i (pos 0) ≡ moved p i
own_at p i within = get_or-map (shifted p.start) p.literals.items i (pos 0) (pos 0) within

-- one literal more, behind those in front
pub own_more : (p : PlacedForm) (front : List ℤ) (i : ℕ) → i < length p.literals.items →
    (front ++ take i (own_literals p)) ++ moved p i ∷ [] ≡ front ++ take (i + 1) (own_literals p)
own_more p front i within =
    append_assoc front (take i (own_literals p)) (moved p i ∷ [])
    ∙ ap (λ xs. front ++ xs) (ap (λ z. take i (own_literals p) ++ z ∷ []) (sym (own_at p i within)) ∙ sym (take_more (own_literals p) i (pos 0) (omega (arith, held_count p))))

pub own_all : (p : PlacedForm) (i : ℕ) → length p.literals.items ≤ i → take i (own_literals p) ≡ own_literals p
own_all p i past = take_all i (own_literals p) (omega (arith, held_count p))

module _ {Cell : Type 0} (T : Terms Cell) where
  -- no form is left: the literals in front are the clause
  pub leaf : (K K' : Contents Cell) (front : List ℤ) (ps : List PlacedForm) (r : Result (Unit {0}) StoreFault) →
      ps ≡ [] → Ready T K front ps → r ≡ put_answer T K front → K' ≡ after_put r T K front →
      (r ≡ Ok tt) × (K' ≡ with_all T K (product_behind front ps))
  leaf K K' front ps r none ready answer after =
      let clauses : product_behind front ps ≡ front ∷ [] = ap (product_behind front) none ∙ product_none front in
      let ok : r ≡ Ok tt = answer ∙ taken_first T K front [] (subst (Takes T K) clauses ready.takes) in
      (ok, after ∙ ap (λ (x : Result (Unit {0}) StoreFault). after_put x T K front) ok ∙ sym (with_none T (appended T K front)) ∙ with_one T K front [] ∙ ap (with_all T K) (sym clauses))

  module _ (p : PlacedForm) (rest : List PlacedForm) (K₀ : Contents Cell) (front₀ : List ℤ) (ps : List PlacedForm) (is : ps ≡ p ∷ rest) (ready : Ready T K₀ front₀ ps) where
    abbrev all : Ready T K₀ front₀ (p ∷ rest)
    all = subst (Ready T K₀ front₀) is ready

    -- the numbers of its literals are those of an i32, and there are places for them
    pub small : (i : ℕ) → i < length p.literals.items → number (moved p i) < 2 ^ 31
    small i within =
        subst (λ z. number z < 2 ^ 31) (own_at p i within)
        (ltb-true _ _ (every_at (λ l. ltb (number l) (2 ^ 31)) (own_literals p) i (pos 0) (omega (arith, held_count p)) all.small.0.numbers))

    pub space : length front₀ + 8 ≤ 128
    space = omega (arith, all.space)

    pub going_none : p.kind ≡ AllOf → Going T T K₀ K₀ front₀ front₀ p rest 0
    going_none kind = record {
      terms = refl;
      whole = refl;
      takes = subst (Takes T K₀) (ap (product_behind front₀) is ∙ product_all front₀ p rest kind) ready.takes;
      kept = refl;
    }

    module _ (T' : Terms Cell) (K : Contents Cell) (front : List ℤ) (i : ℕ) (h : Going T T' K₀ K front₀ front p rest i) where
      abbrev later : List Clause
      later = left front₀ (distributed (map form_in rest)) (own_literals p) (i + 1)

      module _ (front' : List ℤ) (within : i < length p.literals.items) (pushed : front' ≡ front ++ moved p i ∷ []) where
        -- the clauses left are those of choice i and then those of the later ones
        parts : left front₀ (distributed (map form_in rest)) (own_literals p) i ≡ product_behind front' rest ++ later
        parts =
            let below : i < length (own_literals p) = omega (arith, held_count p) in
            left_more front₀ (distributed (map form_in rest)) (own_literals p) i (moved p i) below (get_or_default (own_literals p) i _ _ below ∙ own_at p i within)
            ∙ ap (λ (xs : List ℤ). product_behind xs rest ++ later) (ap (λ xs. xs ++ moved p i ∷ []) (sym h.kept) ∙ sym pushed)

        pub ready_one : Ready T' K front' rest
        ready_one =
            subst (λ (U : Terms Cell). Ready U K front' rest) (sym h.terms)
            (record {
              small = all.small.1;
              space = omega (arith, all.space, ap length pushed, ap length h.kept, length-append front (moved p i ∷ []));
              takes = (taken_parts T (product_behind front' rest) later K (subst (Takes T K) parts h.takes)).0;
            })

        pub going_more : (T'' : Terms Cell) (K'' : Contents Cell) (front'' : List ℤ) →
            T'' ≡ T' → K'' ≡ with_all T' K (product_behind front' rest) → front'' ≡ take (length front₀) front' →
            Going T T'' K₀ K'' front₀ front'' p rest (i + 1)
        going_more T'' K'' front'' same after cut =
            let stored : K'' ≡ with_all T K (product_behind front' rest) = after ∙ ap (λ (U : Terms Cell). with_all U K (product_behind front' rest)) h.terms in
            record {
              terms = same ∙ h.terms;
              whole =
                  ap (λ (k : Contents Cell). with_all T k later) stored
                  ∙ with_append T (product_behind front' rest) later K
                  ∙ ap (with_all T K) (sym parts)
                  ∙ h.whole;
              takes =
                  subst (λ (k : Contents Cell). Takes T k later) (sym stored)
                  (taken_parts T (product_behind front' rest) later K (subst (Takes T K) parts h.takes)).1;
              kept = cut ∙ ap (take (length front₀)) pushed ∙ take_at front (moved p i ∷ []) (length front₀) (ap length h.kept) ∙ h.kept;
            }

      pub going_all : p.kind ≡ AllOf → length p.literals.items ≤ i → K ≡ with_all T K₀ (product_behind front₀ ps)
      going_all kind past =
          let none : left front₀ (distributed (map form_in rest)) (own_literals p) i ≡ [] = left_none front₀ (distributed (map form_in rest)) (own_literals p) i (omega (arith, held_count p)) in
          sym (with_none T K) ∙ ap (with_all T K) (sym none) ∙ h.whole
          ∙ ap (with_all T K₀) (sym (ap (product_behind front₀) is ∙ product_all front₀ p rest kind))

    -- an any-of form: every literal of it stands in front
    module _ (kind : p.kind ≡ AnyOf) (front' : List ℤ) (pushed : front' ≡ front₀ ++ own_literals p) where
      whole : product_behind front₀ ps ≡ product_behind front' rest
      whole = ap (product_behind front₀) is ∙ product_any front₀ p rest kind ∙ ap (λ (xs : List ℤ). product_behind xs rest) (sym pushed)

      pub ready_any : Ready T K₀ front' rest
      ready_any = record {
        small = all.small.1;
        space = omega (arith, all.space, p.few, ap length pushed, length-append front₀ (own_literals p), held_count p);
        takes = subst (Takes T K₀) whole ready.takes;
      }

      pub after_any : (K : Contents Cell) → K ≡ with_all T K₀ (product_behind front' rest) → K ≡ with_all T K₀ (product_behind front₀ ps)
      after_any K after = after ∙ ap (with_all T K₀) (sym whole)
