-- The clauses of a product, form by form. Assumes nothing.
use Rattle.std.proofs.Common.{◌≡◌, ℕ, ◌+◌, ◌<◌, ◌≤◌, List, [], ◌∷◌, ◌++◌, map, length, get_or, drop, ℤ, sym, refl, ap, ◌∙◌, append_assoc, append-nil}
use Rattle.std.specs.List.{flat_map}
use Rattle.std.proofs.lemmas.List.{map-append, drop_more, drop_all}
use Rattle.formula.specs.Boolean.{Clause}
use Rattle.mapping.specs.Forms.{Form, all_of, any_of, distributed, shifted_form}
use Rattle.mapping.specs.declared.Kind.{Kind}
use Rattle.mapping.specs.declared.Kind.TheVariants.{AllOf, AnyOf}
use Rattle.mapping.proofs.Distribution.{fronted}
use Rattle.translator.specs.declared.placed.PlacedForm.{PlacedForm}
use Rattle.store.specs.Stores.{Terms, Contents}
use Rattle.translator.specs.Filing.{with_all}
use Rattle.translator.specs.Placed.{of_kind, form_in, own_literals, product_behind, Takes}

pub behind_twice : (p q : List ℤ) (ds : List Clause) → map (λ d. p ++ d) (map (λ d. q ++ d) ds) ≡ map (λ d. (p ++ q) ++ d) ds
behind_twice p q [] = refl
behind_twice p q (d ∷ ds) = (λ i. sym (append_assoc p q d) i ∷ behind_twice p q ds i)

pub form_all : (p : PlacedForm) → p.kind ≡ AllOf → form_in p ≡ all_of (own_literals p)
form_all p is = ap (λ (k : Kind). shifted_form p.start (of_kind k p.literals.items)) is

pub form_any : (p : PlacedForm) → p.kind ≡ AnyOf → form_in p ≡ any_of (own_literals p)
form_any p is = ap (λ (k : Kind). shifted_form p.start (of_kind k p.literals.items)) is

-- what an all-of form's choices from the i-th on give, behind the literals of front
abbrev pub left : List ℤ → List Clause → List ℤ → ℕ → List Clause
left front ds ls i = map (λ d. front ++ d) (flat_map (fronted ds) (map (λ l. l ∷ []) (drop i ls)))

pub left_more : (front : List ℤ) (ds : List Clause) (ls : List ℤ) (i : ℕ) (l : ℤ) → i < length ls → get_or ls i l ≡ l →
    left front ds ls i ≡ map (λ d. (front ++ l ∷ []) ++ d) ds ++ left front ds ls (i + 1)
left_more front ds ls i l within read =
    ap (λ (xs : List ℤ). map (λ d. front ++ d) (flat_map (fronted ds) (map (λ x. x ∷ []) xs))) (drop_more ls i l within ∙ ap (λ x. x ∷ drop (i + 1) ls) read)
    ∙ map-append (λ d. front ++ d) (fronted ds (l ∷ [])) (flat_map (fronted ds) (map (λ x. x ∷ []) (drop (i + 1) ls)))
    ∙ ap (λ xs. xs ++ left front ds ls (i + 1)) (behind_twice front (l ∷ []) ds)

pub left_none : (front : List ℤ) (ds : List Clause) (ls : List ℤ) (i : ℕ) → length ls ≤ i → left front ds ls i ≡ []
left_none front ds ls i past = ap (λ (xs : List ℤ). map (λ d. front ++ d) (flat_map (fronted ds) (map (λ x. x ∷ []) xs))) (drop_all i ls past)

pub product_all : (front : List ℤ) (p : PlacedForm) (ps : List PlacedForm) → p.kind ≡ AllOf →
    product_behind front (p ∷ ps) ≡ left front (distributed (map form_in ps)) (own_literals p) 0
product_all front p ps is = ap (λ (f : Form). map (λ d. front ++ d) (distributed (f ∷ map form_in ps))) (form_all p is)

-- the one choice of an any-of form is all of its literals
pub product_any : (front : List ℤ) (p : PlacedForm) (ps : List PlacedForm) → p.kind ≡ AnyOf →
    product_behind front (p ∷ ps) ≡ product_behind (front ++ own_literals p) ps
product_any front p ps is =
    ap (λ (f : Form). map (λ d. front ++ d) (distributed (f ∷ map form_in ps))) (form_any p is)
    ∙ ap (map (λ d. front ++ d)) (append-nil (fronted (distributed (map form_in ps)) (own_literals p)))
    ∙ behind_twice front (own_literals p) (distributed (map form_in ps))

pub product_none : (front : List ℤ) → product_behind front [] ≡ front ∷ []
product_none front = ap (λ c. c ∷ []) (append-nil front)

-- the clauses of an all-of form's first i choices are stored: what is left gives the whole
pub record Going {Cell : Type 0} (T T' : Terms Cell) (K₀ K : Contents Cell) (front₀ front : List ℤ) (p : PlacedForm) (ps : List PlacedForm) (i : ℕ) : Type 0 where
  pub terms : T' ≡ T
  pub whole : with_all T K (left front₀ (distributed (map form_in ps)) (own_literals p) i) ≡ with_all T K₀ (left front₀ (distributed (map form_in ps)) (own_literals p) 0)
  pub takes : Takes T K (left front₀ (distributed (map form_in ps)) (own_literals p) i)
  pub kept : front ≡ front₀
