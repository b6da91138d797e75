-- Where the last Boolean of a clause's variables fits a store, so does every literal that is stored for it. Assumes nothing.
use Rattle.std.proofs.Common.{◌≡◌, ℕ, ◌+◌, ◌-◌, ◌^◌, ◌≤◌, Bool, true, ltb, leb, List, [], ◌∷◌, ◌++◌, map, ℤ, pos, negsuc, sym, refl, ap, ◌∙◌, arith}
use Rattle.std.specs.List.{flat_map, AllByRecursion}
use Rattle.std.proofs.lemmas.Bool.{and_parts, and_from, le-leb, leb-true, lt-ltb}
use Rattle.formula.specs.Boolean.{Clause, number, local}
use Rattle.formula.specs.Tests.{every}
use Rattle.formula.proofs.Tests.{every_append, every_joined, every_weaker, every_map}
use Rattle.formula.specs.declared.signed.Literal.{Literal}
use Rattle.mapping.specs.Forms.{Form, all_of, any_of, members, shifted, shifted_form, choices, distributed}
use Rattle.mapping.specs.Meanings.{Meaning, Lawful}
use Rattle.mapping.specs.declared.Kind.{Kind}
use Rattle.mapping.specs.declared.Kind.TheVariants.{AllOf, AnyOf}
use Rattle.mapping.proofs.Distribution.{fronted}
use Rattle.mapping.proofs.Ranges.{forms_own}
use Rattle.store.specs.Stores.{fits}
use Rattle.translator.specs.declared.places.Place.{Place}
use Rattle.translator.specs.declared.placed.PlacedForm.{PlacedForm}
use Rattle.translator.specs.Places.{place_at, form_at, reach}
use Rattle.translator.specs.Placed.{of_kind, form_in, own_literals, Small}

-- a variable's own literal, behind the Booleans before it
pub shifted_number : (n : ℕ) (l : ℤ) → number (shifted n l) ≡ number l + n
shifted_number n (pos a) = refl
shifted_number n (negsuc a) = omega arith

pub shifted_fits : (L start w : ℕ) → start + w ≤ L → (l : ℤ) → local w l ≡ true → fits L (shifted start l) ≡ true
shifted_fits L start w within l own =
    let both = and_parts (leb 1 (number l)) (leb (number l) w) own in
    let low = leb-true 1 (number l) both.0 in
    let high = leb-true (number l) w both.1 in
    let is = shifted_number start l in
    and_from (leb 1 (number (shifted start l))) (leb (number (shifted start l)) L) (le-leb _ _ (omega arith)) (le-leb _ _ (omega arith))

pub clause_fits : (L start w : ℕ) → start + w ≤ L → (c : List ℤ) → every (local w) c ≡ true → every (fits L) (map (shifted start) c) ≡ true
clause_fits L start w within c own = every_map (fits L) (shifted start) c (every_weaker (local w) (λ l. fits L (shifted start l)) (shifted_fits L start w within) c own)

members_shifted : (start : ℕ) (f : Form) → members (shifted_form start f) ≡ map (shifted start) (members f)
members_shifted start (all_of ls) = refl
members_shifted start (any_of ls) = refl

-- each form of the clause has literals that fit
abbrev pub form_fits : ℕ → Form → Bool
form_fits L f = every (fits L) (members f)

module _ (M : Meaning) (lawful : Lawful M) (L : ℕ) (ps : List Place) where
  pub forms_fit : (ls : List Literal) → reach M ps ls ≤ L → every (form_fits L) (map (form_at M ps) ls) ≡ true
  forms_fit [] within = refl
  forms_fit (l ∷ ls) within =
      let place = place_at ps l.variable in
      let f = M.form place.size l.sign l.value in
      and_from (form_fits L (form_at M ps l)) (every (form_fits L) (map (form_at M ps) ls))
      (ap (every (fits L)) (members_shifted place.start f)
      ∙ clause_fits L place.start (M.width place.size) (omega arith) (members f) (forms_own M lawful place.size l.sign l.value))
      (forms_fit ls (omega arith))

module _ (L : ℕ) where
  fits_fronted : (c : List ℤ) → every (fits L) c ≡ true → (ds : List Clause) → every (every (fits L)) ds ≡ true → every (every (fits L)) (fronted ds c) ≡ true
  fits_fronted c h ds k =
      every_map (every (fits L)) (λ d. c ++ d) ds (every_weaker (every (fits L)) (λ d. every (fits L) (c ++ d)) (λ d. every_append (fits L) c d h) ds k)

  fits_joined : (cs : List (List ℤ)) → every (every (fits L)) cs ≡ true → (ds : List Clause) → every (every (fits L)) ds ≡ true →
      every (every (fits L)) (flat_map (fronted ds) cs) ≡ true
  fits_joined cs h ds k =
      every_joined (every (fits L)) (fronted ds) cs
      ∙ every_weaker (every (fits L)) (λ c. every (every (fits L)) (fronted ds c)) (λ c own. fits_fronted c own ds k) cs h

  fits_choices : (f : Form) → form_fits L f ≡ true → every (every (fits L)) (choices f) ≡ true
  fits_choices (all_of ls) h = every_map (every (fits L)) (λ l. l ∷ []) ls (every_weaker (fits L) (λ l. every (fits L) (l ∷ [])) (λ l k. and_from (fits L l) true k refl) ls h)
  fits_choices (any_of ls) h = and_from (every (fits L) ls) true h refl

  pub product_fits : (fs : List Form) → every (form_fits L) fs ≡ true → every (every (fits L)) (distributed fs) ≡ true
  product_fits [] h = refl
  product_fits (f ∷ fs) h =
      let both = and_parts (form_fits L f) (every (form_fits L) fs) h in
      fits_joined (choices f) (fits_choices f both.0) (distributed fs) (product_fits fs both.1)

  -- and its numbers are those of an i32
  members_held : (p : PlacedForm) → members (form_in p) ≡ own_literals p
  members_held p = by_kind p.kind
    where
      by_kind : (k : Kind) → members (shifted_form p.start (of_kind k p.literals.items)) ≡ own_literals p
      by_kind AllOf = refl
      by_kind AnyOf = refl

  pub all_small : L ≤ 2 ^ 31 - 1 → (ps : List PlacedForm) → every (form_fits L) (map form_in ps) ≡ true → AllByRecursion Small ps
  all_small bound [] h = tt
  all_small bound (p ∷ ps) h =
      let both = and_parts (form_fits L (form_in p)) (every (form_fits L) (map form_in ps)) h in (
        record {
          numbers =
              every_weaker (fits L) (λ l. ltb (number l) (2 ^ 31))
              (λ l k. lt-ltb _ _ (omega (arith, leb-true (number l) L (and_parts (leb 1 (number l)) (leb (number l) L) k).1)))
              (own_literals p) (ap (every (fits L)) (sym (members_held p)) ∙ both.0);
        },
        all_small bound ps both.1,
      )
