-- What a store that has been asked for room can take. Assumes nothing.
use Rattle.std.proofs.Common.{◌≡◌, ℕ, ◌≤◌, leb, List, [], map, length, ℤ, Ok, Err, Result, sym, ap, ◌∙◌, subst, ⊎_elim, arith}
use Rattle.std.proofs.lemmas.List.{map-id}
use Rattle.std.proofs.lemmas.Bool.{cases_Bool, cond-true, cond-false, leb-true}
use Rattle.formula.specs.Boolean.{words_of}
use Rattle.formula.specs.Tests.{every}
use Rattle.formula.specs.declared.signed.Literal.{Literal}
use Rattle.mapping.specs.Forms.{Form, distributed}
use Rattle.mapping.specs.Meanings.{Meaning, Lawful}
use Rattle.store.specs.Stores.{Terms, Bounded, Contents, words_left}
use Rattle.store.specs.declared.StoreFault.{StoreFault}
use Rattle.translator.specs.declared.places.Place.{Place}
use Rattle.translator.specs.declared.placed.PlacedForm.{PlacedForm}
use Rattle.translator.specs.Filing.{room_answer, clause_answer, with_all, after_all}
use Rattle.translator.specs.Places.{form_at, placed_clause, reach}
use Rattle.translator.specs.Placed.{form_in, product_behind, Takes, Ready}
use Rattle.translator.proofs.Fitting.{form_fits, forms_fit, product_fits, all_small}

-- an error is never Ok
abbrev Failed : Result (Unit {0}) StoreFault → Type 0
Failed (Ok u) = ⊥
Failed (Err e) = Unit {0}

pub never_ok : {P : Type 0} (e : StoreFault) (u : Unit {0}) → Err e ≡ Ok u → P
never_ok e u h = absurd (subst Failed h tt)

module _ {Cell : Type 0} (T : Terms Cell) (K : Contents Cell) where
  pub room_ok : (h n : ℕ) (u : Unit {0}) → room_answer T K h n ≡ Ok u → (h ≤ T.largest) × (n ≤ words_left T K)
  room_ok h n u ok = ⊎_elim
      (λ high. ⊎_elim
      (λ enough. (leb-true _ _ high, leb-true _ _ enough))
      (λ short. let both : Err _ ≡ Ok u = sym (cond-true (leb h T.largest) _ _ high ∙ cond-false (leb n (words_left T K)) _ _ short) ∙ ok in absurd (cc))
      (cases_Bool (leb n (words_left T K))))
      (λ spent. let both : Err _ ≡ Ok u = sym (cond-false (leb h T.largest) _ _ spent) ∙ ok in absurd (cc))
      (cases_Bool (leb h T.largest))

  -- the forms of a clause are loaded and counted, and the store is asked for room
  pub record Asked (M : Meaning) (ps : List Place) (ls : List Literal) (product : List PlacedForm) (h n : ℕ) (answer : Result (Unit {0}) StoreFault) : Type 0 where
    pub forms : map form_in product ≡ map (form_at M ps) ls
    pub short : length product ≤ 16
    pub highest : h ≡ reach M ps ls
    pub counted : n ≡ words_of (distributed (map form_in product))
    pub said : answer ≡ room_answer T K h n

  module _ (M : Meaning) (ps : List Place) (ls : List Literal) (product : List PlacedForm) (h n : ℕ) (answer : Result (Unit {0}) StoreFault) (a : Asked M ps ls product h n answer) where
    answer_is : answer ≡ clause_answer M T K ps ls
    answer_is =
        a.said ∙ (λ i. room_answer T K (a.highest i) (a.counted i))
        ∙ ap (λ (fs : List Form). room_answer T K (reach M ps ls) (words_of (distributed fs))) a.forms

    behind_none : product_behind [] product ≡ placed_clause M ps ls
    behind_none = map-id (distributed (map form_in product)) ∙ ap distributed a.forms

    -- where the room is there, the store takes the clause's product
    pub ready : Lawful M → Bounded T → (u : Unit {0}) → answer ≡ Ok u → Ready T K [] product
    ready lawful bounded u ok =
        let room = room_ok h n u (sym a.said ∙ ok) in
        let fit = forms_fit M lawful T.largest ps ls (omega (arith, room.0, a.highest)) in
        record {
          small = all_small T.largest bounded.largest product (ap (every (form_fits T.largest)) a.forms ∙ fit);
          space = omega (arith, a.short);
          takes = subst (Takes T K) (sym behind_none) (record {
            fit = product_fits T.largest (map (form_at M ps) ls) fit;
            room = omega (arith, room.1, a.counted, ap words_of (ap distributed a.forms));
          });
        }

    -- the product is stored, all of it
    pub stored : (r : Result (Unit {0}) StoreFault) (u : Unit {0}) (K' : Contents Cell) → answer ≡ Ok u → r ≡ Ok tt → K' ≡ with_all T K (product_behind [] product) →
        (r ≡ clause_answer M T K ps ls) × (K' ≡ after_all r T K (placed_clause M ps ls))
    stored r u K' was is after = (
      is ∙ sym was ∙ answer_is,
      after ∙ ap (with_all T K) behind_none ∙ sym (ap (λ (x : Result (Unit {0}) StoreFault). after_all x T K (placed_clause M ps ls)) is),
    )
