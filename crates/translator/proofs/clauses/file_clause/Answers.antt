use Rattle.std.proofs.Common.{◌≡◌, ◌≤◌, ℕ, min, List, Result, map, take, length, ap, ◌∙◌}
use Rattle.std.proofs.lemmas.List.{take_min}
use Rattle.formula.specs.Boolean.{words_of}
use Rattle.formula.specs.declared.signed.Literal.{Literal}
use Rattle.mapping.specs.Forms.{distributed}
use Rattle.mapping.specs.Meanings.{Meaning}
use Rattle.store.specs.Stores.{Terms, Contents}
use Rattle.store.specs.declared.StoreFault.{StoreFault}
use Rattle.translator.specs.Filing.{room_answer}
use Rattle.translator.specs.Placed.{form_in}
use Rattle.translator.specs.Places.{form_at, reach}
use Rattle.translator.specs.declared.places.Place.{Place}
use Rattle.translator.specs.declared.placed.PlacedForm.{PlacedForm}
use Rattle.translator.proofs.Rooms.{Asked, ready, stored}
use Rattle.translator.proofs.clauses.file_clause.Goals as goal

-- the forms are those of the first 16 literals
asked : {Cell : Type 0} (T : Terms Cell) (K : Contents Cell) (M : Meaning) (ps : List Place) (ls : List Literal) (n : ℕ) (forms product : List PlacedForm) (h words : ℕ) (answer : Result (Unit {0}) StoreFault) →
    n ≡ min 16 (length ls) → map form_in forms ≡ map (form_at M ps) (take n ls) → product ≡ forms → length product ≤ 16 →
    h ≡ reach M ps (take n ls) → words ≡ words_of (distributed (map form_in product)) → answer ≡ room_answer T K h words →
    Asked T K M ps (take 16 ls) product h words answer
asked T K M ps ls n forms product h words answer first loaded same short highest counted said =
    let part : take n ls ≡ take 16 ls = ap (λ m. take m ls) first ∙ take_min 16 ls in
    record {
      forms = ap (map form_in) same ∙ loaded ∙ ap (map (form_at M ps)) part;
      short = short;
      highest = highest ∙ ap (reach M ps) part;
      counted = counted;
      said = said;
    }

pub put_all-requires : goal.put_all-requires
put_all-requires g c =
    let T = g.S.Store.terms c.args.store.now in
    let K = g.S.Store.contents c.args.store.now in
    let ask = asked T K g.M.Mapping.meaning c.args.places.now c.args.literals.now _ _ _ _ _ _ c.min.ensures c.load_forms.ensures c.as_slice-product.ensures.value c.as_slice-product.ensures.fits c.reach.ensures c.count_words.ensures c.check_room.ensures in
    ready _ _ _ _ _ _ _ _ _ ask g.met.M.Mapping.lawful (g.met.S.Store.laws c.args.store.now) _ c.in_ok-check_room.was

pub returns : goal.returns
returns g c =
    let T = g.S.Store.terms c.args.store.now in
    let K = g.S.Store.contents c.args.store.now in
    let ask = asked T K g.M.Mapping.meaning c.args.places.now c.args.literals.now _ _ _ _ _ _ c.min.ensures c.load_forms.ensures c.as_slice-product.ensures.value c.as_slice-product.ensures.fits c.reach.ensures c.count_words.ensures c.check_room.ensures in
    let said = c.put_all.ensures in
    let done = stored _ _ _ _ _ _ _ _ _ ask c.put_all.result _ _ c.in_ok-check_room.was said.answer said.after in
    record { answer = done.0; after = done.1; same = said.same }
