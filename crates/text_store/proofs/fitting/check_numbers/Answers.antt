use Rattle.std.proofs.Common.{◌≡◌, nat_abs, Some, None, sym, ap, ◌∙◌, w32, SFits, rules}
use Rattle.std.specs.Option.{option_map}
use Rattle.std.proofs.lemmas.Int.{to_z-of_z}
use Rattle.store.specs.Stores.{unfit}
use Rattle.text_store.specs.ByteStores.{byte_largest, numbers_answer}
use Rattle.text_store.proofs.Fits.{unfit_found}
use Rattle.text_store.proofs.fitting.check_numbers.Goals as goal

pub returns-in-Some : goal.returns-in-Some
returns-in-Some c =
    let fit : SFits w32 c.in-Some.literal.now = search rules in
    let number : c.from.result ≡ nat_abs c.in-Some.literal.now = c.from.ensures ∙ c.unsigned_abs.ensures.value ∙ ap nat_abs (to_z-of_z w32 _ fit) in
    let found : unfit byte_largest c.args.clause.now ≡ Some (nat_abs c.in-Some.literal.now) = unfit_found byte_largest c.args.clause.now ∙ ap (option_map nat_abs) (sym c.in-Some.ensures) in
    rw (number, c.from-in-Some.ensures, found)

pub returns-in-None : goal.returns-in-None
returns-in-None c =
    let none : unfit byte_largest c.args.clause.now ≡ None = unfit_found byte_largest c.args.clause.now ∙ ap (option_map nat_abs) (sym c.in-None.ensures) in
    ap numbers_answer (sym none)
