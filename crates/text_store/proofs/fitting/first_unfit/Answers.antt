use Rattle.std.proofs.Common.{◌≡◌, not, get_or, pos, sym, ap, ◌∙◌, w32, SFits, rules}
use Rattle.std.proofs.lemmas.Int.{to_z-of_z}
use Rattle.store.specs.Stores.{fits}
use Rattle.text_store.specs.ByteStores.{byte_largest}
use Rattle.text_store.proofs.Fits.{find_here, find_next, find_ended}
use Rattle.text_store.proofs.fitting.first_unfit.Goals as goal
use Rattle.text_store.proofs.fitting.first_unfit.Goals.{After-is_fit}

fit_is : (c : After-is_fit) → c.is_fit.result ≡ fits byte_largest (get_or c.args.clause.now c.loop-literal.literal-index (pos 0))
fit_is c =
    let l = get_or c.args.clause.now c.loop-literal.literal-index (pos 0) in
    let fit : SFits w32 l = search rules in
    rw (to_z-of_z w32 l fit) at c.is_fit.ensures

pub returns-then-not-is_fit : goal.returns-then-not-is_fit
returns-then-not-is_fit c =
    let misfit = ap not (sym (fit_is (goal.at.returns-then-not-is_fit c).After-is_fit) ∙ c.if-not-is_fit.true) in
    sym (find_here _ c.args.clause.now _ (pos 0) c.loop-literal-test.true misfit) ∙ c.loop-literal.invariant

pub loop-literal-preserved : goal.loop-literal-preserved
loop-literal-preserved c =
    let taken = ap not (sym (fit_is (goal.at.loop-literal-preserved c).After-is_fit) ∙ c.if-not-is_fit.false) in
    find_next _ c.args.clause.now _ (pos 0) c.loop-literal-test.true taken ∙ c.loop-literal.invariant

pub returns : goal.returns
returns c = sym (find_ended _ c.args.clause.now _ c.loop-literal-test.false) ∙ c.loop-literal.invariant
