use Rattle.std.proofs.Common.{take, sym, ap, subst}
use Rattle.text_store.specs.ByteStores.{StandsFor}
use Rattle.text_store.specs.Texts.{text_clause, text_list}
use Rattle.text_store.proofs.Fronts.{fronted}
use Rattle.text_store.proofs.Held.{stands_for}
use Rattle.text_store.proofs.Legibility.{text_legible}
use Rattle.text_store.proofs.text_store.TextStore.held.Goals as goal

pub returns-clause-stands : goal.returns-clause-stands
returns-clause-stands c =
    let s = c.self.inside in
    subst (StandsFor text_clause (take s.held c.as_slice.result.now)) (ap (λ K. K.list) c.self.view_is)
    (subst (λ memory. StandsFor text_clause (take s.held memory) (text_list (take s.held s.bytes.items))) (sym c.as_slice.ensures.value) (stands_for text_legible (fronted c.self.invariant)))
