use Rattle.std.proofs.Common.{◌≡◌, not, drop}
use Rattle.std.specs.List.{find}
use Rattle.store.specs.Stores.{fits}
use Rattle.text_store.specs.ByteStores.{byte_largest}
use Rattle.text_store.proofs.fitting.first_unfit.Given as goal

abbrev pub invariant-loop-literal : goal.invariant-loop-literal
invariant-loop-literal l = find (λ x. not (fits byte_largest x)) (drop l.literal-index l.clause) ≡ find (λ x. not (fits byte_largest x)) l.clause
