use Rattle.std.proofs.Common.{◌≡◌, ◌-◌, ◌≤◌, max, length}
use Rattle.store.specs.Stores.{after_cut}
use Rattle.text_store.proofs.text_store.TextStoreStore.cut.Given as goal

abbrev pub invariant-loop : goal.invariant-loop
invariant-loop l = (l.self ≡ after_cut (length l.initial.self.list - (l.counter - l.count)) l.initial.self) × (l.counter ≤ max l.count l.end)
