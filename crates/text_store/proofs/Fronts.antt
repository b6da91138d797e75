-- The front of a text store's buffer is the text of its clauses. Assumes nothing.
use Rattle.std.proofs.Common.{ℕ, List}
use Rattle.text_store.specs.Texts.{text_line, line_clause}
use Rattle.text_store.specs.TextStores.{IsKept}
use Rattle.text_store.proofs.Held.{Fronted}

module _ {memory : List ℕ} {held words count : ℕ} where
  pub fronted : IsKept memory held words count → Fronted text_line 10 line_clause memory held words count
  fronted k = record { within = k.within; text = record { whole = k.whole; fit_all = k.fit; words_are = k.worded; count_is = k.counted } }

  pub kept : Fronted text_line 10 line_clause memory held words count → IsKept memory held words count
  kept f = record { within = f.within; whole = f.text.whole; fit = f.text.fit_all; worded = f.text.words_are; counted = f.text.count_is }
