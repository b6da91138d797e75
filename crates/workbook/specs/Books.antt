-- What a workbook was made of and what it holds, read off it. Assumes nothing.
use Rattle.mapping.specs.Meanings.{Meaning}
use Rattle.store.specs.Stores.{Terms, Contents}
use Rattle.workbook.specs.declared.book.Workbook.{Workbook}
use Rattle.workbook.specs.Sheets.{page_in}
use Rattle.workbook.specs.States.{Made, State}

module _ {M S Cell : Type 0} where
  abbrev pub made_of : Meaning → (S → Terms Cell) → Workbook M S → Made Cell
  made_of meaning terms w = record { book = w.book; meaning = meaning; terms = terms w.parts.store }

  abbrev pub state_of : (S → Contents Cell) → Workbook M S → State Cell
  state_of contents w = record { page = page_in w.parts.sheet; contents = contents w.parts.store }
