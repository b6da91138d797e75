-- What a workbook was made of, and what it holds. Assumes nothing.
use Rattle.std.specs.Prelude.{ℕ}
use Rattle.mapping.specs.Meanings.{Meaning}
use Rattle.store.specs.Stores.{Terms, Contents, after_clear}
use Rattle.workbook.specs.Pages.{Page, empty_page}

-- a book number, a mapping and a store's terms: no call changes them
pub record Made (Cell : Type 0) : Type 0 where
  pub book : ℕ
  pub meaning : Meaning
  pub terms : Terms Cell

-- what is remembered of the sheet, and what the store holds
pub record State (Cell : Type 0) : Type 0 where
  pub page : Page
  pub contents : Contents Cell

-- a new workbook has an empty sheet, and its store holds no clause
abbrev pub new_state : {Cell : Type 0} → Contents Cell → State Cell
new_state K = record { page = empty_page; contents = after_clear K }
