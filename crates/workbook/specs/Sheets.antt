-- The page that a sheet in memory holds. Assumes nothing.
use Rattle.std.specs.Prelude.{vec_items}
use Rattle.workbook.specs.declared.sheet.Sheet.{Sheet}
use Rattle.workbook.specs.Pages.{Page, entries_in}

abbrev pub page_in : Sheet → Page
page_in s = record { entries = entries_in (vec_items s.slots) (vec_items s.literals); places = vec_items s.places; total = s.total }
