-- How full a sheet in memory is. Assumes nothing.
use Rattle.std.proofs.Common.{◌≡◌, ◌+◌, length, vec_items, vec_len, sym, ◌∙◌, arith, ℕ, ◌<◌, ◌≤◌, ◌&&◌, ltb, leb, Ok, Err}
use Rattle.std.proofs.lemmas.Bool.{and_from, and_left, and_right, cond-true, cond-false, lt-ltb, le-ltb, le-leb, lt-leb}
use Rattle.formula.specs.Sheets.{clauses}
use Rattle.workbook.specs.declared.sheet.Sheet.{Sheet}
use Rattle.workbook.specs.Pages.{literals_of, Page}
use Rattle.workbook.specs.Sheets.{page_in}
use Rattle.workbook.specs.declared.faults.WorkbookFault.TheVariants.{SheetFull}
use Rattle.workbook.specs.Checks.{space_answer}
use Rattle.workbook.proofs.Slots.{length_entries, literals_entries, clauses_entries}

pub entries_held : (s : Sheet) → length (page_in s).entries ≡ vec_len s.slots
entries_held s = length_entries (vec_items s.slots) (vec_items s.literals) ∙ sym s.slots.ok.0

pub literals_held : (s : Sheet) → literals_of (page_in s).entries ≡ vec_len s.literals
literals_held s =
    literals_entries (vec_items s.slots) (vec_items s.literals) (omega (arith, s.literals_counted, s.literals.ok.0)) ∙ s.literals_counted

pub clauses_held : (s : Sheet) → length (clauses (page_in s).entries) + vec_len s.places ≡ vec_len s.slots
clauses_held s = omega (arith, clauses_entries (vec_items s.slots) (vec_items s.literals), s.clauses_counted)

-- where a sheet has room it says so, and where it has none too
module _ (p : Page) (n : ℕ) where
  pub space_left : length p.entries < 1024 → literals_of p.entries + n ≤ 4096 → space_answer p n ≡ Ok tt
  space_left e l = cond-true (ltb (length p.entries) 1024 && leb (literals_of p.entries + n) 4096) _ _ (and_from _ _ (lt-ltb _ _ e) (le-leb _ _ l))

  pub entries_full : 1024 ≤ length p.entries → space_answer p n ≡ Err SheetFull
  entries_full e = cond-false (ltb (length p.entries) 1024 && leb (literals_of p.entries + n) 4096) _ _ (and_left _ _ (le-ltb _ _ e))

  pub literals_full : 4096 < literals_of p.entries + n → space_answer p n ≡ Err SheetFull
  literals_full l = cond-false (ltb (length p.entries) 1024 && leb (literals_of p.entries + n) 4096) _ _ (and_right _ _ (lt-leb _ _ l))
