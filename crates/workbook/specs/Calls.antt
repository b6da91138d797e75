-- The calls of a workbook: what each answers, and what is there afterwards. Assumes nothing.
use Rattle.std.specs.Prelude.{ℕ, ◌+◌, List, length, Ok, Result}
use Rattle.std.specs.Result.{result_and}
use Rattle.formula.specs.Sheets.{clauses}
use Rattle.formula.specs.declared.signed.Literal.{Literal}
use Rattle.translator.specs.Filing as filing
use Rattle.translator.specs.Filing.{with_all}
use Rattle.translator.specs.Places.{placed_axioms, placed_clause}
use Rattle.workbook.specs.declared.faults.WorkbookFault.{WorkbookFault}
use Rattle.workbook.specs.Checks.{size_answer, clause_answer}
use Rattle.workbook.specs.Faults.{from_store}
use Rattle.workbook.specs.Pages.{with_variable, with_clause}
use Rattle.workbook.specs.States.{Made, State}

module _ {Cell : Type 0} (D : Made Cell) (s : State Cell) where
  -- declare answers the variable's number, after the checks of the sheet and then the store's
  abbrev pub declare_answer : ℕ → Result ℕ WorkbookFault
  declare_answer m =
      result_and (size_answer s.page m)
      (result_and (from_store (filing.axioms_answer D.meaning D.terms s.contents s.page.total m)) (Ok (length s.page.places + 1)))

  -- it adds the variable, and stores its axioms
  abbrev pub declared : ℕ → State Cell
  declared m = record {
    page = with_variable s.page m (D.meaning.width m);
    contents = with_all D.terms s.contents (placed_axioms D.meaning s.page.total m);
  }

  -- state answers the clause's number, after the checks of the sheet and then the store's
  abbrev pub state_answer : List Literal → Result ℕ WorkbookFault
  state_answer ls =
      result_and (clause_answer s.page ls)
      (result_and (from_store (filing.clause_answer D.meaning D.terms s.contents s.page.places ls)) (Ok (length (clauses s.page.entries) + 1)))

  -- it adds the clause, and stores every choice of its forms
  abbrev pub stated : List Literal → State Cell
  stated ls = record {
    page = with_clause s.page ls;
    contents = with_all D.terms s.contents (placed_clause D.meaning s.page.places ls);
  }
