-- A row of calls, made one after the other on a workbook. Assumes nothing.
use Rattle.std.specs.Prelude.{◌≡◌, ℕ, ◌≤◌, List, [], ◌∷◌, length, Result}
use Rattle.formula.specs.declared.signed.Literal.{Literal}
use Rattle.mapping.specs.Memory.{over}
use Rattle.store.specs.Stores.{Contents}
use Rattle.workbook.specs.declared.faults.WorkbookFault.{WorkbookFault}
use Rattle.workbook.specs.Calls.{declare_answer, declared, state_answer, stated}
use Rattle.workbook.specs.Faults.{on_ok}
use Rattle.workbook.specs.States.{Made, State, new_state}
use Rattle.rows.specs.declared.Call.{Call}
use Rattle.rows.specs.declared.Call.TheVariants as code

-- a call with its arguments
pub data Step : Type 0 where
  declares : ℕ → Step
  states : List Literal → Step

-- a call as code has it, with its literals lent
abbrev pub step_of : Call → Step
step_of (code.Declare m) = declares m
step_of (code.State ls) = states ls.now

module _ {Cell : Type 0} (D : Made Cell) where
  -- what the workbook answers to a call
  abbrev pub answer_to : State Cell → Step → Result ℕ WorkbookFault
  answer_to s (declares m) = declare_answer D s m
  answer_to s (states ls) = state_answer D s ls

  -- what is there after a call: a refusal changes nothing
  abbrev pub after_step : State Cell → Step → State Cell
  after_step s (declares m) = on_ok (declare_answer D s m) s (declared D s m)
  after_step s (states ls) = on_ok (state_answer D s ls) s (stated D s ls)

  -- the answers to a row of calls, and what is there after it
  abbrev pub row_answers : State Cell → List Step → List (Result ℕ WorkbookFault)
  row_answers s [] = []
  row_answers s (c ∷ cs) = answer_to s c ∷ row_answers (after_step s c) cs

  abbrev pub after_row : State Cell → List Step → State Cell
  after_row s [] = s
  after_row s (c ∷ cs) = after_row (after_step s c) cs

-- a row made on a new workbook: its answers lie at the front of the places lent for them, and the workbook holds what the row leaves
pub record Done {Cell : Type 0} (D : Made Cell) (K : Contents Cell) (row : List Step) (before after : List (Result ℕ WorkbookFault)) (D' : Made Cell) (s : State Cell) (n : ℕ) : Type 0 where
  pub fits : length row ≤ length before
  pub answers : after ≡ over (row_answers D (new_state K) row) before
  pub made : D' ≡ D
  pub state : s ≡ after_row D (new_state K) row
  pub clauses : n ≡ length s.contents.list
