-- What the program prints for an input. Assumes nothing.
use Rattle.std.specs.Prelude.{ℕ, ◌+◌, cond, List, [], ◌∷◌, ◌++◌, map, length, drop, replicate, Some, None, Ok, Err, codes, decimal, Option, Result, nat_le}
use Rattle.std.specs.List.{flat_map}
use Rattle.encodings.specs.Names.{meaning_of}
use Rattle.formula.specs.Refusals.{refusal_text}
use Rattle.formula.specs.declared.refusals.Refusal.{Refusal}
use Rattle.mapping.specs.Meanings.{Meaning}
use Rattle.text_store.specs.ByteStores.{byte_empty}
use Rattle.text_store.specs.Texts.{text_clauses}
use Rattle.text_store.specs.TextStores.{text_terms}
use Rattle.workbook.specs.States.{Made, State, new_state}
use Rattle.workbook.specs.declared.faults.WorkbookFault.{WorkbookFault}
use Rattle.rows.specs.Rows as rows
use Rattle.rows.specs.Rows.{Step, row_answers, after_row}
use Rattle.reader.specs.declared.faults.LineFault.{LineFault}
use Rattle.reader.specs.declared.faults.LineFault.TheVariants.{Line, Workbook}
use Rattle.parser.specs.Cuts.{lines}
use Rattle.reader.specs.Faults.{refusal_of}
use Rattle.parser.specs.Said.{Said, maps, declares, states, said}

-- the call of a readable line
abbrev pub steps_in : Option Said → List Step
steps_in None = []
steps_in (Some (maps n)) = []
steps_in (Some (declares m)) = rows.declares m ∷ []
steps_in (Some (states ls)) = rows.states ls ∷ []

-- the answer to the first call that is left
abbrev pub first_answer : List (Result ℕ WorkbookFault) → Result ℕ LineFault
first_answer [] = Err Line
first_answer (Ok n ∷ rest) = Ok n
first_answer (Err e ∷ rest) = Err (Workbook e)

-- what becomes of a line: a second m line is as unreadable as any other
abbrev pub outcome : Option Said → List (Result ℕ WorkbookFault) → Result ℕ LineFault
outcome None answers = Err Line
outcome (Some (maps n)) answers = Err Line
outcome (Some (declares m)) answers = first_answer answers
outcome (Some (states ls)) answers = first_answer answers

-- a refused line as it is printed: its number and the refusal
abbrev pub refused_line : ℕ → Refusal → List ℕ
refused_line n r = codes "c refused " ++ (decimal n ++ (32 ∷ (refusal_text r ++ 10 ∷ [])))

-- only a refused line is printed
abbrev pub outcome_line : ℕ → Result ℕ LineFault → List ℕ
outcome_line n (Ok k) = []
outcome_line n (Err e) = refused_line n (refusal_of e)

-- the refusals of the lines from line n on
abbrev pub refused_lines : ℕ → List (Option Said) → List (Result ℕ WorkbookFault) → List ℕ
refused_lines n [] answers = []
refused_lines n (s ∷ ss) answers = outcome_line n (outcome s answers) ++ refused_lines (n + 1) ss (drop (length (steps_in s)) answers)

-- the line before the clauses: the number of Booleans and of clauses
abbrev pub header : ℕ → ℕ → List ℕ
header booleans clauses = codes "p cnf " ++ (decimal booleans ++ (32 ∷ (decimal clauses ++ 10 ∷ [])))

-- the program has a workbook over a text store of 32,768 bytes
unfoldable pub buffer : List ℕ
buffer = replicate 32768 0

abbrev pub made_by : Meaning → Made ℕ
made_by M = record { book = 1; meaning = M; terms = text_terms 32768 }

-- what is printed for lines under a mapping: the refusals, the header, and the clauses that the store holds
abbrev pub printed : List (Option Said) → List (Result ℕ WorkbookFault) → State ℕ → List ℕ
printed ss answers s = refused_lines 2 ss answers ++ (header s.page.total (length s.contents.list) ++ text_clauses s.contents.list)

abbrev pub translated : Meaning → List (Option Said) → List ℕ
translated M ss =
    printed ss (row_answers (made_by M) (new_state (byte_empty buffer)) (flat_map steps_in ss)) (after_row (made_by M) (new_state (byte_empty buffer)) (flat_map steps_in ss))

-- no text is read: the first line is refused, and nothing else is printed
abbrev pub no_text : List ℕ
no_text = refused_line 1 (refusal_of Line)

-- the first line names the mapping
abbrev pub by_first : Option Said → List (Option Said) → List ℕ
by_first None ss = no_text
by_first (Some (maps n)) ss = translated (meaning_of n) ss
by_first (Some (declares m)) ss = no_text
by_first (Some (states ls)) ss = no_text

abbrev pub by_lines : List (Option Said) → List ℕ
by_lines [] = no_text
by_lines (s ∷ ss) = by_first s ss

-- an input has at most 16,384 bytes
abbrev pub output : List ℕ → List ℕ
output input = cond (nat_le (length input) 16384) (by_lines (map said (lines input))) no_text
