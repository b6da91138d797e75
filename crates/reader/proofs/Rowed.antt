-- What is printed of lines, one by one. Assumes nothing.
use Rattle.std.proofs.Common.{◌≡◌, ℕ, ◌+◌, List, ◌++◌, map, length, Option, Result}
use Rattle.std.specs.Option.{option_map}
use Rattle.workbook.specs.declared.faults.WorkbookFault.{WorkbookFault}
use Rattle.parser.specs.Said.{said_of}
use Rattle.parser.specs.declared.lines.Line.{Line}
use Rattle.reader.specs.Program.{refused_lines}

-- what is printed so far, and what is still to be printed of the lines that are left, from line n on
pub record Prints (all : List (Option Line)) (answers : List (Result ℕ WorkbookFault)) (before : List ℕ) (rest : List (Option Line)) (left : List (Result ℕ WorkbookFault)) (out : List ℕ) (n : ℕ) : Type 0 where
  pub printed : out ++ refused_lines n (map (option_map said_of) rest) left ≡ before ++ refused_lines 2 (map (option_map said_of) all) answers
  pub number : n + length rest ≡ 2 + length all
