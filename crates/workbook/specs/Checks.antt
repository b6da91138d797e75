-- What a workbook checks before it asks its store. Assumes nothing.
use Rattle.std.specs.Prelude.{ℕ, ◌+◌, Bool, cond, ◌&&◌, List, [], ◌∷◌, length, Ok, Err, Result, nat_le, nat_lt}
use Rattle.std.specs.Result.{result_and}
use Rattle.formula.specs.Refusals.{detail}
use Rattle.formula.specs.declared.signed.Literal.{Literal}
use Rattle.mapping.specs.Meanings.{is_size, is_value}
use Rattle.translator.specs.declared.places.Place.{Place}
use Rattle.translator.specs.Places.{place_at}
use Rattle.workbook.specs.declared.faults.WorkbookFault.{WorkbookFault}
use Rattle.workbook.specs.declared.faults.WorkbookFault.TheVariants.{Size, NamesSpent, Long, Stranger, Value, SheetFull}
use Rattle.workbook.specs.Pages.{Page, literals_of}

-- a check that passes, or has this fault; of checks one after the other (result_and) the first that has a fault decides
abbrev pub check : Bool → WorkbookFault → Result (Unit {0}) WorkbookFault
check b e = cond b (Ok tt) (Err e)

-- a sheet has at most 1,024 entries and 4,096 literals
abbrev pub space_answer : Page → ℕ → Result (Unit {0}) WorkbookFault
space_answer p n = check (nat_lt (length p.entries) 1024 && nat_le (literals_of p.entries + n) 4096) SheetFull

-- a variable has a size of 2 to 64, and there are at most 255
abbrev pub size_answer : Page → ℕ → Result (Unit {0}) WorkbookFault
size_answer p m = result_and (check (is_size m) (Size (detail m))) (result_and (check (nat_lt (length p.places) 255) NamesSpent) (space_answer p 0))

-- the literal at place n of a clause names a declared variable and a value of it
abbrev pub literal_answer : List Place → ℕ → Literal → Result (Unit {0}) WorkbookFault
literal_answer ps n l =
    result_and (check (nat_le 1 l.variable && nat_le l.variable (length ps)) (Stranger (detail n)))
    (check (is_value (place_at ps l.variable).size l.value) (Value (detail n)))

-- so does every literal from place n on: the first that has a fault decides
abbrev pub literals_answer : List Place → ℕ → List Literal → Result (Unit {0}) WorkbookFault
literals_answer ps n [] = Ok tt
literals_answer ps n (l ∷ ls) = result_and (literal_answer ps n l) (literals_answer ps (n + 1) ls)

-- a clause has at most 16 literals
abbrev pub clause_answer : Page → List Literal → Result (Unit {0}) WorkbookFault
clause_answer p ls =
    result_and (check (nat_le (length ls) 16) (Long (detail (length ls))))
    (result_and (literals_answer p.places 1 ls) (space_answer p (length ls)))
