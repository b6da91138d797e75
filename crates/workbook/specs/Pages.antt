-- What a workbook remembers of a sheet. Assumes nothing.
use Rattle.std.specs.Prelude.{ℕ, ◌+◌, Bool, true, false, List, [], ◌∷◌, ◌++◌, length, take, drop}
use Rattle.formula.specs.Sheets.{Entry, variable, clause, clauses}
use Rattle.formula.specs.Tests.{sum_of}
use Rattle.formula.specs.declared.signed.Literal.{Literal}
use Rattle.translator.specs.declared.places.Place.{Place}
use Rattle.workbook.specs.declared.sheet.Slot.{Slot}
use Rattle.workbook.specs.declared.sheet.Slot.TheVariants.{Variable, Clause}

-- the entries, the places of the declared variables, and the number of their Booleans in all
pub record Page : Type 0 where
  pub entries : List Entry
  pub places : List Place
  pub total : ℕ

abbrev pub empty_page : Page
empty_page = record { entries = []; places = []; total = 0 }

-- the literals of all clauses of a sheet
abbrev pub literals_of : List Entry → ℕ
literals_of es = sum_of length (clauses es)

-- a variable more, whose Booleans follow those before it
abbrev pub with_variable : Page → ℕ → ℕ → Page
with_variable p m width = record {
  entries = p.entries ++ variable m ∷ [];
  places = p.places ++ (record { size = m; start = p.total }) ∷ [];
  total = p.total + width;
}

-- a clause more
abbrev pub with_clause : Page → List Literal → Page
with_clause p ls = record { entries = p.entries ++ clause ls ∷ []; places = p.places; total = p.total }

-- the entries as code keeps them: a size for each variable, a number of literals for each clause, and the literals of all clauses
abbrev pub entries_in : List Slot → List Literal → List Entry
entries_in [] ls = []
entries_in (Variable m ∷ ss) ls = variable m ∷ entries_in ss ls
entries_in (Clause n ∷ ss) ls = clause (take n ls) ∷ entries_in ss (drop n ls)

-- the literals that a slot counts: none for a variable
abbrev pub literals_in : Slot → ℕ
literals_in (Variable m) = 0
literals_in (Clause n) = n

abbrev pub is_clause : Slot → Bool
is_clause (Variable m) = false
is_clause (Clause n) = true
