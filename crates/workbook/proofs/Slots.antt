-- Entries as code keeps them. Assumes nothing.
use Rattle.std.proofs.Common.{◌≡◌, ℕ, ◌≤◌, List, [], ◌∷◌, ◌++◌, length, drop, refl, arith}
use Rattle.std.proofs.lemmas.Grind.{common_steps}
use Rattle.formula.specs.Sheets.{variable, clause, clauses}
use Rattle.formula.specs.Tests.{sum_of, count}
use Rattle.formula.specs.declared.signed.Literal.{Literal}
use Rattle.workbook.specs.declared.sheet.Slot.{Slot}
use Rattle.workbook.specs.declared.sheet.Slot.TheVariants.{Variable, Clause}
use Rattle.workbook.specs.Pages.{entries_in, literals_of, literals_in, is_clause}

pub length_entries : (ss : List Slot) (ls : List Literal) → length (entries_in ss ls) ≡ length ss
length_entries [] ls = refl
length_entries (Variable m ∷ ss) ls = omega (arith, length_entries ss ls)
length_entries (Clause n ∷ ss) ls = omega (arith, length_entries ss (drop n ls))

pub clauses_entries : (ss : List Slot) (ls : List Literal) → length (clauses (entries_in ss ls)) ≡ count is_clause ss
clauses_entries [] ls = refl
clauses_entries (Variable m ∷ ss) ls = omega (arith, clauses_entries ss ls)
clauses_entries (Clause n ∷ ss) ls = omega (arith, clauses_entries ss (drop n ls))

pub literals_entries : (ss : List Slot) (ls : List Literal) → sum_of literals_in ss ≤ length ls → literals_of (entries_in ss ls) ≡ sum_of literals_in ss
literals_entries [] ls h = refl
literals_entries (Variable m ∷ ss) ls h = omega (arith, literals_entries ss ls (omega arith))
literals_entries (Clause n ∷ ss) ls h = grind (arith, common_steps, literals_entries ss (drop n ls))

pub entries_variable : (ss : List Slot) (ls : List Literal) (m : ℕ) → entries_in (ss ++ Variable m ∷ []) ls ≡ entries_in ss ls ++ variable m ∷ []
entries_variable [] ls m = refl
entries_variable (Variable k ∷ ss) ls m = cc (entries_variable ss ls m)
entries_variable (Clause n ∷ ss) ls m = cc (entries_variable ss (drop n ls) m)

pub entries_clause : (ss : List Slot) (ls more : List Literal) → sum_of literals_in ss ≡ length ls →
    entries_in (ss ++ Clause (length more) ∷ []) (ls ++ more) ≡ entries_in ss ls ++ clause more ∷ []
entries_clause [] ls more h = grind (arith, common_steps)
entries_clause (Variable k ∷ ss) ls more h = cc (entries_clause ss ls more (omega arith))
entries_clause (Clause n ∷ ss) ls more h = grind (arith, common_steps, entries_clause ss (drop n ls) more)

pub clauses_few : (ss : List Slot) → count is_clause ss ≤ length ss
clauses_few [] = omega arith
clauses_few (Variable m ∷ ss) = omega (arith, clauses_few ss)
clauses_few (Clause n ∷ ss) = omega (arith, clauses_few ss)
