-- What the checks of a sheet hold where they pass. Assumes nothing.
use Rattle.std.proofs.Common.{◌≡◌, ℕ, ◌+◌, ◌<◌, ◌≤◌, Bool, true, false, ltb, leb, List, length, Ok, Err, Result, refl, subst}
use Rattle.std.specs.Result.{result_and}
use Rattle.std.proofs.lemmas.Bool.{and_parts, leb-true, ltb-true}
use Rattle.formula.specs.Refusals.{detail}
use Rattle.formula.specs.declared.signed.Literal.{Literal}
use Rattle.workbook.specs.declared.faults.WorkbookFault.{WorkbookFault}
use Rattle.workbook.specs.declared.faults.WorkbookFault.TheVariants.{Long}
use Rattle.workbook.specs.Checks.{check, space_answer, literals_answer, clause_answer}
use Rattle.workbook.specs.Pages.{Page, literals_of}

-- an error is no success
abbrev Failed : Result (Unit {0}) WorkbookFault → Type 0
Failed (Ok u) = ⊥
Failed (Err e) = Unit {0}

-- a check that passes
pub passed : (b : Bool) (e : WorkbookFault) (u : Unit {0}) → check b e ≡ Ok u → b ≡ true
passed true e u h = refl
passed false e u h = absurd (subst Failed h tt)

-- checks that pass, each of them
pub both_passed : (a b : Result (Unit {0}) WorkbookFault) (u : Unit {0}) → result_and a b ≡ Ok u → (a ≡ Ok tt) × (b ≡ Ok u)
both_passed (Ok tt) b u h = (refl, h)
both_passed (Err e) b u h = absurd (subst Failed h tt)

pub space_passed : (p : Page) (n : ℕ) (u : Unit {0}) → space_answer p n ≡ Ok u → (length p.entries < 1024) × (literals_of p.entries + n ≤ 4096)
space_passed p n u h =
    let both = and_parts (ltb (length p.entries) 1024) (leb (literals_of p.entries + n) 4096) (passed _ _ u h) in
    (ltb-true _ _ both.0, leb-true _ _ both.1)

pub clause_passed : (p : Page) (ls : List Literal) (u : Unit {0}) → clause_answer p ls ≡ Ok u →
    (length ls ≤ 16) × (length p.entries < 1024) × (literals_of p.entries + length ls ≤ 4096)
clause_passed p ls u h =
    let long = both_passed (check (leb (length ls) 16) (Long (detail (length ls)))) (result_and (literals_answer p.places 1 ls) (space_answer p (length ls))) u h in
    let space = space_passed p (length ls) u (both_passed (literals_answer p.places 1 ls) (space_answer p (length ls)) u long.1).1 in
    (leb-true _ _ (passed _ _ tt long.0), space.0, space.1)
