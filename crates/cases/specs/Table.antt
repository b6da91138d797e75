-- The table of worked cases, each row computed by the definitions. Assumes nothing.
use Rattle.std.specs.Prelude.{List, [], ◌∷◌, ℕ, length}
use Rattle.encodings.specs.FullRegular.{full_regular}
use Rattle.formula.specs.Sheets.{Entry, variable, clause}
use Rattle.formula.specs.declared.signed.Literal.{Literal}
use Rattle.formula.specs.declared.signed.Sign.{Sign}
use Rattle.formula.specs.declared.signed.Sign.TheVariants.{Plus, Minus}
use Rattle.mapping.specs.Translation.{translation}

abbrev literal : Sign → ℕ → ℕ → Literal
literal sign v i = record { variable = v; value = i; sign = sign }

-- the small sheet: variables of sizes 3 and 2, and the clause +1:2 -2:1
abbrev pub small_sheet : List Entry
small_sheet = variable 3 ∷ variable 2 ∷ clause (literal Plus 1 2 ∷ literal Minus 2 1 ∷ []) ∷ []

abbrev pub table : List ℕ
table =
    -- the axioms of FR at size 2
    length (full_regular.axioms 2)
    -- the clauses that FR stores for the small sheet
    ∷ length (translation full_regular small_sheet)
    ∷ []
