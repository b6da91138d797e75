-- The Boolean clauses that stand for a sheet. Assumes nothing.
use Rattle.std.specs.Prelude.{ℕ, ◌-◌, List, [], ◌∷◌, ◌++◌, map, take}
use Rattle.formula.specs.Boolean.{Clause}
use Rattle.formula.specs.Sheets.{Entry, variable, clause, entry_sizes, size_at}
use Rattle.formula.specs.Tests.{sum_of}
use Rattle.formula.specs.declared.signed.Literal.{Literal}
use Rattle.mapping.specs.Forms.{Form, shifted, shifted_form, distributed}
use Rattle.mapping.specs.Meanings.{Meaning}

module _ (M : Meaning) where
  -- the Booleans of variables of these sizes, in all
  abbrev pub booleans : List ℕ → ℕ
  booleans ms = sum_of M.width ms

  -- the Booleans of the variables before variable v
  abbrev pub before : List ℕ → ℕ → ℕ
  before ms v = booleans (take (v - 1) ms)

  -- the form of a literal, over the Booleans of its variable, which follow those of the variables before it
  abbrev pub form_of : List ℕ → Literal → Form
  form_of ms l = shifted_form (before ms l.variable) (M.form (size_at ms l.variable) l.sign l.value)

  -- what an entry stores after variables of these sizes: a variable its axioms over its own Booleans, a clause every choice of its forms
  abbrev pub stored : List ℕ → Entry → List Clause
  stored ms (variable m) = map (map (shifted (booleans ms))) (M.axioms m)
  stored ms (clause ls) = distributed (map (form_of ms) ls)

  abbrev pub stored_after : List ℕ → List Entry → List Clause
  stored_after ms [] = []
  stored_after ms (e ∷ es) = stored ms e ++ stored_after (ms ++ entry_sizes e) es

  -- the translation of a sheet: what its entries store, in order
  abbrev pub translation : List Entry → List Clause
  translation es = stored_after [] es
