-- Where the Booleans of declared variables lie, and the clauses of an entry placed there. Assumes nothing.
use Rattle.std.specs.Prelude.{ℕ, ◌+◌, ◌-◌, max, List, [], ◌∷◌, map, slice_index_or}
use Rattle.formula.specs.Boolean.{Clause}
use Rattle.formula.specs.declared.signed.Literal.{Literal}
use Rattle.mapping.specs.Forms.{Form, shifted, shifted_form, distributed}
use Rattle.mapping.specs.Meanings.{Meaning}
use Rattle.translator.specs.declared.places.Place.{Place}

-- no variable: of size 0, before every Boolean
abbrev pub nowhere : Place
nowhere = record { size = 0; start = 0 }

-- the place of variable v
abbrev pub place_at : List Place → ℕ → Place
place_at ps v = slice_index_or ps (v - 1) nowhere

module _ (M : Meaning) where
  -- the form of a literal over the Booleans of its variable
  abbrev pub form_at : List Place → Literal → Form
  form_at ps l = shifted_form (place_at ps l.variable).start (M.form (place_at ps l.variable).size l.sign l.value)

  -- what a clause stores: every choice of its forms
  abbrev pub placed_clause : List Place → List Literal → List Clause
  placed_clause ps ls = distributed (map (form_at ps) ls)

  -- what a variable of size m stores: its axioms, behind the Booleans before its own
  abbrev pub placed_axioms : ℕ → ℕ → List Clause
  placed_axioms start m = map (map (shifted start)) (M.axioms m)

  -- the number of the last Boolean of the variables that the literals name
  abbrev pub reach : List Place → List Literal → ℕ
  reach ps [] = 0
  reach ps (l ∷ ls) = max ((place_at ps l.variable).start + M.width (place_at ps l.variable).size) (reach ps ls)
