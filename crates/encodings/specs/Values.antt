-- A Boolean for each value. Assumes nothing.
use Rattle.std.specs.Prelude.{ℕ, [], ◌∷◌, ℤ, pos}
use Rattle.formula.specs.declared.signed.Sign.{Sign}
use Rattle.mapping.specs.Forms.{Form}
use Rattle.encodings.specs.ListedForms.{form_by}

-- "value i" is Boolean i
abbrev pub value_literal : ℕ → ℤ
value_literal i = pos i

-- the forms of a value that its own Boolean stands for: that Boolean with a plus, its opposite with a minus
abbrev pub value_form : ℕ → Sign → ℕ → Form
value_form m s i = form_by (value_literal i ∷ []) s
