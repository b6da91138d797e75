-- The two forms of a value that a list of literals stands for. Assumes nothing.
use Rattle.std.specs.Prelude.{ℕ, cond, ◌&&◌, List, [], map, ℤ}
use Rattle.formula.specs.Boolean.{opposite}
use Rattle.formula.specs.declared.signed.Sign.{Sign}
use Rattle.formula.specs.declared.signed.Sign.TheVariants.{Plus, Minus}
use Rattle.mapping.specs.Forms.{Form, all_of, any_of}
use Rattle.mapping.specs.Meanings.{is_size, is_value}

-- the forms of a value that its literals stand for: all of them with a plus, any of their opposites with a minus
abbrev pub form_by : List ℤ → Sign → Form
form_by ls Plus = all_of ls
form_by ls Minus = any_of (map opposite ls)

-- a literal for a plus, its opposite for a minus
abbrev pub signed_literal : Sign → ℤ → ℤ
signed_literal Plus l = l
signed_literal Minus l = opposite l

-- the same of a list for each value of each size, and any of nothing out of range
abbrev pub listed_form : (ℕ → ℕ → List ℤ) → ℕ → Sign → ℕ → Form
listed_form list m s i = cond (is_size m && is_value m i) (form_by (list m i) s) (any_of [])
