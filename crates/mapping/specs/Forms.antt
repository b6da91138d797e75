-- Forms: what stands for a signed literal, and what a row of them is distributed to. Assumes nothing.
use Rattle.std.specs.Prelude.{ℕ, ◌+◌, Bool, List, [], ◌∷◌, ◌++◌, map, length, ℤ, pos, negsuc}
use Rattle.std.specs.List.{flat_map}
use Rattle.formula.specs.Boolean.{Clause, true_literal}
use Rattle.formula.specs.Tests.{every, some}
use Rattle.formula.specs.declared.signed.Sign.{Sign}
use Rattle.formula.specs.declared.signed.Sign.TheVariants.{Plus, Minus}
use Rattle.mapping.specs.declared.Kind.{Kind}
use Rattle.mapping.specs.declared.Kind.TheVariants.{AllOf, AnyOf}
use Rattle.mapping.specs.declared.Shape.{Shape}

-- a form is true when all of its literals are, or when any of them is
pub data Form : Type 0 where
  all_of : List ℤ → Form
  any_of : List ℤ → Form

abbrev pub true_form : List ℕ → Form → Bool
true_form bits (all_of ls) = every (true_literal bits) ls
true_form bits (any_of ls) = some (true_literal bits) ls

abbrev pub members : Form → List ℤ
members (all_of ls) = ls
members (any_of ls) = ls

-- what code is told of a form, beside its literals
abbrev pub kind_of : Form → Kind
kind_of (all_of ls) = AllOf
kind_of (any_of ls) = AnyOf

-- the kind of the form of a sign: all of a value's literals with a plus, any of their opposites with a minus
abbrev pub kind_by : Sign → Kind
kind_by Plus = AllOf
kind_by Minus = AnyOf

abbrev pub shape_of : Form → Shape
shape_of f = record { kind = kind_of f; count = length (members f) }

-- the literal of a Boolean that stands n places further
abbrev pub shifted : ℕ → ℤ → ℤ
shifted n (pos a) = pos (a + n)
shifted n (negsuc a) = negsuc (a + n)

abbrev pub shifted_form : ℕ → Form → Form
shifted_form n (all_of ls) = all_of (map (shifted n) ls)
shifted_form n (any_of ls) = any_of (map (shifted n) ls)

-- what a Boolean clause may take of a form: one member of an all-of form, every member of an any-of form
abbrev pub choices : Form → List (List ℤ)
choices (all_of ls) = map (λ l. l ∷ []) ls
choices (any_of ls) = ls ∷ []

-- the clauses of a row of forms: every choice, from the left, first members first, the last form's choice turning fastest
abbrev pub distributed : List Form → List Clause
distributed [] = [] ∷ []
distributed (f ∷ fs) = flat_map (λ c. map (λ d. c ++ d) (distributed fs)) (choices f)

-- the number of a form's choices, and the literals that each choice takes
abbrev pub split : Form → ℕ
split (all_of ls) = length ls
split (any_of ls) = 1

abbrev pub taken : Form → ℕ
taken (all_of ls) = 1
taken (any_of ls) = length ls
