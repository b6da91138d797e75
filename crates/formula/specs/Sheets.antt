-- Signed literals and clauses, sheets and interpretations. Assumes nothing.
use Rattle.std.specs.Prelude.{ℕ, zero, suc, ◌-◌, Bool, not, List, [], ◌∷◌, map, ◌==◌, slice_index}
use Rattle.std.specs.List.{flat_map}
use Rattle.formula.specs.Tests.{every, some}
use Rattle.formula.specs.declared.signed.Sign.{Sign}
use Rattle.formula.specs.declared.signed.Sign.TheVariants.{Plus, Minus}
use Rattle.formula.specs.declared.signed.Literal.{Literal}

-- an entry of a sheet declares a variable of a size, or states a clause of signed literals; a sheet is a list of entries
pub data Entry : Type 0 where
  variable : ℕ → Entry
  clause : List Literal → Entry

-- the sizes of the variables that an entry or a sheet declares, in order: variable v is the v-th
abbrev pub entry_sizes : Entry → List ℕ
entry_sizes (variable m) = m ∷ []
entry_sizes (clause ls) = []

abbrev pub sizes : List Entry → List ℕ
sizes es = flat_map entry_sizes es

-- the clauses that an entry or a sheet states, in order
abbrev pub entry_clauses : Entry → List (List Literal)
entry_clauses (variable m) = []
entry_clauses (clause ls) = ls ∷ []

abbrev pub clauses : List Entry → List (List Literal)
clauses es = flat_map entry_clauses es

-- the size of variable v, and 0 where there is none
abbrev pub size_at : List ℕ → ℕ → ℕ
size_at ms v = slice_index ms (v - 1)

-- a literal with a plus holds when its test does, one with a minus when it does not
abbrev pub by_sign : Sign → Bool → Bool
by_sign Plus b = b
by_sign Minus b = not b

-- an interpretation is a list of values, one for each variable: a literal with a plus holds when its variable has its value
abbrev pub true_signed : List ℕ → Literal → Bool
true_signed vs l = by_sign l.sign (l.value == slice_index vs (l.variable - 1))

-- a clause holds when one of its literals holds; a signed model is an interpretation under which every clause holds
abbrev pub models : List Entry → List ℕ → Bool
models es vs = every (some (true_signed vs)) (clauses es)

-- the n numbers from s on
abbrev pub numbers : ℕ → ℕ → List ℕ
numbers s zero = []
numbers s (suc n) = s ∷ numbers (suc s) n

-- every interpretation of variables of these sizes
abbrev pub interpretations : List ℕ → List (List ℕ)
interpretations [] = [] ∷ []
interpretations (m ∷ ms) = flat_map (λ v. map (λ vs. v ∷ vs) (interpretations ms)) (numbers 1 m)
