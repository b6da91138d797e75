-- How code holds a form: its kind and its literals over its variable's own Booleans. Assumes nothing.
use Rattle.std.specs.Prelude.{◌≡◌, ◌+◌, ◌*◌, ◌^◌, ◌≤◌, true, List, ◌++◌, map, length, ℤ, nat_lt}
use Rattle.std.specs.List.{AllByRecursion}
use Rattle.formula.specs.Boolean.{Clause, number, words_of}
use Rattle.formula.specs.Tests.{every}
use Rattle.mapping.specs.Forms.{Form, all_of, any_of, shifted, shifted_form, distributed}
use Rattle.mapping.specs.declared.Kind.{Kind}
use Rattle.mapping.specs.declared.Kind.TheVariants.{AllOf, AnyOf}
use Rattle.store.specs.Stores.{Terms, Contents, fits, words_left}
use Rattle.translator.specs.declared.placed.PlacedForm.{PlacedForm}

abbrev pub of_kind : Kind → List ℤ → Form
of_kind AllOf ls = all_of ls
of_kind AnyOf ls = any_of ls

-- the form over the Booleans of the whole sheet
abbrev pub form_in : PlacedForm → Form
form_in p = shifted_form p.start (of_kind p.kind p.literals.items)

-- the clauses of a product of forms, each behind the same literals
abbrev pub product_behind : List ℤ → List PlacedForm → List Clause
product_behind front ps = map (λ d. front ++ d) (distributed (map form_in ps))

-- a store can take these clauses one after the other: each literal fits, and there are words for them all
pub record Takes {Cell : Type 0} (T : Terms Cell) (K : Contents Cell) (cs : List Clause) : Type 0 where
  pub fit : every (every (fits T.largest)) cs ≡ true
  pub room : words_of cs ≤ words_left T K

-- its literals over the Booleans of the whole sheet
abbrev pub own_literals : PlacedForm → List ℤ
own_literals p = map (shifted p.start) p.literals.items

-- their numbers are those of an i32
pub record Small (p : PlacedForm) : Type 0 where
  pub numbers : every (λ l. nat_lt (number l) (2 ^ 31)) (own_literals p) ≡ true

-- what the recursion over a product's forms asks: places for the literals still to come, and a store that can take every clause
pub record Ready {Cell : Type 0} (T : Terms Cell) (K : Contents Cell) (front : List ℤ) (ps : List PlacedForm) : Type 0 where
  pub small : AllByRecursion Small ps
  pub space : length front + 8 * length ps ≤ 128
  pub takes : Takes T K (product_behind front ps)
