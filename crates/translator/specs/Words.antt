-- Clauses that lie in memory as words: the literals of each, and a 0 for its end. Assumes nothing.
use Rattle.std.specs.Prelude.{ℕ, zero, suc, List, [], ◌∷◌, ◌++◌, ℤ, pos, negsuc, Ok, Err, Result}
use Rattle.formula.specs.Boolean.{Clause}
use Rattle.mapping.specs.Meanings.{Meaning}
use Rattle.store.specs.declared.StoreFault.{StoreFault}
use Rattle.translator.specs.Places.{placed_axioms}

-- the clauses that end in these words, of which the first has begun with the literals of c
abbrev pub ended_in : Clause → List ℤ → List Clause
ended_in c [] = []
ended_in c (pos zero ∷ ws) = c ∷ ended_in [] ws
ended_in c (pos (suc n) ∷ ws) = ended_in (c ++ pos (suc n) ∷ []) ws
ended_in c (negsuc n ∷ ws) = ended_in (c ++ negsuc n ∷ []) ws

-- the axioms that are left in memory: moved where they are stored
abbrev pub axioms_left : Result (Unit {0}) StoreFault → Meaning → ℕ → ℕ → List Clause
axioms_left (Ok u) M start m = placed_axioms M start m
axioms_left (Err e) M start m = M.axioms m
