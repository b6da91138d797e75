-- How clauses and literals lie in memory that is handed in. Assumes nothing.
use Rattle.std.specs.Prelude.{ℕ, zero, suc, ◌+◌, List, [], ◌∷◌, ◌++◌, length, take, drop, ℤ, pos, negsuc}
use Rattle.std.specs.Int.{w32, saturate_signed}
use Rattle.std.specs.List.{flat_map}
use Rattle.formula.specs.Boolean.{Clause}

-- a clause as words: its literals, and a 0 for its end
abbrev pub ended : Clause → List ℤ
ended c = c ++ pos 0 ∷ []

-- clauses as words, one behind the other
abbrev pub flat : List Clause → List ℤ
flat cs = flat_map ended cs

-- a word moved n Booleans further; an end stays an end
abbrev pub shifted_word : ℕ → ℤ → ℤ
shifted_word n (pos zero) = pos zero
shifted_word n (pos (suc a)) = pos (suc a + n)
shifted_word n (negsuc a) = negsuc (a + n)

-- the same in 32 bits: a word that would be outside them is the nearest inside
abbrev pub moved_word : ℕ → ℤ → ℤ
moved_word n w = saturate_signed w32 (shifted_word n w)

-- memory after xs is written at its front: the rest stays
abbrev pub over : {X : Type 0} → List X → List X → List X
over xs memory = xs ++ drop (length xs) memory

-- memory after xs is written at place n
abbrev pub written : {X : Type 0} → List X → ℕ → List X → List X
written memory n xs = take n memory ++ (xs ++ drop (n + length xs) memory)
