-- Boolean literals, clauses and assignments. Assumes nothing.
use Rattle.std.specs.Prelude.{ℕ, zero, suc, ◌+◌, Bool, true, false, not, ◌&&◌, List, [], ◌∷◌, ◌++◌, map, length, ℤ, pos, negsuc, neg_ℤ, ◌==◌, nat_le, slice_index}
use Rattle.formula.specs.Tests.{every, some, sum_of}

-- a Boolean literal is n for Boolean n, numbered from 1, and -n for its opposite; a clause is a list of them
abbrev pub Clause : Type 0
Clause = List ℤ

-- the number of a literal's Boolean
abbrev pub number : ℤ → ℕ
number (pos n) = n
number (negsuc n) = suc n

-- the other literal of the same Boolean
abbrev pub opposite : ℤ → ℤ
opposite = neg_ℤ

-- an assignment is a list of bits, bit n for Boolean n: a literal is true where its Boolean is 1, its opposite where it is not
abbrev pub true_literal : List ℕ → ℤ → Bool
true_literal bits (pos zero) = false
true_literal bits (pos (suc n)) = 1 == slice_index bits n
true_literal bits (negsuc n) = not (1 == slice_index bits n)

-- a clause holds when one of its literals is true
abbrev pub true_clause : List ℕ → Clause → Bool
true_clause bits c = some (true_literal bits) c

-- an assignment satisfies clauses when each of them holds
abbrev pub satisfies : List ℕ → List Clause → Bool
satisfies bits cs = every (true_clause bits) cs

-- a row of w bits, each 0 or 1
abbrev pub row : ℕ → List ℕ → Bool
row zero [] = true
row zero (b ∷ bits) = false
row (suc w) [] = false
row (suc w) (b ∷ bits) = nat_le b 1 && row w bits

-- every row of w bits, in the order in which binary numbers count
abbrev pub assignments : ℕ → List (List ℕ)
assignments zero = [] ∷ []
assignments (suc w) = map (λ bits. 0 ∷ bits) (assignments w) ++ map (λ bits. 1 ∷ bits) (assignments w)

-- a literal of the Booleans 1 to w
abbrev pub local : ℕ → ℤ → Bool
local w l = nat_le 1 (number l) && nat_le (number l) w

-- the words of a clause are its literals and one for its end
abbrev pub words : Clause → ℕ
words c = length c + 1

abbrev pub words_of : List Clause → ℕ
words_of cs = sum_of words cs
