-- Bytes cut at a mark. Assumes nothing.
use Rattle.std.specs.Prelude.{ℕ, ◌+◌, List, [], ◌∷◌, Some, None, Option, ◌==◌, take, drop, position}
use Rattle.std.specs.List.{slice_split}
use Rattle.std.specs.Option.{option_map}

-- what follows from a value that is there
abbrev pub given : {X Y : Type 0} → Option X → (X → Option Y) → Option Y
given None f = None
given (Some x) f = f x

-- the bytes before the first mark and those behind it, where there is one
abbrev pub halves : ℕ → List ℕ → Option (List ℕ × List ℕ)
halves mark bs = option_map (λ i. (take i bs, drop (i + 1) bs)) (position (λ b. b == mark) bs)

-- all parts between marks: one more than there are marks
abbrev pub parts : ℕ → List ℕ → List (List ℕ)
parts mark bs = slice_split (λ b. b == mark) bs

-- the last part counts only where it has a byte
abbrev pub closed : List (List ℕ) → List (List ℕ)
closed [] = []
closed ([] ∷ []) = []
closed ((b ∷ bs) ∷ []) = (b ∷ bs) ∷ []
closed (p ∷ q ∷ ps) = p ∷ closed (q ∷ ps)

-- the lines of a text: a newline ends a line, the last may lack it
abbrev pub lines : List ℕ → List (List ℕ)
lines bs = closed (parts 10 bs)
