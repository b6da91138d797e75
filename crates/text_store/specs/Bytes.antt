-- Bytes in a buffer: a write at a place or at the front, and the pieces that a mark ends. Assumes nothing.
use Rattle.std.specs.Prelude.{◌≡◌, ℕ, ◌+◌, ◌<◌, Bool, true, cond, not, ◌⊎◌, List, [], ◌∷◌, ◌++◌, length, take, drop, ◌==◌, nat_lt}
use Rattle.formula.specs.Tests.{every, sum_of}

-- the buffer after bytes are written from a place on: every other byte stays
abbrev pub at_place : ℕ → List ℕ → List ℕ → List ℕ
at_place place bytes buffer = take place buffer ++ (bytes ++ drop (place + length bytes) buffer)

-- bytes were written at the front of a buffer: how many they are, and the buffer afterwards
pub record WroteFront (bytes before : List ℕ) (count : ℕ) (after : List ℕ) : Type 0 where
  pub count_is : count ≡ length bytes
  pub after_is : after ≡ bytes ++ drop (length bytes) before

-- a byte more in front of the first piece
abbrev pub onto : ℕ → List (List ℕ) → List (List ℕ)
onto b [] = []
onto b (p ∷ ps) = (b ∷ p) ∷ ps

-- the pieces that a mark ends, without the mark; what stands behind the last mark is left out
abbrev pub pieces : ℕ → List ℕ → List (List ℕ)
pieces mark [] = []
pieces mark (b ∷ bytes) = cond (mark == b) ([] ∷ pieces mark bytes) (onto b (pieces mark bytes))

-- no byte is the mark
abbrev pub clean : ℕ → List ℕ → Bool
clean mark bytes = every (λ b. not (mark == b)) bytes

-- bytes that are none, or end with the mark
abbrev pub Closed : ℕ → List ℕ → Type 0
Closed mark bytes = (bytes ≡ []) ⊎ ((front : List ℕ) × (bytes ≡ front ++ mark ∷ []))

-- the number of bytes below a bound
abbrev pub lows : ℕ → List ℕ → ℕ
lows bound bytes = sum_of (λ b. cond (nat_lt b bound) 1 0) bytes

-- from a place on there are bytes without the mark and then the mark, and this many of them are below a bound
pub record PieceFrom (mark bound : ℕ) (bytes : List ℕ) (start count : ℕ) : Type 0 where
  pub piece : List ℕ
  pub within : start < length bytes
  pub whole : take start bytes ++ (piece ++ mark ∷ []) ≡ bytes
  pub unmarked : clean mark piece ≡ true
  pub count_is : count ≡ lows bound (piece ++ mark ∷ [])
