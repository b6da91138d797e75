-- Rows with one bit on. Assumes nothing.
use Rattle.std.specs.Prelude.{ℕ, ◌+◌, Bool, true, cond, ◌&&◌, List, [], ◌∷◌, ◌==◌}

-- of the bits behind so many others the one at a place, counted from 1 over all, is 1 and every other 0
abbrev pub only : ℕ → ℕ → List ℕ → Bool
only before place [] = true
only before place (b ∷ bits) = b == cond (before + 1 == place) 1 0 && only (before + 1) place bits
