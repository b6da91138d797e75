-- The values so far are written.
use Rattle.std.proofs.Common.{◌≡◌, ◌+◌, ℕ, ◌<◌, get_or, pos}
use Rattle.standard_encoding.proofs.standard.write_some_value.Given as goal

abbrev pub invariant-loop-place : goal.invariant-loop-place
invariant-loop-place l = (k : ℕ) → k < l.place → get_or l.word-items k (pos 0) ≡ pos (k + 1)
