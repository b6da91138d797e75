-- The exclusions so far are written; those of the values from `later` on are left.
use Rattle.std.proofs.Common.{◌≤◌, length}
use Rattle.encodings.proofs.Writing.{Writing}
use Rattle.standard_encoding.proofs.ExclusionWriting.{pairs_of, pairs_left}
use Rattle.standard_encoding.proofs.standard.write_exclusions_of.Given as goal

abbrev pub invariant-loop-later : goal.invariant-loop-later
invariant-loop-later l = (l.count ≤ length l.initial.memory) × Writing l.initial.memory l.memory l.count (pairs_left l.size l.value l.later) (pairs_of l.size l.value)
