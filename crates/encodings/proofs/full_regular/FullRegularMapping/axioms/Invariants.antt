-- The links so far are written; those from j on are left.
use Rattle.std.proofs.Common.{◌≤◌, length}
use Rattle.encodings.specs.FullRegular.{links}
use Rattle.encodings.proofs.LinkWriting.{links_left}
use Rattle.encodings.proofs.Writing.{Writing}
use Rattle.encodings.proofs.full_regular.FullRegularMapping.axioms.Given as goal

abbrev pub invariant-loop-j : goal.invariant-loop-j
invariant-loop-j l = (l.count ≤ length l.initial.memory) ×
    Writing l.initial.memory l.memory l.count (links_left l.size l.j) (links l.size)
