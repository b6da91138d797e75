-- The literals so far are written; those from here on and the end are left.
use Rattle.std.proofs.Common.{drop}
use Rattle.mapping.specs.Memory.{ended}
use Rattle.encodings.proofs.Appending.{Appending}
use Rattle.encodings.proofs.clauses.write_clause.Given as goal

abbrev pub invariant-loop-place : goal.invariant-loop-place
invariant-loop-place l = Appending l.initial.memory l.memory 0 l.place (ended (drop l.place l.literals)) (ended l.literals)
