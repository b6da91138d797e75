-- The ties of the values so far are written, and there is room for the next; those from here on are left.
use Rattle.encodings.proofs.Writing.{Writing}
use Rattle.encodings.specs.Ties.{ties}
use Rattle.tied_encodings.proofs.ValueTies.{ties_left}
use Rattle.tied_encodings.proofs.tied.Tied.write_ties.Given as goal

abbrev pub invariant-loop-value : goal.invariant-loop-value
invariant-loop-value g l =
    Writing l.initial.memory l.memory l.count (ties_left g.M.Mapping.meaning l.size.count l.value) (ties g.M.Mapping.meaning l.size.count)
