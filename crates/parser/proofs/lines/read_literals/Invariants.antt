use Rattle.std.proofs.Common.{length, vec_items}
use Rattle.parser.specs.Cuts.{parts}
use Rattle.parser.proofs.Clauses.{Reading}
use Rattle.parser.proofs.lines.read_literals.Given as goal

abbrev pub invariant-loop-field : goal.invariant-loop-field
invariant-loop-field l =
    (goal.iterator-loop-field).can_next l.field-iterator × (goal.iterator-loop-field).is_finite l.field-iterator
    × Reading (parts 32 l.fields) (vec_items l.literals) (length l.yielded)
