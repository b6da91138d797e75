use Rattle.std.proofs.Common.{vec_items}
use Rattle.std.specs.Iterator.Adapters.{zip_first, zip_second}
use Rattle.std.specs.Slice.Iter.{iter_rest}
use Rattle.reader.proofs.Rowed.{Prints}
use Rattle.reader.proofs.printing.print_refusals.Given as goal

abbrev pub invariant-loop-line : goal.invariant-loop-line
invariant-loop-line l =
    (goal.iterator-loop-line).can_next l.line-iterator × (goal.iterator-loop-line).is_finite l.line-iterator
    × Prints l.lines l.fn.answers (vec_items l.initial.out) (iter_rest (zip_first l.line-iterator)) (iter_rest l.answers) (vec_items l.out) (zip_second l.line-iterator).start
