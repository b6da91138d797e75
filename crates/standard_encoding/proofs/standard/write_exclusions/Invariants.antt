-- The exclusions of the values so far are written, and there is room for the next; those of the values from `value` on are left.
use Rattle.std.proofs.Common.{◌+◌, ◌-◌, ◌*◌, ◌≤◌, length}
use Rattle.encodings.specs.Standard.{exclusions}
use Rattle.standard_encoding.proofs.ExclusionWriting.{exclusions_left}
use Rattle.encodings.proofs.Writing.{Writing}
use Rattle.standard_encoding.proofs.standard.write_exclusions.Given as goal

abbrev pub invariant-loop-value : goal.invariant-loop-value
invariant-loop-value l = (l.count + 3 * (l.size.count - l.value) ≤ length l.initial.memory) ×
    Writing l.initial.memory l.memory l.count (exclusions_left l.size.count l.value) (exclusions l.size.count)
