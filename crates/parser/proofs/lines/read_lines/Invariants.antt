use Rattle.std.proofs.Common.{◌≡◌, map, vec_items}
use Rattle.std.specs.Option.{option_map}
use Rattle.parser.specs.Said.{said, said_of}
use Rattle.parser.proofs.LineByLine.{trimmed}
use Rattle.parser.proofs.lines.read_lines.Given as goal

abbrev pub invariant-loop-line : goal.invariant-loop-line
invariant-loop-line l =
    (goal.iterator-loop-line).can_next l.line-iterator × (goal.iterator-loop-line).is_finite l.line-iterator
    × (map (option_map said_of) (vec_items l.all) ≡ map said (map (λ x. trimmed x.now) l.yielded))
