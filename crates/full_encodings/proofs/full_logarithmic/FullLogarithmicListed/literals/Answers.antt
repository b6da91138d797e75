-- The pattern of a value is one of the two spellings.
use Rattle.std.proofs.Common.{◌∙◌, arith}
use Rattle.encodings.proofs.DigitCounts.{digits_few}
use Rattle.encodings.proofs.Patterns.{pattern_first, pattern_later}
use Rattle.full_encodings.proofs.full_logarithmic.FullLogarithmicListed.literals.Goals as goal

pub spell-requires : goal.spell-requires
spell-requires c =
    let few = digits_few c.args.choice.size c.args.choice.size_in_range in
    let is = c.of_size-count.ensures.count in (omega arith, omega arith)

pub spell-requires-else-value-spare : goal.spell-requires-else-value-spare
spell-requires-else-value-spare c =
    let few = digits_few c.args.choice.size c.args.choice.size_in_range in
    let is = c.of_size-count.ensures.count in (omega arith, omega arith)

pub returns-then-value-spare : goal.returns-then-value-spare
returns-then-value-spare c =
    let found = c.of_size-count.ensures in
    c.spell.ensures ∙ pattern_first c.args.choice.size c.args.choice.value _ _ found.count found.spare c.if-value-spare.true

pub returns-else-value-spare : goal.returns-else-value-spare
returns-else-value-spare c =
    let found = c.of_size-count.ensures in
    c.spell-else-value-spare.ensures ∙ pattern_later c.args.choice.size c.args.choice.value _ _ found.count found.spare c.if-value-spare.false
