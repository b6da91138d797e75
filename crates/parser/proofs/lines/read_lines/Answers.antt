use Rattle.std.proofs.Common.{map, ap, ◌∙◌, rules, tests}
use Rattle.std.proofs.lemmas.Iterator.Consumers.{YieldsList-end}
use Rattle.parser.specs.Said.{said}
use Rattle.parser.proofs.LineByLine.{YieldsList-from_split_inclusive}
use Rattle.parser.proofs.lines.read_lines.Goals as goal

pub returns : goal.returns
returns c =
    let done =
    YieldsList-end (YieldsList-from_split_inclusive _ c.args.text.now (cc) (cc) (λ x b q k. search (rules, tests)))
    c.loop-line.yielded _ c.loop-line.yielded_by _ _ c.in-None.is c.next.ensures.steps in
    c.loop-line.invariant.2 ∙ ap (map said) done.0
