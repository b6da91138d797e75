use Rattle.std.proofs.Common.{rules}
use Rattle.std.proofs.lemmas.Iterator.{YieldsList-from_slice}
use Rattle.std.proofs.lemmas.Iterator.Consumers.{YieldsList-at}
use Rattle.std.proofs.lemmas.List.Folds.{flat_map-map}
use Rattle.std.specs.Option.{option_map}
use Rattle.rows.specs.Rows.{step_of}
use Rattle.parser.specs.Said.{said_of}
use Rattle.reader.specs.Program.{steps_in}
use Rattle.reader.proofs.Picked.{picked}
use Rattle.reader.proofs.calls.list_calls.Goals as goal

pub returns : goal.returns
returns c =
    let lines = c.args.lines.now in
    rw flat_map-map
    (picked _ (λ x. x.now) _ step_of (λ line. steps_in (option_map said_of line)) _ (λ x r q k. search rules) _ lines c.collect.result c.collect.ensures.ran
    (YieldsList-at c.filter_map.ensures.source (YieldsList-from_slice lines (cc))) c.filter_map.ensures.closure)
