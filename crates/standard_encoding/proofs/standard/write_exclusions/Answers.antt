-- The exclusions of each value are written behind those of the values before it.
use Rattle.std.proofs.Common.{arith}
use Rattle.standard_encoding.proofs.ExclusionWriting.{exclusions_none, exclusions_room, exclusions_more, exclusions_all}
use Rattle.standard_encoding.proofs.standard.write_exclusions.Goals as goal

pub loop-value-init : goal.loop-value-init
loop-value-init c = exclusions_room _ _ _ c.args.size.count 1 c.requires (exclusions_none c.args.memory.now c.args.size.count)

pub loop-value-preserved : goal.loop-value-preserved
loop-value-preserved c =
    exclusions_room _ _ _ c.args.size.count _ c.requires
    (exclusions_more _ _ _ c.args.size.count c.loop-value.value _ c.write_exclusions_of-count.result _ (omega arith) (omega arith) c.requires
    c.write_exclusions_of-count.ensures.count c.write_exclusions_of-count.ensures.memory c.loop-value.invariant.1)

pub returns : goal.returns
returns c =
    let all = exclusions_all _ _ _ c.args.size.count c.loop-value.value c.loop-value-test.false c.loop-value.invariant.1 in
    record { count = all.0; memory = all.1 }
