-- The values are written one by one, and a 0 behind them.
use Rattle.std.proofs.Common.{◌≡◌, length, arith, length-take}
use Rattle.encodings.specs.Limits.{size_high}
use Rattle.standard_encoding.proofs.SomeValue.{some_value_written}
use Rattle.standard_encoding.proofs.standard.write_some_value.Goals as goal

pub returns-clause-memory : goal.returns-clause-memory
returns-clause-memory c =
    let few = size_high c.args.size.count c.args.size.in_range in
    let long : length c.loop-place.word-items ≡ c.args.size.count = omega (arith, length-take c.args.size.count c.args.memory.now, c.loop-place.auto.word-items) in
    some_value_written c.args.size.count _ c.args.memory.now long (omega arith) (λ k h. c.loop-place.invariant k (omega (arith, c.loop-place.auto.word-items)))
