-- The next power of two has the digits of the size.
use Rattle.std.proofs.Common.{◌-◌, ap₂, arith}
use Rattle.encodings.proofs.DigitCounts.{next_power}
use Rattle.encodings.proofs.digits.Digits.of_size.Goals as goal

pub overflow_cast-result : goal.overflow_cast-result
overflow_cast-result c = record { fits = omega (arith, c.ranges.size.fits) }

pub returns : goal.returns
returns c =
    let p = c.next_power_of_two-patterns.ensures in
    let e = next_power c.args.size _ c.ilog2.result p.power (omega arith) (omega arith) (omega arith) (omega arith) in
    record { count = e.0; spare = ap₂ ◌-◌ e.1 c.from-values.ensures }
