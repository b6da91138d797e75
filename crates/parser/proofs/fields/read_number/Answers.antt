use Rattle.std.proofs.Common.{arith, rules}
use Rattle.parser.proofs.Digits.{read_all}
use Rattle.parser.proofs.fields.read_number.Goals as goal

pub returns : goal.returns
returns c = read_all c.args.field.now _ _ _ c.loop-byte.invariant c.loop-byte-test.false (search rules) (omega arith)
