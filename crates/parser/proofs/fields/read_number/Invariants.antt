use Rattle.parser.proofs.Digits.{Read}
use Rattle.parser.proofs.fields.read_number.Given as goal

abbrev pub invariant-loop-byte : goal.invariant-loop-byte
invariant-loop-byte l = Read l.field l.rest l.byte-index l.number
