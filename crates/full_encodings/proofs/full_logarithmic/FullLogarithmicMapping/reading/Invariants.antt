-- What is left of the digits, from the number so far, gives the whole number.
use Rattle.std.proofs.Common.{◌≡◌, ◌^◌, ◌<◌, drop}
use Rattle.encodings.proofs.Weighing.{weighing}
use Rattle.full_encodings.proofs.full_logarithmic.FullLogarithmicMapping.reading.Given as goal

abbrev pub invariant-loop-digit : goal.invariant-loop-digit
invariant-loop-digit l = (l.number < 2 ^ l.digit) ×
    (weighing l.number (2 ^ l.digit) (drop l.digit l.bits) ≡ weighing 0 1 l.bits)
