-- Out of range, and for bits of another number, there is no reading.
use Rattle.std.proofs.Common.{sym}
use Rattle.encodings.specs.Standard.{standard_within}
use Rattle.encodings.specs.Guard.{reading_no_size, reading_no_row}
use Rattle.encodings.specs.Rows.{row_refused}
use Rattle.standard_encoding.proofs.standard.StandardMapping.reading.Goals as goal
use Rattle.standard_encoding.proofs.standard.StandardMapping.reading.Goals.{then-not-in_sizes-via-then-not-in_sizes, then-not-in_sizes-via-else-not-in_sizes+then-bits-size}

pub returns-then-not-in_sizes : goal.returns-then-not-in_sizes
returns-then-not-in_sizes c =
    elim c.then-not-in_sizes.branch [
      | then-not-in_sizes-via-then-not-in_sizes w ↦ sym (reading_no_size standard_within c.args.size c.args.bits.now (sym w.if-not-in_sizes.ensures))
      | then-not-in_sizes-via-else-not-in_sizes+then-bits-size w ↦
          sym (reading_no_row standard_within c.args.size c.args.bits.now (row_refused _ c.args.bits.now w.if-bits-size.true))
    ]
