-- The pass over the digits gives the number, and the number the reading.
use Rattle.std.proofs.Common.{◌^◌, Some, sym, refl, ap, ◌∙◌, arith}
use Rattle.std.proofs.lemmas.Bool.{cond_below, cond_above}
use Rattle.encodings.specs.FullLogarithmic.{full_logarithmic_within}
use Rattle.encodings.proofs.DigitCounts.{digits_few, weight_few, power_doubled}
use Rattle.encodings.specs.Guard.{reading_no_size, reading_no_row}
use Rattle.encodings.specs.Rows.{row_refused}
use Rattle.encodings.proofs.Weighing.{weighing_zero, weighing_one, reading_ended, reading_stopped}
use Rattle.full_encodings.proofs.full_logarithmic.FullLogarithmicMapping.reading.Goals as goal
use Rattle.full_encodings.proofs.full_logarithmic.FullLogarithmicMapping.reading.Goals.{in-0, in-1, then-not-in_sizes-via-then-not-in_sizes, then-not-in_sizes-via-else-not-in_sizes+then-bits-count}

pub returns-then-not-in_sizes : goal.returns-then-not-in_sizes
returns-then-not-in_sizes c =
    elim c.then-not-in_sizes.branch [
      | then-not-in_sizes-via-then-not-in_sizes w ↦ sym (reading_no_size full_logarithmic_within c.args.size c.args.bits.now (sym w.if-not-in_sizes.ensures))
      | then-not-in_sizes-via-else-not-in_sizes+then-bits-count w ↦
          sym (reading_no_row full_logarithmic_within c.args.size c.args.bits.now
          (row_refused _ c.args.bits.now (λ e. w.if-bits-count.true (e ∙ sym c.of_size-count.ensures.count))))
    ]

pub overflow_shl-number : goal.overflow_shl-number
overflow_shl-number c = let few = digits_few c.args.size (sym c.if-not-in_sizes.ensures) in let found = c.of_size-count.ensures.count in omega arith

pub overflow_add-number : goal.overflow_add-number
overflow_add-number c =
    let found = c.of_size-count.ensures.count in
    let few = weight_few c.args.size (sym c.if-not-in_sizes.ensures) _ c.loop-digit.digit found (omega arith) in
    record { fits = omega arith }

pub loop-digit-preserved : goal.loop-digit-preserved
loop-digit-preserved c =
    let found = c.of_size-count.ensures.count in
    let few = weight_few c.args.size (sym c.if-not-in_sizes.ensures) _ c.loop-digit.digit found (omega arith) in
    let twice = power_doubled c.loop-digit.digit (2 ^ c.loop-digit.digit) refl in
    elim c.match-bit.branch [
      | in-0 w ↦ let n = w.number-is in
          (omega arith, weighing_zero _ _ c.loop-digit.number c.loop-digit-test.true _ w.in-0.is n ∙ c.loop-digit.invariant.1)
      | in-1 w ↦ let n = w.number-is in
          (omega arith, weighing_one _ _ c.loop-digit.number c.loop-digit-test.true _ w.in-1.is (omega arith) ∙ c.loop-digit.invariant.1)
    ]

pub returns-in_default : goal.returns-in_default
returns-in_default c =
    let found = c.of_size-count.ensures in
    sym (reading_stopped c.args.size c.args.bits.now _ _ _ c.loop-digit.digit (sym c.if-not-in_sizes.ensures)
    found.count found.spare c.if-bits-count.false c.loop-digit.invariant.1 c.loop-digit-test.true (omega arith))

pub returns-then-number-spare : goal.returns-then-number-spare
returns-then-number-spare c =
    let found = c.of_size-count.ensures in
    ap Some (cond_below _ _ _ _ c.if-number-spare.true) ∙ sym (reading_ended c.args.size c.args.bits.now _ _ _ _ (sym c.if-not-in_sizes.ensures)
    found.count found.spare c.if-bits-count.false c.loop-digit.invariant.1 c.loop-digit-test.false)

pub returns-else-number-spare : goal.returns-else-number-spare
returns-else-number-spare c =
    let found = c.of_size-count.ensures in
    ap Some (cond_above _ _ _ _ _ c.if-number-spare.false refl) ∙ sym (reading_ended c.args.size c.args.bits.now _ _ _ _ (sym c.if-not-in_sizes.ensures)
    found.count found.spare c.if-bits-count.false c.loop-digit.invariant.1 c.loop-digit-test.false)
