-- The ones at the front and what follows them give the reading.
use Rattle.std.proofs.Common.{◌≡◌, ◌+◌, eqb, drop, sym, ap, ◌∙◌, ap₂, rules, tests}
use Rattle.std.specs.Bool.{then_some}
use Rattle.std.proofs.lemmas.List.{take_rest}
use Rattle.std.proofs.lemmas.Iterator.{YieldsList-from_slice}
use Rattle.std.proofs.lemmas.Iterator.Consumers.{count_from_yields_List}
use Rattle.std.proofs.lemmas.Iterator.Search.{YieldsList-from_take_while, all_from_yields_List}
use Rattle.std.proofs.lemmas.List.Folds.{length-prefix_len}
use Rattle.encodings.specs.FullRegular.{full_regular_within}
use Rattle.encodings.specs.Guard.{reading_no_size, reading_no_row}
use Rattle.encodings.specs.Rows.{row_refused}
use Rattle.encodings.proofs.Fronts.{front, zeros, reading_front}
use Rattle.encodings.proofs.full_regular.FullRegularMapping.reading.Goals as goal
use Rattle.encodings.proofs.full_regular.FullRegularMapping.reading.Goals.{then-not-in_sizes-via-then-not-in_sizes, then-not-in_sizes-via-else-not-in_sizes+then-bits-size}

pub returns-then-not-in_sizes : goal.returns-then-not-in_sizes
returns-then-not-in_sizes c =
    elim c.then-not-in_sizes.branch [
      | then-not-in_sizes-via-then-not-in_sizes w ↦ sym (reading_no_size full_regular_within c.args.size c.args.bits.now (sym w.if-not-in_sizes.ensures))
      | then-not-in_sizes-via-else-not-in_sizes+then-bits-size w ↦
          sym (reading_no_row full_regular_within c.args.size c.args.bits.now (row_refused _ c.args.bits.now w.if-bits-size.true))
    ]

pub returns : goal.returns
returns c =
    let bits = c.args.bits.now in
    let count : c.count-ones.result ≡ front bits =
    count_from_yields_List c.take_while.result _ c.count-ones.ensures.ran (YieldsList-from_take_while _ (λ b. eqb b 1) (YieldsList-from_slice bits cc)
    c.take_while.ensures.closure c.take_while.ensures.done (λ x b q k. search (rules, tests))) ∙ length-prefix_len (λ b. eqb b 1) bits in
    let rest : c.all.result ≡ zeros (drop c.count-ones.result bits) =
    all_from_yields_List (λ b. eqb b 0) _ _ c.all.result c.all.ensures.ran (YieldsList-from_slice (drop c.count-ones.result bits)
    (c.iter-2.ensures.rest ∙ take_rest bits c.count-ones.result)) (λ x b q k. search (rules, tests)) in
    c.then_some.ensures ∙ (ap₂ then_some (rest ∙ ap (λ n. zeros (drop n bits)) count) (ap (λ n. n + 1) count) ∙
    sym (reading_front c.args.size bits (sym c.if-not-in_sizes.ensures) c.if-bits-size.false))
