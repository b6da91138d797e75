-- The inner reading, confirmed by the values' bits.
use Rattle.std.proofs.Common.{◌≡◌, ap, ◌∙◌}
use Rattle.mapping.specs.Meanings.{guarded}
use Rattle.encodings.specs.Ties.{tied}
use Rattle.tied_encodings.proofs.OneBit.{reading_short, reading_none, reading_some}
use Rattle.tied_encodings.proofs.tied.TiedMapping.reading.Goals as goal

pub returns-in_err-own : goal.returns-in_err-own
returns-in_err-own g c =
    let M = g.M.Mapping.meaning in
    let size = c.in_ok-size.field-0 in
    let same : size.count ≡ c.args.size = c.in_ok-size.ensures in
    c.from_residual-in_err-own.ensures ∙
    (reading_short M g.met.M.Inner.tieable size.count size.in_range c.args.bits.now c.in_err-own.ensures.cases ∙ ap (λ m. (guarded (tied M)).reading m c.args.bits.now) same)

pub returns-in_err-value : goal.returns-in_err-value
returns-in_err-value g c =
    let M = g.M.Mapping.meaning in
    let size = c.in_ok-size.field-0 in
    let same : size.count ≡ c.args.size = c.in_ok-size.ensures in
    c.from_residual-in_err-value.ensures ∙
    (reading_none M g.met.M.Inner.tieable size.count size.in_range c.args.bits.now c.in_ok-own.own.now c.in_ok-own.rest.now c.in_ok-own.ensures.cases c.in_err-value.ensures ∙ ap (λ m. (guarded (tied M)).reading m c.args.bits.now) same)

pub returns : goal.returns
returns g c =
    let M = g.M.Mapping.meaning in
    let size = c.in_ok-size.field-0 in
    let same : size.count ≡ c.args.size = c.in_ok-size.ensures in
    c.then_some.ensures ∙
    (reading_some M g.met.M.Inner.tieable size.count size.in_range c.args.bits.now c.in_ok-own.own.now c.in_ok-own.rest.now c.in_ok-own.ensures.cases
    c.in_ok-value.value c.is_only.result c.in_ok-value.ensures c.is_only.ensures ∙ ap (λ m. (guarded (tied M)).reading m c.args.bits.now) same)
