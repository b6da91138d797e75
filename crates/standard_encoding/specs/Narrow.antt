-- A value's own literal is of few Booleans. Assumes nothing.
use Rattle.std.specs.Prelude.{◌≡◌, ℕ, true, [], ◌∷◌}
use Rattle.std.proofs.Common.{arith}
use Rattle.std.proofs.lemmas.Bool.Decides.{nat_tests}
use Rattle.formula.specs.Boolean.{local}
use Rattle.formula.specs.Tests.{every}
use Rattle.mapping.specs.Meanings.{is_size, is_value}
use Rattle.encodings.specs.Limits.{size_high, value_low, value_high}
use Rattle.encodings.specs.Values.{value_literal}

pub value_narrow : (m i : ℕ) → is_size m ≡ true → is_value m i ≡ true → every (local 127) (value_literal i ∷ []) ≡ true
value_narrow m i s v =
    let high = size_high m s in
    let low = value_low m i v in
    let most = value_high m i v in
    grind (arith, nat_tests)
