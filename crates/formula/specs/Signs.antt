-- The bytes of the two signs. Assumes nothing.
use Rattle.std.specs.Prelude.{ℕ, cond, Some, None, Option, ◌==◌}
use Rattle.formula.specs.declared.signed.Sign.{Sign}
use Rattle.formula.specs.declared.signed.Sign.TheVariants.{Plus, Minus}

-- + is 43 and - is 45
abbrev pub sign_byte : Sign → ℕ
sign_byte Plus = 43
sign_byte Minus = 45

-- any other byte is no sign
abbrev pub sign_of : ℕ → Option Sign
sign_of b = cond (b == 43) (Some Plus) (cond (b == 45) (Some Minus) None)
