-- The inner literals of a value are of few Booleans. Assumes nothing.
use Rattle.std.specs.Prelude.{◌≡◌, ℕ, ◌+◌, true}
use Rattle.formula.proofs.Tests.{every_weaker}
use Rattle.formula.specs.Boolean.{local}
use Rattle.formula.specs.Tests.{every}
use Rattle.formula.specs.declared.signed.Sign.TheVariants.{Plus}
use Rattle.mapping.specs.Forms.{members}
use Rattle.mapping.specs.Meanings.{Meaning, is_size, is_value}
use Rattle.encodings.proofs.Tying.{every_shifted_local}
use Rattle.encodings.specs.Readers.{local_more}
use Rattle.encodings.specs.Ties.{inner_list, Tieable}

pub inner_narrow : (M : Meaning) → Tieable M → (m i : ℕ) → is_size m ≡ true → is_value m i ≡ true → every (local 127) (inner_list M m i) ≡ true
inner_narrow M T m i s v =
    let w = M.width m in
    every_weaker (local (m + w)) (local 127) (local_more (m + w) 127 (T.narrow m s)) (inner_list M m i)
    (every_shifted_local m w (members (M.form m Plus i)) ((T.lawful.at_size m s).form_local Plus i v))
