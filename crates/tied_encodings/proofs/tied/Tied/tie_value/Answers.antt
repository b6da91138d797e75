-- The value's literals are those that the inner mapping lists.
use Rattle.std.proofs.Common.{◌≡◌, ℕ, ◌+◌, ◌*◌, true, length, pos, sym, ap, ◌∙◌, ap₂, arith, w32, to_z}
use Rattle.std.proofs.lemmas.Bool.{and_from}
use Rattle.std.proofs.lemmas.Bool.Decides.{nat_tests}
use Rattle.std.proofs.lemmas.Int.{to_z_pos}
use Rattle.formula.specs.Boolean.{local}
use Rattle.formula.specs.Tests.{every}
use Rattle.mapping.specs.Meanings.{is_size, is_value}
use Rattle.mapping.specs.Memory.{flat, over}
use Rattle.encodings.specs.Limits.{size_high, value_low, value_high}
use Rattle.encodings.specs.Ties.{inner_list, tie}
use Rattle.encodings.specs.Values.{value_literal}
use Rattle.tied_encodings.proofs.TieWords.{tie_words}
use Rattle.tied_encodings.specs.Narrow.{inner_narrow}
use Rattle.tied_encodings.proofs.tied.Tied.tie_value.Goals as goal

-- the value's own literal
own_word : (m i : ℕ) → is_size m ≡ true → is_value m i ≡ true → to_z w32 i ≡ pos i
own_word m i s v = let high = size_high m s in let most = value_high m i v in to_z_pos w32 i (omega arith)

own_narrow : (m i : ℕ) → is_size m ≡ true → is_value m i ≡ true → local 127 (pos i) ≡ true
own_narrow m i s v = let high = size_high m s in let low = value_low m i v in let most = value_high m i v in grind (arith, nat_tests)

pub invariant_of-tie : goal.invariant_of-tie
invariant_of-tie g c =
    let M = g.M.Mapping.meaning in
    let m = c.args.choice.size in
    let i = c.args.choice.value in
    let s = c.args.choice.size_in_range in
    let v = c.args.choice.value_in_range in
    let is : c.as_slice.result.now ≡ inner_list M m i = c.as_slice.ensures.value ∙ c.literals-others.ensures in
    record {
      few = c.as_slice.ensures.fits;
      narrow = and_from _ _ (ap (local 127) (own_word m i s v) ∙ own_narrow m i s v)
          (ap (every (local 127)) is ∙ inner_narrow M g.met.M.Inner.tieable m i s v);
    }

pub write-requires : goal.write-requires
write-requires g c =
    let M = g.M.Mapping.meaning in
    let m = c.args.choice.size in
    let i = c.args.choice.value in
    let is : c.as_slice.result.now ≡ inner_list M m i = c.as_slice.ensures.value ∙ c.literals-others.ensures in
    omega (arith, ap length is, tie_words (value_literal i) (inner_list M m i))

pub returns : goal.returns
returns g c =
    let M = g.M.Mapping.meaning in
    let m = c.args.choice.size in
    let i = c.args.choice.value in
    let is : c.as_slice.result.now ≡ inner_list M m i = c.as_slice.ensures.value ∙ c.literals-others.ensures in
    let own = own_word m i c.args.choice.size_in_range c.args.choice.value_in_range in
    record {
      count = c.write.ensures.count ∙ (ap (λ ls. 4 * length ls + 2) is ∙ sym (tie_words (value_literal i) (inner_list M m i)));
      memory = c.write.ensures.memory ∙ ap₂ (λ z ls. over (flat (tie z ls)) c.args.memory.now) own is;
    }
