-- R and HR keep the laws, and FR, R and HR have one code for each value.
use Rattle.std.proofs.Common.{◌≡◌, ℕ, suc, ◌-◌, Bool, true, false, cond, ◌&&◌, eqb, ltb, List, get_or, Some, None, sym, refl, ap, ◌∙◌, arith}
use Rattle.std.proofs.lemmas.Bool.{eqb-true, eq-eqb}
use Rattle.formula.specs.Boolean.{row, words_of}
use Rattle.formula.specs.declared.signed.Sign.TheVariants.{Plus}
use Rattle.mapping.specs.Counts.{reads_as, code_count}
use Rattle.mapping.specs.Forms.{all_of, members}
use Rattle.mapping.specs.Meanings.{Lawful, is_size, is_value}
use Rattle.encodings.specs.FullRegular.{link, full_regular_within, full_regular}
use Rattle.encodings.specs.HalfRegular.{half_regular}
use Rattle.encodings.specs.Regular.{regular}
use Rattle.encodings.specs.Ties.{Tieable}
use Rattle.encodings.specs.Descents.{ones, falls, on_below}
use Rattle.encodings.specs.Guard.{width_within, axioms_within, form_within}
use Rattle.encodings.proofs.Known.{agree_from, passes_one}
use Rattle.encodings.specs.Levels.{full_regular_lawful, reading_falls}
use Rattle.encodings.specs.Limits.{size_low, size_high}
use Rattle.encodings.specs.Runs.{words_numbers}
use Rattle.encodings.proofs.TiedLaws.{tied_lawful, half_tied_lawful}
use Rattle.encodings.proofs.TiedReadings.{tied_codes, half_tied_codes}

pub full_regular_tieable : Tieable full_regular
full_regular_tieable = record {
  lawful = full_regular_lawful;
  plus_all = λ m i s v. let e = form_within full_regular_within m s Plus i v in e ∙ ap (λ f. all_of (members f)) (sym e);
  narrow = λ m s. let high = size_high m s in let low = size_low m s in omega (arith, width_within full_regular_within m s);
  few = λ m s. let high = size_high m s in
      omega (arith, ap words_of (axioms_within full_regular_within m s), words_numbers link 3 2 (m - 2) (λ j. refl));
}

pub regular_lawful : Lawful regular
regular_lawful = tied_lawful full_regular full_regular_tieable

pub half_regular_lawful : Lawful half_regular
half_regular_lawful = half_tied_lawful full_regular full_regular_tieable

-- a row of FR that reads as i has its first i - 1 bits on and no other
module _ (m i : ℕ) (s : is_size m ≡ true) (v : is_value m i ≡ true) where
  falling : (bits : List ℕ) (r f : Bool) → row (m - 1) bits ≡ r → falls bits ≡ f → reads_as i (cond (r && f) (Some (suc (ones bits))) None) ≡ true →
      (k : ℕ) → eqb 1 (get_or bits k 0) ≡ ltb k (i - 1)
  falling bits true true r f e k = let is = eqb-true i (suc (ones bits)) e in on_below bits k f ∙ ap (ltb k) (omega arith)
  falling bits true false r f e k = cc
  falling bits false f r g e k = cc

  pub full_regular_codes : code_count full_regular m i ≡ 1
  full_regular_codes =
      let code = (full_regular_lawful.at_size m s).code i v in
      passes_one (full_regular.width m) (λ bits. reads_as i (full_regular.reading m bits)) (λ k. ltb k (i - 1))
      (λ bits r e. agree_from (λ k. ltb k (i - 1)) bits (λ k h. falling bits (row (m - 1) bits) (falls bits) refl refl
      (ap (reads_as i) (sym (reading_falls m bits s (row (m - 1) bits) (falls bits) refl refl)) ∙ e) k))
      code.0 code.1 (ap (reads_as i) code.2 ∙ eq-eqb i i refl)

  pub regular_codes : code_count regular m i ≡ 1
  regular_codes = tied_codes full_regular full_regular_tieable m s i ∙ full_regular_codes

  pub half_regular_codes : code_count half_regular m i ≡ 1
  half_regular_codes = half_tied_codes full_regular full_regular_tieable m s i ∙ full_regular_codes
