-- L keeps the laws, and has as many codes of a value as FL.
use Rattle.std.proofs.Common.{◌≡◌, ℕ, ◌+◌, ◌-◌, ◌*◌, true, cond, leb, length, sym, ap, ◌∙◌, arith}
use Rattle.formula.specs.Boolean.{words_of}
use Rattle.formula.specs.Sheets.{numbers}
use Rattle.formula.specs.Tests.{sum_of}
use Rattle.formula.specs.declared.signed.Sign.TheVariants.{Plus}
use Rattle.mapping.specs.Counts.{axiom_count, code_count}
use Rattle.mapping.specs.Forms.{all_of, members}
use Rattle.mapping.specs.Meanings.{Lawful, is_size, is_value}
use Rattle.encodings.specs.Digits.{digits, spare}
use Rattle.encodings.specs.FullLogarithmic.{pattern, full_logarithmic_within, full_logarithmic}
use Rattle.encodings.specs.Logarithmic.{logarithmic}
use Rattle.encodings.specs.Ties.{tied, Tieable}
use Rattle.encodings.proofs.AxiomCounts.{tied_count, sum_same_numbers}
use Rattle.encodings.proofs.DigitCounts.{digits_few}
use Rattle.encodings.specs.Guard.{width_within, axioms_within, form_within}
use Rattle.encodings.specs.Limits.{size_high, value_from}
use Rattle.encodings.proofs.PatternCounts.{full_logarithmic_codes, pattern_lengths}
use Rattle.encodings.proofs.Patterns.{full_logarithmic_lawful}
use Rattle.encodings.proofs.TiedLaws.{tied_lawful}
use Rattle.encodings.proofs.TiedReadings.{tied_codes}

pub full_logarithmic_tieable : Tieable full_logarithmic
full_logarithmic_tieable = record {
  lawful = full_logarithmic_lawful;
  plus_all = λ m i s v. let e = form_within full_logarithmic_within m s Plus i v in e ∙ ap (λ f. all_of (members f)) (sym e);
  narrow = λ m s. let high = size_high m s in let few = digits_few m s in omega (arith, width_within full_logarithmic_within m s);
  few = λ m s. omega (arith, ap words_of (axioms_within full_logarithmic_within m s));
}

pub logarithmic_lawful : Lawful logarithmic
logarithmic_lawful = tied_lawful full_logarithmic full_logarithmic_tieable

module _ (m : ℕ) (s : is_size m ≡ true) where
  pub logarithmic_codes : (i : ℕ) → is_value m i ≡ true → code_count logarithmic m i ≡ cond (leb i (spare m)) 2 1
  logarithmic_codes i v = tied_codes full_logarithmic full_logarithmic_tieable m s i ∙ full_logarithmic_codes m i s v

  pub full_logarithmic_axioms : axiom_count full_logarithmic m ≡ 0
  full_logarithmic_axioms = ap length (axioms_within full_logarithmic_within m s)

  pub logarithmic_axioms : axiom_count logarithmic m ≡ m * (digits m + 1) - spare m
  logarithmic_axioms =
      let sums : sum_of (λ i. length (members (full_logarithmic.form m Plus i)) + 1) (numbers 1 m) ≡ m * (digits m + 1) - spare m =
      sum_same_numbers (λ i. length (members (full_logarithmic.form m Plus i)) + 1) (λ i. length (pattern m i) + 1) 1 m
      (λ i low high. ap (λ f. length (members f) + 1) (form_within full_logarithmic_within m s Plus i (value_from m i low (omega arith)))) ∙ pattern_lengths m s in
      ap length (axioms_within (tied full_logarithmic) m s) ∙ (tied_count full_logarithmic m ∙ (ap (λ n. n + sum_of (λ i. length (members (full_logarithmic.form m Plus i)) + 1) (numbers 1 m)) full_logarithmic_axioms ∙ omega arith))
