-- A number that is no value has no codes.
use Rattle.std.proofs.Common.{◌≡◌, ℕ, true, false, cond, ◌&&◌, eqb, List, Some, None, Option, sym, refl, ap, ◌∙◌, ⊎_elim}
use Rattle.std.proofs.lemmas.Bool.{both_ways, eqb-true, cases_Bool}
use Rattle.formula.proofs.Sums.{sum_same, sum_none}
use Rattle.formula.specs.Boolean.{assignments}
use Rattle.mapping.specs.Counts.{reads_as, code_count}
use Rattle.mapping.specs.Meanings.{Meaning, Lawful, is_size, is_value}
use Rattle.encodings.specs.Guard.{reading_no_size}

module _ (M : Meaning) (L : Lawful M) where
  -- a reading is a value of a size in range
  none_read : (m i : ℕ) (bits : List ℕ) → (is_size m && is_value m i) ≡ false → (o : Option ℕ) → M.reading m bits ≡ o → reads_as i o ≡ false
  none_read m i bits out None e = refl
  none_read m i bits out (Some j) e = ⊎_elim at_size no_size (cases_Bool (is_size m))
    where
      no_size : is_size m ≡ false → eqb i j ≡ false
      no_size n = cc (ap (λ (N : Meaning). N.reading m bits) L.outside, reading_no_size M m bits n)

      at_size : is_size m ≡ true → eqb i j ≡ false
      at_size s = ⊎_elim
          (λ same. absurd (both_ways (is_value m i) (sym (ap (λ t. t && is_value m i) s) ∙ out) (ap (is_value m) (eqb-true i j same) ∙ (L.at_size m s).reading_value bits j e)))
          (λ other. other) (cases_Bool (eqb i j))

  pub no_codes : (m i : ℕ) → (is_size m && is_value m i) ≡ false → code_count M m i ≡ 0
  no_codes m i out =
      sum_same (λ bits. cond (reads_as i (M.reading m bits)) 1 0) (λ bits. 0)
      (λ bits. ap (λ t. cond t 1 0) (none_read m i bits out (M.reading m bits) refl)) (assignments (M.width m)) ∙ sum_none (assignments (M.width m))
