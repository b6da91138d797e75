-- A pass over bits of which one alone is to be on.
use Rattle.std.proofs.Common.{◌≡◌, ℕ, zero, suc, ◌+◌, ◌<◌, Bool, true, false, cond, ◌&&◌, eqb, leb, List, [], ◌∷◌, length, Some, None, Option, sym, refl, ap, ◌∙◌, ap₂, arith}
use Rattle.std.proofs.lemmas.Bool.{and_right}
use Rattle.std.proofs.lemmas.Bool.Decides.{nat_tests}
use Rattle.std.specs.Bool.{then_some}
use Rattle.std.specs.List.{list_all, enumerate_from, IsSplitAt}
use Rattle.formula.specs.Boolean.{row}
use Rattle.mapping.specs.Meanings.{Meaning, guarded, is_size}
use Rattle.encodings.proofs.Known.{alike, agree}
use Rattle.encodings.specs.Guard.{reading_no_row}
use Rattle.encodings.specs.Rows.{row_refused}
use Rattle.encodings.proofs.TiedReadings.{agree_alike, alone, confirmed, tied_read_cut}
use Rattle.encodings.specs.Ties.{tied, Tieable}
use Rattle.standard_encoding.proofs.FirstOn.{then_some_is}
use Rattle.tied_encodings.specs.Marks.{only}

-- bit by bit, each beside the number of those before it
pub only_all : (before place : ℕ) (bits : List ℕ) → list_all (λ p. eqb p.1 (cond (eqb (p.0 + 1) place) 1 0)) (enumerate_from before bits) ≡ only before place bits
only_all before place [] = refl
only_all before place (b ∷ bits) = ap (λ t. eqb b (cond (eqb (before + 1) place) 1 0) && t) (only_all (before + 1) place bits)

-- these are the rows in which that bit is on and no other
pub only_from : (before place : ℕ) (bits : List ℕ) → only before place bits ≡ (row (length bits) bits && agree (λ k. eqb (suc (before + k)) place) bits)
only_from before place [] = refl
only_from before place (b ∷ bits) =
    ap₂ (λ t u. eqb b (cond t 1 0) && u) (ap (λ n. eqb n place) first) (only_from (before + 1) place bits ∙
    ap (λ t. row (length bits) bits && t) (agree_alike (λ k. eqb (suc (before + 1 + k)) place) (λ k. eqb (suc (before + suc k)) place) bits (λ k h. ap (λ n. eqb n place) (later k)))) ∙
    one_bit b (eqb (suc (before + 0)) place) (row (length bits) bits) (agree (λ k. eqb (suc (before + suc k)) place) bits)
  where
    first : before + 1 ≡ suc (before + 0)
    first = omega arith

    later : (k : ℕ) → suc (before + 1 + k) ≡ suc (before + suc k)
    later k = omega arith

    one_bit : (n : ℕ) (t r a : Bool) → (eqb n (cond t 1 0) && (r && a)) ≡ ((leb n 1 && r) && (alike (eqb 1 n) t && a))
    one_bit zero true r a = sym (and_right r false refl)
    one_bit zero false r a = refl
    one_bit (suc zero) true r a = refl
    one_bit (suc zero) false r a = sym (and_right r false refl)
    one_bit (suc (suc n)) true r a = grind (arith, nat_tests)
    one_bit (suc (suc n)) false r a = grind (arith, nat_tests)

pub only_is : (place : ℕ) (bits : List ℕ) → only 0 place bits ≡ (row (length bits) bits && alone place bits)
only_is place bits = only_from 0 place bits ∙
    ap (λ t. row (length bits) bits && t) (agree_alike (λ k. eqb (suc (0 + k)) place) (λ k. eqb (suc k) place) bits (λ k h. ap (λ n. eqb n place) (omega arith)))

-- what the pass over the values' bits and the inner reading come to
module _ (M : Meaning) (T : Tieable M) (m : ℕ) (s : is_size m ≡ true) (bits : List ℕ) where
  -- fewer bits than values are no row
  pub reading_short : length bits < m → None ≡ (guarded (tied M)).reading m bits
  reading_short h = sym (reading_no_row (tied M) m bits (row_refused (m + M.width m) bits (λ e. omega arith)))

  module _ (own rest : List ℕ) (split : IsSplitAt bits m own rest) where
    read : (guarded (tied M)).reading m bits ≡ confirmed (M.reading m rest) own
    read = tied_read_cut M T m s bits split.0 ∙ ap₂ (λ ys xs. confirmed (M.reading m ys) xs) (sym split.2) (sym split.1)

    pub reading_none : None ≡ M.reading m rest → None ≡ (guarded (tied M)).reading m bits
    reading_none e = sym (read ∙ ap (λ (p : Option ℕ). confirmed p own) (sym e))

    pub reading_some : (i : ℕ) (t : Bool) → Some i ≡ M.reading m rest → t ≡ only 0 i own → then_some t i ≡ (guarded (tied M)).reading m bits
    reading_some i t e alone-is =
        ap (λ b. then_some b i) (alone-is ∙ only_is i own) ∙ then_some_is (row (length own) own && alone i own) i ∙
        sym (read ∙ ap (λ (p : Option ℕ). confirmed p own) (sym e))
