-- One pass over a row that looks for its one bit that is on.
use Rattle.std.proofs.Common.{◌≡◌, ℕ, zero, suc, ◌+◌, cond, not, ◌&&◌, eqb, List, [], ◌∷◌, length, is_some, Some, None, Option, refl, ap, ◌∙◌, arith}
use Rattle.std.proofs.lemmas.Bool.Decides.{nat_tests}
use Rattle.formula.specs.Boolean.{row}
use Rattle.encodings.specs.Descents.{ones}
use Rattle.encodings.proofs.Hot.{first_on}

-- a row read bit by bit: p bits were passed, and `found` is the place, counted from 1, of the one that was on
abbrev pub search_one : Option ℕ → ℕ → List ℕ → Option ℕ
search_one found p [] = found
search_one found p (b ∷ bits) =
    cond (eqb b 0) (search_one found (p + 1) bits) (cond (eqb b 1 && not (is_some found)) (search_one (Some (p + 1)) (p + 1) bits) None)

-- what it finds: one bit that is on, here or before, if every byte is a bit
abbrev found_by : Option ℕ → ℕ → List ℕ → Option ℕ
found_by None p bits = cond (row (length bits) bits && eqb (ones bits) 1) (Some (p + suc (first_on bits))) None
found_by (Some v) p bits = cond (row (length bits) bits && eqb (ones bits) 0) (Some v) None

pub search_is : (found : Option ℕ) (p : ℕ) (bits : List ℕ) → search_one found p bits ≡ found_by found p bits
search_is None p [] = refl
search_is (Some v) p [] = refl
search_is None p (zero ∷ bits) = search_is None (p + 1) bits ∙ ap (λ n. cond (row (length bits) bits && eqb (ones bits) 1) (Some n) None) (omega arith)
search_is (Some v) p (zero ∷ bits) = search_is (Some v) (p + 1) bits
search_is None p (suc zero ∷ bits) = search_is (Some (p + 1)) (p + 1) bits ∙ grind (arith, nat_tests)
search_is (Some v) p (suc zero ∷ bits) = grind (arith, nat_tests)
search_is None p (suc (suc b) ∷ bits) = grind (arith, nat_tests)
search_is (Some v) p (suc (suc b) ∷ bits) = grind (arith, nat_tests)
