-- A row is read by its first byte that is no 0: it has to be a 1, and the only one.
use Rattle.std.proofs.Common.{◌≡◌, ℕ, zero, suc, ◌+◌, ◌<◌, Bool, true, false, cond, not, ◌&&◌, eqb, ltb, List, [], ◌∷◌, length, get_or, drop, Some, None, refl, ap, ap₂, ◌∙◌, arith, position}
use Rattle.std.specs.Bool.{then_some}
use Rattle.std.specs.List.{list_all, position_or_len}
use Rattle.std.proofs.lemmas.Bool.Decides.{nat_tests}
use Rattle.std.proofs.lemmas.List.Quantifiers.{position-Some}
use Rattle.encodings.proofs.HotScans.{search_one}

-- whether a byte is a 0, or none
abbrev pub off : ℕ → Bool
off b = eqb b 0

abbrev pub on : ℕ → Bool
on b = not (off b)

-- behind a 1 every byte has to be a 0
rest_off : (v p : ℕ) (bits : List ℕ) → search_one (Some v) p bits ≡ cond (list_all off bits) (Some v) None
rest_off v p [] = refl
rest_off v p (zero ∷ bits) = rest_off v (p + 1) bits
rest_off v p (suc zero ∷ bits) = refl
rest_off v p (suc (suc b) ∷ bits) = grind (arith, nat_tests)

-- the first byte that is no 0 stands at k
found_at : (p k : ℕ) (bits : List ℕ) → k < length bits → on (get_or bits k 0) ≡ true → ((j : ℕ) → j < k → on (get_or bits j 0) ≡ false) →
    search_one None p bits ≡ cond (eqb (get_or bits k 0) 1 && list_all off (drop (k + 1) bits)) (Some (p + k + 1)) None
found_at p k [] h is before = absurd (omega arith)
found_at p zero (zero ∷ bits) h is before = cc
found_at p zero (suc zero ∷ bits) h is before = rest_off (p + 1) (p + 1) bits ∙ ap (λ n. cond (list_all off bits) (Some n) None) (omega arith)
found_at p zero (suc (suc b) ∷ bits) h is before = grind (arith, nat_tests)
found_at p (suc k) (zero ∷ bits) h is before =
    let same : suc (k + 1) ≡ suc k + 1 = omega arith in
    let place : p + 1 + k + 1 ≡ p + suc k + 1 = omega arith in
    found_at (p + 1) k bits (omega arith) is (λ j l. before (suc j) (omega arith)) ∙
    ap₂ (λ i n. cond (eqb (get_or bits k 0) 1 && list_all off (drop i (0 ∷ bits))) (Some n) None) same place
found_at p (suc k) (suc b ∷ bits) h is before = let first = before 0 (omega arith) in grind (arith, nat_tests)

pub found_some : (bits : List ℕ) (k : ℕ) → position on bits ≡ Some k →
    search_one None 0 bits ≡ cond (eqb (get_or bits k 0) 1 && list_all off (drop (k + 1) bits)) (Some (k + 1)) None
found_some bits k e =
    let at = position-Some on bits k 0 e in
    found_at 0 k bits at.0 at.1 at.2 ∙ ap (λ n. cond (eqb (get_or bits k 0) 1 && list_all off (drop (k + 1) bits)) (Some n) None) (omega arith)

-- every byte is a 0
none_at : (p : ℕ) (bits : List ℕ) → ltb (position_or_len on bits) (length bits) ≡ false → search_one None p bits ≡ None
none_at p [] h = refl
none_at p (zero ∷ bits) h = none_at (p + 1) bits (grind (arith, nat_tests))
none_at p (suc zero ∷ bits) h = grind (arith, nat_tests)
none_at p (suc (suc b) ∷ bits) h = grind (arith, nat_tests)

pub found_none : (bits : List ℕ) → position on bits ≡ None → search_one None 0 bits ≡ None
found_none bits e = none_at 0 bits (is_none (ltb (position_or_len on bits) (length bits)) e)
  where
    is_none : (t : Bool) → cond t (Some (position_or_len on bits)) None ≡ None → t ≡ false
    is_none true h = cc
    is_none false h = refl

-- a value where a test passes
pub then_some_is : (b : Bool) (n : ℕ) → then_some b n ≡ cond b (Some n) None
then_some_is true n = refl
then_some_is false n = refl
