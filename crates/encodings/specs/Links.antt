-- FR's literals and links: a row satisfies the links exactly when no 1 follows a 0.
use Rattle.std.specs.Prelude.{◌≡◌, ℕ, zero, suc, ◌+◌, ◌-◌, ◌<◌, ◌≤◌, Bool, true, false, cond, not, ◌&&◌, ◌||◌, List, [], ◌∷◌, map, length, ℤ, pos, negsuc, ◌==◌, slice_index, refl}
use Rattle.std.proofs.Common.{ap, ap₂, ◌∙◌, arith}
use Rattle.std.proofs.lemmas.Bool.{and_from}
use Rattle.std.proofs.lemmas.Bool.Decides.{nat_tests}
use Rattle.formula.specs.Boolean.{Clause, opposite, satisfies, local}
use Rattle.formula.specs.Sheets.{numbers}
use Rattle.formula.specs.Tests.{every}
use Rattle.encodings.specs.FullRegular.{at_least, less_than, link, links}
use Rattle.encodings.specs.Descents.{ones, falls}
use Rattle.encodings.specs.Opposites.{opposite_local}

-- the literals as numbers, and within the width
pub at_least_is : (k : ℕ) → at_least (suc (suc k)) ≡ pos (suc k)
at_least_is k = ap pos (omega arith)

pub less_than_is : (k : ℕ) → less_than (suc (suc k)) ≡ negsuc k
less_than_is k = ap opposite (at_least_is k)

pub at_least_local : (m j : ℕ) → 1 < j → j ≤ m → local (m - 1) (at_least j) ≡ true
at_least_local m j low high = grind (arith, nat_tests)

pub less_than_local : (m j : ℕ) → 1 < j → j ≤ m → local (m - 1) (less_than j) ≡ true
less_than_local m j low high = opposite_local (m - 1) (at_least j) ∙ at_least_local m j low high

-- a link by the place of its lower bit, counted from 0
abbrev link_at : ℕ → Clause
link_at k = negsuc (suc k) ∷ pos (suc k) ∷ []

link_is : (k : ℕ) → link (suc (suc k)) ≡ link_at k
link_is k =
    let next : suc (suc k) + 1 ≡ suc (suc (suc k)) = omega arith in
    ap₂ (λ (a b : ℤ). a ∷ b ∷ []) (ap less_than next ∙ less_than_is (suc k)) (at_least_is k)

links_are : (k n : ℕ) → map link (numbers (suc (suc k)) n) ≡ map link_at (numbers k n)
links_are k zero = refl
links_are k (suc n) = ap₂ ◌∷◌ (link_is k) (links_are (suc k) n)

-- the links from the second bit on are those of the row's tail
links_tail : (b : ℕ) (bits : List ℕ) (k n : ℕ) →
    satisfies (b ∷ bits) (map link_at (numbers (suc k) n)) ≡ satisfies bits (map link_at (numbers k n))
links_tail b bits k zero = refl
links_tail b bits k (suc n) =
    ap (λ t. (not (1 == slice_index bits (suc k)) || (1 == slice_index bits k || false)) && t) (links_tail b bits (suc k) n)

falls_last : (x : Bool) → true ≡ cond x true true
falls_last true = refl
falls_last false = refl

falls_step : (x y : Bool) (f : Bool) (o : ℕ) →
    ((not y || (x || false)) && cond y f (o == 0)) ≡ cond x (cond y f (o == 0)) (cond y (suc o) o == 0)
falls_step true true f o = refl
falls_step true false f o = refl
falls_step false true f o = grind (arith, nat_tests)
falls_step false false f o = refl

links_fall : (a : ℕ) (bits : List ℕ) → satisfies (a ∷ bits) (map link_at (numbers 0 (length bits))) ≡ falls (a ∷ bits)
links_fall a [] = falls_last (1 == a)
links_fall a (b ∷ bits) =
    ap (λ t. (not (1 == b) || (1 == a || false)) && t) (links_tail a (b ∷ bits) 0 (length bits) ∙ links_fall b bits) ∙
    falls_step (1 == a) (1 == b) (falls bits) (ones bits)

-- a row satisfies the links exactly when no 1 follows a 0
pub satisfies_links : (m : ℕ) (bits : List ℕ) → 2 ≤ m → length bits ≡ m - 1 → satisfies bits (links m) ≡ falls bits
satisfies_links m [] h l = absurd (omega arith)
satisfies_links m (a ∷ bits) h l =
    let n : m - 2 ≡ length bits = omega arith in
    ap (λ k. satisfies (a ∷ bits) (map link (numbers 2 k))) n ∙ (ap (satisfies (a ∷ bits)) (links_are 0 (length bits)) ∙ links_fall a bits)

pub link_local : (m j : ℕ) → 1 < j → j < m → every (local (m - 1)) (link j) ≡ true
link_local m j low high =
    and_from (local (m - 1) (less_than (j + 1))) (local (m - 1) (at_least j) && true) (less_than_local m (j + 1) (omega arith) (omega arith))
    (ap (λ t. t && true) (at_least_local m j low (omega arith)))
