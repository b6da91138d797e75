-- The words of clauses of few Booleans are small numbers, moved ones too. Assumes nothing.
use Rattle.std.proofs.Common.{◌≡◌, ℕ, ◌≤◌, true, leb, List, [], ◌∷◌, ℤ, pos, negsuc, refl, arith}
use Rattle.std.proofs.lemmas.Bool.{and_parts}
use Rattle.std.proofs.lemmas.Bool.Decides.{nat_tests}
use Rattle.formula.proofs.Tests.{every_append, every_map, every_weaker}
use Rattle.formula.specs.Boolean.{Clause, number, local}
use Rattle.formula.specs.Tests.{every}
use Rattle.formula.specs.declared.signed.Sign.TheVariants.{Plus}
use Rattle.mapping.specs.Forms.{members, shifted}
use Rattle.mapping.specs.Meanings.{Meaning, Lawful, is_size, is_value}
use Rattle.mapping.specs.Memory.{ended, flat}
use Rattle.encodings.specs.Limits.{size_high}
use Rattle.encodings.specs.Ties.{inner_list}

-- words of local literals are small
small_literal : (w : ℕ) → w ≤ 127 → (l : ℤ) → local w l ≡ true → leb (number l) 127 ≡ true
small_literal w few l own = grind (arith, nat_tests)

pub small_literals : (w : ℕ) → w ≤ 127 → (ls : List ℤ) → every (local w) ls ≡ true → every (λ l. leb (number l) 127) ls ≡ true
small_literals w few ls own = every_weaker (local w) (λ l. leb (number l) 127) (small_literal w few) ls own

pub small_words : (w : ℕ) → w ≤ 127 → (cs : List Clause) → every (every (local w)) cs ≡ true → every (λ l. leb (number l) 127) (flat cs) ≡ true
small_words w few [] own = refl
small_words w few (c ∷ cs) own =
    let parts = and_parts (every (local w) c) (every (every (local w)) cs) own in
    every_append (λ l. leb (number l) 127) (ended c) (flat cs) (every_append (λ l. leb (number l) 127) c (pos 0 ∷ []) (small_literals w few c parts.0) refl) (small_words w few cs parts.1)

-- the inner literals of a value are small too
moved_small : (w m : ℕ) → w ≤ 127 → m ≤ 64 → (l : ℤ) → local w l ≡ true → leb (number (shifted m l)) 255 ≡ true
moved_small w m few high (pos a) own = grind (arith, nat_tests)
moved_small w m few high (negsuc a) own = grind (arith, nat_tests)

pub inner_small : (M : Meaning) → Lawful M → (m i : ℕ) → is_size m ≡ true → is_value m i ≡ true → every (λ l. leb (number l) 255) (inner_list M m i) ≡ true
inner_small M L m i s v =
    let at = L.at_size m s in
    let ls = members (M.form m Plus i) in
    every_map (λ l. leb (number l) 255) (shifted m) ls
    (every_weaker (local (M.width m)) (λ l. leb (number (shifted m l)) 255) (moved_small (M.width m) m at.width_most (size_high m s)) ls (at.form_local Plus i v))
