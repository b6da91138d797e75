-- The opposites of literals: one of them is true exactly when the literals are not all true.
use Rattle.std.specs.Prelude.{◌≡◌, ℕ, zero, suc, Bool, true, false, not, ◌&&◌, ◌||◌, List, [], ◌∷◌, map, length, ℤ, pos, negsuc, ◌==◌, nat_le, slice_index, refl}
use Rattle.std.proofs.Common.{sym, ap, ap₂, ◌∙◌}
use Rattle.std.proofs.Math.Bool.{not-not}
use Rattle.std.proofs.lemmas.List.{length-map}
use Rattle.std.proofs.lemmas.Bool.{and_parts}
use Rattle.formula.specs.Boolean.{opposite, number, true_literal, local}
use Rattle.formula.specs.Sheets.{by_sign}
use Rattle.formula.specs.Tests.{every, some}
use Rattle.formula.specs.declared.signed.Sign.{Sign}
use Rattle.formula.specs.declared.signed.Sign.TheVariants.{Plus, Minus}
use Rattle.mapping.specs.Forms.{true_form, members}
use Rattle.encodings.specs.ListedForms.{form_by}

not_and : (a b : Bool) → (not a || not b) ≡ not (a && b)
not_and true b = refl
not_and false b = refl

-- of two opposites exactly one is true
pub opposite_true : (bits : List ℕ) (w : ℕ) (l : ℤ) → local w l ≡ true → true_literal bits (opposite l) ≡ not (true_literal bits l)
opposite_true bits w (pos zero) h = h
opposite_true bits w (pos (suc n)) h = refl
opposite_true bits w (negsuc n) h = sym (not-not (1 == slice_index bits n))

pub some_opposites : (bits : List ℕ) (w : ℕ) (ls : List ℤ) → every (local w) ls ≡ true →
    some (true_literal bits) (map opposite ls) ≡ not (every (true_literal bits) ls)
some_opposites bits w [] h = refl
some_opposites bits w (l ∷ ls) h = let p = and_parts (local w l) (every (local w) ls) h in
    ap (λ t. t || some (true_literal bits) (map opposite ls)) (opposite_true bits w l p.0) ∙
    (ap (λ t. not (true_literal bits l) || t) (some_opposites bits w ls p.1) ∙ not_and (true_literal bits l) (every (true_literal bits) ls))

-- so the forms of a list are known by when its literals are all true
pub form_by_true : (bits : List ℕ) (w : ℕ) (ls : List ℤ) → every (local w) ls ≡ true → (s : Sign) →
    true_form bits (form_by ls s) ≡ by_sign s (every (true_literal bits) ls)
form_by_true bits w ls h Plus = refl
form_by_true bits w ls h Minus = some_opposites bits w ls h

opposite_number : (l : ℤ) → number (opposite l) ≡ number l
opposite_number (pos zero) = refl
opposite_number (pos (suc n)) = refl
opposite_number (negsuc n) = refl

pub opposite_local : (w : ℕ) (l : ℤ) → local w (opposite l) ≡ local w l
opposite_local w l = ap (λ n. nat_le 1 n && nat_le n w) (opposite_number l)

pub opposites_local : (w : ℕ) (ls : List ℤ) → every (local w) (map opposite ls) ≡ every (local w) ls
opposites_local w [] = refl
opposites_local w (l ∷ ls) = ap₂ ◌&&◌ (opposite_local w l) (opposites_local w ls)

pub form_by_local : (w : ℕ) (ls : List ℤ) (s : Sign) → every (local w) (members (form_by ls s)) ≡ every (local w) ls
form_by_local w ls Plus = refl
form_by_local w ls Minus = opposites_local w ls

pub form_by_length : (ls : List ℤ) (s : Sign) → length (members (form_by ls s)) ≡ length ls
form_by_length ls Plus = refl
form_by_length ls Minus = length-map ls opposite
