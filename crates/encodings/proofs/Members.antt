-- The literals and the shape of the two forms that a list of literals stands for.
use Rattle.std.proofs.Common.{◌≡◌, ℕ, true, cond, List, [], ◌∷◌, map, length, ℤ, sym, refl, ap, ◌∙◌}
use Rattle.std.proofs.lemmas.Bool.{and_from}
use Rattle.formula.specs.declared.signed.Sign.{Sign}
use Rattle.formula.specs.declared.signed.Sign.TheVariants.{Plus, Minus}
use Rattle.mapping.specs.Forms.{any_of, members, kind_by, kind_of, shape_of}
use Rattle.mapping.specs.Meanings.{is_size, is_value}
use Rattle.encodings.specs.ListedForms.{form_by, signed_literal, listed_form}
use Rattle.encodings.specs.Opposites.{form_by_length}

pub form_by_members : (ls : List ℤ) (s : Sign) → members (form_by ls s) ≡ map (signed_literal s) ls
form_by_members ls Minus = refl
form_by_members [] Plus = refl
form_by_members (l ∷ ls) Plus = ap (λ xs. l ∷ xs) (form_by_members ls Plus)

form_by_kind : (ls : List ℤ) (s : Sign) → kind_of (form_by ls s) ≡ kind_by s
form_by_kind ls Plus = refl
form_by_kind ls Minus = refl

pub form_by_shape : (ls : List ℤ) (s : Sign) → shape_of (form_by ls s) ≡ record { kind = kind_by s; count = length ls }
form_by_shape ls s = λ i. record { kind = form_by_kind ls s i; count = form_by_length ls s i }

-- in range these are what is listed
pub listed_members : (list : ℕ → ℕ → List ℤ) (m i : ℕ) (s : Sign) (ls : List ℤ) → is_size m ≡ true → is_value m i ≡ true → ls ≡ list m i →
    map (signed_literal s) ls ≡ members (listed_form list m s i)
listed_members list m i s ls h k e =
    ap (map (signed_literal s)) e ∙ (sym (form_by_members (list m i) s) ∙
    ap (λ b. members (cond b (form_by (list m i) s) (any_of []))) (sym (and_from (is_size m) (is_value m i) h k)))
