-- The literals of a clause, field by field. Assumes nothing.
use Rattle.std.proofs.Common.{◌≡◌, ℕ, ◌+◌, ◌<◌, List, [], ◌∷◌, ◌++◌, length, get_or, drop, Some, None, Option, sym, refl, ap, ◌∙◌, append_assoc, append-nil, arith}
use Rattle.std.proofs.lemmas.List.{drop_more, drop_all}
use Rattle.formula.specs.declared.signed.Literal.{Literal}
use Rattle.parser.specs.Cuts.{given}
use Rattle.parser.specs.Fields.{literal_of, literals_of}

-- the literals so far, and those of what is left
abbrev pub on : List Literal → Option (List Literal) → Option (List Literal)
on items o = given o (λ ls. Some (items ++ ls))

on_more : (items : List Literal) (l : Literal) (o : Option (List Literal)) → on items (given o (λ ls. Some (l ∷ ls))) ≡ on (items ++ l ∷ []) o
on_more items l None = refl
on_more items l (Some ls) = ap Some (sym (append_assoc items (l ∷ []) ls))

-- the literals of the first i fields and those of the others are all literals
pub record Reading (fields : List (List ℕ)) (items : List Literal) (i : ℕ) : Type 0 where
  pub whole : literals_of fields ≡ on items (literals_of (drop i fields))

module _ (fields : List (List ℕ)) (items : List Literal) (i : ℕ) (h : Reading fields items i) (field : List ℕ) (within : i < length fields) (here : field ≡ get_or fields i field) where
  by_field : (o : Option Literal) → o ≡ literal_of field → literals_of fields ≡ on items (given o (λ l. given (literals_of (drop (i + 1) fields)) (λ ls. Some (l ∷ ls))))
  by_field o is =
      h.whole ∙ ap (λ (fs : List (List ℕ)). on items (literals_of fs)) (drop_more fields i field within)
      ∙ (λ j. on items (given (literal_of (sym here j)) (λ l. given (literals_of (drop (i + 1) fields)) (λ ls. Some (l ∷ ls)))))
      ∙ ap (λ (x : Option Literal). on items (given x (λ l. given (literals_of (drop (i + 1) fields)) (λ ls. Some (l ∷ ls))))) (sym is)

  pub reading_more : (l : Literal) → Some l ≡ literal_of field → Reading fields (items ++ l ∷ []) (i + 1)
  reading_more l is = record { whole = by_field (Some l) is ∙ on_more items l (literals_of (drop (i + 1) fields)) }

  pub reading_stop : None ≡ literal_of field → None ≡ literals_of fields
  reading_stop is = sym (by_field None is)

pub reading_all : (fields : List (List ℕ)) (items : List Literal) (i : ℕ) → Reading fields items i → i ≡ length fields → Some items ≡ literals_of fields
reading_all fields items i h all = ap Some (sym (append-nil items)) ∙ ap (λ (fs : List (List ℕ)). on items (literals_of fs)) (sym (drop_all i fields (omega arith))) ∙ sym h.whole
