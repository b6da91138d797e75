-- Clauses as text, and the clauses that a text stands for. Assumes nothing.
use Rattle.std.specs.Prelude.{ℕ, cond, List, [], ◌∷◌, ◌++◌, map, ℤ, pos, neg_ℤ, ◌==◌}
use Rattle.std.specs.List.{flat_map}
use Rattle.std.specs.Str.Parse.{digits_value}
use Rattle.std.specs.Fmt.{signed_decimal}
use Rattle.formula.specs.Boolean.{Clause}
use Rattle.text_store.specs.Bytes.{pieces}

-- a literal in decimal, behind a minus sign if it is negative, and a space
abbrev pub text_literal : ℤ → List ℕ
text_literal l = signed_decimal l ++ 32 ∷ []

-- a clause without its newline: its literals, and a zero
abbrev pub text_line : Clause → List ℕ
text_line c = flat_map text_literal c ++ 48 ∷ []

-- a clause: its line, and a newline
abbrev pub text_clause : Clause → List ℕ
text_clause c = text_line c ++ 10 ∷ []

-- clauses, one behind the other
abbrev pub text_clauses : List Clause → List ℕ
text_clauses cs = flat_map text_clause cs

-- the literal that a word stands for: what its digits write, negated behind a minus sign
abbrev pub word_literal : List ℕ → ℤ
word_literal [] = pos 0
word_literal (b ∷ bytes) = cond (45 == b) (neg_ℤ (pos (digits_value 10 bytes))) (pos (digits_value 10 (b ∷ bytes)))

-- the clause that a line stands for: a literal for each word that a space ends, and so none for the zero
abbrev pub line_clause : List ℕ → Clause
line_clause line = map word_literal (pieces 32 line)

-- the clauses that a text stands for: one for each line that a newline ends
abbrev pub text_list : List ℕ → List Clause
text_list bytes = map line_clause (pieces 10 bytes)

-- the most bytes of a word: a minus sign, seven digits and a space
abbrev pub text_most : ℕ
text_most = 9
