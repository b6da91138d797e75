-- Clauses as text are legible, and at most nine bytes a word. Assumes nothing.
use Rattle.std.proofs.Common.{◌≡◌, ℕ, suc, ◌+◌, ◌*◌, ◌%◌, ◌^◌, ◌<◌, ◌≤◌, true, eqb, leb, List, [], ◌∷◌, map, length, ℤ, pos, negsuc, neg_ℤ, decimal, refl, ap, ◌∙◌, append-nil, arith, lit<, length-append}
use Rattle.std.specs.List.{flat_map}
use Rattle.std.specs.Str.Parse.{digits_value}
use Rattle.std.specs.Fmt.{signed_decimal}
use Rattle.std.proofs.lemmas.Fmt.{decimal_by_steps, decimal_is_IsNumeral, decimal_nonempty, length_signed_le}
use Rattle.std.proofs.lemmas.Bool.{and_parts, and_from, le-leb, leb-true, cond-false, ne_eqb}
use Rattle.formula.specs.Boolean.{Clause, number, words}
use Rattle.formula.specs.Tests.{every}
use Rattle.store.specs.Stores.{fits}
use Rattle.text_store.specs.Bytes.{clean, lows}
use Rattle.text_store.specs.ByteStores.{byte_largest, fit_clause}
use Rattle.text_store.specs.Texts.{text_literal, text_line, text_clause, word_literal, line_clause, text_most}
use Rattle.text_store.proofs.Lines.{Legible}
use Rattle.text_store.proofs.Literals.{lows_append, clean_append, lows_high, clean_high, lows_joined, clean_joined, length_joined_le}
use Rattle.text_store.proofs.Marks.{pieces_joined}
use Rattle.formula.proofs.Tests.{every_push, every_weaker, map_back, sum_ones}

-- digits are 48 and more, so a minus sign is none
digits_high : (n : ℕ) → n < 2 ^ 64 → every (leb 48) (decimal n) ≡ true
digits_high n small =
    decimal_by_steps (λ _ ds. every (leb 48) ds ≡ true)
    (λ d h. and_from (leb 48 (48 + d)) true (le-leb 48 (48 + d) (omega arith)) refl)
    (λ m ds h k. every_push (leb 48) ds (48 + m % 10) k (le-leb 48 (48 + m % 10) (omega arith)))
    n small

fits_number : (l : ℤ) → fits byte_largest l ≡ true → number l ≤ 1048575
fits_number l h = leb-true (number l) 1048575 (and_parts (leb 1 (number l)) (leb (number l) 1048575) h).1

-- what is written of a literal is 33 and more, so it has no space and no newline
signed_high : (l : ℤ) → fits byte_largest l ≡ true → every (leb 33) (signed_decimal l) ≡ true
signed_high (pos n) h =
    let few = fits_number (pos n) h in
    every_weaker (leb 48) (leb 33) (λ b k. le-leb 33 b (omega (arith, leb-true 48 b k))) (decimal n) (digits_high n (omega arith))
signed_high (negsuc n) h =
    let few = fits_number (negsuc n) h in
    every_weaker (leb 48) (leb 33) (λ b k. le-leb 33 b (omega (arith, leb-true 48 b k))) (decimal (suc n)) (digits_high (suc n) (omega arith))

literal_lows : (l : ℤ) → fits byte_largest l ≡ true → lows 33 (text_literal l) ≡ 1
literal_lows l h = omega (arith, lows_append 33 (signed_decimal l) (32 ∷ []), lows_high 33 (signed_decimal l) (signed_high l h))

literal_clean : (l : ℤ) → fits byte_largest l ≡ true → clean 10 (text_literal l) ≡ true
literal_clean l h = clean_append 10 (signed_decimal l) (32 ∷ []) (clean_high 10 33 (lit< tt) (signed_decimal l) (signed_high l h)) refl

literal_short : (l : ℤ) → fits byte_largest l ≡ true → length (text_literal l) ≤ 9 * 1
literal_short l h = omega (arith, length-append (signed_decimal l) (32 ∷ []), signed_short l h)
  where
    signed_short : (z : ℤ) → fits byte_largest z ≡ true → length (signed_decimal z) ≤ 8
    signed_short (pos n) k = let few = fits_number (pos n) k in length_signed_le 7 (pos n) (omega arith) (omega arith)
    signed_short (negsuc n) k = let few = fits_number (negsuc n) k in length_signed_le 7 (negsuc n) (omega arith) (omega arith)

-- digits are read as a number, and behind a minus sign as its opposite
unsigned_word : (ds : List ℕ) → every (leb 48) ds ≡ true → 0 < length ds → word_literal ds ≡ pos (digits_value 10 ds)
unsigned_word [] h some = refl
unsigned_word (d ∷ ds) h some =
    let high = leb-true 48 d (and_parts (leb 48 d) (every (leb 48) ds) h).0 in
    cond-false (eqb 45 d) _ _ (ne_eqb 45 d (λ e. omega arith))

word_back : (l : ℤ) → fits byte_largest l ≡ true → word_literal (signed_decimal l) ≡ l
word_back (pos n) h =
    let few = fits_number (pos n) h in
    let small : n < 2 ^ 64 = omega arith in
    unsigned_word (decimal n) (digits_high n small) (decimal_nonempty n small) ∙ ap pos (decimal_is_IsNumeral n small).1
word_back (negsuc n) h =
    let few = fits_number (negsuc n) h in
    ap (λ m. neg_ℤ (pos m)) (decimal_is_IsNumeral (suc n) (omega arith)).1

line_back : (c : Clause) → fit_clause c ≡ true → line_clause (text_line c) ≡ c
line_back c h =
    let unspaced = every_weaker (fits byte_largest) (λ l. clean 32 (signed_decimal l)) (λ l k. clean_high 32 33 (lit< tt) (signed_decimal l) (signed_high l k)) c h in
    ap (map word_literal) (pieces_joined 32 signed_decimal c (48 ∷ []) unspaced ∙ append-nil (map signed_decimal c)) ∙ map_back (fits byte_largest) signed_decimal word_literal word_back c h

line_clean : (c : Clause) → fit_clause c ≡ true → clean 10 (text_line c) ≡ true
line_clean c h = clean_append 10 (flat_map text_literal c) (48 ∷ []) (clean_joined text_literal (fits byte_largest) 10 literal_clean c h) refl

clause_lows : (c : Clause) → fit_clause c ≡ true → lows 33 (text_clause c) ≡ words c
clause_lows c h =
    omega (arith, lows_append 33 (text_line c) (10 ∷ []), lows_append 33 (flat_map text_literal c) (48 ∷ []), lows_joined text_literal (fits byte_largest) 33 literal_lows c h)

clause_short : (c : Clause) → fit_clause c ≡ true → length (text_clause c) ≤ text_most * words c
clause_short c h =
    omega (arith, length-append (text_line c) (10 ∷ []), length-append (flat_map text_literal c) (48 ∷ []), length_joined_le text_literal (fits byte_largest) (λ _. 1) 9 literal_short c h, sum_ones c)

pub text_legible : Legible text_line 10 33 text_most line_clause fit_clause
text_legible = record { unmarked = line_clean; read_back = line_back; counted = clause_lows; short = clause_short }
