-- The clause that has every value, written value by value.
use Rattle.std.proofs.Common.{◌≡◌, ℕ, zero, suc, ◌+◌, ◌<◌, List, [], ◌∷◌, ◌++◌, map, length, get_or, drop, set, ℤ, pos, sym, refl, ap, ap₂, ◌∙◌, arith}
use Rattle.std.proofs.lemmas.List.{length_push}
use Rattle.formula.specs.Sheets.{numbers}
use Rattle.mapping.specs.Memory.{ended, over}
use Rattle.encodings.proofs.Appending.{ended_over}
use Rattle.encodings.specs.Standard.{some_value}
use Rattle.encodings.proofs.Exclusions.{some_length}
use Rattle.encodings.specs.Values.{value_literal}

-- words that count up from a value are the literals of that value and those that follow it
words_are : (s n : ℕ) (xs : List ℤ) → length xs ≡ n → ((k : ℕ) → k < n → get_or xs k (pos 0) ≡ pos (s + k)) → xs ≡ map value_literal (numbers s n)
words_are s zero [] l each = refl
words_are s zero (x ∷ xs) l each = absurd (omega arith)
words_are s (suc n) [] l each = absurd (omega arith)
words_are s (suc n) (x ∷ xs) l each =
    ap₂ (λ y ys. y ∷ ys) (each 0 (omega arith) ∙ ap pos (omega arith))
    (words_are (suc s) n xs (omega arith) (λ k h. each (suc k) (omega arith) ∙ ap pos (omega arith)))

pub some_value_written : (m : ℕ) (xs memory : List ℤ) → length xs ≡ m → m < length memory → ((k : ℕ) → k < m → get_or xs k (pos 0) ≡ pos (k + 1)) →
    set (xs ++ drop m memory) m (pos 0) ≡ over (ended (some_value m)) memory
some_value_written m xs memory l room each =
    let words : xs ≡ some_value m = words_are 1 m xs l (λ k h. each k h ∙ ap pos (omega arith)) in
    let long : m ≡ length (some_value m) = sym l ∙ ap length words in
    ap (λ n. set (xs ++ drop n memory) n (pos 0)) long ∙ ended_over (some_value m) xs memory words (omega arith)

pub some_words : (m : ℕ) → length (ended (some_value m)) ≡ m + 1
some_words m = length_push (some_value m) (pos 0) ∙ ap (λ n. n + 1) (some_length m)
