-- A buffer whose front is the lines of clauses, in any legible way of writing them: what it stands for, and what a put and a cut leave.
-- Assumes nothing.
use Rattle.std.proofs.Common.{◌≡◌, ℕ, ◌+◌, ◌-◌, ◌/◌, ◌<◌, ◌≤◌, true, List, [], ◌∷◌, ◌++◌, length, take, sym, ap, ◌∙◌, subst, ap₂, mul-le-mul_left, mul-add, arith}
use native.Mathlib.Nat.{mul-div-le}
use Rattle.std.proofs.lemmas.List.{length-take-le, take-take}
use Rattle.formula.specs.Boolean.{Clause, words, words_of}
use Rattle.store.specs.Stores.{after_cut, appended}
use Rattle.text_store.specs.Bytes.{Closed, PieceFrom, at_place}
use Rattle.text_store.specs.ByteStores.{fit_clause, byte_capacity, byte_terms, byte_contents, StandsFor}
use Rattle.text_store.proofs.Lines.{lines, read_lines, Legible, Holds, words_long, lines_short, same_clauses, list_is, holds_read, holds_put, holds_cut, closed_lines, lines_long}
use Rattle.text_store.proofs.Places.{length_at_place, take_at_place}

-- the first bytes of the buffer are the lines of the clauses that they stand for, and the counts of them are right
pub record Fronted (line : Clause → List ℕ) (mark : ℕ) (read : List ℕ → Clause) (memory : List ℕ) (held word_count count : ℕ) : Type 0 where
  pub within : held ≤ length memory
  pub text : Holds line mark fit_clause (read_lines mark read (take held memory)) (take held memory) word_count count

module _ {line : Clause → List ℕ} {mark bound most : ℕ} {read : List ℕ → Clause} (legible : Legible line mark bound most read fit_clause) {memory : List ℕ} {held word_count count : ℕ} (front : Fronted line mark read memory held word_count count) where
  pub stands_for : StandsFor (λ c. line c ++ mark ∷ []) (take held memory) (read_lines mark read (take held memory))
  stands_for = record {
    text = sym front.text.whole;
    only = λ ds h e. same_clauses legible ds (read_lines mark read (take held memory)) h front.text.fit_all (e ∙ sym front.text.whole);
  }

  pub held_closed : Closed mark (take held memory)
  held_closed = subst (Closed mark) front.text.whole (closed_lines line mark (read_lines mark read (take held memory)))

  pub held_some : 0 < count → 0 < length (take held memory)
  held_some some =
      omega (arith, front.text.count_is, lines_long line mark (read_lines mark read (take held memory)), ap length front.text.whole)

  -- the lines end where the held bytes end
  held_is : length (lines line mark (read_lines mark read (take held memory))) ≡ held
  held_is = ap length front.text.whole ∙ length-take-le held memory front.within

  -- without the last clause
  module _ (start low : ℕ) (some : 0 < count) (piece : PieceFrom mark bound (take held memory) start low) (before : Closed mark (take start (take held memory))) where
    shorter : start ≤ held
    shorter = omega (arith, piece.within, length-take-le held memory front.within)

    pub cut_words : low ≤ word_count
    cut_words = (holds_cut legible front.text start low some piece before).0

    fewer : Holds line mark fit_clause (take (count - 1) (read_lines mark read (take held memory))) (take start memory) (word_count - low) (count - 1)
    fewer =
        subst (λ bytes. Holds line mark fit_clause (take (count - 1) (read_lines mark read (take held memory))) bytes (word_count - low) (count - 1))
        (take-take start held memory shorter) (holds_cut legible front.text start low some piece before).1

    pub cut_front : Fronted line mark read memory start (word_count - low) (count - 1)
    cut_front = let h = shorter in record { within = omega (arith, front.within); text = holds_read legible fewer }

    pub cut_contents : byte_contents (read_lines mark read) memory start ≡ after_cut (count - 1) (byte_contents (read_lines mark read) memory held)
    cut_contents = ap (λ cs. record { list = cs; raw = cs; memory = memory }) (list_is legible fewer)

  -- a clause more
  module _ (c : Clause) (fit : fit_clause c ≡ true) (enough : words c ≤ byte_capacity most (length memory) - word_count) where
    pub put_within : held + length (line c ++ mark ∷ []) ≤ length memory
    put_within =
        let whole = held_is in
        let list = read_lines mark read (take held memory) in
        let both : words_of list + words c ≤ length memory / most = omega (arith, front.text.words_are) in
        let all = mul-le-mul_left most both in
        omega (arith, legible.short c fit, lines_short legible list front.text.fit_all, mul-add most (words_of list) (words c), mul-div-le (length memory) most)

    pub put_count : count + 1 ≤ 16777216
    put_count =
        omega (arith, front.text.count_is, front.text.words_are, words_long (read_lines mark read (take held memory)))

    module _ (end : ℕ) (after : List ℕ) (end_is : end ≡ held + length (line c ++ mark ∷ [])) (after_is : after ≡ at_place held (line c ++ mark ∷ []) memory) where
      pub put_long : length after ≡ length memory
      put_long = ap length after_is ∙ length_at_place held (line c ++ mark ∷ []) memory put_within

      longer : take end after ≡ take held memory ++ (line c ++ mark ∷ [])
      longer =
          ap₂ take end_is after_is ∙ take_at_place held (line c ++ mark ∷ []) memory front.within

      more : Holds line mark fit_clause (read_lines mark read (take held memory) ++ c ∷ []) (take end after) (word_count + words c) (count + 1)
      more =
          subst (λ bytes. Holds line mark fit_clause (read_lines mark read (take held memory) ++ c ∷ []) bytes (word_count + words c) (count + 1))
          (sym longer) (holds_put legible front.text c fit)

      pub put_front : Fronted line mark read after end (word_count + words c) (count + 1)
      put_front = let h = put_within in let l = put_long in record { within = omega arith; text = holds_read legible more }

      pub put_contents : byte_contents (read_lines mark read) after end ≡ appended (byte_terms (λ d. line d ++ mark ∷ []) most (length memory)) (byte_contents (read_lines mark read) memory held) c
      put_contents =
          let place = after_is ∙ ap (λ n. at_place n (line c ++ mark ∷ []) memory) (sym held_is) in
          ap₂ (λ cs bytes. record { list = cs; raw = cs; memory = bytes }) (list_is legible more) place
