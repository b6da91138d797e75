-- The lines of a text, as std cuts them off behind each newline. Assumes nothing.
use Rattle.std.proofs.Common.{◌≡◌, ℕ, ◌+◌, ◌-◌, ◌<◌, ◌≤◌, Bool, false, cond, eqb, List, [], ◌∷◌, ◌++◌, length, get_or, take, Option, Bor, sym, refl, ap, ◌∙◌, subst, append-nil, append_assoc, length-append, arith, ⊎_elim, min}
use Rattle.std.proofs.lemmas.Bool.{cond-false, cases_lt, eqb-true}
use Rattle.std.proofs.lemmas.Grind.{common_steps}
use Rattle.std.proofs.lemmas.List.{nil_from_length, take_more, length-take-le}
use Rattle.std.proofs.Math.Seq.{take-append_seam}
use Rattle.std.proofs.lemmas.List.Splits.{slice_split_none, slice_split_at, length-slice_split}
use Rattle.std.proofs.lemmas.Fn.{always_returns_same}
use Rattle.std.proofs.lemmas.Iterator.{YieldsList}
use Rattle.std.proofs.lemmas.Iterator.Splits.{YieldsList-from_shown_while}
use Rattle.std.specs.Fn.{CalledAt, ComputesKey}
use Rattle.std.specs.Option.{MatchOption}
use Rattle.std.specs.Slice.Iter.{split_inclusive_rest, split_inclusive_callee}
use Rattle.std.specs.declared.slice.SplitInclusive.{SplitInclusive}
use denote.Param.Members.{Mut}
use Rattle.std.specs.List.{All, IsFirstMatchOrLen}
use Rattle.parser.specs.Cuts.{parts, closed, lines}

-- a line without the newline that ends it, if one does
abbrev pub trimmed : List ℕ → List ℕ
trimmed line = cond (eqb (get_or line (length line - 1) 0) 10) (take (length line - 1) line) line

closed_more : (p : List ℕ) (ps : List (List ℕ)) → 0 < length ps → closed (p ∷ ps) ≡ p ∷ closed ps
closed_more p [] some = absurd (omega arith)
closed_more p (q ∷ ps) some = refl

closed_last : (p : List ℕ) → 0 < length p → closed (p ∷ []) ≡ p ∷ []
closed_last [] some = absurd (omega arith)
closed_last (b ∷ p) some = refl

-- a line that a newline ends
ended : (front rest : List ℕ) → All (λ b. eqb b 10 ≡ false) front → lines (front ++ 10 ∷ rest) ≡ front ∷ lines rest
ended front rest none =
    ap closed (slice_split_at (λ b. eqb b 10) front 10 rest none refl) ∙ closed_more front (parts 10 rest) (omega (arith, length-slice_split (λ b. eqb b 10) rest))

-- a last line without one
unended : (line : List ℕ) → 0 < length line → All (λ b. eqb b 10 ≡ false) line → lines line ≡ line ∷ []
unended line some none = ap closed (slice_split_none (λ b. eqb b 10) line none) ∙ closed_last line some

trimmed_ended : (front : List ℕ) → trimmed (front ++ 10 ∷ []) ≡ front
trimmed_ended front = grind (arith, common_steps)

trimmed_unended : (line : List ℕ) → All (λ b. eqb b 10 ≡ false) line → trimmed line ≡ line
trimmed_unended [] none = refl
trimmed_unended (b ∷ bs) none =
    let line = b ∷ bs in
    cond-false (eqb (get_or line (length line - 1) 0) 10) _ _ (none (length line - 1) 0 (omega arith))

-- the first line, and the lines behind it
pub lines_first : (text x rest : List ℕ) (i : ℕ) → text ≡ x ++ rest → length x ≡ min (i + 1) (length text) → IsFirstMatchOrLen (λ b. eqb b 10) text i → 0 < length text → lines text ≡ trimmed x ∷ lines rest
lines_first text x rest i is long first some = ⊎_elim by_newline by_end (cases_lt i (length text))
  where
    by_newline : i < length text → lines text ≡ trimmed x ∷ lines rest
    by_newline within =
        let front : All (λ b. eqb b 10 ≡ false) (take i text) = λ k d l. let a = first.0 k d (omega arith) (omega (arith, length-take-le i text (omega arith))) in grind (arith, common_steps) in
        let n : length x ≡ i + 1 = omega arith in
        let newline : get_or text i 0 ≡ 10 = eqb-true _ _ (first.1 within 0) in
        let cut : x ≡ take i text ++ 10 ∷ [] = sym (take-append_seam x rest) ∙ (λ j. take (n j) (sym is j)) ∙ take_more text i 0 within ∙ ap (λ b. take i text ++ b ∷ []) newline in
        let whole : text ≡ take i text ++ 10 ∷ rest = is ∙ ap (λ line. line ++ rest) cut ∙ append_assoc (take i text) (10 ∷ []) rest in
        ap lines whole ∙ ended (take i text) rest front ∙ ap (λ line. line ∷ lines rest) (sym (ap trimmed cut ∙ trimmed_ended (take i text)))

    by_end : length text ≤ i → lines text ≡ trimmed x ∷ lines rest
    by_end past =
        let none : rest ≡ [] = nil_from_length rest (omega (arith, ap length is, length-append x rest)) in
        let whole : text ≡ x = is ∙ ap (λ bs. x ++ bs) none ∙ append-nil x in
        let all : All (λ b. eqb b 10 ≡ false) x = λ k d l. subst (λ (bs : List ℕ). eqb (get_or bs k d) 10 ≡ false) whole (first.0 k d (omega arith) (omega (arith, ap length whole))) in
        ap lines whole ∙ unended x (omega (arith, ap length whole)) all ∙ (λ j. sym (trimmed_unended x all) j ∷ lines (sym none j))

-- what std cuts off behind each newline, without the newline, is the lines
module _ {F : Type 0} (g : Mut F (Bor ℕ × Unit {0}) Bool) where
  abbrev pub cuts_off : SplitInclusive ℕ F → Option (Bor (List ℕ)) → SplitInclusive ℕ F → Type 0
  cuts_off s r t = MatchOption r ((length (split_inclusive_rest s) ≡ 0) × (t ≡ s))
      (λ x. (split_inclusive_rest s ≡ x.now ++ split_inclusive_rest t)
      × ((i : ℕ) × (length x.now ≡ min (i + 1) (length (split_inclusive_rest s)))
      × ((p : ℕ → Bool) → ComputesKey g p (split_inclusive_callee s) → ComputesKey g p (split_inclusive_callee t) × IsFirstMatchOrLen p (split_inclusive_rest s) i))
      × (0 < length (split_inclusive_rest s)))

  pub YieldsList-from_split_inclusive : {s : SplitInclusive ℕ F} {f : F} (text : List ℕ) → split_inclusive_rest s ≡ text → split_inclusive_callee s ≡ f
      → ((x : ℕ) (b : Bool) (q : F) → CalledAt g f x b q → (q ≡ f) × (b ≡ eqb x 10)) → YieldsList cuts_off (λ x. trimmed x.now) s (lines text)
  YieldsList-from_split_inclusive {s} text rest closure tests =
      subst (λ (bs : List ℕ). YieldsList cuts_off (λ x. trimmed x.now) s (lines bs)) rest
      (YieldsList-from_shown_while cuts_off (λ x. trimmed x.now) (λ t. lines (split_inclusive_rest t)) (λ t. ComputesKey g (λ b. eqb b 10) (split_inclusive_callee t))
      (λ t u h k. ap (λ (bs : List ℕ). length (lines bs)) (nil_from_length (split_inclusive_rest t) k.0))
      (λ t x u h k. let m = k.1.2 (λ b. eqb b 10) h in (m.0, lines_first (split_inclusive_rest t) x.now (split_inclusive_rest u) k.1.0 k.0 k.1.1 m.1 k.2))
      s (subst (ComputesKey g (λ b. eqb b 10)) (sym closure) (always_returns_same g (λ a r. r ≡ eqb a.0.now 10) _ (λ a r q k. let m = tests a.0.now r q (record { shown = a.0; shows = refl; called = k }) in (m.1, m.0)))))
