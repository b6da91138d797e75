-- Clauses written as lines, a mark behind each: they are read back, and one more or one fewer is a longer or a shorter text.
-- A way of writing clauses is any that is legible; nothing else is assumed.
use Rattle.std.proofs.Common.{◌≡◌, ℕ, ◌+◌, ◌-◌, ◌*◌, ◌<◌, ◌≤◌, Bool, true, List, [], ◌∷◌, ◌++◌, map, length, get_or, take, sym, refl, ap, ◌∙◌, subst, inl, inr, append_assoc, append-nil, arith, length-append}
use Rattle.std.specs.List.{flat_map}
use Rattle.std.proofs.lemmas.List.{append_cancel_left, append_cancel_right, flat_map_more, length_push, length-take-le, take_all, take_more}
use Rattle.std.proofs.lemmas.Bool.{and_parts}
use Rattle.formula.specs.Boolean.{Clause, words, words_of}
use Rattle.formula.specs.Tests.{every}
use Rattle.text_store.specs.Bytes.{pieces, clean, Closed, lows, PieceFrom}
use Rattle.text_store.proofs.Literals.{length_joined_le}
use Rattle.text_store.proofs.Marks.{pieces_joined, same_front}
use Rattle.formula.proofs.Tests.{every_push, every_parts, every_weaker, map_back, sum_push}

-- clauses as lines
abbrev pub lines : (Clause → List ℕ) → ℕ → List Clause → List ℕ
lines line mark cs = flat_map (λ c. line c ++ mark ∷ []) cs

-- the clauses of lines
abbrev pub read_lines : ℕ → (List ℕ → Clause) → List ℕ → List Clause
read_lines mark read bytes = map read (pieces mark bytes)

-- a clause that fits has no mark in its line and is read back from it; its words are its low bytes, and none of them is too long
pub record Legible (line : Clause → List ℕ) (mark bound most : ℕ) (read : List ℕ → Clause) (fit : Clause → Bool) : Type 0 where
  pub unmarked : (c : Clause) → fit c ≡ true → clean mark (line c) ≡ true
  pub read_back : (c : Clause) → fit c ≡ true → read (line c) ≡ c
  pub counted : (c : Clause) → fit c ≡ true → lows bound (line c ++ mark ∷ []) ≡ words c
  pub short : (c : Clause) → fit c ≡ true → length (line c ++ mark ∷ []) ≤ most * words c

-- bytes are the lines of clauses that fit, and the counts that a store keeps of them are right
pub record Holds (line : Clause → List ℕ) (mark : ℕ) (fit : Clause → Bool) (cs : List Clause) (bytes : List ℕ) (word_count count : ℕ) : Type 0 where
  pub whole : lines line mark cs ≡ bytes
  pub fit_all : every fit cs ≡ true
  pub words_are : word_count ≡ words_of cs
  pub count_is : count ≡ length cs

pub closed_lines : (line : Clause → List ℕ) (mark : ℕ) (cs : List Clause) → Closed mark (lines line mark cs)
closed_lines line mark [] = inl refl
closed_lines line mark (c ∷ cs) = more (closed_lines line mark cs)
  where
    more : Closed mark (lines line mark cs) → Closed mark (lines line mark (c ∷ cs))
    more (inl e) = inr (line c, ap (λ bs. (line c ++ mark ∷ []) ++ bs) e ∙ append-nil (line c ++ mark ∷ []))
    more (inr p) = inr ((line c ++ mark ∷ []) ++ p.0, ap (λ bs. (line c ++ mark ∷ []) ++ bs) p.1 ∙ sym (append_assoc (line c ++ mark ∷ []) p.0 (mark ∷ [])))

-- a clause is at least its mark, and at least one word
pub lines_long : (line : Clause → List ℕ) (mark : ℕ) (cs : List Clause) → length cs ≤ length (lines line mark cs)
lines_long line mark [] = omega arith
lines_long line mark (c ∷ cs) =
    omega (arith, length-append (line c ++ mark ∷ []) (lines line mark cs), length_push (line c) mark, lines_long line mark cs)

pub words_long : (cs : List Clause) → length cs ≤ words_of cs
words_long [] = omega arith
words_long (c ∷ cs) = let more = words_long cs in omega arith

module _ {line : Clause → List ℕ} {mark bound most : ℕ} {read : List ℕ → Clause} {fit : Clause → Bool} (legible : Legible line mark bound most read fit) where
  pub round_trip : (cs : List Clause) → every fit cs ≡ true → read_lines mark read (lines line mark cs) ≡ cs
  round_trip cs h =
      let cut = pieces_joined mark line cs [] (every_weaker fit (λ c. clean mark (line c)) legible.unmarked cs h) in
      ap (map read) (ap (pieces mark) (sym (append-nil (lines line mark cs))) ∙ cut ∙ append-nil (map line cs)) ∙ map_back fit line read legible.read_back cs h

  -- equal bytes, equal clauses
  pub same_clauses : (cs ds : List Clause) → every fit cs ≡ true → every fit ds ≡ true → lines line mark cs ≡ lines line mark ds → cs ≡ ds
  same_clauses cs ds h k e = sym (round_trip cs h) ∙ ap (read_lines mark read) e ∙ round_trip ds k

  pub lines_short : (cs : List Clause) → every fit cs ≡ true → length (lines line mark cs) ≤ most * words_of cs
  lines_short cs h = length_joined_le (λ c. line c ++ mark ∷ []) fit words most legible.short cs h

  -- the last line begins where the unmarked bytes before the last mark begin
  last_line : (cs : List Clause) (c : Clause) (front piece : List ℕ) → fit c ≡ true → Closed mark front → clean mark piece ≡ true → front ++ (piece ++ mark ∷ []) ≡ lines line mark (cs ++ c ∷ []) → (front ≡ lines line mark cs) × (piece ≡ line c)
  last_line cs c front piece h closed unmarked e =
      let both = append_assoc front piece (mark ∷ []) ∙ e ∙ sym (flat_map_more (λ d. line d ++ mark ∷ []) [] cs c) ∙ sym (append_assoc (lines line mark cs) (line c) (mark ∷ [])) in
      let same = append_cancel_right (front ++ piece) (lines line mark cs ++ line c) (mark ∷ []) both in
      let begin = same_front mark front (lines line mark cs) piece (line c) closed (closed_lines line mark cs) unmarked (legible.unmarked c h) same in
      (begin, append_cancel_left (lines line mark cs) piece (line c) (ap (λ bs. bs ++ piece) (sym begin) ∙ same))

  module _ {cs : List Clause} {bytes : List ℕ} {word_count count : ℕ} (holds : Holds line mark fit cs bytes word_count count) where
    -- the bytes tell the clauses
    pub list_is : read_lines mark read bytes ≡ cs
    list_is = ap (read_lines mark read) (sym holds.whole) ∙ round_trip cs holds.fit_all

    pub holds_read : Holds line mark fit (read_lines mark read bytes) bytes word_count count
    holds_read = subst (λ ds. Holds line mark fit ds bytes word_count count) (sym list_is) holds

    -- a clause more
    pub holds_put : (c : Clause) → fit c ≡ true → Holds line mark fit (cs ++ c ∷ []) (bytes ++ (line c ++ mark ∷ [])) (word_count + words c) (count + 1)
    holds_put c h = record {
      whole = sym (flat_map_more (λ d. line d ++ mark ∷ []) [] cs c) ∙ ap (λ bs. bs ++ (line c ++ mark ∷ [])) holds.whole;
      fit_all = every_push fit cs c holds.fit_all h;
      words_are = let more = sum_push words cs c in omega (arith, holds.words_are);
      count_is = let more = length_push cs c in omega (arith, holds.count_is);
    }

    -- without the last clause: the bytes before the last piece
    pub holds_cut : (start low : ℕ) → 0 < count → PieceFrom mark bound bytes start low → Closed mark (take start bytes) → (low ≤ word_count) × Holds line mark fit (take (count - 1) cs) (take start bytes) (word_count - low) (count - 1)
    holds_cut start low some piece before =
        let ds = take (count - 1) cs in
        let c = get_or cs (count - 1) [] in
        let long : count - 1 + 1 ≡ length cs = omega (arith, holds.count_is) in
        let split : cs ≡ ds ++ c ∷ [] = sym (take_all (count - 1 + 1) cs (omega arith)) ∙ take_more cs (count - 1) [] (omega arith) in
        let fits = every_parts fit ds (c ∷ []) (ap (every fit) (sym split) ∙ holds.fit_all) in
        let fit-last = (and_parts (fit c) true fits.1).0 in
        let last = last_line ds c (take start bytes) piece.piece fit-last before piece.unmarked (piece.whole ∙ sym holds.whole ∙ ap (lines line mark) split) in
        let spent : low ≡ words c = piece.count_is ∙ ap (λ bs. lows bound (bs ++ mark ∷ [])) last.1 ∙ legible.counted c fit-last in
        let sum : words_of cs ≡ words_of ds + words c = ap words_of split ∙ sum_push words ds c in
        let enough : low ≤ word_count = omega (arith, holds.words_are) in (
          enough,
          record {
            whole = sym last.0;
            fit_all = fits.0;
            words_are = omega (arith, holds.words_are);
            count_is = sym (length-take-le (count - 1) cs (omega arith));
          },
        )
