-- Clauses written at the front of memory.
use Rattle.std.proofs.Common.{◌≡◌, ℕ, ◌+◌, ◌-◌, ◌<◌, ◌≤◌, List, [], ◌∷◌, ◌++◌, length, take, drop, ℤ, sym, ap, ◌∙◌, subst, append-nil, arith, length-append, length-drop, set, pos, ap₂}
use borrow.Rule.Slice.PartMut.{put_mid}
use Rattle.std.proofs.lemmas.List.{length-take, drop_all, drop-drop}
use Rattle.formula.specs.Boolean.{Clause, words, words_of}
use Rattle.mapping.proofs.Moving.{length_flat, flat_append}
use Rattle.mapping.specs.Memory.{ended, flat, over}
use Rattle.encodings.proofs.Appending.{Appending, appending_none, appending_all, appending_many, written_start, written_part, appending_three}

-- a pass over clauses: with n words written, the clauses that are left make memory what it is to be
abbrev pub Writing : List ℤ → List ℤ → ℕ → List Clause → List Clause → Type 0
Writing before memory n rest all = Appending before memory 0 n (flat rest) (flat all)

pub writing_none : (memory : List ℤ) (all : List Clause) → Writing memory memory 0 all all
writing_none memory all = appending_none memory 0 (flat all)

pub writing_all : (before memory : List ℤ) (n : ℕ) (all : List Clause) → Writing before memory n [] all →
    (n ≡ words_of all) × (memory ≡ over (flat all) before)
writing_all before memory n all w =
    let done = appending_all before memory 0 n (flat all) w in (omega (arith, done.0, length_flat all), done.1 ∙ written_start before (flat all))

-- a clause of two literals, set word by word
pub writing_pair : (before memory : List ℤ) (n : ℕ) (x y : ℤ) (rest all : List Clause) → n + 3 ≤ length before →
    Writing before memory n ((x ∷ y ∷ []) ∷ rest) all → Writing before (set (set (set memory n x) (n + 1) y) (n + 2) (pos 0)) (n + 3) rest all
writing_pair before memory n x y rest all h w = appending_three before memory 0 n x y (pos 0) (flat rest) (flat all) h w

-- clauses written into the part of memory that is left, which was lent
pub writing_part : (before memory part : List ℤ) (n long : ℕ) (cs rest all : List Clause) → long ≡ length memory → words_of all ≤ length before →
    part ≡ over (flat cs) (take (long - n) (drop n memory)) → Writing before memory n (cs ++ rest) all →
    Writing before (put_mid n (long - n) memory part) (n + words_of cs) rest all
writing_part before memory part n long cs rest all m h e w =
    let parts = ap length (flat_append cs rest) in
    let sum = w.words in
    subst (λ k. Writing before (put_mid n (long - n) memory part) (n + k) rest all) (length_flat cs)
    (appending_many before memory (put_mid n (long - n) memory part) 0 n (flat cs) (flat rest) (flat all)
    (omega (arith, length_flat all, length-append (flat cs) (flat rest))) (written_part memory part n long (flat cs) m e)
    (subst (λ ws. Appending before memory 0 n ws (flat all)) (flat_append cs rest) w))

-- a clause written into a part that was lent, where it has room
abbrev pub ClauseWritten : Clause → List ℤ → ℕ → List ℤ → Type 0
ClauseWritten c lent k part = length c < length lent → (k ≡ words c) × (part ≡ over (ended c) lent)

-- the words that are left have room for the next clause
pub writing_next : (before memory : List ℤ) (n : ℕ) (c : Clause) (rest all : List Clause) → words_of all ≤ length before → Writing before memory n (c ∷ rest) all →
    n + words c ≤ length memory
writing_next before memory n c rest all h w = let sum = w.words in let l = w.long in omega (arith, length_flat all, length_flat (c ∷ rest))

-- a clause written into just so many of them, which were lent
pub writing_fit : (before memory part : List ℤ) (n end k : ℕ) (c : Clause) (rest all : List Clause) → end ≡ n + words c → words_of all ≤ length before →
    ClauseWritten c (take (end - n) (drop n memory)) k part → Writing before memory n (c ∷ rest) all →
    Writing before (put_mid n (end - n) memory part) (n + k) rest all
writing_fit before memory part n end k c rest all at h written w =
    let lent = take (end - n) (drop n memory) in
    let room = writing_next before memory n c rest all h w in
    let long : length lent ≡ words c = simp (length-take, length-drop) (omega arith) in
    let ends : length (ended c) ≡ words c = length-append c (pos 0 ∷ []) in
    let e = written (omega arith) in
    let same : part ≡ ended c =
    e.1 ∙ (ap (λ ws. ended c ++ ws) (drop_all (length (ended c)) lent (omega arith)) ∙ append-nil (ended c)) in
    let back : drop (end - n) (drop n memory) ≡ drop (n + length (ended c)) memory =
    drop-drop (end - n) n memory ∙ ap (λ i. drop i memory) (omega arith) in
    let count : length (ended c) ≡ k = ends ∙ sym e.0 in
    let l = w.long in
    subst (λ i. Writing before (put_mid n (end - n) memory part) (n + i) rest all) count
    (appending_many before memory (put_mid n (end - n) memory part) 0 n (ended c) (flat rest) (flat all) (omega arith)
    (ap₂ (λ a b. take n memory ++ (a ++ b)) same back) w)

-- where all of the clauses fit, the words so far do
pub writing_room : (before memory : List ℤ) (n : ℕ) (rest all : List Clause) → words_of all ≤ length before → Writing before memory n rest all →
    (n ≤ length before) × Writing before memory n rest all
writing_room before memory n rest all h w = let sum = w.words in (omega (arith, length_flat all), w)
