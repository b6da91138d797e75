-- The words of a tie, literal by literal.
use Rattle.std.proofs.Common.{◌≡◌, ℕ, ◌+◌, ◌-◌, ◌*◌, ◌<◌, ◌≤◌, List, [], ◌∷◌, ◌++◌, map, length, get_or, take, drop, set, ℤ, pos, sym, refl, ap, ◌∙◌, subst, ap₂, append-nil, arith, rules, true, negsuc, ◌-ℤ◌, w32, to_z, of_z, SFits, length-append}
use borrow.Rule.Slice.PartMut.{put_mid}
use Rattle.std.proofs.lemmas.List.{drop_more, drop_all, length-map, length-set}
use Rattle.std.proofs.lemmas.Bool.{and_parts, leb-true}
use Rattle.std.proofs.lemmas.Int.{ints, to_z-of_z}
use Rattle.formula.proofs.Tests.{sum_append}
use Rattle.formula.specs.Boolean.{Clause, local, number, opposite, words, words_of}
use Rattle.mapping.proofs.Moving.{flat_append}
use Rattle.mapping.specs.Memory.{ended, flat, over}
use Rattle.encodings.proofs.Appending.{Appending, appending_one, appending_all, written_more, written_start}
use Rattle.encodings.proofs.Writing.{Writing, ClauseWritten, writing_next, writing_fit, writing_all}
use Rattle.encodings.specs.Ties.{tie}

-- a literal of few Booleans is a word, and its opposite too
module _ (x : ℤ) (h : local 127 x ≡ true) where
  few : number x ≤ 127
  few = leb-true (number x) 127 (and_parts _ _ h).1

  pub as_word : to_z w32 (of_z w32 x) ≡ x
  as_word = to_z-of_z w32 x (fits x few)
    where
      fits : (z : ℤ) → number z ≤ 127 → SFits w32 z
      fits (pos n) l = search (rules, l)
      fits (negsuc n) l = search (rules, l)

  pub turned_word : to_z w32 (of_z w32 (pos 0 -ℤ to_z w32 (of_z w32 x))) ≡ opposite x
  turned_word = ap (λ z. to_z w32 (of_z w32 (pos 0 -ℤ z))) as_word ∙ turned x few
    where
      turned : (z : ℤ) → number z ≤ 127 → to_z w32 (of_z w32 (pos 0 -ℤ z)) ≡ opposite z
      turned (pos n) l = omega (arith, ints)
      turned (negsuc n) l = omega (arith, ints)

-- the clauses of a literal with each of others
abbrev pub implications : ℤ → List ℤ → List Clause
implications x ls = map (λ y. opposite x ∷ y ∷ []) ls

-- each of them has three words
pub implications_words : (x : ℤ) (ls : List ℤ) → words_of (implications x ls) ≡ 3 * length ls
implications_words x [] = refl
implications_words x (l ∷ ls) = let more = implications_words x ls in omega arith

-- there is room for the next of them, and it is written
pub implications_room : (before memory : List ℤ) (n i : ℕ) (x : ℤ) (ls : List ℤ) → i < length ls → words_of (implications x ls) ≤ length before →
    Writing before memory n (implications x (drop i ls)) (implications x ls) → n + 3 ≤ length memory
implications_room before memory n i x ls h room w =
    writing_next before memory n (opposite x ∷ get_or ls i (pos 0) ∷ []) (implications x (drop (i + 1) ls)) (implications x ls) room
    (subst (λ ks. Writing before memory n (implications x ks) (implications x ls)) (drop_more ls i (pos 0) h) w)

pub implications_more : (before memory part : List ℤ) (n end k i : ℕ) (x a b : ℤ) (ls : List ℤ) → i < length ls →
    a ≡ opposite x → b ≡ get_or ls i (pos 0) → end ≡ n + 3 → words_of (implications x ls) ≤ length before →
    ClauseWritten (a ∷ b ∷ []) (take (end - n) (drop n memory)) k part → Writing before memory n (implications x (drop i ls)) (implications x ls) →
    Writing before (put_mid n (end - n) memory part) (n + k) (implications x (drop (i + 1) ls)) (implications x ls)
implications_more before memory part n end k i x a b ls h first second at room is w =
    let rest = implications x (drop (i + 1) ls) in
    let parts : implications x (drop i ls) ≡ (a ∷ b ∷ []) ∷ rest =
    ap (implications x) (drop_more ls i (pos 0) h) ∙ ap₂ (λ (y z : ℤ). (y ∷ z ∷ []) ∷ rest) (sym first) (sym second) in
    writing_fit before memory part n end k (a ∷ b ∷ []) rest (implications x ls) at room is (subst (λ cs. Writing before memory n cs (implications x ls)) parts w)

pub implications_all : (before memory : List ℤ) (n i : ℕ) (x : ℤ) (ls : List ℤ) → length ls ≤ i →
    Writing before memory n (implications x (drop i ls)) (implications x ls) → (n ≡ words_of (implications x ls)) × (memory ≡ over (flat (implications x ls)) before)
implications_all before memory n i x ls h w =
    writing_all before memory n (implications x ls) (subst (λ ks. Writing before memory n (implications x ks) (implications x ls)) (drop_all i ls h) w)

-- what is left of a clause that ends in opposites
abbrev pub converse : List ℤ → List ℤ
converse ls = map opposite ls ++ pos 0 ∷ []

pub converse_length : (ls : List ℤ) → length (converse ls) ≡ length ls + 1
converse_length ls = length-append (map opposite ls) (pos 0 ∷ []) ∙ ap (λ n. n + 1) (length-map ls opposite)

pub converse_step : (before memory : List ℤ) (start n i : ℕ) (a : ℤ) (ls all : List ℤ) → n < length before → i < length ls →
    a ≡ opposite (get_or ls i (pos 0)) → Appending before memory start n (converse (drop i ls)) all → Appending before (set memory n a) start (n + 1) (converse (drop (i + 1) ls)) all
converse_step before memory start n i a ls all room h e w =
    appending_one before memory start n a (converse (drop (i + 1) ls)) all room
    (subst (λ ws. Appending before memory start n ws all) (ap converse (drop_more ls i (pos 0) h) ∙ ap (λ p. p ∷ converse (drop (i + 1) ls)) (sym e)) w)

-- the literal stands before them, and a 0 behind
pub converse_all : (memory last : List ℤ) (n i : ℕ) (x : ℤ) (ls : List ℤ) → n < length memory → n ≡ length ls + 1 → length ls ≤ i →
    Appending (set memory 0 x) last 1 (i + 1) (converse (drop i ls)) (converse ls) → set last n (pos 0) ≡ over (ended (x ∷ map opposite ls)) memory
converse_all memory last n i x ls room at h w =
    let front = set memory 0 x in
    let count = w.words in
    let long = converse_length ls in
    let one : length (converse (drop i ls)) ≡ 1 = ap (λ ks. length (converse ks)) (drop_all i ls h) in
    let place : i + 1 ≡ n = omega arith in
    let done = appending_one front last 1 (i + 1) (pos 0) [] (converse ls) (omega (arith, length-set memory 0 x))
    (subst (λ ks. Appending front last 1 (i + 1) (converse ks) (converse ls)) (drop_all i ls h) w) in
    let all = appending_all front (set last (i + 1) (pos 0)) 1 (i + 1 + 1) (converse ls) done in
    ap (λ k. set last k (pos 0)) (sym place) ∙
    (all.1 ∙ (written_more memory 0 x (converse ls) (omega arith) ∙ written_start memory (x ∷ converse ls)))

-- a tie is both
pub tie_words : (x : ℤ) (ls : List ℤ) → words_of (tie x ls) ≡ 4 * length ls + 2
tie_words x ls =
    sum_append words (implications x ls) ((x ∷ map opposite ls) ∷ []) ∙
    omega (arith, implications_words x ls, length-map ls opposite)

pub tie_flat : (x : ℤ) (ls : List ℤ) → flat (tie x ls) ≡ flat (implications x ls) ++ ended (x ∷ map opposite ls)
tie_flat x ls =
    flat_append (implications x ls) ((x ∷ map opposite ls) ∷ []) ∙
    ap (λ ws. flat (implications x ls) ++ ws) (append-nil (ended (x ∷ map opposite ls)))
