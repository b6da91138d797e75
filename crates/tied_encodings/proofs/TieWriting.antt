-- Ties written word by word, from any place of memory on and in any whole.
use Rattle.std.proofs.Common.{◌≡◌, ℕ, ◌+◌, ◌*◌, ◌<◌, ◌≤◌, List, [], ◌∷◌, map, length, get_or, drop, set, ℤ, pos, sym, ap, ◌∙◌, subst, ap₂, arith}
use Rattle.std.proofs.lemmas.List.{drop_more, drop_all}
use Rattle.std.specs.List.{flat_map}
use Rattle.formula.specs.Boolean.{opposite}
use Rattle.mapping.proofs.Moving.{length_flat}
use Rattle.mapping.specs.Meanings.{Meaning}
use Rattle.mapping.specs.Memory.{flat, ended, written}
use Rattle.encodings.proofs.Appending.{Appending, appending_one, appending_three, appending_all, written_twice}
use Rattle.encodings.specs.Runs.{numbers_none}
use Rattle.encodings.specs.Ties.{tie, ties}
use Rattle.tied_encodings.proofs.TieWords.{implications, implications_words, converse, tie_flat}
use Rattle.tied_encodings.proofs.ValueTies.{tie_of, ties_left}

-- the next clause of a literal with another, set word by word
pub implications_step : (before memory : List ℤ) (start n i : ℕ) (x a b : ℤ) (ls all : List ℤ) → n + 3 ≤ length before → i < length ls →
    a ≡ opposite x → b ≡ get_or ls i (pos 0) → Appending before memory start n (flat (implications x (drop i ls))) all →
    Appending before (set (set (set memory n a) (n + 1) b) (n + 2) (pos 0)) start (n + 3) (flat (implications x (drop (i + 1) ls))) all
implications_step before memory start n i x a b ls all room h first second w =
    let rest = flat (implications x (drop (i + 1) ls)) in
    appending_three before memory start n a b (pos 0) rest all room
    (subst (λ ws. Appending before memory start n ws all)
    (ap (λ ks. flat (implications x ks)) (drop_more ls i (pos 0) h) ∙ ap₂ (λ (p q : ℤ). p ∷ q ∷ pos 0 ∷ rest) (sym first) (sym second)) w)

pub implications_ended : (before memory : List ℤ) (start n i : ℕ) (x : ℤ) (ls all : List ℤ) → length ls ≤ i →
    Appending before memory start n (flat (implications x (drop i ls))) all → memory ≡ written before start all
implications_ended before memory start n i x ls all h w =
    (appending_all before memory start n all (subst (λ ks. Appending before memory start n (flat (implications x ks)) all) (drop_all i ls h) w)).1

-- the 0 behind the opposites
pub converse_ended : (before memory : List ℤ) (start n i : ℕ) (ls all : List ℤ) → n < length before → length ls ≤ i →
    Appending before memory start n (converse (drop i ls)) all → set memory n (pos 0) ≡ written before start all
converse_ended before memory start n i ls all room h w =
    (appending_all before (set memory n (pos 0)) start (n + 1) all (appending_one before memory start n (pos 0) [] all room
    (subst (λ ks. Appending before memory start n (converse ks) all) (drop_all i ls h) w))).1

-- both, one behind the other, are the tie
pub tie_written : (memory first last : List ℤ) (start k : ℕ) (x : ℤ) (ls : List ℤ) → start ≤ length memory → k ≡ start + 3 * length ls →
    first ≡ written memory start (flat (implications x ls)) → last ≡ written first k (ended (x ∷ map opposite ls)) → last ≡ written memory start (flat (tie x ls))
tie_written memory first last start k x ls room at e f =
    f ∙ (ap (λ ws. written ws k (ended (x ∷ map opposite ls))) e ∙
    (written_twice memory start k (flat (implications x ls)) (ended (x ∷ map opposite ls)) room (omega (arith, length_flat (implications x ls), implications_words x ls)) ∙
    ap (written memory start) (sym (tie_flat x ls))))

pub ties_ended : (M : Meaning) (m : ℕ) (before memory : List ℤ) (start n k : ℕ) → m + 1 ≤ k →
    Appending before memory start n (flat (ties_left M m k)) (flat (ties M m)) → (n ≡ start + length (flat (ties M m))) × (memory ≡ written before start (flat (ties M m)))
ties_ended M m before memory start n k h w =
    appending_all before memory start n (flat (ties M m))
    (subst (λ ks. Appending before memory start n (flat (flat_map (tie_of M m) ks)) (flat (ties M m))) (numbers_none k (m + 1) h) w)
