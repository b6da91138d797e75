-- Words written one by one, or part by part, from a place of memory on.
use Rattle.std.proofs.Common.{◌≡◌, ℕ, suc, ◌+◌, ◌-◌, ◌<◌, ◌≤◌, List, [], ◌∷◌, ◌++◌, length, get_or, take, drop, set, ℤ, pos, sym, refl, ap, ◌∙◌, ap₂, append_assoc, arith, length-append, length-drop, subst}
use borrow.Rule.Slice.PartMut.{put_mid}
use Rattle.std.proofs.lemmas.List.{take_more_set, drop-set-lt, take-append-drop, length-set, length-take, length-take-le, take_more, take_rest, take_at, drop_all, drop_at, drop_more, drop-drop, append-nil}
use Rattle.std.proofs.Math.Seq.{drop-cons, set-append_seam}
use Rattle.mapping.specs.Memory.{ended, over, written}

-- one word, and then the rest behind it
pub written_more : (memory : List ℤ) (n : ℕ) (w : ℤ) (ws : List ℤ) → n < length memory →
    written (set memory n w) (n + 1) ws ≡ written memory n (w ∷ ws)
written_more memory n w ws h =
    let e : n + 1 + length ws ≡ n + suc (length ws) = omega arith in
    ap₂ (λ a b. a ++ (ws ++ b)) (take_more_set memory n w h) (drop-set-lt (n + 1 + length ws) memory n w (omega arith) ∙ ap (λ k. drop k memory) e) ∙
    append_assoc (take n memory) (w ∷ []) (ws ++ drop (n + suc (length ws)) memory)

pub written_none : (memory : List ℤ) (n : ℕ) → written memory n [] ≡ memory
written_none memory n = let e : n + 0 ≡ n = omega arith in ap (λ k. take n memory ++ drop k memory) e ∙ take-append-drop n memory

-- words at the front
pub written_start : (memory ws : List ℤ) → written memory 0 ws ≡ over ws memory
written_start memory ws = let e : 0 + length ws ≡ length ws = omega arith in ap (λ k. ws ++ drop k memory) e

-- words behind a front
written_after : (front tail ys : List ℤ) (k : ℕ) → length front ≡ k → written (front ++ tail) k ys ≡ front ++ (ys ++ drop (length ys) tail)
written_after front tail ys k at =
    ap₂ (λ a b. a ++ (ys ++ b)) (take_at front tail k at) (sym (drop-drop (length ys) k (front ++ tail)) ∙ ap (drop (length ys)) (drop_at front tail k at))

pub over_written : (memory : List ℤ) (k : ℕ) (xs ys : List ℤ) → length xs ≡ k → written (over xs memory) k ys ≡ over (xs ++ ys) memory
over_written memory k xs ys at =
    written_after xs (drop (length xs) memory) ys k at ∙
    (ap (λ zs. xs ++ (ys ++ zs)) (drop-drop (length ys) (length xs) memory ∙ ap (λ n. drop n memory) (sym (length-append xs ys))) ∙
    sym (append_assoc xs ys (drop (length (xs ++ ys)) memory)))

-- words behind words
pub written_twice : (memory : List ℤ) (n k : ℕ) (xs ys : List ℤ) → n ≤ length memory → n + length xs ≡ k →
    written (written memory n xs) k ys ≡ written memory n (xs ++ ys)
written_twice memory n k xs ys room at =
    let front = take n memory ++ xs in
    let tail = drop (n + length xs) memory in
    let long : length front ≡ k = omega (arith, length-append (take n memory) xs, length-take n memory) in
    let sum : n + length xs + length ys ≡ n + length (xs ++ ys) = omega (arith, length-append xs ys) in
    ap (λ zs. written zs k ys) (sym (append_assoc (take n memory) xs tail)) ∙
    (written_after front tail ys k long ∙
    (append_assoc (take n memory) xs (ys ++ drop (length ys) tail) ∙
    ap (λ zs. take n memory ++ zs) (sym (append_assoc xs ys (drop (length ys) tail)) ∙
    ap (λ zs. (xs ++ ys) ++ zs) (drop-drop (length ys) (n + length xs) memory ∙ ap (λ i. drop i memory) sum))))

length_written : (memory : List ℤ) (n : ℕ) (xs : List ℤ) → n + length xs ≤ length memory → length (written memory n xs) ≡ length memory
length_written memory n xs room =
    length-append (take n memory) (xs ++ drop (n + length xs) memory) ∙
    omega (arith, length-take n memory, length-append xs (drop (n + length xs) memory), length-drop (n + length xs) memory)

-- words at the front of the part of memory behind n words, which was lent
pub written_part : (memory part : List ℤ) (n long : ℕ) (ws : List ℤ) → long ≡ length memory → part ≡ over ws (take (long - n) (drop n memory)) →
    put_mid n (long - n) memory part ≡ written memory n ws
written_part memory part n long ws l e =
    let behind : take (long - n) (drop n memory) ≡ drop n memory = ap (λ k. take (k - n) (drop n memory)) l ∙ take_rest memory n in
    let rest : part ≡ ws ++ drop (n + length ws) memory =
    e ∙ (ap (over ws) behind ∙ ap (λ xs. ws ++ xs) (drop-drop (length ws) n memory)) in
    let none : drop (long - n) (drop n memory) ≡ [] = drop_all (long - n) (drop n memory) (omega (arith, length-drop n memory)) in
    ap₂ (λ a b. take n memory ++ (a ++ b)) rest none ∙ ap (λ xs. take n memory ++ xs) (append-nil (ws ++ drop (n + length ws) memory))

-- a pass over words: with n of them in place, what is left to write makes memory what it is to be
pub record Appending (before memory : List ℤ) (start n : ℕ) (rest all : List ℤ) : Type 0 where
  pub whole : written memory n rest ≡ written before start all
  pub words : n + length rest ≡ start + length all
  pub long : length memory ≡ length before

pub appending_none : (memory : List ℤ) (start : ℕ) (all : List ℤ) → Appending memory memory start start all all
appending_none memory start all = record { whole = refl; words = refl; long = refl }

pub appending_all : (before memory : List ℤ) (start n : ℕ) (all : List ℤ) → Appending before memory start n [] all →
    (n ≡ start + length all) × (memory ≡ written before start all)
appending_all before memory start n all w = (let e = w.words in omega arith, sym (written_none memory n) ∙ w.whole)

pub appending_one : (before memory : List ℤ) (start n : ℕ) (x : ℤ) (rest all : List ℤ) → n < length before →
    Appending before memory start n (x ∷ rest) all → Appending before (set memory n x) start (n + 1) rest all
appending_one before memory start n x rest all h w = record {
  whole = written_more memory n x rest (let l = w.long in omega arith) ∙ w.whole;
  words = let e = w.words in omega arith;
  long = length-set memory n x ∙ w.long;
}

-- three words set, one behind the other
pub appending_three : (before memory : List ℤ) (start n : ℕ) (x y z : ℤ) (rest all : List ℤ) → n + 3 ≤ length before →
    Appending before memory start n (x ∷ y ∷ z ∷ rest) all → Appending before (set (set (set memory n x) (n + 1) y) (n + 2) z) start (n + 3) rest all
appending_three before memory start n x y z rest all h w =
    let two : n + 1 + 1 ≡ n + 2 = omega arith in
    let three : n + 2 + 1 ≡ n + 3 = omega arith in
    let one = appending_one before memory start n x (y ∷ z ∷ rest) all (omega arith) w in
    let next = appending_one before (set memory n x) start (n + 1) y (z ∷ rest) all (omega arith) one in
    subst (λ k. Appending before (set (set (set memory n x) (n + 1) y) (n + 2) z) start k rest all) three
    (appending_one before (set (set memory n x) (n + 1) y) start (n + 2) z rest all (omega arith)
    (subst (λ k. Appending before (set (set memory n x) (n + 1) y) start k (z ∷ rest) all) two next))

-- several words at once
pub appending_many : (before memory next : List ℤ) (start n : ℕ) (xs rest all : List ℤ) → n + length xs ≤ length before → next ≡ written memory n xs →
    Appending before memory start n (xs ++ rest) all → Appending before next start (n + length xs) rest all
appending_many before memory next start n xs rest all h e w =
    let l = w.long in
    record {
      whole = ap (λ ws. written ws (n + length xs) rest) e ∙ (written_twice memory n (n + length xs) xs rest (omega arith) refl ∙ w.whole);
      words = let k = w.words in omega (arith, length-append xs rest);
      long = ap length e ∙ (length_written memory n xs (omega arith) ∙ l);
    }

-- words written over those at the front, one by one
pub over_more : (xs ys memory : List ℤ) (i : ℕ) (x : ℤ) → i < length xs → i < length memory → x ≡ get_or xs i (pos 0) → ys ≡ over (take i xs) memory →
    set ys i x ≡ over (take (i + 1) xs) memory
over_more xs ys memory i x h k e inv =
    let front : length (take i xs) ≡ i = length-take-le i xs (omega arith) in
    let next : suc i ≡ length (take (i + 1) xs) = omega (arith, length-take-le (i + 1) xs (omega arith)) in
    let so_far : ys ≡ take i xs ++ get_or memory i (pos 0) ∷ drop (suc i) memory =
    inv ∙ (ap (λ n. take i xs ++ drop n memory) front ∙ ap (λ zs. take i xs ++ zs) (drop-cons memory i (pos 0) k)) in
    ap₂ (λ zs n. set zs n x) so_far (sym front) ∙
    (set-append_seam (take i xs) (get_or memory i (pos 0)) (drop (suc i) memory) x ∙
    (ap (λ y. take i xs ++ y ∷ drop (suc i) memory) e ∙
    (sym (append_assoc (take i xs) (get_or xs i (pos 0) ∷ []) (drop (suc i) memory)) ∙
    ap₂ (λ zs n. zs ++ drop n memory) (sym (take_more xs i (pos 0) h)) next)))

-- the words of a clause, literal by literal, and a 0 behind them
pub ended_more : (before memory : List ℤ) (i : ℕ) (x : ℤ) (ls : List ℤ) → length ls < length before → i < length ls → x ≡ get_or ls i (pos 0) →
    Appending before memory 0 i (ended (drop i ls)) (ended ls) → Appending before (set memory i x) 0 (i + 1) (ended (drop (i + 1) ls)) (ended ls)
ended_more before memory i x ls room h e w =
    appending_one before memory 0 i x (ended (drop (i + 1) ls)) (ended ls) (omega arith)
    (subst (λ ws. Appending before memory 0 i ws (ended ls)) (ap ended (drop_more ls i (pos 0) h) ∙ ap (λ y. y ∷ ended (drop (i + 1) ls)) (sym e)) w)

pub ended_all : (before memory : List ℤ) (i : ℕ) (ls : List ℤ) → length ls < length before → length ls ≤ i →
    Appending before memory 0 i (ended (drop i ls)) (ended ls) → set memory (length ls) (pos 0) ≡ over (ended ls) before
ended_all before memory i ls room h w =
    let count = w.words in
    let none : length (ended (drop i ls)) ≡ 1 = ap (λ ks. length (ended ks)) (drop_all i ls h) in
    let place : length ls ≡ i = omega (arith, length-append ls (pos 0 ∷ [])) in
    let last = appending_one before memory 0 i (pos 0) [] (ended ls) (omega arith)
    (subst (λ ks. Appending before memory 0 i (ended ks) (ended ls)) (drop_all i ls h) w) in
    ap (λ k. set memory k (pos 0)) place ∙ ((appending_all before (set memory i (pos 0)) 0 (i + 1) (ended ls) last).1 ∙ written_start before (ended ls))

-- words at the front, and a 0 behind them
pub ended_over : (xs part memory : List ℤ) → part ≡ xs → length xs < length memory →
    set (part ++ drop (length xs) memory) (length xs) (pos 0) ≡ over (ended xs) memory
ended_over xs part memory e h =
    let next : suc (length xs) ≡ length (ended xs) = omega (arith, length-append xs (pos 0 ∷ [])) in
    ap (λ ys. set (ys ++ drop (length xs) memory) (length xs) (pos 0)) e ∙
    (ap (λ ys. set (xs ++ ys) (length xs) (pos 0)) (drop-cons memory (length xs) (pos 0) h) ∙
    (set-append_seam xs (get_or memory (length xs) (pos 0)) (drop (suc (length xs)) memory) (pos 0) ∙
    (sym (append_assoc xs (pos 0 ∷ []) (drop (suc (length xs)) memory)) ∙ ap (λ n. ended xs ++ drop n memory) next)))
