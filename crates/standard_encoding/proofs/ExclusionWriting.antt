-- S's exclusions written into memory.
use Rattle.std.proofs.Common.{◌≡◌, ℕ, suc, ◌+◌, ◌-◌, ◌*◌, ◌<◌, ◌≤◌, List, [], ◌∷◌, ◌++◌, map, length, take, drop, ℤ, sym, refl, ap, ◌∙◌, subst, ap₂, ⊎_elim, arith, set, pos}
use borrow.Rule.Slice.PartMut.{put_mid}
use Rattle.std.proofs.lemmas.Bool.{cases_lt}
use Rattle.formula.proofs.Tests.{sum_append}
use Rattle.formula.specs.Boolean.{Clause, opposite, words, words_of}
use Rattle.formula.specs.Sheets.{numbers}
use Rattle.mapping.proofs.Moving.{length_flat}
use Rattle.mapping.specs.Memory.{flat, over}
use Rattle.encodings.specs.Standard.{not_both, exclusions}
use Rattle.encodings.specs.Values.{value_literal}
use Rattle.encodings.proofs.Exclusions.{excluded, exclusions_are}
use Rattle.encodings.specs.Runs.{numbers_more, numbers_none, words_numbers}
use Rattle.encodings.proofs.Writing.{Writing, ClauseWritten, writing_none, writing_room, writing_all, writing_part, writing_pair, writing_next, writing_fit}

-- the exclusions of value v and each that follows it, and those of them that are left from value j on
abbrev pub pairs_of : ℕ → ℕ → List Clause
pairs_of m v = map (not_both v) (numbers (suc v) (m - v))

abbrev pub pairs_left : ℕ → ℕ → ℕ → List Clause
pairs_left m v j = map (not_both v) (numbers j (m + 1 - j))

pairs_first : (m v : ℕ) → pairs_left m v (v + 1) ≡ pairs_of m v
pairs_first m v =
    let next : v + 1 ≡ suc v = omega arith in
    let left : m + 1 - (v + 1) ≡ m - v = omega arith in
    ap₂ (λ j n. map (not_both v) (numbers j n)) next left

pub pairs_words : (m v : ℕ) → words_of (pairs_of m v) ≡ 3 * (m - v)
pairs_words m v = words_numbers (not_both v) 3 (suc v) (m - v) (λ k. refl) ∙ omega arith

pub pairs_none : (memory : List ℤ) (m v : ℕ) → Writing memory memory 0 (pairs_left m v (v + 1)) (pairs_of m v)
pairs_none memory m v = subst (λ cs. Writing memory memory 0 cs (pairs_of m v)) (sym (pairs_first m v)) (writing_none memory (pairs_of m v))

-- where all of them fit, the words so far do
pub pairs_room : (before memory : List ℤ) (n m v j : ℕ) → 3 * (m - v) ≤ length before → Writing before memory n (pairs_left m v j) (pairs_of m v) →
    (n ≤ length before) × Writing before memory n (pairs_left m v j) (pairs_of m v)
pairs_room before memory n m v j h w = writing_room before memory n (pairs_left m v j) (pairs_of m v) (omega (arith, pairs_words m v)) w

module _ (before memory : List ℤ) (n m v j : ℕ) where
  pairs_next : j ≤ m → pairs_left m v j ≡ not_both v j ∷ pairs_left m v (j + 1)
  pairs_next h = ap (map (not_both v)) (numbers_more j (m + 1) (omega arith))

  -- there is room for the next
  pub pair_room : j ≤ m → 3 * (m - v) ≤ length before → Writing before memory n (pairs_left m v j) (pairs_of m v) → n + 3 ≤ length memory
  pair_room h room w =
      writing_next before memory n (not_both v j) (pairs_left m v (j + 1)) (pairs_of m v) (omega (arith, pairs_words m v))
      (subst (λ cs. Writing before memory n cs (pairs_of m v)) (pairs_next h) w)

  pub pairs_more : (part : List ℤ) (k end : ℕ) (x y : ℤ) → j ≤ m → end ≡ n + 3 → 3 * (m - v) ≤ length before →
      x ≡ opposite (value_literal v) → y ≡ opposite (value_literal j) → ClauseWritten (x ∷ y ∷ []) (take (end - n) (drop n memory)) k part →
      Writing before memory n (pairs_left m v j) (pairs_of m v) → Writing before (put_mid n (end - n) memory part) (n + k) (pairs_left m v (j + 1)) (pairs_of m v)
  pairs_more part k end x y h at room first second is w =
      let left = pairs_left m v (j + 1) in
      let parts : pairs_left m v j ≡ (x ∷ y ∷ []) ∷ left = pairs_next h ∙ ap₂ (λ (a b : ℤ). (a ∷ b ∷ []) ∷ left) (sym first) (sym second) in
      writing_fit before memory part n end k (x ∷ y ∷ []) left (pairs_of m v) at (omega (arith, pairs_words m v)) is
      (subst (λ cs. Writing before memory n cs (pairs_of m v)) parts w)

  -- the same for a pair set word by word
  pub pairs_more_set : (x y : ℤ) → j ≤ m → n + 3 ≤ length before → x ≡ opposite (value_literal v) → y ≡ opposite (value_literal j) →
      Writing before memory n (pairs_left m v j) (pairs_of m v) →
      Writing before (set (set (set memory n x) (n + 1) y) (n + 2) (pos 0)) (n + 3) (pairs_left m v (j + 1)) (pairs_of m v)
  pairs_more_set x y h l first second w =
      let left = pairs_left m v (j + 1) in
      let parts : pairs_left m v j ≡ (x ∷ y ∷ []) ∷ left =
      ap (map (not_both v)) (numbers_more j (m + 1) (omega arith)) ∙ ap₂ (λ (a b : ℤ). (a ∷ b ∷ []) ∷ left) (sym first) (sym second) in
      writing_pair before memory n x y left (pairs_of m v) l (subst (λ cs. Writing before memory n cs (pairs_of m v)) parts w)

  pub pairs_all : m < j → Writing before memory n (pairs_left m v j) (pairs_of m v) → (n ≡ 3 * (m - v)) × (memory ≡ over (flat (pairs_of m v)) before)
  pairs_all h w =
      let all = writing_all before memory n (pairs_of m v)
      (subst (λ js. Writing before memory n (map (not_both v) js) (pairs_of m v)) (numbers_none j (m + 1) (omega arith)) w) in
      (all.0 ∙ pairs_words m v, all.1)

-- the exclusions of the values from j on
abbrev pub exclusions_left : ℕ → ℕ → List Clause
exclusions_left m j = excluded j (m + 1 - j)

exclusions_parts : (m j : ℕ) → j ≤ m → exclusions_left m j ≡ pairs_of m j ++ exclusions_left m (j + 1)
exclusions_parts m j h =
    let left : m + 1 - j ≡ suc (m - j) = omega arith in
    let rest : m - j ≡ m + 1 - (j + 1) = omega arith in
    let next : suc j ≡ j + 1 = omega arith in
    ap (excluded j) left ∙ ap₂ (λ k n. pairs_of m j ++ excluded k n) next rest

-- the last value has none
exclusions_last : (m j : ℕ) → m ≤ j → exclusions_left m j ≡ []
exclusions_last m j h =
    ⊎_elim (λ l. let none : m + 1 - j ≡ 0 = omega arith in ap (excluded j) none)
    (λ l. let one : m + 1 - j ≡ 1 = omega arith in ap (excluded j) one) (cases_lt m j)

pub exclusions_none : (memory : List ℤ) (m : ℕ) → Writing memory memory 0 (exclusions_left m 1) (exclusions m)
exclusions_none memory m =
    let all : m + 1 - 1 ≡ m = omega arith in
    subst (λ cs. Writing memory memory 0 cs (exclusions m)) (exclusions_are m ∙ ap (excluded 1) (sym all)) (writing_none memory (exclusions m))

-- where all of them fit, those of the next value do
pub exclusions_room : (before memory : List ℤ) (n m j : ℕ) → words_of (exclusions m) ≤ length before → Writing before memory n (exclusions_left m j) (exclusions m) →
    (n + 3 * (m - j) ≤ length before) × Writing before memory n (exclusions_left m j) (exclusions m)
exclusions_room before memory n m j h w =
    let sum = w.words in
    let all = length_flat (exclusions m) in
    let left = length_flat (exclusions_left m j) in
    let first = pairs_words m j in
    let room : n + 3 * (m - j) ≤ length before =
    ⊎_elim (λ l. omega arith)
    (λ l. let parts = ap words_of (exclusions_parts m j l) ∙ sum_append words (pairs_of m j) (exclusions_left m (j + 1)) in omega arith)
    (cases_lt m j) in
    (room, w)

module _ (before memory : List ℤ) (n m j : ℕ) where
  pub exclusions_more : (part : List ℤ) (k long : ℕ) → j ≤ m → long ≡ length memory → words_of (exclusions m) ≤ length before → k ≡ 3 * (m - j) →
      part ≡ over (flat (pairs_of m j)) (take (long - n) (drop n memory)) → Writing before memory n (exclusions_left m j) (exclusions m) →
      Writing before (put_mid n (long - n) memory part) (n + k) (exclusions_left m (j + 1)) (exclusions m)
  exclusions_more part k long h l r e p w =
      let count : k ≡ words_of (pairs_of m j) = e ∙ sym (pairs_words m j) in
      let after = writing_part before memory part n long (pairs_of m j) (exclusions_left m (j + 1)) (exclusions m) l r p
      (subst (λ cs. Writing before memory n cs (exclusions m)) (exclusions_parts m j h) w) in
      subst (λ c. Writing before (put_mid n (long - n) memory part) (n + c) (exclusions_left m (j + 1)) (exclusions m)) (sym count) after

  pub exclusions_all : m ≤ j → Writing before memory n (exclusions_left m j) (exclusions m) →
      (n ≡ words_of (exclusions m)) × (memory ≡ over (flat (exclusions m)) before)
  exclusions_all h w = writing_all before memory n (exclusions m) (subst (λ cs. Writing before memory n cs (exclusions m)) (exclusions_last m j h) w)
