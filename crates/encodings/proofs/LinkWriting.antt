-- FR's links written into memory.
use Rattle.std.proofs.Common.{◌≡◌, ℕ, ◌+◌, ◌-◌, ◌<◌, ◌≤◌, List, [], ◌∷◌, map, length, take, drop, ℤ, sym, ap, ◌∙◌, subst, ap₂, set, pos}
use borrow.Rule.Slice.PartMut.{put_mid}
use Rattle.formula.specs.Boolean.{words_of}
use Rattle.formula.specs.Sheets.{numbers}
use Rattle.formula.specs.Boolean.{Clause}
use Rattle.mapping.specs.Memory.{flat, over}
use Rattle.encodings.specs.FullRegular.{at_least, less_than, link, links}
use Rattle.encodings.specs.Runs.{numbers_more, numbers_none}
use Rattle.encodings.proofs.Writing.{Writing, ClauseWritten, writing_all, writing_pair, writing_next, writing_fit}

-- the links from j on
abbrev pub links_left : ℕ → ℕ → List Clause
links_left m j = map link (numbers j (m - j))

module _ (before memory : List ℤ) (n m j : ℕ) where
  links_next : j < m → links_left m j ≡ link j ∷ links_left m (j + 1)
  links_next h = ap (map link) (numbers_more j m h)

  -- there is room for the next link
  pub links_room : j < m → words_of (links m) ≤ length before → Writing before memory n (links_left m j) (links m) → n + 3 ≤ length memory
  links_room h r w = writing_next before memory n (link j) (links_left m (j + 1)) (links m) r (subst (λ cs. Writing before memory n cs (links m)) (links_next h) w)

  pub links_more : (part : List ℤ) (k end : ℕ) (x y : ℤ) → j < m → end ≡ n + 3 → words_of (links m) ≤ length before →
      x ≡ less_than (j + 1) → y ≡ at_least j → ClauseWritten (x ∷ y ∷ []) (take (end - n) (drop n memory)) k part →
      Writing before memory n (links_left m j) (links m) → Writing before (put_mid n (end - n) memory part) (n + k) (links_left m (j + 1)) (links m)
  links_more part k end x y h at r first second written w =
      let left = links_left m (j + 1) in
      let parts : links_left m j ≡ (x ∷ y ∷ []) ∷ left = links_next h ∙ ap₂ (λ (a b : ℤ). (a ∷ b ∷ []) ∷ left) (sym first) (sym second) in
      writing_fit before memory part n end k (x ∷ y ∷ []) left (links m) at r written (subst (λ cs. Writing before memory n cs (links m)) parts w)

  pub links_all : m ≤ j → Writing before memory n (links_left m j) (links m) → (n ≡ words_of (links m)) × (memory ≡ over (flat (links m)) before)
  links_all h w = writing_all before memory n (links m) (subst (λ js. Writing before memory n (map link js) (links m)) (numbers_none j m h) w)

-- the same for links set word by word, in any whole
pub links_more_set : (before memory : List ℤ) (n j m : ℕ) (x y : ℤ) (all : List Clause) → j < m → n + 3 ≤ length before →
    x ≡ less_than (j + 1) → y ≡ at_least j → Writing before memory n (map link (numbers j (m - j))) all →
    Writing before (set (set (set memory n x) (n + 1) y) (n + 2) (pos 0)) (n + 3) (map link (numbers (j + 1) (m - (j + 1)))) all
links_more_set before memory n j m x y all h l first second w =
    let left = map link (numbers (j + 1) (m - (j + 1))) in
    let parts : map link (numbers j (m - j)) ≡ (x ∷ y ∷ []) ∷ left =
    ap (map link) (numbers_more j m h) ∙ ap₂ (λ (a b : ℤ). (a ∷ b ∷ []) ∷ left) (sym first) (sym second) in
    writing_pair before memory n x y left all l (subst (λ cs. Writing before memory n cs all) parts w)

pub links_all_any : (before memory : List ℤ) (n j m : ℕ) (all : List Clause) → m ≤ j → Writing before memory n (map link (numbers j (m - j))) all →
    (n ≡ words_of all) × (memory ≡ over (flat all) before)
links_all_any before memory n j m all h w =
    writing_all before memory n all (subst (λ js. Writing before memory n (map link js) all) (numbers_none j m h) w)
