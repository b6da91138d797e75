-- What a mapping means, and the laws that it keeps. Assumes nothing.
use Rattle.std.specs.Prelude.{◌≡◌, ℕ, ◌≤◌, Bool, true, cond, ◌&&◌, List, [], length, is_some, Some, None, Option, ◌==◌, nat_le}
use Rattle.formula.specs.Boolean.{Clause, row, satisfies, local, words_of}
use Rattle.formula.specs.Sheets.{by_sign}
use Rattle.formula.specs.Tests.{every}
use Rattle.formula.specs.declared.signed.Sign.{Sign}
use Rattle.mapping.specs.Forms.{Form, any_of, members, true_form}

-- a mapping says for each size: how many Booleans a variable has, which clauses they keep,
-- the form that stands for a literal of a sign and a value, and the value that a row of bits reads as, or none
pub record Meaning : Type 0 where
  pub width : ℕ → ℕ
  pub axioms : ℕ → List Clause
  pub form : ℕ → Sign → ℕ → Form
  pub reading : ℕ → List ℕ → Option ℕ

-- sizes are 2 to 64, and the values of a size are 1 to that size
abbrev pub is_size : ℕ → Bool
is_size m = nat_le 2 m && nat_le m 64

abbrev pub is_value : ℕ → ℕ → Bool
is_value m i = nat_le 1 i && nat_le i m

-- the same meaning with nothing said out of range: no Booleans, no axioms, any of nothing, no reading
abbrev pub guarded : Meaning → Meaning
guarded M = record {
  width = λ m. cond (is_size m) (M.width m) 0;
  axioms = λ m. cond (is_size m) (M.axioms m) [];
  form = λ m s i. cond (is_size m && is_value m i) (M.form m s i) (any_of []);
  reading = λ m bits. cond (is_size m && row (M.width m) bits) (M.reading m bits) None;
}

-- the laws of one size
pub record LawfulAt (M : Meaning) (m : ℕ) : Type 0 where
  -- a variable has 1 to 127 Booleans
  pub width_least : 1 ≤ M.width m
  pub width_most : M.width m ≤ 127
  -- a reading is one of the values
  pub reading_value : (bits : List ℕ) (i : ℕ) → M.reading m bits ≡ Some i → is_value m i ≡ true
  -- a row of bits reads as a value exactly where it satisfies every axiom
  pub reads : (bits : List ℕ) → row (M.width m) bits ≡ true → is_some (M.reading m bits) ≡ satisfies bits (M.axioms m)
  -- there the plus form of a value is true exactly when that value is read, the minus form exactly when it is not
  pub form_true : (bits : List ℕ) (i : ℕ) → M.reading m bits ≡ Some i → (s : Sign) (j : ℕ) → is_value m j ≡ true →
      true_form bits (M.form m s j) ≡ by_sign s (j == i)
  -- each value is the reading of some row of bits
  pub code : (i : ℕ) → is_value m i ≡ true → (bits : List ℕ) × (row (M.width m) bits ≡ true) × (M.reading m bits ≡ Some i)
  -- axioms and forms speak of the variable's own Booleans
  pub axioms_local : every (every (local (M.width m))) (M.axioms m) ≡ true
  pub form_local : (s : Sign) (i : ℕ) → is_value m i ≡ true → every (local (M.width m)) (members (M.form m s i)) ≡ true
  -- the axioms have at most 8,192 words, a form has 1 to 8 literals
  pub axioms_words : words_of (M.axioms m) ≤ 8192
  pub form_least : (s : Sign) (i : ℕ) → is_value m i ≡ true → 1 ≤ length (members (M.form m s i))
  pub form_most : (s : Sign) (i : ℕ) → is_value m i ≡ true → length (members (M.form m s i)) ≤ 8

-- a mapping keeps the laws of every size, and says nothing out of range
pub record Lawful (M : Meaning) : Type 0 where
  pub at_size : (m : ℕ) → is_size m ≡ true → LawfulAt M m
  pub outside : M ≡ guarded M
