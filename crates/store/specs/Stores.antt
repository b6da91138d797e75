-- What a clause store means: its terms, its contents, and what each call does to them. Assumes nothing.
use Rattle.std.specs.Prelude.{ℕ, ◌-◌, ◌^◌, ◌≤◌, Bool, cond, ◌&&◌, List, [], ◌∷◌, ◌++◌, take, ℤ, Some, None, Ok, Err, Option, Result, nat_le}
use Rattle.formula.specs.Boolean.{Clause, number, words, words_of}
use Rattle.store.specs.declared.StoreFault.{StoreFault}
use Rattle.store.specs.declared.StoreFault.TheVariants.{NumbersSpent, WordsShort}

-- what a store was made with and no call changes: the most words that it holds, the largest number that a literal may have,
-- a clause as the store at the bottom writes it, and the buffer after that store writes a clause behind those it holds
pub record Terms (Cell : Type 0) : Type 0 where
  pub capacity : ℕ
  pub largest : ℕ
  pub raised : Clause → Clause
  pub written : List Cell → List Clause → Clause → List Cell

-- what every store promises of its terms
pub record Bounded {Cell : Type 0} (T : Terms Cell) : Type 0 where
  pub capacity : T.capacity ≤ 2 ^ 40
  pub largest : T.largest ≤ 2 ^ 31 - 1

-- what a store holds: its clauses, the same clauses as the store at the bottom writes them, and all of the buffer
pub record Contents (Cell : Type 0) : Type 0 where
  pub list : List Clause
  pub raw : List Clause
  pub memory : List Cell

-- a literal whose number is 1 to the largest
abbrev pub fits : ℕ → ℤ → Bool
fits largest l = nat_le 1 (number l) && nat_le (number l) largest

-- the number of the first literal that does not fit
abbrev pub unfit : ℕ → Clause → Option ℕ
unfit largest [] = None
unfit largest (l ∷ ls) = cond (fits largest l) (unfit largest ls) (Some (number l))

-- the words left: none where more are held
abbrev pub words_left : {Cell : Type 0} → Terms Cell → Contents Cell → ℕ
words_left T K = T.capacity - words_of K.list

-- the answer to words that are to be added
abbrev pub words_answer : {Cell : Type 0} → Terms Cell → Contents Cell → ℕ → Result (Unit {0}) StoreFault
words_answer T K n = cond (nat_le n (words_left T K)) (Ok tt) (Err (WordsShort (record { first = n; second = words_left T K })))

-- the answer to a clause whose first literal that does not fit has this number
abbrev pub answer_by : {Cell : Type 0} → Terms Cell → Contents Cell → Clause → Option ℕ → Result (Unit {0}) StoreFault
answer_by T K c (Some n) = Err (NumbersSpent (record { first = n; second = T.largest }))
answer_by T K c None = words_answer T K (words c)

-- the answer to a clause: numbers spent where a literal does not fit, else words short where the clause's words pass those left
abbrev pub put_answer : {Cell : Type 0} → Terms Cell → Contents Cell → Clause → Result (Unit {0}) StoreFault
put_answer T K c = answer_by T K c (unfit T.largest c)

-- a clause more, at the end
abbrev pub appended : {Cell : Type 0} → Terms Cell → Contents Cell → Clause → Contents Cell
appended T K c = record {
  list = K.list ++ c ∷ [];
  raw = K.raw ++ T.raised c ∷ [];
  memory = T.written K.memory K.raw (T.raised c);
}

-- a refusal changes nothing
abbrev pub after_put : {Cell : Type 0} → Result (Unit {0}) StoreFault → Terms Cell → Contents Cell → Clause → Contents Cell
after_put (Ok u) T K c = appended T K c
after_put (Err e) T K c = K

-- the first n clauses; the buffer stays
abbrev pub after_cut : {Cell : Type 0} → ℕ → Contents Cell → Contents Cell
after_cut n K = record { list = take n K.list; raw = take n K.raw; memory = K.memory }

-- no clauses; the buffer stays
abbrev pub after_clear : {Cell : Type 0} → Contents Cell → Contents Cell
after_clear K = record { list = []; raw = []; memory = K.memory }
