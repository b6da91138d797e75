-- What it means to store many clauses, all or none. Assumes nothing.
use Rattle.std.specs.Prelude.{ℕ, ◌+◌, cond, List, [], ◌∷◌, ◌++◌, map, Ok, Err, Result, nat_le}
use Rattle.formula.specs.Boolean.{Clause, words_of}
use Rattle.formula.specs.declared.signed.Literal.{Literal}
use Rattle.mapping.specs.Meanings.{Meaning}
use Rattle.store.specs.Stores.{Terms, Contents, words_answer}
use Rattle.store.specs.declared.StoreFault.{StoreFault}
use Rattle.store.specs.declared.StoreFault.TheVariants.{NumbersSpent}
use Rattle.translator.specs.declared.places.Place.{Place}
use Rattle.translator.specs.Places.{placed_clause, reach}

-- the answer to clauses whose highest number is h and whose words are n: numbers spent, else words short
abbrev pub room_answer : {Cell : Type 0} → Terms Cell → Contents Cell → ℕ → ℕ → Result (Unit {0}) StoreFault
room_answer T K h n = cond (nat_le h T.largest) (words_answer T K n) (Err (NumbersSpent (record { first = h; second = T.largest })))

-- the answer to a clause: the last Boolean of its variables, and the words of all that it stores
abbrev pub clause_answer : {Cell : Type 0} → Meaning → Terms Cell → Contents Cell → List Place → List Literal → Result (Unit {0}) StoreFault
clause_answer M T K ps ls = room_answer T K (reach M ps ls) (words_of (placed_clause M ps ls))

-- the answer to a variable of size m behind so many Booleans: its last Boolean, and the words of its axioms
abbrev pub axioms_answer : {Cell : Type 0} → Meaning → Terms Cell → Contents Cell → ℕ → ℕ → Result (Unit {0}) StoreFault
axioms_answer M T K start m = room_answer T K (start + M.width m) (words_of (M.axioms m))

-- the buffer after clauses are written one by one, as the store at the bottom writes them
abbrev pub all_written : {Cell : Type 0} → Terms Cell → List Cell → List Clause → List Clause → List Cell
all_written T memory raw [] = memory
all_written T memory raw (c ∷ cs) = all_written T (T.written memory raw c) (raw ++ c ∷ []) cs

-- clauses more, at the end
abbrev pub with_all : {Cell : Type 0} → Terms Cell → Contents Cell → List Clause → Contents Cell
with_all T K cs = record {
  list = K.list ++ cs;
  raw = K.raw ++ map T.raised cs;
  memory = all_written T K.memory K.raw (map T.raised cs);
}

-- a refusal changes nothing
abbrev pub after_all : {Cell : Type 0} → Result (Unit {0}) StoreFault → Terms Cell → Contents Cell → List Clause → Contents Cell
after_all (Ok u) T K cs = with_all T K cs
after_all (Err e) T K cs = K
