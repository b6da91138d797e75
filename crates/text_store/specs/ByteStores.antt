-- A store that holds clauses as bytes, in any way of writing them. Assumes nothing.
use Rattle.std.specs.Prelude.{◌≡◌, ℕ, ◌/◌, min, Bool, true, List, [], length, take, Some, None, Ok, Err, Option, Result}
use Rattle.std.proofs.Common.{le_trans, lit≤}
use Rattle.std.proofs.Math.Nat.{min-le_right}
use Rattle.std.specs.List.{flat_map}
use Rattle.formula.specs.Boolean.{Clause}
use Rattle.formula.specs.Tests.{every}
use Rattle.store.specs.declared.StoreFault.{StoreFault}
use Rattle.store.specs.declared.StoreFault.TheVariants.{NumbersSpent}
use Rattle.store.specs.Stores.{Terms, Bounded, Contents, fits}
use Rattle.text_store.specs.Bytes.{at_place}

-- the largest number that a literal may have
abbrev pub byte_largest : ℕ
byte_largest = 1048575

-- every literal of a clause fits
abbrev pub fit_clause : Clause → Bool
fit_clause c = every (fits byte_largest) c

-- the answer to a clause whose first literal that does not fit has this number
abbrev pub numbers_answer : Option ℕ → Result (Unit {0}) StoreFault
numbers_answer None = Ok tt
numbers_answer (Some n) = Err (NumbersSpent (record { first = n; second = byte_largest }))

-- a buffer's capacity where a word takes at most so many bytes: never over 2^24 words
abbrev pub byte_capacity : ℕ → ℕ → ℕ
byte_capacity most bytes = min (bytes / most) 16777216

-- a store over a buffer of so many bytes, which writes a clause behind those that it holds
abbrev pub byte_terms : (Clause → List ℕ) → ℕ → ℕ → Terms ℕ
byte_terms clause most bytes = record {
  capacity = byte_capacity most bytes;
  largest = byte_largest;
  raised = λ c. c;
  written = λ memory raw c. at_place (length (flat_map clause raw)) (clause c) memory;
}

pub byte_bounded : (clause : Clause → List ℕ) (most bytes : ℕ) → Bounded (byte_terms clause most bytes)
byte_bounded clause most bytes = record { capacity = le_trans (min-le_right (bytes / most) 16777216) (lit≤ tt); largest = lit≤ tt }

-- what a buffer holds whose first bytes stand for clauses
abbrev pub byte_contents : (List ℕ → List Clause) → List ℕ → ℕ → Contents ℕ
byte_contents list memory held = record { list = list (take held memory); raw = list (take held memory); memory = memory }

-- what a buffer holds at first: nothing
abbrev pub byte_empty : List ℕ → Contents ℕ
byte_empty memory = record { list = []; raw = []; memory = memory }

-- bytes are those of these clauses, and of no others whose literals fit
pub record StandsFor (clause : Clause → List ℕ) (bytes : List ℕ) (list : List Clause) : Type 0 where
  pub text : bytes ≡ flat_map clause list
  pub only : (cs : List Clause) → every fit_clause cs ≡ true → flat_map clause cs ≡ bytes → cs ≡ list
