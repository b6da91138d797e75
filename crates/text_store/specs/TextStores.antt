-- The terms of a text store, and what it keeps true of its buffer. Assumes nothing.
use Rattle.std.specs.Prelude.{◌≡◌, ℕ, ◌≤◌, true, List, length, take}
use Rattle.formula.specs.Boolean.{words_of}
use Rattle.formula.specs.Tests.{every}
use Rattle.store.specs.Stores.{Terms, Contents}
use Rattle.text_store.specs.ByteStores.{byte_terms, fit_clause}
use Rattle.text_store.specs.Texts.{text_clause, text_clauses, text_list, text_most}

-- a text store over a buffer of so many bytes
abbrev pub text_terms : ℕ → Terms ℕ
text_terms bytes = byte_terms text_clause text_most bytes

-- what a text store of these contents was made with
abbrev pub terms_of : Contents ℕ → Terms ℕ
terms_of K = text_terms (length K.memory)

-- the first bytes of a buffer are the text of the clauses that they stand for, which fit, and so many words and clauses
pub record IsKept (memory : List ℕ) (held words count : ℕ) : Type 0 where
  pub within : held ≤ length memory
  pub whole : text_clauses (text_list (take held memory)) ≡ take held memory
  pub fit : every fit_clause (text_list (take held memory)) ≡ true
  pub worded : words ≡ words_of (text_list (take held memory))
  pub counted : count ≡ length (text_list (take held memory))
