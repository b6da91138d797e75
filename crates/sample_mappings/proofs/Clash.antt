-- Axioms that contradict each other hold nowhere, so no value has a code.
use Rattle.std.proofs.Common.{◌≡◌, ℕ, Bool, true, false, not, ◌&&◌, ◌||◌, eqb, List, get_or, is_some, sym, refl, ap, ◌∙◌}
use Rattle.std.proofs.lemmas.Bool.{both_ways}
use Rattle.formula.specs.Boolean.{satisfies}
use Rattle.mapping.specs.Meanings.{Lawful}
use Rattle.sample_mappings.specs.Contradicting.{clash, contradicting}

pub clash_fails : (bits : List ℕ) → satisfies bits clash ≡ false
clash_fails bits = at_bit (eqb 1 (get_or bits 0 0))
  where
    at_bit : (b : Bool) → ((b || false) && ((not b || false) && true)) ≡ false
    at_bit true = refl
    at_bit false = refl

pub no_law : Lawful contradicting → ⊥
no_law L =
    let two = L.at_size 2 refl in
    let first = two.code 1 refl in
    both_ways (satisfies first.0 clash) (clash_fails first.0) (sym (two.reads first.0 first.1) ∙ ap is_some first.2)
