-- The two refusals of a store. Assumes nothing.
use Rattle.formula.specs.declared.refusals.Refusal.{Refusal}
use Rattle.formula.specs.declared.refusals.Reason.TheVariants as reasons
use Rattle.store.specs.declared.StoreFault.{StoreFault}
use Rattle.store.specs.declared.StoreFault.TheVariants.{NumbersSpent, WordsShort}

abbrev pub refusal_of : StoreFault → Refusal
refusal_of (NumbersSpent d) = record { reason = reasons.NumbersSpent; details = d }
refusal_of (WordsShort d) = record { reason = reasons.WordsShort; details = d }
