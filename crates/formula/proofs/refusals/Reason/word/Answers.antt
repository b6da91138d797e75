-- The longer words are the table's at their reason.
use Rattle.std.proofs.Common.{sym, ap}
use Rattle.formula.specs.Refusals.{reason_word}
use Rattle.formula.proofs.refusals.Reason.word.Goals as goal

pub returns-in-NamesSpent : goal.returns-in-NamesSpent
returns-in-NamesSpent c = sym (ap reason_word c.in-NamesSpent.is)

pub returns-in-WordsShort : goal.returns-in-WordsShort
returns-in-WordsShort c = sym (ap reason_word c.in-WordsShort.is)
