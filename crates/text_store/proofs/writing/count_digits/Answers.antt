use Rattle.std.proofs.Common.{rules}
use Rattle.text_store.proofs.Figures.{digit_is, digits_are}
use Rattle.text_store.proofs.writing.count_digits.Goals as goal

pub returns : goal.returns
returns c = search (rules, digits_are)

pub returns-then-number-lt10 : goal.returns-then-number-lt10
returns-then-number-lt10 c = search (rules, digit_is)
