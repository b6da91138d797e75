-- The bits are tested one by one, each beside the number of those before it.
use Rattle.std.proofs.Common.{◌+◌, cond, eqb, ◌∙◌}
use Rattle.std.proofs.lemmas.Iterator.{YieldsList-from_slice}
use Rattle.std.proofs.lemmas.Iterator.Consumers.{YieldsList-from_enumerate}
use Rattle.std.proofs.lemmas.Iterator.Search.{all_from_yields_List}
use borrow.Author.Tests.{tests}
use Rattle.std.proofs.Common.{rules}
use Rattle.tied_encodings.proofs.OneBit.{only_all}
use Rattle.tied_encodings.proofs.tied.is_only.Goals as goal

pub returns : goal.returns
returns c =
    all_from_yields_List (λ p. eqb p.1 (cond (eqb (p.0 + 1) c.args.place) 1 0)) _ _ c.all.result c.all.ensures.ran
    (YieldsList-from_enumerate (YieldsList-from_slice c.args.bits.now cc) (cc)) (λ x b q k. search (rules, tests)) ∙
    only_all 0 c.args.place c.args.bits.now
