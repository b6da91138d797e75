use Rattle.std.proofs.Common.{is_ok, ap, arith}
use Rattle.std.proofs.lemmas.Grind.{common_steps}
use Rattle.std.proofs.lemmas.List.{take_all}
use Rattle.workbook.proofs.book.Workbook.state.Goals as goal

pub returns-in_err-file_clause-clause-answer : goal.returns-in_err-file_clause-clause-answer
returns-in_err-file_clause-clause-answer g c =
    grind (arith, common_steps, take_all 16 c.args.literals.now (c.check_clause.ensures.few (ap is_ok c.in_ok-check_clause.was)))

pub returns-clause-answer : goal.returns-clause-answer
returns-clause-answer g c =
    grind (arith, common_steps, take_all 16 c.args.literals.now (c.check_clause.ensures.few (ap is_ok c.in_ok-check_clause.was)))

pub returns-clause-after : goal.returns-clause-after
returns-clause-after g c =
    grind (arith, common_steps, take_all 16 c.args.literals.now (c.check_clause.ensures.few (ap is_ok c.in_ok-check_clause.was)))
