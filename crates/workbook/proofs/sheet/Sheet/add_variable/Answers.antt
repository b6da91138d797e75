use Rattle.std.proofs.Common.{cond, vec_items, ap, arith}
use Rattle.std.proofs.lemmas.Grind.{common_steps}
use Rattle.formula.proofs.Tests.{sum_push}
use Rattle.formula.specs.Tests.{sum_of, count}
use Rattle.workbook.specs.Pages.{literals_in, is_clause}
use Rattle.workbook.proofs.Slots.{entries_variable}
use Rattle.workbook.proofs.Spaces.{entries_held}
use Rattle.workbook.proofs.sheet.Sheet.add_variable.Goals as goal

pub push_reserved-requires-2 : goal.push_reserved-requires-2
push_reserved-requires-2 c = omega (arith, entries_held c.args.self.now, c.args.self.now.slots_kept)

pub invariant_of-self-clause-slots_few : goal.invariant_of-self-clause-slots_few
invariant_of-self-clause-slots_few c = omega (arith, entries_held c.args.self.now)

pub invariant_of-self-clause-literals_counted : goal.invariant_of-self-clause-literals_counted
invariant_of-self-clause-literals_counted c =
    grind (arith, common_steps, ap (sum_of literals_in) c.push_reserved-2.ensures.items, sum_push literals_in (vec_items c.args.self.now.slots))

pub invariant_of-self-clause-clauses_counted : goal.invariant_of-self-clause-clauses_counted
invariant_of-self-clause-clauses_counted c =
    grind (arith, common_steps, ap (count is_clause) c.push_reserved-2.ensures.items, sum_push (λ s. cond (is_clause s) 1 0) (vec_items c.args.self.now.slots))

pub returns-clause-page : goal.returns-clause-page
returns-clause-page c = grind (arith, common_steps, entries_variable)
