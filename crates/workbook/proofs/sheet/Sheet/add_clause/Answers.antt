use Rattle.std.proofs.Common.{cond, vec_items, ap, arith}
use Rattle.std.proofs.lemmas.Grind.{common_steps}
use Rattle.formula.proofs.Tests.{sum_push}
use Rattle.formula.specs.Tests.{sum_of, count}
use Rattle.workbook.specs.Pages.{literals_in, is_clause}
use Rattle.workbook.proofs.Slots.{entries_clause}
use Rattle.workbook.proofs.Spaces.{entries_held, literals_held, clauses_held}
use Rattle.workbook.proofs.sheet.Sheet.add_clause.Goals as goal

pub unwrap-requires : goal.unwrap-requires
unwrap-requires c = c.extend_from_slice.ensures.succeeds (omega (arith, literals_held c.args.self.now, c.args.self.now.literals_kept))

pub push_reserved-requires : goal.push_reserved-requires
push_reserved-requires c = omega (arith, entries_held c.args.self.now, c.args.self.now.slots_kept)

pub invariant_of-self-clause-slots_few : goal.invariant_of-self-clause-slots_few
invariant_of-self-clause-slots_few c = omega (arith, entries_held c.args.self.now)

pub invariant_of-self-clause-literals_few : goal.invariant_of-self-clause-literals_few
invariant_of-self-clause-literals_few c = grind (arith, common_steps, literals_held c.args.self.now)

pub invariant_of-self-clause-literals_counted : goal.invariant_of-self-clause-literals_counted
invariant_of-self-clause-literals_counted c =
    grind (arith, common_steps, ap (sum_of literals_in) c.push_reserved.ensures.items, sum_push literals_in (vec_items c.args.self.now.slots))

pub invariant_of-self-clause-clauses_counted : goal.invariant_of-self-clause-clauses_counted
invariant_of-self-clause-clauses_counted c =
    grind (arith, common_steps, ap (count is_clause) c.push_reserved.ensures.items, sum_push (λ s. cond (is_clause s) 1 0) (vec_items c.args.self.now.slots))

pub returns-clause-number : goal.returns-clause-number
returns-clause-number c = omega (arith, clauses_held c.args.self.now)

pub returns-clause-page : goal.returns-clause-page
returns-clause-page c = grind (arith, common_steps, entries_clause)
