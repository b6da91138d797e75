use Rattle.std.proofs.Common.{arith}
use Rattle.std.proofs.lemmas.Grind.{common_steps}
use Rattle.workbook.proofs.Spaces.{entries_held, literals_held}
use Rattle.workbook.proofs.sheet.Sheet.check_space.Goals as goal

pub returns-then-len-ge-MOST_ENTRIES : goal.returns-then-len-ge-MOST_ENTRIES
returns-then-len-ge-MOST_ENTRIES c = grind (arith, common_steps, entries_held c.args.self.now, literals_held c.args.self.now)

pub returns : goal.returns
returns c = grind (arith, common_steps, entries_held c.args.self.now, literals_held c.args.self.now)
