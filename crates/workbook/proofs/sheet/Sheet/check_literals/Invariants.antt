use Rattle.std.proofs.Common.{◌≡◌, ◌+◌, length, vec_items}
use Rattle.workbook.specs.Checks.{literals_answer}
use Rattle.workbook.proofs.sheet.Sheet.check_literals.Given as goal

-- the literals that are left decide
abbrev pub invariant-loop-number : goal.invariant-loop-number
invariant-loop-number l =
    (literals_answer (vec_items l.self.places) l.number-iterator.a.start l.number-iterator.b.rest.now ≡ literals_answer (vec_items l.self.places) 1 l.literals)
    × (l.number-iterator.a.start + length l.number-iterator.b.rest.now ≡ length l.literals + 1)
