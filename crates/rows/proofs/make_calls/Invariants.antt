use Rattle.workbook.specs.Books.{made_of, state_of}
use Rattle.rows.proofs.Made.{Going}
use Rattle.rows.proofs.make_calls.Given as goal

abbrev pub invariant-loop-i : goal.invariant-loop-i
invariant-loop-i g l =
    let M = g.M.Mapping.meaning in
    let S = g.S.Store in
    Going (made_of M S.terms l.initial.workbook) (state_of S.contents l.initial.workbook) l.row l.initial.answers (made_of M S.terms l.workbook) (state_of S.contents l.workbook) l.answers l.i
