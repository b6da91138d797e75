use Rattle.std.proofs.Common.{◌-◌, length}
use Rattle.translator.proofs.Worded.{Going}
use Rattle.translator.proofs.axioms.put_clauses.Given as goal

abbrev pub decreases-loop-length : goal.decreases-loop-length
decreases-loop-length g l = length l.initial.words - l.begin

abbrev pub invariant-loop-length : goal.invariant-loop-length
invariant-loop-length g l =
    let S = g.S.Store in
    Going (S.terms l.initial.store) (S.contents l.initial.store) l.initial.words (S.terms l.store) (S.contents l.store) l.words l.begin
