-- The literals are written one by one, and the 0 behind them.
use Rattle.std.proofs.Common.{get_or, pos, refl, w32, SFits, rules}
use Rattle.std.proofs.lemmas.Int.{to_z-of_z}
use Rattle.encodings.proofs.Appending.{ended_more, ended_all}
use Rattle.encodings.proofs.clauses.write_clause.Goals as goal

pub loop-place-preserved : goal.loop-place-preserved
loop-place-preserved c =
    let fits : SFits w32 (get_or c.args.literals.now c.loop-place.place (pos 0)) = search rules in
    ended_more c.args.memory.now c.loop-place.memory c.loop-place.place _ c.args.literals.now c.if-count-memory.false c.loop-place-test.true
    (to_z-of_z w32 _ fits) c.loop-place.invariant

pub returns-clause-room : goal.returns-clause-room
returns-clause-room c = λ h. (refl, ended_all c.args.memory.now c.loop-place.memory c.loop-place.place c.args.literals.now h c.loop-place-test.false c.loop-place.invariant)
