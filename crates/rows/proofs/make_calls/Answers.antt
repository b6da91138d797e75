use Rattle.std.proofs.Common.{◌≡◌, length, arith}
use Rattle.rows.proofs.Made.{going_more, going_all}
use Rattle.rows.proofs.make_calls.Goals as goal

pub loop-i-preserved : goal.loop-i-preserved
loop-i-preserved g c =
    let said = c.make_call.ensures in
    going_more _ _ _ _ _ _ _ _ c.loop-i.invariant _ _ _ _ (omega arith) (omega arith) said.answer said.after said.same

pub returns : goal.returns
returns g c =
    let h = c.loop-i.invariant in
    let all : c.loop-i.i ≡ length c.args.row.now = omega arith in
    let done = going_all _ _ _ _ _ _ _ _ h all c.requires in
    record { answers = done.1; after = done.0; same = h.made }
