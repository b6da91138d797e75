-- The ties are written value by value.
use Rattle.std.proofs.Common.{◌+◌, refl, arith, rules, length-take, length-drop}
use Rattle.tied_encodings.proofs.ValueTies.{ties_room, ties_more, ties_all, ties_none}
use Rattle.tied_encodings.proofs.tied.Tied.write_ties.Goals as goal

pub loop-value-init : goal.loop-value-init
loop-value-init g c = ties_none g.M.Mapping.meaning c.args.size.count c.args.memory.now

pub tie_value-count-requires : goal.tie_value-count-requires
tie_value-count-requires g c =
    let room = ties_room g.M.Mapping.meaning c.args.size.count _ _ _ c.loop-value.value c.requires c.loop-value-test.true c.loop-value.invariant in
    simp (length-take, length-drop) (omega arith)

pub overflow_add-count : goal.overflow_add-count
overflow_add-count g c =
    let room = ties_room g.M.Mapping.meaning c.args.size.count _ _ _ c.loop-value.value c.requires c.loop-value-test.true c.loop-value.invariant in
    search rules

pub loop-value-preserved : goal.loop-value-preserved
loop-value-preserved g c =
    ties_more g.M.Mapping.meaning c.args.size.count _ _ _ c.loop-value.value _ _ _ c.loop-value-test.true refl c.requires
    c.tie_value-count.ensures.count c.tie_value-count.ensures.memory c.loop-value.invariant

pub returns : goal.returns
returns g c =
    let all = ties_all g.M.Mapping.meaning c.args.size.count _ _ _ c.loop-value.value c.loop-value-test.false c.loop-value.invariant in
    record { count = all.0; memory = all.1 }

pub returns-2 : goal.returns-2
returns-2 g c =
    let all = ties_all g.M.Mapping.meaning c.args.size.count _ _ _ (c.loop-value.value + 1) (omega arith)
    (ties_more g.M.Mapping.meaning c.args.size.count _ _ _ c.loop-value.value _ _ _ c.loop-value-test.true refl c.requires
    c.tie_value-count.ensures.count c.tie_value-count.ensures.memory c.loop-value.invariant) in
    record { count = all.0; memory = all.1 }
