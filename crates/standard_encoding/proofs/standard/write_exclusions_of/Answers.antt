-- The exclusions are written one by one, in order.
use Rattle.std.proofs.Common.{◌+◌, refl, arith}
use Rattle.std.proofs.lemmas.Int.{ints}
use Rattle.encodings.specs.Limits.{size_high, value_high}
use Rattle.standard_encoding.proofs.ExclusionWriting.{pairs_none, pairs_room, pair_room, pairs_more, pairs_all}
use Rattle.standard_encoding.proofs.standard.write_exclusions_of.Goals as goal

pub loop-later-init : goal.loop-later-init
loop-later-init c = (omega arith, pairs_none c.args.memory.now c.args.choice.size c.args.choice.value)

pub slice_bounds-write_clause-end-in-loop-later : goal.slice_bounds-write_clause-end-in-loop-later
slice_bounds-write_clause-end-in-loop-later c =
    let room = pair_room c.args.memory.now c.loop-later.memory _ c.args.choice.size c.args.choice.value c.loop-later.later c.loop-later-test.true c.requires
    c.loop-later.invariant.1 in
    omega arith

pub loop-later-preserved : goal.loop-later-preserved
loop-later-preserved c =
    let m = c.args.choice.size in
    let v = c.args.choice.value in
    let high = size_high m c.args.choice.size_in_range in
    let most = value_high m v c.args.choice.value_in_range in
    pairs_room _ _ _ m v _ c.requires
    (pairs_more _ _ _ m v c.loop-later.later _ _ _ _ _ c.loop-later-test.true refl c.requires
    (omega (arith, ints)) (omega (arith, ints)) c.write_clause-count.ensures.room c.loop-later.invariant.1)

pub returns : goal.returns
returns c =
    let all = pairs_all _ _ _ c.args.choice.size c.args.choice.value c.loop-later.later c.loop-later-test.false c.loop-later.invariant.1 in
    record { count = all.0; memory = all.1 }

pub returns-2 : goal.returns-2
returns-2 c =
    let m = c.args.choice.size in
    let v = c.args.choice.value in
    let high = size_high m c.args.choice.size_in_range in
    let most = value_high m v c.args.choice.value_in_range in
    let all = pairs_all _ _ _ m v (c.loop-later.later + 1) (omega arith)
    (pairs_more _ _ _ m v c.loop-later.later _ _ _ _ _ c.loop-later-test.true refl c.requires
    (omega (arith, ints)) (omega (arith, ints)) c.write_clause-count.ensures.room c.loop-later.invariant.1) in
    record { count = all.0; memory = all.1 }
