use Rattle.std.proofs.Common.{◌≡◌, ◌+◌, ◌-◌, arith, rules}
use Rattle.text_store.proofs.Backwards.{piece_none, piece_within, piece_more, piece_first}
use Rattle.text_store.proofs.scanning.last_piece.Goals as goal

pub loop-at-init : goal.loop-at-init
loop-at-init c = piece_none c.args.mark c.args.bound c.args.bytes.now c.requires.closed c.requires.some _ c.from-lows.ensures

pub returns-then-byte-mark-clause-piece : goal.returns-then-byte-mark-clause-piece
returns-then-byte-mark-clause-piece c =
    let back : c.loop-at.at - 1 + 1 ≡ c.loop-at.at = omega arith in
    rw back c.loop-at.invariant

pub returns-then-byte-mark-clause-before : goal.returns-then-byte-mark-clause-before
returns-then-byte-mark-clause-before c =
    let back : c.loop-at.at - 1 + 1 ≡ c.loop-at.at = omega arith in
    rw back (piece_first c.args.mark c.args.bound c.args.bytes.now _ _ c.loop-at.invariant c.loop-at-test.true c.if-byte-mark.true)

pub overflow_add-lows : goal.overflow_add-lows
overflow_add-lows c =
    let more = piece_more c.args.mark c.args.bound c.args.bytes.now _ _ c.loop-at.invariant c.loop-at-test.true c.if-byte-mark.false _ c.from-lows-in-loop-at.ensures in
    let h = piece_within c.args.mark c.args.bound c.args.bytes.now _ _ more in
    search rules

pub loop-at-preserved : goal.loop-at-preserved
loop-at-preserved c =
    piece_more c.args.mark c.args.bound c.args.bytes.now _ _ c.loop-at.invariant c.loop-at-test.true c.if-byte-mark.false _ c.from-lows-in-loop-at.ensures

pub returns-clause-piece : goal.returns-clause-piece
returns-clause-piece c =
    let none : c.loop-at.at ≡ 0 = omega arith in
    rw none at c.loop-at.invariant
