use Rattle.text_store.specs.Bytes.{PieceFrom}
use Rattle.text_store.proofs.scanning.last_piece.Given as goal

abbrev pub invariant-loop-at : goal.invariant-loop-at
invariant-loop-at l = PieceFrom l.mark l.bound l.bytes l.at l.lows
