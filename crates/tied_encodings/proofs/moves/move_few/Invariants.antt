-- The words before the index are moved, the others are as they were.
use Rattle.std.proofs.Common.{◌≡◌, ◌++◌, map, take, drop}
use Rattle.mapping.specs.Memory.{moved_word}
use Rattle.tied_encodings.proofs.moves.move_few.Given as goal

abbrev pub invariant-loop-word : goal.invariant-loop-word
invariant-loop-word l = l.words ≡ map (moved_word l.by) (take l.word-index l.initial.words) ++ drop l.word-index l.initial.words
