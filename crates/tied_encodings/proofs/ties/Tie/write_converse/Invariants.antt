-- The literal and the opposites so far are written; those from here on and the end are left.
use Rattle.std.proofs.Common.{◌+◌, length, take, drop}
use Rattle.encodings.proofs.Appending.{Appending}
use Rattle.tied_encodings.proofs.TieWords.{converse}
use Rattle.tied_encodings.proofs.ties.Tie.write_converse.Given as goal

abbrev pub invariant-loop-place : goal.invariant-loop-place
invariant-loop-place l = Appending l.initial.memory l.memory 1 (length (take l.place l.self.others.now) + 1) (converse (drop l.place l.self.others.now)) (converse l.self.others.now)
