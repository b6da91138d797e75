-- The clauses so far are written; those of the literals from here on are left.
use Rattle.std.proofs.Common.{◌≤◌, length, drop}
use Rattle.encodings.proofs.Writing.{Writing}
use Rattle.tied_encodings.proofs.TieWords.{implications}
use Rattle.tied_encodings.proofs.ties.Tie.write_implications.Given as goal

abbrev pub invariant-loop-place : goal.invariant-loop-place
invariant-loop-place l = (l.count ≤ length l.initial.memory) ×
    Writing l.initial.memory l.memory l.count (implications l.self.literal (drop l.place l.self.others.now)) (implications l.self.literal l.self.others.now)
