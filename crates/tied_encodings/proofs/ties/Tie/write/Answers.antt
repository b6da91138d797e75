-- First the clauses that the literal brings, then the one that brings it.
use Rattle.std.proofs.Common.{◌∷◌, map, sym, refl, ap, ◌∙◌}
use Rattle.mapping.proofs.Moving.{length_flat}
use Rattle.formula.specs.Boolean.{opposite}
use Rattle.mapping.specs.Memory.{ended, flat, over}
use Rattle.standard_encoding.proofs.Behind.{behind}
use Rattle.tied_encodings.proofs.TieWords.{implications, implications_words, tie_flat}
use Rattle.tied_encodings.proofs.ties.Tie.write.Goals as goal

pub returns-clause-memory : goal.returns-clause-memory
returns-clause-memory c =
    let x = c.args.self.now.literal in
    let ls = c.args.self.now.others.now in
    let first = c.write_implications-count.ensures in
    behind _ _ _ _ _ (flat (implications x ls)) (ended (x ∷ map opposite ls))
    (first.count ∙ sym (length_flat (implications x ls) ∙ implications_words x ls)) refl first.memory c.write_converse.ensures.memory ∙
    ap (λ ws. over ws c.args.memory.now) (sym (tie_flat x ls))
