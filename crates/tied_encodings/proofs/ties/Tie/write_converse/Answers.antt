-- The literal, the opposites in order, and a 0 behind them.
use Rattle.std.proofs.Common.{◌≡◌, ◌+◌, ◌∷◌, map, length, get_or, take, drop, pos, refl, sym, ap, subst, set, ◌∙◌, arith, w32, to_z, of_z, ◌-ℤ◌}
use Rattle.std.proofs.lemmas.List.{length-set, length-take-le, take_all, drop_all}
use Rattle.std.proofs.lemmas.Bool.{and_parts}
use Rattle.formula.proofs.Tests.{every_at}
use Rattle.formula.specs.Boolean.{local, opposite}
use Rattle.mapping.specs.Memory.{ended, over}
use Rattle.encodings.proofs.Appending.{Appending}
use Rattle.tied_encodings.proofs.TieWords.{as_word, turned_word, converse, converse_step, converse_all}
use Rattle.tied_encodings.proofs.ties.Tie.write_converse.Goals as goal
use Rattle.tied_encodings.proofs.ties.Tie.write_converse.Goals.{in-Some, in_default}

pub loop-place-preserved : goal.loop-place-preserved
loop-place-preserved c =
    let ls = c.args.self.now.others.now in
    let i = c.loop-place.place in
    let narrow = and_parts (local 127 c.args.self.now.literal) _ c.args.self.now.narrow in
    let front = set c.args.memory.now 0 (to_z w32 (of_z w32 c.args.self.now.literal)) in
    let long = length-set c.args.memory.now 0 (to_z w32 (of_z w32 c.args.self.now.literal)) in
    elim c.match-get.branch [
      | in-Some w ↦
          let found = w.in-Some.ensures.lookup.3 in
          let word = to_z w32 (of_z w32 (pos 0 -ℤ to_z w32 (of_z w32 w.in-Some.other.now))) in
          let turned : word ≡ opposite (get_or ls i (pos 0)) =
          ap (λ z. to_z w32 (of_z w32 (pos 0 -ℤ to_z w32 (of_z w32 z)))) (found.1 (pos 0)) ∙
          turned_word (get_or ls i (pos 0)) (every_at (local 127) ls i (pos 0) found.0 narrow.1) in
          let before : length (take i ls) ≡ i = length-take-le i ls (omega arith) in
          let after : i + 1 ≡ length (take (i + 1) ls) = sym (length-take-le (i + 1) ls (omega arith)) in
          rw w.memory-is (subst (λ k. Appending front (set c.loop-place.memory (i + 1) word) 1 (k + 1) (converse (drop (i + 1) ls)) (converse ls)) after
          (converse_step front c.loop-place.memory 1 (i + 1) i word ls (converse ls) (omega arith) found.0 turned
          (subst (λ k. Appending front c.loop-place.memory 1 (k + 1) (converse (drop i ls)) (converse ls)) before c.loop-place.invariant)))
      | in_default w ↦
          let none = w.in_default.ensures.lookup.3 in
          let fronts : take i ls ≡ take (i + 1) ls = take_all i ls none ∙ sym (take_all (i + 1) ls (omega arith)) in
          let rests : drop i ls ≡ drop (i + 1) ls = drop_all i ls none ∙ sym (drop_all (i + 1) ls (omega arith)) in
          rw w.memory-is (subst (λ ks. Appending front c.loop-place.memory 1 (length ks + 1) (converse (drop (i + 1) ls)) (converse ls)) fronts
          (subst (λ ks. Appending front c.loop-place.memory 1 (length (take i ls) + 1) (converse ks) (converse ls)) rests c.loop-place.invariant))
    ]

pub returns-clause-memory : goal.returns-clause-memory
returns-clause-memory c =
    let ls = c.args.self.now.others.now in
    let x = c.args.self.now.literal in
    let few = c.args.self.now.few in
    let i = c.loop-place.place in
    let narrow = and_parts (local 127 x) _ c.args.self.now.narrow in
    let front = set c.args.memory.now 0 (to_z w32 (of_z w32 x)) in
    let fronts : length (take i ls) ≡ length ls = ap length (take_all i ls (omega arith)) in
    let rests : drop i ls ≡ drop (length ls) ls = drop_all i ls (omega arith) ∙ sym (drop_all (length ls) ls (omega arith)) in
    let all = subst (λ k. Appending front c.loop-place.memory 1 (k + 1) (converse (drop (length ls) ls)) (converse ls)) fronts
    (subst (λ ks. Appending front c.loop-place.memory 1 (length (take i ls) + 1) (converse ks) (converse ls)) rests c.loop-place.invariant) in
    ap (λ k. set c.loop-place.memory k (pos 0)) (omega arith) ∙
    (converse_all c.args.memory.now _ (length ls + 1) (length ls) _ ls (omega arith) refl (omega arith) all ∙
    ap (λ z. over (ended (z ∷ map opposite ls)) c.args.memory.now) (as_word x narrow.0))
