-- First the inner axioms, then the ties.
use Rattle.std.proofs.Common.{◌≡◌, ◌+◌, map, sym, ap, ◌∙◌, arith, length-take, length-drop}
use Rattle.formula.proofs.Tests.{sum_append}
use Rattle.formula.specs.Boolean.{words, words_of}
use Rattle.mapping.proofs.Moving.{flat_append, length_flat, words_moved}
use Rattle.mapping.specs.Forms.{shifted}
use Rattle.mapping.specs.Meanings.{guarded}
use Rattle.mapping.specs.Memory.{flat, over}
use Rattle.encodings.specs.Guard.{axioms_within}
use Rattle.encodings.proofs.TiedLaws.{tied_words}
use Rattle.encodings.specs.Ties.{ties, tied, tied_axioms}
use Rattle.standard_encoding.proofs.Behind.{behind}
use Rattle.tied_encodings.proofs.tied.TiedMapping.axioms.Goals as goal

pub write_ties-requires : goal.write_ties-requires
write_ties-requires g c =
    let M = g.M.Mapping.meaning in
    let m = c.in-Some.size.count in
    let room = tied_words M g.met.M.Inner.tieable m c.in-Some.size.in_range in
    let sum = sum_append words (map (map (shifted m)) (M.axioms m)) (ties M m) in
    simp (length-take, length-drop) (omega (arith, c.write_moved-count.ensures.count, words_moved m (M.axioms m)))

pub overflow_add-result : goal.overflow_add-result
overflow_add-result g c =
    let M = g.M.Mapping.meaning in
    let m = c.in-Some.size.count in
    let few = tied_words M g.met.M.Inner.tieable m c.in-Some.size.in_range in
    let sum = sum_append words (map (map (shifted m)) (M.axioms m)) (ties M m) in
    omega (arith, c.write_moved-count.ensures.count, c.write_ties.ensures.count, words_moved m (M.axioms m))

pub returns : goal.returns
returns g c =
    let M = g.M.Mapping.meaning in
    let m = c.in-Some.size.count in
    let same : m ≡ c.args.size = c.in-Some.ensures in
    let moved = map (map (shifted m)) (M.axioms m) in
    let e : tied_axioms M m ≡ (guarded (tied M)).axioms c.args.size = sym (axioms_within (tied M) m c.in-Some.size.in_range) ∙ ap (guarded (tied M)).axioms same in
    let sum = sum_append words moved (ties M m) in
    let first = c.write_moved-count.ensures in
    let last = c.write_ties.ensures in
    let count : c.write_moved-count.result + c.write_ties.result ≡ words_of (tied_axioms M m) = omega (arith, first.count, last.count, words_moved m (M.axioms m)) in
    record {
      count = count ∙ ap words_of e;
      memory =
          behind _ _ _ _ _ (flat moved) (flat (ties M m)) (first.count ∙ sym (length_flat moved ∙ words_moved m (M.axioms m))) (sym c.write_moved-count.array_long) first.memory last.memory ∙
          ap (λ ws. over ws c.args.memory.now) (sym (flat_append moved (ties M m)) ∙ ap flat e);
    }
