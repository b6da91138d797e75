-- "Some value" is written first, and the exclusions behind it.
use Rattle.std.proofs.Common.{◌≡◌, ◌∷◌, sym, ap, ◌∙◌, arith, length-drop, length-take}
use Rattle.formula.specs.Boolean.{words_of}
use Rattle.mapping.specs.Memory.{ended, flat, over}
use Rattle.encodings.specs.Standard.{some_value, exclusions, standard_within, standard}
use Rattle.encodings.proofs.Exclusions.{axioms_words}
use Rattle.encodings.specs.Guard.{axioms_within}
use Rattle.encodings.specs.Limits.{size_high}
use Rattle.encodings.proofs.StandardLaws.{words_few}
use Rattle.standard_encoding.proofs.Behind.{behind}
use Rattle.standard_encoding.proofs.SomeValue.{some_words}
use Rattle.standard_encoding.proofs.standard.StandardMapping.axioms.Goals as goal

pub write_exclusions-requires : goal.write_exclusions-requires
write_exclusions-requires c =
    let m = c.in-Some.size.count in
    let most = size_high m c.in-Some.size.in_range in
    simp (length-take, length-drop) (omega (arith, axioms_words m, words_few m most))

pub overflow_add-result : goal.overflow_add-result
overflow_add-result c =
    let m = c.in-Some.size.count in
    let most = size_high m c.in-Some.size.in_range in
    omega (arith, axioms_words m, words_few m most)

pub returns : goal.returns
returns c =
    let m = c.in-Some.size.count in
    let same : m ≡ c.args.size = c.in-Some.ensures in
    let e : some_value m ∷ exclusions m ≡ standard.axioms c.args.size = sym (axioms_within standard_within m c.in-Some.size.in_range) ∙ ap standard.axioms same in
    record {
      count = omega (arith, axioms_words m, ap words_of e);
      memory =
          behind _ _ _ _ _ (ended (some_value m)) (flat (exclusions m)) (c.write_some_value-count.ensures.count ∙ sym (some_words m))
          (sym c.write_some_value-count.array_long) c.write_some_value-count.ensures.memory c.write_exclusions.ensures.memory ∙
          ap (λ cs. over (flat cs) c.args.memory.now) e;
    }
