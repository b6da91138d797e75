-- What the inner mapping wrote is moved.
use Rattle.std.proofs.Common.{◌≡◌, true, leb, arith, sym, ap, ◌∙◌, subst}
use Rattle.formula.specs.Boolean.{number}
use Rattle.formula.specs.Tests.{every}
use Rattle.mapping.proofs.Moving.{length_flat, moved_flat}
use Rattle.mapping.proofs.Ranges.{widths_few, axioms_own}
use Rattle.mapping.specs.Memory.{flat, over, moved_word}
use Rattle.encodings.specs.Limits.{size_high}
use Rattle.tied_encodings.proofs.Fronts.{front_is, front_mapped}
use Rattle.tied_encodings.proofs.Small.{small_words}
use Rattle.tied_encodings.proofs.tied.Tied.write_moved.Goals as goal

pub move_few-requires : goal.move_few-requires
move_few-requires g c =
    let M = g.M.Mapping.meaning in
    let L = g.met.M.Mapping.lawful in
    let m = c.args.size.count in
    let said = c.axioms-count.ensures in (
      subst (λ ws. every (λ l. leb (number l) 127) ws ≡ true)
          (sym (front_is (flat (M.axioms m)) c.args.memory.now _ _ (said.count ∙ sym (length_flat (M.axioms m))) said.memory))
          (small_words (M.width m) (widths_few M L m) (M.axioms m) (axioms_own M L m)),
      size_high m c.args.size.in_range,
    )

pub returns-clause-memory : goal.returns-clause-memory
returns-clause-memory g c =
    let M = g.M.Mapping.meaning in
    let L = g.met.M.Mapping.lawful in
    let m = c.args.size.count in
    let said = c.axioms-count.ensures in
    front_mapped (flat (M.axioms m)) c.args.memory.now _ _ (said.count ∙ sym (length_flat (M.axioms m))) said.memory (moved_word m) _ c.move_few.ensures ∙
    ap (λ ws. over ws c.args.memory.now)
    (moved_flat (M.width m) m (omega (arith, widths_few M L m, size_high m c.args.size.in_range)) (M.axioms m) (axioms_own M L m))
