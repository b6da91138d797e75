-- What the inner mapping holds is moved.
use Rattle.std.proofs.Common.{◌≡◌, true, leb, map, length, arith, sym, ap, ◌∙◌, subst}
use Rattle.std.proofs.lemmas.List.{length-map}
use Rattle.arrayvec.proofs.ArrayVecLemmas.{items-with_items}
use Rattle.formula.specs.Boolean.{number}
use Rattle.formula.specs.Tests.{every}
use Rattle.formula.specs.declared.signed.Sign.TheVariants.{Plus}
use Rattle.mapping.proofs.Moving.{moved_clause}
use Rattle.mapping.proofs.Ranges.{widths_few, forms_own}
use Rattle.mapping.specs.Forms.{members}
use Rattle.mapping.specs.Memory.{moved_word}
use Rattle.encodings.specs.Limits.{size_high}
use Rattle.tied_encodings.proofs.Small.{small_literals}
use Rattle.tied_encodings.proofs.inner.InnerListsListed.literals.Goals as goal

pub move_few-requires : goal.move_few-requires
move_few-requires g c =
    let M = g.M.Mapping.meaning in
    let L = g.met.M.Mapping.lawful in
    let m = c.args.choice.size in
    let i = c.args.choice.value in (
      subst (λ ws. every (λ l. leb (number l) 127) ws ≡ true) (sym (c.as_mut_slice.ensures.value ∙ c.ask-literals.ensures.literals))
          (small_literals (M.width m) (widths_few M L m) (members (M.form m Plus i)) (forms_own M L m Plus i)),
      size_high m c.args.choice.size_in_range,
    )

pub returns : goal.returns
returns g c =
    let M = g.M.Mapping.meaning in
    let L = g.met.M.Mapping.lawful in
    let m = c.args.choice.size in
    let i = c.args.choice.value in
    let held = c.ask-literals.result.literals in
    let moved : c.move_few.new.words ≡ map (moved_word m) held.items = c.move_few.ensures ∙ ap (map (moved_word m)) c.as_mut_slice.ensures.value in
    items-with_items held c.move_few.new.words (ap length moved ∙ length-map held.items (moved_word m)) ∙
    (moved ∙
    (ap (map (moved_word m)) c.ask-literals.ensures.literals ∙
    moved_clause (M.width m) m (omega (arith, widths_few M L m, size_high m c.args.choice.size_in_range)) (members (M.form m Plus i)) (forms_own M L m Plus i)))
