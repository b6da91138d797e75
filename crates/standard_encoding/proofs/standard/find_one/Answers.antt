-- The first byte that is no 0 decides the reading.
use Rattle.std.proofs.Common.{◌≡◌, ◌+◌, sym, refl, ◌∙◌, ap, ◌&&◌, eqb, get_or, drop}
use Rattle.std.specs.Bool.{then_some}
use Rattle.std.specs.List.{list_all}
use Rattle.std.proofs.lemmas.List.{take_rest}
use Rattle.std.proofs.lemmas.Bool.{and_left, eq-eqb, ne_eqb}
use Rattle.encodings.proofs.StandardLaws.{reading_searched}
use Rattle.standard_encoding.proofs.FirstOn.{off, found_some, found_none, then_some_is}
use Rattle.standard_encoding.proofs.standard.find_one.Goals as goal
use Rattle.standard_encoding.proofs.standard.find_one.Goals.{then-bits-place-eq1, else-bits-place-eq1}

pub returns-in_err-place : goal.returns-in_err-place
returns-in_err-place c =
    c.from_residual.ensures ∙ sym (reading_searched _ c.args.bits.now c.requires refl ∙ found_none c.args.bits.now (sym c.in_err-place.ensures))

pub returns : goal.returns
returns c =
    let bits = c.args.bits.now in
    let k = c.in_ok-place.place in
    let alone : c.if-bits-place-eq1.alone ≡ (eqb (get_or bits k 0) 1 && list_all off (drop (k + 1) bits)) =
    elim c.if-bits-place-eq1.branch [
      | then-bits-place-eq1 w ↦ w.alone-is ∙ (w.all_off-alone.ensures ∙
          (ap (list_all off) (take_rest bits (k + 1)) ∙ ap (λ t. t && list_all off (drop (k + 1) bits)) (sym (eq-eqb (get_or bits k 0) 1 w.if-bits-place-eq1.true))))
      | else-bits-place-eq1 w ↦ w.alone-is ∙
          (ne_eqb (get_or bits k 0) 1 w.if-bits-place-eq1.false ∙ sym (and_left (eqb (get_or bits k 0) 1) _ (ne_eqb (get_or bits k 0) 1 w.if-bits-place-eq1.false)))
    ] in
    c.then_some.ensures ∙
    (ap (λ b. then_some b (k + 1)) alone ∙ then_some_is _ (k + 1) ∙
    sym (reading_searched _ bits c.requires refl ∙ found_some bits k (sym c.in_ok-place.ensures)))
