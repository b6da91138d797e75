use Rattle.std.proofs.Common.{◌≡◌, ◌+◌, [], ◌∷◌, ◌++◌, length, drop, nat_abs, decimal, sym, ap, ◌∙◌, subst, refl, arith, length-append, w32}
use Rattle.std.specs.Fmt.{signed_decimal}
use Rattle.std.proofs.lemmas.Int.{to_z-of_z}
use Rattle.text_store.specs.Bytes.{WroteFront}
use Rattle.text_store.proofs.Figures.{sign_of, sign_minus, sign_none, signed_is}
use Rattle.text_store.proofs.Places.{wrote_push, wrote_more, wrote_digits}
use Rattle.text_store.proofs.writing.write_literal.Goals as goal
use Rattle.text_store.proofs.writing.write_literal.Goals.{Joined-literal-lt0, then-literal-lt0, else-literal-lt0}

-- the sign is written
front : (c : Joined-literal-lt0) → (c.if-literal-lt0.end ≡ length (sign_of c.args.literal) + c.count_digits-end.result) × (c.if-literal-lt0.out ≡ sign_of c.args.literal ++ drop (length (sign_of c.args.literal)) c.args.out.now)
front c =
    let same = to_z-of_z w32 c.args.literal c.ranges.literal in
    let some = length-append (signed_decimal c.args.literal) (32 ∷ []) in
    elim c.if-literal-lt0.branch [
      | then-literal-lt0 w ↦ rw (sign_minus c.args.literal (rw same at w.if-literal-lt0.true), w.end-is, w.out-is) (omega arith, (wrote_push [] 45 c.args.out.now (omega arith)).after_is)
      | else-literal-lt0 w ↦ rw (sign_none c.args.literal (rw same at w.if-literal-lt0.false), w.end-is, w.out-is) (omega arith, refl)
    ]

pub returns : goal.returns
returns c =
    let l = c.args.literal in
    let sign = front (goal.at.returns c).Joined-literal-lt0 in
    let number = c.unsigned_abs-number.ensures.value ∙ ap nat_abs (to_z-of_z w32 l c.ranges.literal) in
    let signed = ap (λ n. sign_of l ++ decimal n) (c.from.ensures ∙ number) ∙ sym (signed_is l) in
    let ends = sign.0 ∙ ap (λ n. length (sign_of l) + n) (c.count_digits-end.ensures ∙ ap (λ n. length (decimal n)) (sym c.from.ensures)) in
    let written = wrote_digits (sign_of l) (decimal c.from.result) c.args.out.now _ _ sign.1 ends c.write_digits.ensures.start c.write_digits.ensures.written c.write_digits.ensures.before in
    wrote_more 32 (subst (λ bytes. WroteFront bytes c.args.out.now c.if-literal-lt0.end c.write_digits.new.buf) signed written) (omega (arith, length-append (signed_decimal l) (32 ∷ [])))
