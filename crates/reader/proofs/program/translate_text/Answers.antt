use Rattle.std.proofs.Common.{◌≡◌, ◌<◌, length, vec_items, ◌∙◌, arith, rules}
use Rattle.std.proofs.lemmas.Result.{IfOk-weaker}
use Rattle.reader.specs.Program.{output}
use Rattle.reader.proofs.Translating.{output_none, output_some}
use Rattle.reader.proofs.program.translate_text.Goals as goal

pub returns-in-len1-up : goal.returns-in-len1-up
returns-in-len1-up c =
    let input = c.args.input.now in
    let some : 0 < length c.as_slice.result.now = search rules in
    IfOk-weaker c.translate_from.result _ (λ v. vec_items v ≡ output input)
    (λ v h. h ∙ output_some input (vec_items c.in_ok-lines.lines) c.as_slice.result.now (omega arith) c.in_ok-lines.ensures c.as_slice.ensures.value c.first-item.result some c.first-item.is)
    c.translate_from.ensures

pub returns : goal.returns
returns c =
    let input = c.args.input.now in
    let none : length c.as_slice.result.now < 1 = search rules in
    IfOk-weaker c.refuse_text-in-empty.result _ (λ v. vec_items v ≡ output input)
    (λ v h. h ∙ output_none input (vec_items c.in_ok-lines.lines) c.as_slice.result.now (omega arith) c.in_ok-lines.ensures c.as_slice.ensures.value none)
    c.refuse_text-in-empty.ensures
