use Rattle.std.proofs.Common.{◌≡◌, map, length, vec_items, ap, ◌∙◌, arith}
use Rattle.std.proofs.lemmas.List.{length-map, take_at}
use Rattle.std.proofs.lemmas.Result.{IfOk-weaker}
use Rattle.std.specs.Option.{option_map}
use Rattle.rows.specs.Rows.{step_of}
use Rattle.reader.specs.Program.{translated}
use Rattle.parser.specs.Said.{said_of}
use Rattle.reader.proofs.Translating.{translated_is}
use Rattle.reader.proofs.program.translate_lines.Goals as goal

pub returns : goal.returns
returns g c =
    let M = g.M.Mapping.meaning in
    let ss = map (option_map said_of) c.args.lines.now in
    let store = c.in_ok-make_store.ensures in
    let places = c.in_ok-answers.answers in
    let lent : length c.make_row.new.answers ≡ length c.as_mut_slice.result.now = c.make_row.auto.answers in
    let long : length c.as_mut_slice.result.now ≡ length (map step_of c.as_slice.result.now) =
    omega (arith, c.as_mut_slice.ensures.len, c.in_ok-answers.ensures, c.len.ensures, c.as_slice.ensures.len, length-map c.as_slice.result.now step_of) in
    let answers : c.as_slice-2.result.now ≡ c.make_row.new.answers = c.as_slice-2.ensures.value ∙ take_at c.make_row.new.answers _ places.len (omega (arith, lent, c.as_mut_slice.ensures.len)) in
    let done = rw c.unwrap-row.ensures at c.make_row.ensures in
    IfOk-weaker c.print_row.result _ (λ v. vec_items v ≡ translated M ss)
    (λ v h. h ∙ translated_is M ss _ _ _ _ _ _ _ _ done (λ i. record { book = 1; meaning = M; terms = store.1 i }) store.0
    (ap (map step_of) c.as_slice.ensures.value ∙ c.in_ok-calls.ensures) long _ answers)
    c.print_row.ensures
