use Rattle.std.proofs.Common.{map, ◌∙◌, arith}
use Rattle.std.proofs.lemmas.List.{length-map}
use Rattle.mapping.specs.Memory.{over}
use Rattle.rows.specs.Rows.{step_of, row_answers, after_row}
use Rattle.rows.proofs.make_row.Goals as goal

pub returns : goal.returns
returns g c =
    let steps = map step_of c.args.row.now in
    let made = c.new-workbook.ensures.made in
    let state = c.new-workbook.ensures.state in
    let said = c.make_calls.ensures in
    record {
      fits = omega (arith, length-map c.args.row.now step_of);
      answers = said.answers ∙ (λ i. over (row_answers (made i) (state i) steps) c.args.answers.now);
      made = said.same ∙ made;
      state = said.after ∙ (λ i. after_row (made i) (state i) steps);
      clauses = c.stored_clauses-clauses.ensures;
    }
