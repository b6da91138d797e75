use Rattle.std.proofs.Common.{eqb, [], ◌∷◌, length-append, subst₂, sym, ◌∙◌, rules, tests}
use Rattle.std.proofs.lemmas.Iterator.Consumers.{YieldsList-turn, YieldsList-end}
use Rattle.std.proofs.lemmas.Iterator.Splits.{YieldsList-from_slice_split}
use Rattle.parser.specs.Cuts.{parts}
use Rattle.parser.proofs.Clauses.{Reading, reading_more, reading_stop, reading_all}
use Rattle.parser.proofs.lines.read_literals.Goals as goal

pub returns-in_default : goal.returns-in_default
returns-in_default c =
    let turn =
    YieldsList-turn (YieldsList-from_slice_split _ (λ b. eqb b 32) c.args.fields.now (cc) (cc) (cc) (λ x b q k. search (rules, tests)))
    c.loop-field.yielded _ c.loop-field.yielded_by _ _ c.in-Some.field c.in-Some.is c.next.ensures.steps in
    reading_stop _ _ _ c.loop-field.invariant.2 _ turn.0 turn.1 (sym c.in_default.is ∙ c.read_literal.ensures)

pub loop-field-preserved : goal.loop-field-preserved
loop-field-preserved c =
    let turn =
    YieldsList-turn (YieldsList-from_slice_split _ (λ b. eqb b 32) c.args.fields.now (cc) (cc) (cc) (λ x b q k. search (rules, tests)))
    c.loop-field.yielded _ c.loop-field.yielded_by _ _ c.in-Some.field c.in-Some.is c.next.ensures.steps in
    let more = reading_more _ _ _ c.loop-field.invariant.2 _ turn.0 turn.1 _ (sym c.in-Some-read_literal.is ∙ c.read_literal.ensures) in
    (search rules, tt, subst₂ (Reading (parts 32 c.args.fields.now)) (sym c.in_ok-push.ensures.items) (sym (length-append c.loop-field.yielded (c.in-Some.field ∷ []))) more)

pub returns : goal.returns
returns c =
    let done =
    YieldsList-end (YieldsList-from_slice_split _ (λ b. eqb b 32) c.args.fields.now (cc) (cc) (cc) (λ x b q k. search (rules, tests)))
    c.loop-field.yielded _ c.loop-field.yielded_by _ _ c.in-None.is c.next.ensures.steps in
    reading_all _ _ _ c.loop-field.invariant.2 done.1
