use Rattle.std.proofs.Common.{◌≡◌, ℕ, ◌-◌, ◌^◌, ◌<◌, ◌++◌, ◌∷◌, List, [], length, get_or, take, drop, ℤ, pos, sym, ap, ◌∙◌, subst, arith, length-append, w32, SFits, to_z, of_z, rules}
use Rattle.std.proofs.lemmas.Grind.{common_steps}
use Rattle.std.proofs.lemmas.Int.{to_z-of_z}
use Rattle.std.proofs.lemmas.List.{nil_from_length}
use Rattle.std.proofs.lemmas.Slice.{first_rest}
use Rattle.arrayvec.proofs.ArrayVecLemmas.{items-with_items}
use Rattle.formula.specs.Boolean.{number}
use Rattle.mapping.specs.Forms.{shifted}
use Rattle.store.specs.Stores.{put_answer, after_put}
use Rattle.translator.specs.declared.placed.PlacedForm.{PlacedForm}
use Rattle.translator.proofs.Steps.{moved, own_more, own_all, leaf, small, ready_one, going_more, going_all, ready_any, after_any}
use Rattle.translator.proofs.product.+put_product.Goals as goal

-- the first form and the others
parts : (ps : List PlacedForm) (p : PlacedForm) → 0 < length ps → p ≡ get_or ps 0 p → ps ≡ p ∷ take (length ps - 1) (drop 1 ps)
parts ps p some is = first_rest ps p some ∙ ap (λ q. q ∷ take (length ps - 1) (drop 1 ps)) (sym is)

-- a literal that a loop reads, and what is pushed for it: it is moved behind the Booleans before its form's own
read : (p : PlacedForm) (xs : List ℤ) (i : ℕ) → SFits w32 (get_or xs i (pos 0)) → get_or xs i (pos 0) ≡ get_or p.literals.items i (pos 0) →
    shifted p.start (to_z w32 (of_z w32 (get_or xs i (pos 0)))) ≡ moved p i
read p xs i fits same = ap (shifted p.start) (to_z-of_z w32 _ fits ∙ same)

pushed : (p : PlacedForm) (front' front xs : List ℤ) (i : ℕ) (l : ℤ) → l ≡ shifted p.start (to_z w32 (of_z w32 (get_or xs i (pos 0)))) →
    front' ≡ front ++ to_z w32 (of_z w32 l) ∷ [] → SFits w32 l → SFits w32 (get_or xs i (pos 0)) → get_or xs i (pos 0) ≡ get_or p.literals.items i (pos 0) →
    front' ≡ front ++ moved p i ∷ []
pushed p front' front xs i l shift push moved_fits fits same = push ∙ ap (λ z. front ++ z ∷ []) (to_z-of_z w32 l moved_fits ∙ shift ∙ read p xs i fits same)

-- a literal that was pushed is taken off again
taken_off : (front₀ front front' held after : List ℤ) (l : ℤ) → front ≡ front₀ → front' ≡ front ++ l ∷ [] → held ≡ front' → after ≡ take (length held - 1) held →
    after ≡ take (length front₀) front'
taken_off front₀ front front' held after l kept push same rest =
    let long : length held - 1 ≡ length front₀ = omega (arith, ap length same, ap length push, ap length kept, length-append front (l ∷ [])) in
    rest ∙ (λ j. take (long j) (same j))

pub returns-in_default : goal.returns-in_default
returns-in_default g t c =
    let T = g.S.Store.terms c.args.store.now in
    let K = g.S.Store.contents c.args.store.now in
    let said = c.put.ensures.answer ∙ ap (put_answer T K) c.as_mut_slice.ensures.value in
    let after = c.put.ensures.after ∙ ap (after_put c.put.result T K) c.as_mut_slice.ensures.value in
    let done = leaf T K _ _ c.args.forms.now _ (nil_from_length _ (omega arith)) c.requires said after in
    let lent = c.put.ensures.lent ∙ c.as_mut_slice.ensures.value in
    record { answer = done.0; after = done.1; same = c.put.ensures.same; kept = items-with_items c.args.front.now c.put.new.clause (ap length lent) ∙ lent }

pub shift-requires : goal.shift-requires
shift-requires g t c =
    let i = c.loop-choice.choice-index in
    let p = c.first-item.result in
    let is = parts c.args.forms.now p (search rules) c.first-item.is in
    let within : i < length p.literals.items = grind (arith, common_steps) in
    subst (λ z. number z < 2 ^ 31) (sym (read p _ i (search rules) (grind (arith, common_steps)))) (small _ _ _ _ _ _ is c.requires i within)

pub put_product-requires : goal.put_product-requires
put_product-requires g t c κs within =
    let i = c.loop-choice.choice-index in
    let p = c.first-item.result in
    let is = parts c.args.forms.now p (search rules) c.first-item.is in
    let inside : i < length p.literals.items = grind (arith, common_steps) in
    let push = pushed p _ _ _ i _ c.shift.ensures c.push.ensures.items (search rules) (search rules) (grind (arith, common_steps)) in
    (search rules, (search rules, ready_one _ _ _ _ _ _ is c.requires _ _ _ _ c.loop-choice.invariant _ inside push))

pub loop-choice-preserved : goal.loop-choice-preserved
loop-choice-preserved g t c =
    let i = c.loop-choice.choice-index in
    let p = c.first-item.result in
    let is = parts c.args.forms.now p (search rules) c.first-item.is in
    let inside : i < length p.literals.items = grind (arith, common_steps) in
    let push = pushed p _ _ _ i _ c.shift.ensures c.push.ensures.items (search rules) (search rules) (grind (arith, common_steps)) in
    let cut = taken_off _ _ _ _ _ _ c.loop-choice.invariant.kept push c.put_product.ensures.kept c.pop.ensures.rest in
    going_more _ _ _ _ _ _ is c.requires _ _ _ _ c.loop-choice.invariant _ inside push _ _ _ c.put_product.ensures.same c.put_product.ensures.after cut

pub shift-requires-in-loop-literal : goal.shift-requires-in-loop-literal
shift-requires-in-loop-literal g t c =
    let i = c.loop-literal.literal-index in
    let p = c.first-item.result in
    let is = parts c.args.forms.now p (search rules) c.first-item.is in
    let within : i < length p.literals.items = grind (arith, common_steps) in
    subst (λ z. number z < 2 ^ 31) (sym (read p _ i (search rules) (grind (arith, common_steps)))) (small _ _ _ _ _ _ is c.requires i within)

pub loop-literal-preserved : goal.loop-literal-preserved
loop-literal-preserved g t c =
    let i = c.loop-literal.literal-index in
    let p = c.first-item.result in
    let within : i < length p.literals.items = grind (arith, common_steps) in
    let push = pushed p _ _ _ i _ c.shift-in-loop-literal.ensures c.push-in-loop-literal.ensures.items (search rules) (search rules) (grind (arith, common_steps)) in
    push ∙ ap (λ xs. xs ++ moved p i ∷ []) c.loop-literal.invariant ∙ own_more p c.args.front.now.items i within

pub put_product-requires-in-AnyOf : goal.put_product-requires-in-AnyOf
put_product-requires-in-AnyOf g t c κs within =
    let p = c.first-item.result in
    let is = parts c.args.forms.now p (search rules) c.first-item.is in
    (search rules, (search rules, ready_any _ _ _ _ _ _ is c.requires c.in-AnyOf.is _ (c.loop-literal.invariant ∙ ap (λ xs. c.args.front.now.items ++ xs) (own_all p _ (omega (arith, ap length c.as_slice-literals.ensures.value))))))

pub returns-after-loop-choice-clause-after : goal.returns-after-loop-choice-clause-after
returns-after-loop-choice-clause-after g t c =
    let is = parts c.args.forms.now c.first-item.result (search rules) c.first-item.is in
    going_all _ _ _ _ _ _ is c.requires _ _ _ _ c.loop-choice.invariant c.in-AllOf.is (omega (arith, ap length c.as_slice-literals.ensures.value))

pub returns-in_ok-put_product-in-AnyOf-clause-after : goal.returns-in_ok-put_product-in-AnyOf-clause-after
returns-in_ok-put_product-in-AnyOf-clause-after g t c =
    let p = c.first-item.result in
    let is = parts c.args.forms.now p (search rules) c.first-item.is in
    after_any _ _ _ _ _ _ is c.requires c.in-AnyOf.is _ (c.loop-literal.invariant ∙ ap (λ xs. c.args.front.now.items ++ xs) (own_all p _ (omega (arith, ap length c.as_slice-literals.ensures.value)))) _ c.put_product-in-AnyOf.ensures.after
