-- The literals are written one by one, each with the sign.
use Rattle.std.proofs.Common.{◌≡◌, ◌+◌, ◌<◌, map, length, get_or, pos, sym, ap, ap₂, ◌∙◌, arith, rules, w32, to_z, of_z, SFits}
use Rattle.std.proofs.lemmas.Int.{to_z-of_z}
use Rattle.std.proofs.lemmas.List.{get_or-map, length-map, take_all}
use Rattle.mapping.specs.Meanings.{is_size, is_value}
use Rattle.mapping.specs.Memory.{over}
use Rattle.encodings.proofs.Appending.{over_more}
use Rattle.encodings.proofs.Members.{listed_members}
use Rattle.encodings.specs.ListedForms.{signed_literal}
use Rattle.encodings.proofs.listed.write_form.Goals as goal
use Rattle.encodings.proofs.listed.write_form.Goals.{in-Some-get, in_default-get}

pub loop-place-preserved : goal.loop-place-preserved
loop-place-preserved g c =
    let f = signed_literal c.args.sign in
    let ls = c.literals-literals.result.items in
    let i = c.loop-place.place in
    let is = c.as_slice.ensures.value in
    let long = length-map ls f in
    elim c.match-get.branch [
      | in-Some-get w ↦
          let found = w.in-Some-get.ensures.lookup.3 in
          let here : i < length ls = omega (arith, found.0, ap length is) in
          let a : SFits w32 w.in-Some-get.literal.now = search rules in
          let b : SFits w32 w.signed.result = search rules in
          let literal : to_z w32 (of_z w32 w.in-Some-get.literal.now) ≡ get_or ls i (pos 0) =
          to_z-of_z w32 w.in-Some-get.literal.now a ∙ (found.1 (pos 0) ∙ ap (λ xs. get_or xs i (pos 0)) is) in
          let word : to_z w32 (of_z w32 w.signed.result) ≡ get_or (map f ls) i (pos 0) =
          to_z-of_z w32 w.signed.result b ∙ (w.signed.ensures ∙ (ap f literal ∙ sym (get_or-map f ls i (pos 0) (pos 0) here))) in
          w.places-is ∙ over_more (map f ls) c.loop-place.places c.args.places.now i _ (omega (arith, long)) (omega arith) word c.loop-place.invariant
      | in_default-get w ↦
          let none = w.in_default-get.ensures.lookup.3 in
          let all = take_all i (map f ls) (omega (arith, long, ap length is)) in
          let more = take_all (i + 1) (map f ls) (omega (arith, long, ap length is)) in
          w.places-is ∙ (c.loop-place.invariant ∙ ap (λ xs. over xs c.args.places.now) (all ∙ sym more))
    ]

pub returns-clause-places : goal.returns-clause-places
returns-clause-places g c =
    let f = signed_literal c.args.sign in
    let ls = c.literals-literals.result.items in
    let same = c.in-Some.ensures in
    let few = c.len.ensures.fits in
    c.loop-place.invariant ∙ ap (λ xs. over xs c.args.places.now)
    (take_all c.loop-place.place (map f ls) (omega (arith, length-map ls f)) ∙
    listed_members g.L.Listed.list c.args.size c.args.value c.args.sign ls
    (ap is_size (sym same.0) ∙ c.in-Some.choice.size_in_range) (ap₂ is_value (sym same.0) (sym same.1) ∙ c.in-Some.choice.value_in_range)
    (c.literals-literals.ensures ∙ ap₂ g.L.Listed.list same.0 same.1))
