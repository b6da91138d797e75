-- The links are written one by one, in order.
use Rattle.std.proofs.Common.{◌≡◌, ◌≤◌, length, true, refl, sym, ap, ◌∙◌, subst, arith, w32, SFits, rules}
use Rattle.std.proofs.lemmas.Int.{to_z-of_z}
use Rattle.formula.specs.Boolean.{words_of}
use Rattle.mapping.specs.Meanings.{is_size}
use Rattle.mapping.specs.Memory.{flat, over}
use Rattle.encodings.specs.FullRegular.{links, full_regular_within}
use Rattle.encodings.specs.Guard.{axioms_within}
use Rattle.encodings.specs.Levels.{lists_at}
use Rattle.encodings.proofs.LinkWriting.{links_room, links_more, links_all}
use Rattle.encodings.proofs.Writing.{writing_none, writing_room}
use Rattle.encodings.proofs.full_regular.FullRegularMapping.axioms.Goals as goal

pub loop-j-init : goal.loop-j-init
loop-j-init c = (omega arith, writing_none c.args.memory.now (links c.args.size))

pub slice_bounds-room-end : goal.slice_bounds-room-end
slice_bounds-room-end c =
    let is : c.in-Some.size.count ≡ c.args.size = c.in-Some.ensures in
    let s : is_size c.args.size ≡ true = subst (λ m. is_size m ≡ true) is c.in-Some.size.in_range in
    let few : words_of (links c.args.size) ≤ length c.args.memory.now = let most = (lists_at c.args.size s).axioms_words in omega arith in
    let room = links_room c.args.memory.now _ _ c.args.size c.loop-j.j (omega arith) few c.loop-j.invariant.1 in omega arith

pub loop-j-preserved : goal.loop-j-preserved
loop-j-preserved c =
    let is : c.in-Some.size.count ≡ c.args.size = c.in-Some.ensures in
    let s : is_size c.args.size ≡ true = subst (λ m. is_size m ≡ true) is c.in-Some.size.in_range in
    let few : words_of (links c.args.size) ≤ length c.args.memory.now = let most = (lists_at c.args.size s).axioms_words in omega arith in
    let f : SFits w32 c.less_than.result = search rules in
    let g : SFits w32 c.at_least.result = search rules in
    writing_room _ _ _ _ _ few
    (links_more _ _ _ c.args.size c.loop-j.j _ _ _ _ _ (omega arith) refl few
    (to_z-of_z w32 c.less_than.result f ∙ c.less_than.ensures) (to_z-of_z w32 c.at_least.result g ∙ c.at_least.ensures)
    c.write_clause-count.ensures.room c.loop-j.invariant.1)

pub returns : goal.returns
returns c =
    let is : c.in-Some.size.count ≡ c.args.size = c.in-Some.ensures in
    let s : is_size c.args.size ≡ true = subst (λ m. is_size m ≡ true) is c.in-Some.size.in_range in
    let e = sym (axioms_within full_regular_within c.args.size s) in
    let d = links_all _ _ _ c.args.size c.loop-j.j (omega arith) c.loop-j.invariant.1 in
    record { count = d.0 ∙ ap words_of e; memory = d.1 ∙ ap (λ cs. over (flat cs) c.args.memory.now) e }
