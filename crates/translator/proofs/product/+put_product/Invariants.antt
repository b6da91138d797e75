use Rattle.std.proofs.Common.{◌≡◌, ◌++◌, length, take}
use Rattle.translator.specs.Placed.{own_literals}
use Rattle.translator.proofs.Products.{Going}
use Rattle.translator.proofs.product.+put_product.Given as goal

abbrev pub decreases-put_product : goal.decreases-put_product
decreases-put_product g l = length l.forms.now

abbrev pub invariant-loop-choice : goal.invariant-loop-choice
invariant-loop-choice g l =
    let S = g.S.Store in
    Going (S.terms l.initial.store) (S.terms l.store) (S.contents l.initial.store) (S.contents l.store) l.initial.front.items l.front.items l.first l.rest l.choice-index

abbrev pub invariant-loop-literal : goal.invariant-loop-literal
invariant-loop-literal g l = l.front.items ≡ l.initial.front.items ++ take l.literal-index (own_literals l.first)
