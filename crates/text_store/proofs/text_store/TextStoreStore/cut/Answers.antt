use Rattle.std.proofs.Common.{◌≡◌, length, ap, ◌∙◌, arith}
use Rattle.text_store.proofs.Cuts.{cut_least}
use Rattle.text_store.proofs.text_store.TextStoreStore.cut.Goals as goal

pub returns-clause-after : goal.returns-clause-after
returns-clause-after c =
    let list : c.self.inside.count ≡ length c.args.self.now.list = c.self.invariant.counted ∙ ap (λ K. length K.list) c.self.view_is in
    let raw : c.self.inside.count ≡ length c.args.self.now.raw = c.self.invariant.counted ∙ ap (λ K. length K.raw) c.self.view_is in
    c.loop.invariant.0 ∙ cut_least c.args.self.now c.self.inside.count _ c.args.count list raw (omega (arith, c.loop.invariant.1))
