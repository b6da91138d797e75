use Rattle.std.proofs.Common.{◌≡◌, ◌-◌, ◌<◌, ◌≤◌, length, take, ap, ◌∙◌, arith}
use Rattle.store.specs.Stores.{after_cut}
use Rattle.text_store.specs.Bytes.{Closed, PieceFrom}
use Rattle.text_store.specs.ByteStores.{byte_contents}
use Rattle.text_store.specs.Texts.{text_line, text_list}
use Rattle.text_store.specs.TextStores.{IsKept}
use Rattle.text_store.proofs.Fronts.{fronted, kept}
use Rattle.text_store.proofs.Held.{cut_words, cut_front, cut_contents}
use Rattle.text_store.proofs.Legibility.{text_legible}
use Rattle.text_store.proofs.Lines.{closed_lines, lines_long}
use Rattle.text_store.proofs.text_store.TextStore.drop_last.Goals as goal
use Rattle.text_store.proofs.text_store.TextStore.drop_last.Goals.{After-last_piece-last}

pub last_piece-last-requires : goal.last_piece-last-requires
last_piece-last-requires c =
    let list = c.args.self.now.list in
    rw c.held.ensures.stands.text (record { closed = closed_lines text_line 10 list; some = omega (arith, c.requires, lines_long text_line 10 list) })

-- the held bytes, as the buffer has them
held : (c : After-last_piece-last) → c.held.result.now ≡ take c.self.inside.held c.self.inside.bytes.items
held c = rw (← c.self.view_is) at c.held.ensures.stands.text ∙ c.self.invariant.whole

some : (c : After-last_piece-last) → 0 < c.self.inside.count
some c = omega (arith, c.requires, ap (λ K. length K.list) c.self.view_is, c.self.invariant.counted)

piece : (c : After-last_piece-last) → PieceFrom 10 33 (take c.self.inside.held c.self.inside.bytes.items) c.last_piece-last.result.start c.last_piece-last.result.lows
piece c = rw (held c) at c.last_piece-last.ensures.piece

before : (c : After-last_piece-last) → Closed 10 (take c.last_piece-last.result.start (take c.self.inside.held c.self.inside.bytes.items))
before c = rw (held c) at c.last_piece-last.ensures.before

-- the last clause is taken off the words, the front and the contents
done : (c : After-last_piece-last) → (c.last_piece-last.result.lows ≤ c.self.inside.words) × IsKept c.self.inside.bytes.items c.last_piece-last.result.start (c.self.inside.words - c.last_piece-last.result.lows) (c.self.inside.count - 1) × (byte_contents text_list c.self.inside.bytes.items c.last_piece-last.result.start ≡ after_cut (c.self.inside.count - 1) (byte_contents text_list c.self.inside.bytes.items c.self.inside.held))
done c =
    let front = fronted c.self.invariant in (
      cut_words text_legible front _ _ (some c) (piece c) (before c),
      kept (cut_front text_legible front _ _ (some c) (piece c) (before c)),
      cut_contents text_legible front _ _ (some c) (piece c) (before c),
    )

pub overflow_sub-self : goal.overflow_sub-self
overflow_sub-self c = (done (goal.at.overflow_sub-self c).After-last_piece-last).0

pub invariant_of-self : goal.invariant_of-self
invariant_of-self c = (done (goal.at.invariant_of-self c).After-last_piece-last).1

pub returns : goal.returns
returns c =
    let K = byte_contents text_list c.self.inside.bytes.items c.self.inside.held in
    (done (goal.at.returns c).After-last_piece-last).2
    ∙ ap (λ n. after_cut (n - 1) K) c.self.invariant.counted
    ∙ ap (λ J. after_cut (length J.list - 1) J) c.self.view_is
