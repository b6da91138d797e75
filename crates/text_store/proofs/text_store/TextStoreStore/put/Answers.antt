use Rattle.std.proofs.Common.{◌≡◌, ℕ, ◌+◌, ◌-◌, ◌≤◌, true, List, length, vec_items, sym, ap, ◌∙◌, rules}
use Rattle.std.specs.Vec.{with_items}
use Rattle.std.proofs.lemmas.List.{with_items_is}
use borrow.Rule.Slice.PartMut.{put_mid}
use Rattle.formula.specs.Boolean.{words}
use Rattle.store.specs.Stores.{appended}
use Rattle.text_store.specs.Bytes.{at_place}
use Rattle.text_store.specs.ByteStores.{byte_largest, fit_clause, byte_capacity, byte_contents}
use Rattle.text_store.specs.Texts.{text_clause, text_list, text_most}
use Rattle.text_store.specs.TextStores.{IsKept, text_terms, terms_of}
use Rattle.text_store.proofs.Fits.{unfit_none, numbers_taken, words_taken}
use Rattle.text_store.proofs.Fronts.{fronted, kept}
use Rattle.text_store.proofs.Held.{put_within, put_count, put_front, put_contents}
use Rattle.text_store.proofs.Legibility.{text_legible}
use Rattle.text_store.proofs.Places.{room_behind, written_behind, length_at_place}
use Rattle.text_store.proofs.text_store.TextStoreStore.put.Goals as goal
use Rattle.text_store.proofs.text_store.TextStoreStore.put.Goals.{In_ok-check_words, After-write_clause}

fit : (c : In_ok-check_words) → fit_clause c.args.clause.now ≡ true
fit c = unfit_none byte_largest c.args.clause.now (numbers_taken _ c.in_ok-check_numbers.ensures)

enough : (c : In_ok-check_words) → words c.args.clause.now ≤ byte_capacity text_most (length (vec_items c.self.inside.bytes)) - c.self.inside.words
enough c = rw c.self.invariant.worded (rw (← c.self.view_is) at (words_taken (terms_of c.args.self.now) c.args.self.now _ c.in_ok-check_words.ensures))

room : (c : In_ok-check_words) → c.self.inside.held + length (text_clause c.args.clause.now) ≤ length (vec_items c.self.inside.bytes)
room c = put_within text_legible (fronted c.self.invariant) c.args.clause.now (fit c) (enough c)

-- the clause is put behind the front, and the contents are as many words and clauses more
module _ (c : In_ok-check_words) (end : ℕ) (after : List ℕ) where
  done : end ≡ c.self.inside.held + length (text_clause c.args.clause.now) → after ≡ at_place c.self.inside.held (text_clause c.args.clause.now) (vec_items c.self.inside.bytes) → IsKept after end (c.self.inside.words + words c.args.clause.now) (c.self.inside.count + 1) × (byte_contents text_list after end ≡ appended (text_terms (length (vec_items c.self.inside.bytes))) (byte_contents text_list (vec_items c.self.inside.bytes) c.self.inside.held) c.args.clause.now)
  done end_is after_is =
      let front = fronted c.self.invariant in (
        kept (put_front text_legible front c.args.clause.now (fit c) (enough c) end after end_is after_is),
        put_contents text_legible front c.args.clause.now (fit c) (enough c) end after end_is after_is,
      )

-- the buffer holds what was written
module _ (c : After-write_clause) where
  abbrev text : List ℕ
  text = text_clause c.args.clause.now

  placed : put_mid c.self.inside.held (length c.as_mut_slice.result.now - c.self.inside.held) c.as_mut_slice.result.now c.write_clause.new.out ≡ at_place c.self.inside.held text (vec_items c.self.inside.bytes)
  placed = rw c.as_mut_slice.ensures.value (written_behind c.self.inside.held (vec_items c.self.inside.bytes) text (rw c.as_mut_slice.ensures.value at c.write_clause.ensures))

  stored : c.self.inside.held + length text ≤ length (vec_items c.self.inside.bytes) → vec_items (with_items c.self.inside.bytes (put_mid c.self.inside.held (length c.as_mut_slice.result.now - c.self.inside.held) c.as_mut_slice.result.now c.write_clause.new.out)) ≡ at_place c.self.inside.held text (vec_items c.self.inside.bytes)
  stored within =
      let long = length_at_place c.self.inside.held text (vec_items c.self.inside.bytes) within in
      with_items_is c.self.inside.bytes _ (ap length placed ∙ long ∙ ap length (sym c.as_mut_slice.ensures.value) ∙ c.as_mut_slice.ensures.len) ∙ placed

pub write_clause-requires : goal.write_clause-requires
write_clause-requires c =
    rw c.as_mut_slice.ensures.value (room_behind c.self.inside.held (vec_items c.self.inside.bytes) _ (room (goal.at.write_clause-requires c).In_ok-check_words))

pub overflow_add-self-3 : goal.overflow_add-self-3
overflow_add-self-3 c =
    let at = (goal.at.overflow_add-self-3 c).In_ok-check_words in
    let few = put_count text_legible (fronted c.self.invariant) c.args.clause.now (fit at) (enough at) in
    search rules

pub invariant_of-self : goal.invariant_of-self
invariant_of-self c =
    let at = goal.at.invariant_of-self c in
    (done at.In_ok-check_words _ _ (ap (λ n. c.self.inside.held + n) c.write_clause.ensures.count_is) (stored at.After-write_clause (room at.In_ok-check_words))).0

pub returns-clause-after : goal.returns-clause-after
returns-clause-after c =
    let at = goal.at.returns-clause-after c in
    (done at.In_ok-check_words _ _ (ap (λ n. c.self.inside.held + n) c.write_clause.ensures.count_is) (stored at.After-write_clause (room at.In_ok-check_words))).1
    ∙ ap (λ K. appended (terms_of K) K c.args.clause.now) c.self.view_is
