use Rattle.std.proofs.Common.{◌≡◌, ℕ, length, vec_items, ap, ◌∙◌, rules}
use Rattle.std.proofs.lemmas.List.{length-replicate}
use Rattle.text_store.specs.ByteStores.{byte_empty}
use Rattle.text_store.specs.TextStores.{text_terms}
use Rattle.reader.specs.Program.{buffer}
use Rattle.reader.proofs.program.make_store.Goals as goal

length_buffer : length buffer ≡ 32768
unfolding buffer
length_buffer = length-replicate {A = ℕ} 32768 0

pub returns : goal.returns
unfolding buffer
returns c =
    let bytes : vec_items c.in_ok-bytes.bytes ≡ buffer = c.in_ok-bytes.ensures.items_if_clones_equal (search rules) in
    (c.new.ensures.contents ∙ ap byte_empty bytes, c.new.ensures.terms ∙ ap text_terms (ap length bytes ∙ length_buffer))
