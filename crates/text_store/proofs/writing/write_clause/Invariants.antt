use Rattle.std.proofs.Common.{take}
use Rattle.std.specs.List.{flat_map}
use Rattle.text_store.specs.Bytes.{WroteFront}
use Rattle.text_store.specs.Texts.{text_literal}
use Rattle.text_store.proofs.writing.write_clause.Given as goal

abbrev pub invariant-loop-literal : goal.invariant-loop-literal
invariant-loop-literal l = WroteFront (flat_map text_literal (take l.literal-index l.clause)) l.initial.out l.end l.out
