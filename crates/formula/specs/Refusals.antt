-- The table of refusals: number, word and layer of each reason. Assumes nothing.
use Rattle.std.specs.Prelude.{ℕ, List, ◌∷◌, ◌++◌, codes, decimal}
use Rattle.formula.specs.declared.refusals.Details.{Details}
use Rattle.formula.specs.declared.refusals.Layer.{Layer}
use Rattle.formula.specs.declared.refusals.Layer.TheVariants as layers
use Rattle.formula.specs.declared.refusals.Reason.{Reason}
use Rattle.formula.specs.declared.refusals.Reason.TheVariants.{Size, NamesSpent, Long, Stranger, Value, SheetFull, NumbersSpent, WordsShort, Line}
use Rattle.formula.specs.declared.refusals.Refusal.{Refusal}

-- one detail, or none
abbrev pub detail : ℕ → Details
detail n = record { first = n; second = 0 }

abbrev pub no_detail : Details
no_detail = record { first = 0; second = 0 }

-- L, W and S
abbrev pub layer_letter : Layer → ℕ
layer_letter layers.Line = 76
layer_letter layers.Workbook = 87
layer_letter layers.Store = 83

abbrev pub reason_number : Reason → ℕ
reason_number Size = 1
reason_number NamesSpent = 2
reason_number Long = 3
reason_number Stranger = 4
reason_number Value = 5
reason_number SheetFull = 6
reason_number NumbersSpent = 7
reason_number WordsShort = 8
reason_number Line = 15

abbrev pub reason_word : Reason → List ℕ
reason_word Size = codes "size"
reason_word NamesSpent = codes "names spent"
reason_word Long = codes "long"
reason_word Stranger = codes "stranger"
reason_word Value = codes "value"
reason_word SheetFull = codes "sheet full"
reason_word NumbersSpent = codes "numbers spent"
reason_word WordsShort = codes "words short"
reason_word Line = codes "line"

abbrev pub reason_layer : Reason → Layer
reason_layer Size = layers.Workbook
reason_layer NamesSpent = layers.Workbook
reason_layer Long = layers.Workbook
reason_layer Stranger = layers.Workbook
reason_layer Value = layers.Workbook
reason_layer SheetFull = layers.Workbook
reason_layer NumbersSpent = layers.Store
reason_layer WordsShort = layers.Store
reason_layer Line = layers.Line

-- a refusal as it is printed: its number, the letter of its layer and both details
abbrev pub refusal_text : Refusal → List ℕ
refusal_text r =
    decimal (reason_number r.reason) ++ (32 ∷ (layer_letter (reason_layer r.reason) ∷ 32 ∷ (decimal r.details.first ++ (32 ∷ decimal r.details.second))))
