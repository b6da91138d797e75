-- The refusals of a workbook, and what an answer leaves. Assumes nothing.
use Rattle.std.specs.Prelude.{ℕ, Ok, Err, Result}
use Rattle.formula.specs.Refusals.{no_detail}
use Rattle.formula.specs.declared.refusals.Reason.TheVariants as reasons
use Rattle.formula.specs.declared.refusals.Refusal.{Refusal}
use Rattle.store.specs.Faults as store
use Rattle.store.specs.declared.StoreFault.{StoreFault}
use Rattle.workbook.specs.declared.faults.WorkbookFault.{WorkbookFault}
use Rattle.workbook.specs.declared.faults.WorkbookFault.TheVariants.{Size, NamesSpent, Long, Stranger, Value, SheetFull, Store}

abbrev pub refusal_of : WorkbookFault → Refusal
refusal_of (Size d) = record { reason = reasons.Size; details = d }
refusal_of NamesSpent = record { reason = reasons.NamesSpent; details = no_detail }
refusal_of (Long d) = record { reason = reasons.Long; details = d }
refusal_of (Stranger d) = record { reason = reasons.Stranger; details = d }
refusal_of (Value d) = record { reason = reasons.Value; details = d }
refusal_of SheetFull = record { reason = reasons.SheetFull; details = no_detail }
refusal_of (Store e) = store.refusal_of e

-- a store's answer, as the workbook gives it
abbrev pub from_store : Result (Unit {0}) StoreFault → Result (Unit {0}) WorkbookFault
from_store (Ok u) = Ok u
from_store (Err e) = Err (Store e)

-- what is there afterwards: a refusal changes nothing
abbrev pub on_ok : {X : Type 0} → Result ℕ WorkbookFault → X → X → X
on_ok (Ok n) before after = after
on_ok (Err e) before after = before
