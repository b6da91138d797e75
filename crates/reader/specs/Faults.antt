-- Why a line is refused. Assumes nothing.
use Rattle.formula.specs.Refusals.{no_detail}
use Rattle.formula.specs.declared.refusals.Reason.TheVariants as reasons
use Rattle.formula.specs.declared.refusals.Refusal.{Refusal}
use Rattle.workbook.specs.Faults as workbook
use Rattle.reader.specs.declared.faults.LineFault.{LineFault}
use Rattle.reader.specs.declared.faults.LineFault.TheVariants.{Line, Workbook}

abbrev pub refusal_of : LineFault → Refusal
refusal_of Line = record { reason = reasons.Line; details = no_detail }
refusal_of (Workbook e) = workbook.refusal_of e
