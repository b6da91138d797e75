-- A law that held would give a row of bits that satisfies both axioms.
use Rattle.sample_mappings.proofs.Clash.{no_law}
use Rattle.sample_mappings.proofs.is_no_mapping.Goals as goal

pub returns-clause-none : goal.returns-clause-none
returns-clause-none c = no_law
