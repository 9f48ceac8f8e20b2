use Rattle.ag_law_reads.proofs.RunReads.{reads_are_right}
use Rattle.ag_law_reads.proofs.reads_right.Goals as goal

pub returns : goal.returns
returns c = record { reads = reads_are_right }
