use Rattle.read_back.proofs.Law.{printed_reads_back}
use Rattle.read_back.proofs.printed_scripts_read_back.Goals as goal

pub returns : goal.returns
returns c = printed_reads_back
