use Rattle.rules.proofs.Reading.{reads_what_is_written_lem}
use Rattle.rules.proofs.reads_what_is_written.Goals as goal

pub returns : goal.returns
returns c = reads_what_is_written_lem
