use Rattle.rules.proofs.hides_bytes.Goals as goal
use Rattle.rules.proofs.Retold.{hides_bytes_lem}

pub returns : goal.returns
returns c = hides_bytes_lem
