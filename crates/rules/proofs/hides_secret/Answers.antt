use Rattle.rules.proofs.Masked.{hides_secret_lem}
use Rattle.rules.proofs.hides_secret.Goals as goal

pub returns : goal.returns
returns c = hides_secret_lem
