use Rattle.rules.proofs.Unseen.{hides_dealing_lem}
use Rattle.rules.proofs.hides_dealing.Goals as goal

pub returns : goal.returns
returns c = hides_dealing_lem
