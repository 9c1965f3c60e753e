use Rattle.rules.proofs.Whole.{one_dealing_lem}
use Rattle.rules.proofs.one_dealing.Goals as goal

pub returns : goal.returns
returns c = one_dealing_lem
