use Rattle.nights.proofs.can_be_kept.Goals as goal
use Rattle.nights.proofs.Plainly.{can_be_kept_lem}

pub returns : goal.returns
returns c = can_be_kept_lem
