use Rattle.rules.proofs.Playing.{can_follow_lem}
use Rattle.rules.proofs.can_follow.Goals as goal

pub returns : goal.returns
returns c = can_follow_lem
