use Rattle.courts.proofs.can_play.Goals as goal
use Rattle.courts.proofs.Exists.{can_play_lem}

pub returns : goal.returns
returns c = can_play_lem
