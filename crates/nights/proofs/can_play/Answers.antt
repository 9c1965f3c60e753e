use Rattle.nights.proofs.can_play.Goals as goal
use Rattle.nights.proofs.Played.{can_play_lem}

pub returns : goal.returns
returns c = can_play_lem
