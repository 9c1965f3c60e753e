use Rattle.rules.proofs.Seated.{can_play_lem}
use Rattle.rules.proofs.can_play.Goals as goal

pub returns : goal.returns
returns c = can_play_lem
