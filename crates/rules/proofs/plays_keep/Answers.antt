use Rattle.rules.proofs.Sat.{plays_keep_lem}
use Rattle.rules.proofs.plays_keep.Goals as goal

pub returns : goal.returns
returns c = plays_keep_lem
