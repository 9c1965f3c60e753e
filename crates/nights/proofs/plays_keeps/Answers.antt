use Rattle.nights.proofs.plays_keeps.Goals as goal
use Rattle.nights.proofs.Courts.{plays_keeps_lem}

pub returns : goal.returns
returns c = plays_keeps_lem
