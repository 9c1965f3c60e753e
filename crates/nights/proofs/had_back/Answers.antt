use Rattle.nights.proofs.had_back.Goals as goal
use Rattle.nights.proofs.One.{had_back_lem}

pub returns : goal.returns
returns c = had_back_lem
