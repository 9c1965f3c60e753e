use Rattle.nights.proofs.theorem.Goals as goal
use Rattle.nights.proofs.Forever.{theorem}

pub returns : goal.returns
returns c = theorem
