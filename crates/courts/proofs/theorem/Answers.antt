use Rattle.courts.proofs.theorem.Goals as goal
use Rattle.courts.proofs.Whole.{theorem}

pub returns : goal.returns
returns c = theorem
