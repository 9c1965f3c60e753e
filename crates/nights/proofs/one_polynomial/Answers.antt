use Rattle.nights.proofs.one_polynomial.Goals as goal
use Rattle.nights.proofs.One.{one}

pub returns : goal.returns
returns c = one
