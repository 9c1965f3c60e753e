use Rattle.algebra.proofs.Stated.{shares}
use Rattle.algebra.proofs.shares.Goals as goal

pub returns : goal.returns
returns c = shares
