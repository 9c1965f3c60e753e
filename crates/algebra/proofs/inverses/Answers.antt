use Rattle.algebra.proofs.Stated.{inverses}
use Rattle.algebra.proofs.inverses.Goals as goal

pub returns : goal.returns
returns c = inverses
