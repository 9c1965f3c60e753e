use Rattle.algebra.proofs.Stated.{linearity}
use Rattle.algebra.proofs.linearity.Goals as goal

pub returns : goal.returns
returns c = linearity
