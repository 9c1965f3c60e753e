use Rattle.algebra.proofs.Stated.{interpolation}
use Rattle.algebra.proofs.interpolation.Goals as goal

pub returns : goal.returns
returns c = interpolation
