use Rattle.algebra.proofs.Stated.{moves_apart_lem}
use Rattle.algebra.proofs.moves_apart.Goals as goal

pub returns : goal.returns
returns c = moves_apart_lem
