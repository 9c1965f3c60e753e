use Rattle.algebra.proofs.Stated.{vanishing-stands}
use Rattle.algebra.proofs.vanishing.Goals as goal

pub returns : goal.returns
returns c = vanishing-stands
