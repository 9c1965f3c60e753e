use Rattle.algebra.proofs.Stated.{determined_by_values}
use Rattle.algebra.proofs.determined.Goals as goal

pub returns : goal.returns
returns c = determined_by_values
