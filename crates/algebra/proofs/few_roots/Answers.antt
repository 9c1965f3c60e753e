use Rattle.algebra.proofs.Stated.{few_roots_lem}
use Rattle.algebra.proofs.few_roots.Goals as goal

pub returns : goal.returns
returns c = few_roots_lem
