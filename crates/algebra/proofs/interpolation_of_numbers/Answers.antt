use Rattle.algebra.proofs.Stated.{interpolation_of_numbers_lem}
use Rattle.algebra.proofs.interpolation_of_numbers.Goals as goal

pub returns : goal.returns
returns c = interpolation_of_numbers_lem
