use Rattle.algebra.proofs.Lucas.{modulus_prime}
use Rattle.algebra.proofs.modulus_is_prime.Goals as goal

pub returns : goal.returns
returns c = modulus_prime
