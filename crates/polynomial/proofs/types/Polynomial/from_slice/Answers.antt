use Rattle.std.proofs.Common.{rules}
use Rattle.polynomial.proofs.Places.{copied_clean}
use Rattle.polynomial.proofs.types.Polynomial.from_slice.Goals as goal

pub invariant_of-result-clause-clean : goal.invariant_of-result-clause-clean
invariant_of-result-clause-clean c = copied_clean c.zero-coefficients.result c.zero-coefficients.ensures 6 c.copy_from_slice.new.self c.args.cs.now (search rules)
