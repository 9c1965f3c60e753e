use Rattle.std.proofs.Common.{rules}
use Rattle.polynomial.proofs.Rows.{across_whole}
use Rattle.polynomial.proofs.types.Bivariate.across.Goals as goal

pub returns : goal.returns
returns c = search (rules, across_whole)
