use Rattle.std.proofs.Common.{refl, arith}
use Rattle.polynomial.proofs.Rows.{rows_exact}
use Rattle.polynomial.proofs.types.Bivariate.shape.Goals as goal

pub returns : goal.returns
returns c = let f = c.args.self.now in (refl, rows_exact f.shape.high f.shape.low f.rows (omega (arith, f.six, f.shape.high_short)) f.even)
