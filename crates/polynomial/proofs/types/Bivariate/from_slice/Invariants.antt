use Rattle.polynomial.proofs.Rows.{Cut}
use Rattle.polynomial.proofs.types.Bivariate.from_slice.Given as goal

abbrev pub invariant-loop-i : goal.invariant-loop-i
invariant-loop-i l = Cut l.i l.shape.low l.cs l.rows
