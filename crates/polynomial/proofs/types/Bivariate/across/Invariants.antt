use Rattle.std.proofs.Common.{◌≡◌, map, take}
use Rattle.algebra.specs.Polynomial.{value}
use Rattle.algebra.specs.Prime.{p}
use Rattle.polynomial.specs.declared.types.Polynomial.{Polynomial}
use Rattle.polynomial.specs.Lists.{coeffs}
use Rattle.polynomial.specs.Numbers.{numbers}
use Rattle.polynomial.proofs.types.Bivariate.across.Given as goal

-- the values of the rows so far
abbrev pub invariant-loop-i : goal.invariant-loop-i
invariant-loop-i l = numbers (take l.i l.c-items) ≡ map (λ (r : Polynomial). value p (coeffs r) l.y.value) (take l.i l.self.rows)
