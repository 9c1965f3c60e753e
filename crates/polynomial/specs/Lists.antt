-- Polynomials and shares of the program as lists of coefficients.
use Rattle.std.specs.Prelude.{ℕ, List, map, take}
use Rattle.algebra.specs.Sharing as sharing
use Rattle.polynomial.specs.declared.types.Polynomial.{Polynomial}
use Rattle.polynomial.specs.declared.types.Bivariate.{Bivariate}
use Rattle.polynomial.specs.declared.types.Share.{Share}
use Rattle.polynomial.specs.declared.types.Pair.{Pair}
use Rattle.polynomial.specs.Numbers.{numbers}

-- the coefficients that count, the lowest first
abbrev pub coeffs : Polynomial → List ℕ
coeffs f = numbers (take f.len f.coefficients)

-- the row of coefficients in y for each power of x
abbrev pub rows_of : Bivariate → List (List ℕ)
rows_of f = map coeffs (take f.shape.high f.rows)

abbrev pub held : Share → sharing.Share
held s = record { across = coeffs s.across; down = coeffs s.down }

abbrev pub said : Pair → sharing.Pair
said a = record { across = a.across; down = a.down }
