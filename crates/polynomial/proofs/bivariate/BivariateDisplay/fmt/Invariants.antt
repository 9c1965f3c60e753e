use Rattle.std.proofs.Common.{◌++◌, take, codes}
use Rattle.std.specs.Fmt.{HasWritten, IsPlainFormatter}
use Rattle.std.specs.List.{flat_map}
use Rattle.polynomial.specs.declared.types.Polynomial.{Polynomial}
use Rattle.polynomial.specs.Lists.{coeffs}
use Rattle.polynomial.specs.Shown.{shown}
use Rattle.polynomial.proofs.bivariate.BivariateDisplay.fmt.Given as goal

-- the rows below the index, each after a slash
abbrev pub invariant-loop-row : goal.invariant-loop-row
invariant-loop-row g l =
    IsPlainFormatter l.initial.f → HasWritten g.W.Write.write_str_gives l.initial.f (flat_map (λ (r : Polynomial). codes " / " ++ shown (coeffs r)) (take l.row-index l.rest)) l.f
