use Rattle.std.proofs.Common.{◌++◌, take, codes}
use Rattle.std.specs.Fmt.{decimal, HasWritten, IsPlainFormatter}
use Rattle.std.specs.List.{flat_map}
use Rattle.field.specs.declared.element.Element.{Element}
use Rattle.polynomial.proofs.polynomial.PolynomialDisplay.fmt.Given as goal

-- the coefficients below the index, each after a blank
abbrev pub invariant-loop-c : goal.invariant-loop-c
invariant-loop-c g l =
    IsPlainFormatter l.initial.f → HasWritten g.W.Write.write_str_gives l.initial.f (flat_map (λ (e : Element). codes " " ++ decimal e.value) (take l.c-index l.rest)) l.f
