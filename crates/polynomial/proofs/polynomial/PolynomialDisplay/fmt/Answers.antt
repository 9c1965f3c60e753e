use Rattle.std.proofs.Common.{◌≡◌, ◌∷◌, codes, ◌∙◌, ap, arith, rules}
use Rattle.std.proofs.Output.{has_written_append, has_written_of_eq}
use Rattle.std.specs.Fmt.{decimal, HasWritten}
use Rattle.field.specs.declared.element.Element.{Element}
use Rattle.polynomial.specs.Numbers.{numbers}
use Rattle.polynomial.specs.Lists.{coeffs}
use Rattle.polynomial.specs.Shown.{shown}
use Rattle.polynomial.proofs.Texts.{joined}
use Rattle.polynomial.proofs.polynomial.PolynomialDisplay.fmt.Goals as goal

pub returns-clause-writes : goal.returns-clause-writes
returns-clause-writes g c = λ plain _.
    let x = c.in-Some.first.now in
    let rest = c.in-Some.rest.now in
    let first : HasWritten g.W.Write.write_str_gives c.args.f.now (decimal x.value) c.write.new.self = search rules in
    let whole : numbers (x ∷ rest) ≡ coeffs c.args.self.now = search rules in
    has_written_of_eq _ _ _ _ _ (joined decimal (codes " ") (λ (e : Element). e.value) x rest _ (omega arith) ∙ ap shown whole) (has_written_append _ _ _ _ _ _ first (c.loop-c.invariant first.plain))
