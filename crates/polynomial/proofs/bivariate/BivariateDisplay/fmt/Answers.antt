use Rattle.std.proofs.Common.{◌≡◌, ◌∷◌, map, codes, ◌∙◌, ap, arith, rules}
use Rattle.std.proofs.Output.{has_written_append, has_written_of_eq}
use Rattle.std.specs.Fmt.{HasWritten}
use Rattle.polynomial.specs.Lists.{coeffs, rows_of}
use Rattle.polynomial.specs.Shown.{shown, shown_rows}
use Rattle.polynomial.proofs.Texts.{joined}
use Rattle.polynomial.proofs.bivariate.BivariateDisplay.fmt.Goals as goal

pub returns-clause-writes : goal.returns-clause-writes
returns-clause-writes g c = λ plain _.
    let f = c.in-Some.first.now in
    let rest = c.in-Some.rest.now in
    let first : HasWritten g.W.Write.write_str_gives c.args.f.now (shown (coeffs f)) c.write.new.self = search rules in
    let whole : map coeffs (f ∷ rest) ≡ rows_of c.args.self.now = search rules in
    has_written_of_eq _ _ _ _ _ (joined shown (codes " / ") coeffs f rest _ (omega arith) ∙ ap shown_rows whole) (has_written_append _ _ _ _ _ _ first (c.loop-row.invariant first.plain))
