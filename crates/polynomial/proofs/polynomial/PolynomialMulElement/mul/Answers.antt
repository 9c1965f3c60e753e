use Rattle.std.proofs.Common.{◌*◌, ◌%◌, arith, rules}
use Rattle.algebra.specs.Prime.{p}
use Rattle.field.specs.declared.element.Element.{Element}
use Rattle.polynomial.proofs.Calls.{mapped}
use Rattle.polynomial.proofs.Sums.{times_clean, times_whole}
use Rattle.polynomial.proofs.polynomial.PolynomialMulElement.mul.Goals as goal

pub invariant_of-result : goal.invariant_of-result
invariant_of-result c =
    let f = c.args.self in
    let all = mapped _ (λ (e : Element). e.value) (λ (e : Element). (c.args.factor.value * e.value) % p) _ (λ x y q k. (search rules, search rules)) 6 f.coefficients _ f.six c.map.ensures.items in
    record { six = omega arith; short = f.short; clean = times_clean f.len c.args.factor _ _ f.clean all }

pub returns : goal.returns
returns c =
    let f = c.args.self in
    let all = mapped _ (λ (e : Element). e.value) (λ (e : Element). (c.args.factor.value * e.value) % p) _ (λ x y q k. (search rules, search rules)) 6 f.coefficients _ f.six c.map.ensures.items in
    times_whole f.len c.args.factor _ _ all
