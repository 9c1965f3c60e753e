use Rattle.std.proofs.Common.{◌+◌, ◌%◌, arith, rules}
use Rattle.algebra.specs.Prime.{p}
use Rattle.field.specs.declared.element.Element.{Element}
use Rattle.polynomial.proofs.Calls.{made_at}
use Rattle.polynomial.proofs.Places.{number_read}
use Rattle.polynomial.proofs.Sums.{at, plus_clean, plus_whole}
use Rattle.polynomial.proofs.polynomial.PolynomialAdd.add.Goals as goal

pub invariant_of-result : goal.invariant_of-result
invariant_of-result c =
    let f = c.args.self in
    let g = c.args.other in
    let all = made_at _ (λ (e : Element). e.value) (λ k. (at f.coefficients k + at g.coefficients k) % p) _ 6 (λ i y q lt k. (search rules, search (rules, number_read))) _ c.from_fn.ensures.items in
    record {
      six = omega arith;
      short = omega (arith, c.max.ensures, f.short, g.short);
      clean = λ k le. plus_clean f.len g.len _ _ _ f.clean g.clean (λ k lt. all k (omega arith)) k (omega (arith, c.max.ensures));
    }

pub returns : goal.returns
returns c =
    let f = c.args.self in
    let g = c.args.other in
    let all = made_at _ (λ (e : Element). e.value) (λ k. (at f.coefficients k + at g.coefficients k) % p) _ 6 (λ i y q lt k. (search rules, search (rules, number_read))) _ c.from_fn.ensures.items in
    let whole = plus_whole f.len g.len f.coefficients g.coefficients c.from_fn.result (omega (arith, f.six, f.short)) (omega (arith, g.six, g.short)) (omega (arith, f.short, g.short)) f.clean g.clean (λ k lt. all k (omega arith)) in
    rw c.max.ensures whole
