use Rattle.std.proofs.Common.{arith, rules}
use Rattle.polynomial.proofs.Rows.{cut_more, cut_even, cut_clean, cut_whole}
use Rattle.polynomial.proofs.types.Bivariate.from_slice.Goals as goal

pub loop-i-preserved : goal.loop-i-preserved
loop-i-preserved c =
    let l = c.loop-i in
    cut_more l.i c.args.shape.low _ _ c.args.cs.now _ (omega (arith, c.args.shape.high_short)) c.in_ok-rows.ensures (omega arith) l.invariant

pub invariant_of-result : goal.invariant_of-result
invariant_of-result c =
    let s = c.args.shape in
    let l = c.loop-i in
    record {
      six = l.invariant.six;
      even = λ k lt. cut_even l.i s.high s.low c.args.cs.now _ (omega arith) (omega arith) l.invariant k lt;
      clean = λ k le. cut_clean l.i s.low c.args.cs.now _ l.invariant k (omega arith);
    }

pub returns : goal.returns
returns c = search (rules, cut_whole)
