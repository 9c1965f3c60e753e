use Rattle.std.proofs.Common.{◌^◌, arith}
use Rattle.field.proofs.Power.{even, odd}
use Rattle.field.proofs.element.Element.power.Goals as goal
use Rattle.field.proofs.element.Element.power.Goals.{then-left-eq1, else-left-eq1}

pub loop-left-preserved : goal.loop-left-preserved
loop-left-preserved c =
    let l = c.loop-left in
    let t = c.args.self.value ^ c.args.exponent in
    elim c.if-left-eq1.branch [
      | then-left-eq1 w ↦ rw w.result-is (odd t _ _ _ _ l.left (omega (arith, w.if-left-eq1.true)) w.mul-result.ensures c.mul-base.ensures l.invariant)
      | else-left-eq1 w ↦ rw w.result-is (even t _ _ _ l.left (omega (arith, w.if-left-eq1.false)) c.mul-base.ensures l.invariant)
    ]
