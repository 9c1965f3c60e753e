use Rattle.std.proofs.Common.{◌*◌, ◌^◌}
use Rattle.algebra.specs.Prime.{p}
use Rattle.algebra.proofs.Same.{Same}
use Rattle.field.proofs.element.Element.power.Given as goal

abbrev pub invariant-loop-left : goal.invariant-loop-left
invariant-loop-left l = Same p (l.result.value * l.base.value ^ l.left) (l.fn.self.value ^ l.exponent)

abbrev pub decreases-loop-left : goal.decreases-loop-left
decreases-loop-left l = l.left
