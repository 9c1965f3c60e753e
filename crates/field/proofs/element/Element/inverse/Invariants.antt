use Rattle.field.proofs.Euclid.{Step}
use Rattle.field.proofs.element.Element.inverse.Given as goal

abbrev pub invariant-loop-left : goal.invariant-loop-left
invariant-loop-left l = Step l.negated l.fn.self.value l.over l.left l.before l.by

abbrev pub decreases-loop-left : goal.decreases-loop-left
decreases-loop-left l = l.left
