use Rattle.std.proofs.Common.{arith}
use Rattle.field.proofs.Euclid.{start, turn, bound, found, found_negated}
use Rattle.field.proofs.element.Element.inverse.Goals as goal
use Rattle.field.proofs.element.Element.inverse.Goals.{then-negated, else-negated}

pub loop-left-init : goal.loop-left-init
loop-left-init c = start c.args.self.value (omega arith) c.args.self.reduced

pub overflow_add-next : goal.overflow_add-next
overflow_add-next c = let l = c.loop-left in omega (arith, bound c.args.self.value l.over l.left l.before l.by l.invariant.some l.invariant.whole)

pub loop-left-preserved : goal.loop-left-preserved
loop-left-preserved c = let l = c.loop-left in turn c.args.self.value l.over l.left l.before l.by l.negated (omega arith) l.invariant

pub returns : goal.returns
returns c =
    let l = c.loop-left in
    elim c.if-negated.branch [
      | then-negated w ↦ rw (w.result-is, w.neg.ensures) (found_negated c.args.self.value l.over l.before l.by (rw (w.if-negated.true, c.loop-left-test.false) at l.invariant))
      | else-negated w ↦ rw w.result-is (found c.args.self.value l.over l.before l.by (rw (w.if-negated.false, c.loop-left-test.false) at l.invariant))
    ]
