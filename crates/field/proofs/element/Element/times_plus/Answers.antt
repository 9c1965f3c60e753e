use Rattle.std.proofs.Common.{◌∙◌, arith}
use Rattle.field.proofs.Halves.{halves, small, folded, low29, low32, low61}
use Rattle.field.proofs.element.Element.times_plus.Goals as goal

pub returns : goal.returns
returns c =
    let s = small c.args.self.value c.args.factor.value c.args.self.reduced c.args.factor.reduced in
    simp (low29, low32, low61) at c.reduce.ensures ∙ folded _ _ _ _ _ (halves c.args.self.value c.args.factor.value) s.hh

pub overflow_add-a_high-2 : goal.overflow_add-a_high-2
overflow_add-a_high-2 c = let s = small c.args.self.value c.args.factor.value c.args.self.reduced c.args.factor.reduced in simp (low29, low32) (omega arith)

pub overflow_add-a_high-3 : goal.overflow_add-a_high-3
overflow_add-a_high-3 c = let s = small c.args.self.value c.args.factor.value c.args.self.reduced c.args.factor.reduced in simp (low29, low32, low61) (omega arith)
