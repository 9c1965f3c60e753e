use Rattle.std.proofs.Common.{arith, rules}
use Rattle.std.proofs.lemmas.List.{get_or-take}
use Rattle.dealing.proofs.Loops.{count_bound, count_no, count_none, count_yes}
use Rattle.dealing.proofs.types.Board.fines.Goals as goal

pub loop-fine-init : goal.loop-fine-init
loop-fine-init c = count_none _

pub overflow_add-fines : goal.overflow_add-fines
overflow_add-fines c = omega (arith, count_bound c.loop-fine.fine-index c.loop-fine.fines _ c.loop-fine.invariant)

pub loop-fine-preserved : goal.loop-fine-preserved
loop-fine-preserved c = search (rules, get_or-take, count_yes, count_no)
