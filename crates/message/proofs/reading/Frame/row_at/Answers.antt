use Rattle.std.proofs.Common.{refl, rules}
use Rattle.std.proofs.lemmas.List.{take_all}
use Rattle.rules.specs.Wire.{row_at}
use Rattle.message.proofs.Rows.{read_more, small_numbers, too_large}
use Rattle.message.proofs.reading.Frame.row_at.Goals as goal

pub loop-k-init : goal.loop-k-init
unfolding row_at
loop-k-init c = refl

pub returns-in_err-number : goal.returns-in_err-number
returns-in_err-number c = search (rules, too_large)

pub loop-k-preserved : goal.loop-k-preserved
loop-k-preserved c = search (rules, read_more)

pub returns : goal.returns
returns c = search (rules, take_all, small_numbers)
