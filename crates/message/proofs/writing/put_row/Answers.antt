use Rattle.std.proofs.Common.{append_assoc, rules}
use Rattle.std.proofs.lemmas.List.{drop_all}
use Rattle.rules.specs.Wire.{be8, row}
use Rattle.message.proofs.Rows.{row_first}
use Rattle.message.proofs.writing.put_row.Goals as goal

pub loop-element-preserved : goal.loop-element-preserved
unfolding be8
loop-element-preserved c = search (rules, append_assoc, row_first)

pub returns : goal.returns
unfolding row
returns c = search (rules, drop_all)
