use Rattle.rules.proofs.Tabled.{table_holds_lem}
use Rattle.rules.proofs.table_holds.Goals as goal

pub returns : goal.returns
returns c = table_holds_lem
