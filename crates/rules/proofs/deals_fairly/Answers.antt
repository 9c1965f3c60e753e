use Rattle.rules.proofs.Keeping.{deals_fairly_lem}
use Rattle.rules.proofs.deals_fairly.Goals as goal

pub returns : goal.returns
returns c = deals_fairly_lem
