use Rattle.rules.proofs.Keeping.{keeps_rules_lem}
use Rattle.rules.proofs.keeps_rules.Goals as goal

pub returns : goal.returns
returns c = keeps_rules_lem
