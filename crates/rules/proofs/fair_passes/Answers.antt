use Rattle.rules.proofs.Fairly.{passes}
use Rattle.rules.proofs.fair_passes.Goals as goal

pub returns : goal.returns
returns c = passes
