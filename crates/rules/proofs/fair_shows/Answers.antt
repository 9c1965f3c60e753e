use Rattle.rules.proofs.Fairly.{fair_shows_lem}
use Rattle.rules.proofs.fair_shows.Goals as goal

pub returns : goal.returns
returns c = fair_shows_lem
