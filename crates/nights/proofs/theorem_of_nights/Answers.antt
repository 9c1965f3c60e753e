use Rattle.nights.proofs.theorem_of_nights.Goals as goal
use Rattle.nights.proofs.Nightly.{theorem_of_nights_lem}

pub returns : goal.returns
returns c = theorem_of_nights_lem
