use Rattle.courts.proofs.over_in_time.Goals as goal
use Rattle.courts.proofs.Timely.{over_in_time_lem}

pub returns : goal.returns
returns c = over_in_time_lem
