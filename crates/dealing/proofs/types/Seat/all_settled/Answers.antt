use Rattle.std.proofs.Common.{rules, tests}
use Rattle.dealing.proofs.Loops.{each_keeper}
use Rattle.dealing.proofs.types.Seat.all_settled.Goals as goal

pub returns : goal.returns
returns c = each_keeper c.all.ensures.ran c.keepers.ensures.0 (λ x b q k. search (rules, tests))
