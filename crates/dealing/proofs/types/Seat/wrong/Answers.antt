use Rattle.std.proofs.Common.{rules, tests}
use Rattle.dealing.proofs.Loops.{any_keeper}
use Rattle.dealing.proofs.types.Seat.wrong.Goals as goal

pub returns : goal.returns
returns c = any_keeper c.any.ensures.ran c.keepers.ensures.0 (λ x b q k. search (rules, tests))
