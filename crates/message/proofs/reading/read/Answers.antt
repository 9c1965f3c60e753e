use Rattle.std.proofs.Common.{Ok, Err, rules}
use Rattle.std.proofs.lemmas.List.Edits.{get_or-between}
use Rattle.rules.specs.Wire.{number4}
use Rattle.message.proofs.Parses.{too_short, no_dealer, whole, both}
use Rattle.message.proofs.reading.read.Goals as goal

pub returns-then-bytes-lt6 : goal.returns-then-bytes-lt6
returns-then-bytes-lt6 c = both _ _ _ _ c.ranges.keepers c.type_inv.bytes (Err _) (search (rules, too_short, no_dealer))

pub returns-in_err-body : goal.returns-in_err-body
unfolding number4
returns-in_err-body c = both _ _ _ _ c.ranges.keepers c.type_inv.bytes _ (search (rules, whole, get_or-between))

pub returns : goal.returns
unfolding number4
returns c = both _ _ _ _ c.ranges.keepers c.type_inv.bytes (Ok _) (search (rules, whole, get_or-between))
