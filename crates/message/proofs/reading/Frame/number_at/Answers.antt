use Rattle.std.proofs.Common.{rules}
use Rattle.std.proofs.lemmas.List.Edits.{get_or-between}
use Rattle.rules.specs.Wire.{number8}
use Rattle.message.proofs.reading.Frame.number_at.Goals as goal

pub returns : goal.returns
unfolding number8
returns c = search (rules, get_or-between)
