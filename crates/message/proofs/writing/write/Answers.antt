use Rattle.std.proofs.Common.{append_assoc, rules}
use Rattle.rules.specs.Wire.{be4, be8}
use Rattle.message.proofs.writing.write.Goals as goal

pub returns : goal.returns
unfolding be4 be8
returns c = search (rules, append_assoc)
