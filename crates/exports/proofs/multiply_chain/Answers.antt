use Rattle.std.proofs.Common.{rules}
use Rattle.exports.proofs.Chain.{more}
use Rattle.exports.proofs.multiply_chain.Goals as goal

pub loop-preserved : goal.loop-preserved
loop-preserved c = search (rules, more)
