use Rattle.std.proofs.Common.{arith}
use lib.Bits.{and_mask}
use Rattle.field.proofs.element.Element.reduce.Goals as goal

pub once-requires : goal.once-requires
once-requires c = omega (arith, and_mask c.args.n 61)

pub returns : goal.returns
returns c = omega (arith, and_mask c.args.n 61, c.once.ensures)
