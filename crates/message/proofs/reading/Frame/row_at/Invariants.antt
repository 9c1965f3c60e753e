use Rattle.std.proofs.Common.{◌≡◌, take}
use Rattle.polynomial.specs.Numbers.{numbers}
use Rattle.rules.specs.Wire.{row_at}
use Rattle.message.proofs.reading.Frame.row_at.Given as goal

abbrev pub invariant-loop-k : goal.invariant-loop-k
invariant-loop-k l = numbers (take l.k l.row) ≡ row_at l.self.bytes.now l.place l.k
