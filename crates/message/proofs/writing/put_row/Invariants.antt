use Rattle.std.proofs.Common.{◌≡◌, ◌++◌, drop, vec_items}
use Rattle.polynomial.specs.Numbers.{numbers}
use Rattle.rules.specs.Wire.{row}
use Rattle.message.proofs.writing.put_row.Given as goal

abbrev pub invariant-loop-element : goal.invariant-loop-element
invariant-loop-element l = vec_items l.out ++ row (numbers (drop l.element-index l.elements)) ≡ vec_items l.initial.out ++ row (numbers l.elements)
