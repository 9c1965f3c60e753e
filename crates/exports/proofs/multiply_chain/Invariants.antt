use Rattle.std.proofs.Common.{◌≡◌, ◌*◌, ◌%◌, ◌^◌}
use Rattle.algebra.specs.Prime.{p}
use Rattle.exports.proofs.multiply_chain.Given as goal

abbrev pub invariant-loop : goal.invariant-loop
invariant-loop l = l.product.value ≡ (l.fn.a.value * l.fn.b.value ^ l.counter) % p
