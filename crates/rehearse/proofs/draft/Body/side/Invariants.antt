use Rattle.std.proofs.Common.{◌+◌, ◌*◌, ◌≤◌, length}
use Rattle.rehearse.proofs.draft.Body.side.Given as goal

-- eight bytes for each number so far
abbrev pub invariant-loop : goal.invariant-loop
invariant-loop l = length l.self.bytes.items ≤ length l.initial.self.bytes.items + 8 * l.counter
