use Rattle.std.proofs.Common.{◌≤◌, length}
use Rattle.rehearse.proofs.play.Play.post.Given as goal

-- at most one for each keeper before this one
abbrev pub invariant-loop-k : goal.invariant-loop-k
invariant-loop-k l = length l.refused.items ≤ l.k
