use Rattle.std.proofs.Common.{◌≡◌, false}
use Rattle.algebra.specs.Counting.{count}
use Rattle.rules.specs.Deal.{or_else}
use Rattle.rules.specs.Rounds.{said_fine}
use Rattle.dealing.specs.Model.{posts_of}
use Rattle.dealing.proofs.types.Board.fines.Given as goal

-- as many as have said so before this one
abbrev pub invariant-loop-fine : goal.invariant-loop-fine
invariant-loop-fine l = l.fines ≡ count l.fine-index (λ i. or_else false (said_fine (posts_of l.self) i))
