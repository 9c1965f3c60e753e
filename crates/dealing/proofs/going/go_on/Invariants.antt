use Rattle.std.proofs.Common.{◌≡◌, ℕ, ◌<◌, ◌≤◌, get_or, None}
use Rattle.std.specs.Option.{option_map}
use Rattle.polynomial.specs.Lists.{held}
use Rattle.dealing.specs.Going.{goes_on}
use Rattle.dealing.proofs.going.go_on.Given as goal

-- below k they go on, from k on they are as they were
abbrev pub invariant-loop-k : goal.invariant-loop-k
invariant-loop-k l =
    ((j : ℕ) → j < l.k → option_map held (get_or l.shares j None) ≡ goes_on (option_map held (get_or l.revealed j None)) (option_map held (get_or l.initial.shares j None))) ×
    ((j : ℕ) → l.k ≤ j → get_or l.shares j None ≡ get_or l.initial.shares j None)
