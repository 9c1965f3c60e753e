-- Numbers below a bound that pass a test, and lists with no number twice.
use Rattle.std.specs.Prelude.{Bool, cond, ℕ, zero, suc, ◌+◌}
use mathlib.Core.List.{List, [], ◌∷◌, Memᴰ}

-- how many numbers below n pass
unfoldable pub count : ℕ → (ℕ → Bool) → ℕ
count zero test = 0
count (suc n) test = cond (test n) 1 0 + count n test

-- no number twice
unfoldable pub Distinct : List ℕ → Type 0
Distinct [] = Unit {0}
Distinct (x ∷ xs) = (Memᴰ x xs → ⊥) × Distinct xs
