-- The prime that all numbers are taken modulo.
use Rattle.std.specs.Prelude.{◌≡◌, ◌⊎◌, ℕ, ◌*◌, ◌%◌, ◌≤◌}

-- a product is 0 modulo q only where a factor is
abbrev pub Prime : ℕ → Type 0
Prime q = (2 ≤ q) × ((a b : ℕ) → (a * b) % q ≡ 0 → (a % q ≡ 0) ⊎ (b % q ≡ 0))

-- 2 ^ 61 - 1
abbrev pub p : ℕ
p = 2305843009213693951
