-- Shares of a polynomial F(x, y): what each keeper holds of it, and when two such fit together.
use Rattle.std.specs.Prelude.{◌≡◌, List, ℕ, ◌+◌}
use Rattle.algebra.specs.Polynomial.{value, value2, set_first, set_second}

-- where keeper i stands
abbrev pub point : ℕ → ℕ
point i = i + 1

-- what keeper i is dealt. across: F(x, i + 1), a polynomial in x; down: F(i + 1, y), a polynomial in y
pub record Share : Type 0 where
  pub across : List ℕ
  pub down : List ℕ

abbrev pub share_of : (p : ℕ) → List (List ℕ) → ℕ → Share
share_of p rs i = record { across = set_second p rs (point i); down = set_first p rs (point i) }

-- what a share gives at one point
pub record Pair : Type 0 where
  pub across : ℕ
  pub down : ℕ

-- as the other one sees it
abbrev pub swap : Pair → Pair
swap a = record { across = a.down; down = a.across }

-- what a share gives at keeper j's point
abbrev pub pair_at : (p : ℕ) → Share → ℕ → Pair
pair_at p s j = record { across = value p s.across (point j); down = value p s.down (point j) }

-- keeper i's share s and keeper j's share t agree: each one's across at the other's point is the other's down at its own
abbrev pub Agree : (p i : ℕ) → Share → (j : ℕ) → Share → Type 0
Agree p i s j t = pair_at p s j ≡ swap (pair_at p t i)

-- keeper i's share is of a polynomial
pub record Of (p : ℕ) (rs : List (List ℕ)) (i : ℕ) (s : Share) : Type 0 where
  pub across : (x : ℕ) → value p s.across x ≡ value2 p rs x (point i)
  pub down : (y : ℕ) → value p s.down y ≡ value2 p rs (point i) y
