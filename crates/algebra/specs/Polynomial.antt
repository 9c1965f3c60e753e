-- Polynomials modulo p in one and two unknowns, by their coefficients.
use Rattle.std.specs.Prelude.{◌≡◌, ℕ, ◌+◌, ◌*◌, ◌%◌, ◌<◌, ◌≤◌, length}
use mathlib.Core.List.{List, [], ◌∷◌, Memᴰ}

-- the value at x; the lowest coefficient comes first
unfoldable pub value : (p : ℕ) → List ℕ → ℕ → ℕ
value p [] x = 0
value p (c ∷ cs) x = (c + x * value p cs x) % p

-- In two unknowns x and y: a row of coefficients in y for each power of x. The value at x and y:
unfoldable pub value2 : (p : ℕ) → List (List ℕ) → (x y : ℕ) → ℕ
value2 p [] x y = 0
value2 p (r ∷ rs) x y = (value p r y + x * value2 p rs x y) % p

-- with y set, a polynomial in x
unfoldable pub set_second : (p : ℕ) → List (List ℕ) → ℕ → List ℕ
set_second p [] y = []
set_second p (r ∷ rs) y = value p r y ∷ set_second p rs y

-- sums and multiples, coefficient by coefficient
unfoldable pub plus : (p : ℕ) → List ℕ → List ℕ → List ℕ
plus p [] ds = ds
plus p (c ∷ cs) [] = c ∷ cs
plus p (c ∷ cs) (d ∷ ds) = (c + d) % p ∷ plus p cs ds

unfoldable pub times : (p : ℕ) → ℕ → List ℕ → List ℕ
times p s [] = []
times p s (c ∷ cs) = (s * c) % p ∷ times p s cs

-- with x set, a polynomial in y
unfoldable pub set_first : (p : ℕ) → List (List ℕ) → ℕ → List ℕ
set_first p [] x = []
set_first p (r ∷ rs) x = plus p r (times p x (set_first p rs x))

-- the product of two polynomials
unfoldable pub product : (p : ℕ) → List ℕ → List ℕ → List ℕ
product p [] ds = []
product p (c ∷ cs) ds = plus p (times p c ds) (0 ∷ product p cs ds)

-- in two unknowns: sums and multiples, row by row, and the product of a polynomial in x and one in y
unfoldable pub plus2 : (p : ℕ) → List (List ℕ) → List (List ℕ) → List (List ℕ)
plus2 p [] qs = qs
plus2 p (r ∷ rs) [] = r ∷ rs
plus2 p (r ∷ rs) (q ∷ qs) = plus p r q ∷ plus2 p rs qs

unfoldable pub times2 : (p : ℕ) → ℕ → List (List ℕ) → List (List ℕ)
times2 p s [] = []
times2 p s (r ∷ rs) = times p s r ∷ times2 p s rs

unfoldable pub outer : (p : ℕ) → List ℕ → List ℕ → List (List ℕ)
outer p [] ds = []
outer p (c ∷ cs) ds = times p c ds ∷ outer p cs ds

-- at most d coefficients: of degree below d
abbrev pub Low : ℕ → List ℕ → Type 0
Low d cs = length cs ≤ d

-- at most d rows of at most e coefficients
pub record Low2 (d e : ℕ) (rs : List (List ℕ)) : Type 0 where
  pub rows : length rs ≤ d
  pub each : (r : List ℕ) → Memᴰ r rs → length r ≤ e

-- exactly n coefficients, each below p
pub record Exact (p n : ℕ) (cs : List ℕ) : Type 0 where
  pub count : length cs ≡ n
  pub small : (c : ℕ) → Memᴰ c cs → c < p

-- exactly d rows of e such coefficients
pub record Exact2 (p d e : ℕ) (rs : List (List ℕ)) : Type 0 where
  pub count : length rs ≡ d
  pub each : (r : List ℕ) → Memᴰ r rs → Exact p e r
