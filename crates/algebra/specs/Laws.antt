-- The laws of polynomials modulo a prime. Each is a type; a proof of the type is the law.
-- Points are given by a list of indices and `at`, which says where each stands; with `at` the identity they are the points themselves.
use Rattle.std.specs.Prelude.{◌≡◌, ℕ, suc, max, ◌+◌, ◌*◌, ◌%◌, ◌<◌, ◌≤◌, length}
use mathlib.Core.List.{List, [], ◌∷◌, Memᴰ}
use Rattle.algebra.specs.Prime.{Prime}
use Rattle.algebra.specs.Polynomial.{value, value2, set_first, set_second, plus, times, product, plus2, times2, outer, Low2, Exact, Exact2}

-- no two of these stand at the same point modulo p
unfoldable pub Apart : ℕ → (ℕ → ℕ) → List ℕ → Type 0
Apart p at [] = Unit {0}
Apart p at (i ∷ is) = ((j : ℕ) → Memᴰ j is → at j % p ≡ at i % p → ⊥) × Apart p at is

-- Few roots: two polynomials that agree at as many points as they have coefficients agree everywhere.
abbrev pub FewRoots : Type 0
FewRoots =
    (p : ℕ) → Prime p → (at : ℕ → ℕ) (is : List ℕ) → Apart p at is → (cs ds : List ℕ) → length cs ≤ length is → length ds ≤ length is →
    ((i : ℕ) → Memᴰ i is → value p cs (at i) ≡ value p ds (at i)) → (x : ℕ) → value p cs x ≡ value p ds x

-- A polynomial with exactly n coefficients below p, n < p, is determined by its values.
abbrev pub Determined : Type 0
Determined =
    (p : ℕ) → Prime p → (n : ℕ) → n < p → (cs ds : List ℕ) → Exact p n cs → Exact p n ds → ((x : ℕ) → value p cs x ≡ value p ds x) → cs ≡ ds

-- Interpolation: through polynomials in y of at most e coefficients, one for each point of x,
abbrev pub Interpolation : Type 0
Interpolation =
    (p : ℕ) → Prime p → (at : ℕ → ℕ) (is : List ℕ) → Apart p at is → (e : ℕ) (want : ℕ → List ℕ) → ((i : ℕ) → Memᴰ i is → length (want i) ≤ e) →
    (rs : List (List ℕ)) × Low2 (length is) e rs × ((i : ℕ) → Memᴰ i is → (y : ℕ) → value2 p rs (at i) y ≡ value p (want i) y)

-- and through numbers.
abbrev pub InterpolationOfNumbers : Type 0
InterpolationOfNumbers =
    (p : ℕ) → Prime p → (at : ℕ → ℕ) (is : List ℕ) → Apart p at is → (want : ℕ → ℕ) →
    (cs : List ℕ) × (length cs ≤ length is) × ((i : ℕ) → Memᴰ i is → value p cs (at i) ≡ want i % p)

-- The vanishing polynomial: 1 at 0 and 0 at each of the points, none of which is 0.
abbrev pub Vanishing : Type 0
Vanishing =
    (p : ℕ) → Prime p → (at : ℕ → ℕ) (is : List ℕ) → ((i : ℕ) → Memᴰ i is → at i % p ≡ 0 → ⊥) →
    (cs : List ℕ) × (length cs ≡ suc (length is)) × (value p cs 0 ≡ 1) × ((i : ℕ) → Memᴰ i is → value p cs (at i) ≡ 0)

-- Linearity: the values of sums, multiples and products, for any p.
pub record Linear (p : ℕ) : Type 0 where
  pub of_plus : (cs ds : List ℕ) (x : ℕ) → value p (plus p cs ds) x ≡ (value p cs x + value p ds x) % p
  pub of_times : (s : ℕ) (cs : List ℕ) (x : ℕ) → value p (times p s cs) x ≡ (s * value p cs x) % p
  pub of_product : (cs ds : List ℕ) (x : ℕ) → value p (product p cs ds) x ≡ (value p cs x * value p ds x) % p
  pub of_plus2 : (rs qs : List (List ℕ)) (x y : ℕ) → value2 p (plus2 p rs qs) x y ≡ (value2 p rs x y + value2 p qs x y) % p
  pub of_times2 : (s : ℕ) (rs : List (List ℕ)) (x y : ℕ) → value2 p (times2 p s rs) x y ≡ (s * value2 p rs x y) % p
  pub of_outer : (cs ds : List ℕ) (x y : ℕ) → value2 p (outer p cs ds) x y ≡ (value p cs x * value p ds y) % p
  pub long_plus : (cs ds : List ℕ) → length (plus p cs ds) ≡ max (length cs) (length ds)
  pub long_times : (s : ℕ) (cs : List ℕ) → length (times p s cs) ≡ length cs
  pub long_product : (cs ds : List ℕ) → length (product p cs ds) ≤ length cs + length ds
  pub low_outer : (cs ds : List ℕ) → Low2 (length cs) (length ds) (outer p cs ds)

abbrev pub Linearity : Type 0
Linearity = (p : ℕ) → Linear p

-- What isn't 0 has an inverse.
abbrev pub Inverses : Type 0
Inverses = (p : ℕ) → Prime p → (a : ℕ) → (a % p ≡ 0 → ⊥) → (b : ℕ) × (b < p) × ((a * b) % p ≡ 1)

-- A share has the values of the polynomial: with y set those in x, with x set those in y; and of d rows of e coefficients below p, it has d and e of them.
pub record Shared (p : ℕ) (rs : List (List ℕ)) : Type 0 where
  pub across : (x y : ℕ) → value p (set_second p rs y) x ≡ value2 p rs x y
  pub down : (x y : ℕ) → value p (set_first p rs x) y ≡ value2 p rs x y
  pub exact : (d e : ℕ) → 1 ≤ p → 1 ≤ d → Exact2 p d e rs → (z : ℕ) → Exact p d (set_second p rs z) × Exact p e (set_first p rs z)

abbrev pub Shares : Type 0
Shares = (p : ℕ) (rs : List (List ℕ)) → Shared p rs

-- No two polynomials come to the same by adding a third.
abbrev pub MovesApart : Type 0
MovesApart = (p d e : ℕ) → 1 ≤ p → (qs rs ss : List (List ℕ)) → Exact2 p d e rs → Exact2 p d e ss → plus2 p rs qs ≡ plus2 p ss qs → rs ≡ ss
