-- The secret of an honest dealer's dealing is hidden from any f: what is added is 0 wherever they look, and 1 at 0.
use Rattle.std.proofs.Common.{◌≡◌, ℕ, ◌+◌, ◌*◌, ◌%◌, ◌<◌, ◌≤◌, List, length, ◌∙◌, mod-eq_of_lt, arith}
use mathlib.Core.List.{Memᴰ}
use native.Mathlib.Nat.{zero-mod}
use Rattle.algebra.specs.Polynomial.{value2, Low2, plus2, times2, outer}
use Rattle.algebra.specs.Sharing.{point}
use Rattle.algebra.proofs.Same.{Same, rest, back, so, ◌⊞◌, ◌⊟◌, ◌⊠◌}
use Rattle.algebra.proofs.Evaluation.{eval}
use Rattle.algebra.proofs.Rows.{eval2, value2_is}
use Rattle.algebra.proofs.Mask.{vanishing, Vanishes}
use Rattle.algebra.proofs.Coefficients.{plus2_is, times2_is, outer_is, low_outer, low_times2}
use Rattle.rules.specs.Deal.{Group, Sound, Keeper}
use Rattle.rules.specs.Promise.{HidesSecret}
use Rattle.rules.proofs.Unseen.{hides_dealing_lem}

module _ (g : Group) (sound : Sound g) (spied : List ℕ) (few : length spied ≤ g.f) (inside : (i : ℕ) → Memᴰ i spied → Keeper g i) where
  away_from_0 : (i : ℕ) → Memᴰ i spied → Same g.p (point i) 0 → ⊥
  away_from_0 i m e = let near : point i < g.p = omega (arith, (inside i m).0, sound.room) in omega (arith, rest e, mod-eq_of_lt near, zero-mod g.p)

  C : Vanishes g.p point spied
  C = vanishing sound.prime point spied away_from_0

  Z : List (List ℕ)
  Z = outer g.p C.cs C.cs

  low : Low2 (g.f + 1) (g.f + 1) Z
  unfolding Z
  low = let l = low_outer g.p C.cs C.cs in record { rows = omega (arith, l.rows, C.size, few); each = λ r m. omega (arith, l.each r m, C.size, few) }

  at : (δ x y : ℕ) → Same g.p (eval2 (times2 g.p δ Z) x y) (δ * (eval C.cs x * eval C.cs y))
  unfolding Z
  at δ x y = so (times2_is g.p δ (outer g.p C.cs C.cs) x y ⊞ δ ⊠ outer_is g.p C.cs C.cs x y) (omega arith)

  none : (δ x y : ℕ) → Same g.p (eval2 (times2 g.p δ Z) x y) 0 → value2 g.p (times2 g.p δ Z) x y ≡ 0
  none δ x y s = value2_is g.p (times2 g.p δ Z) x y ∙ rest s ∙ zero-mod g.p

  unseen : (δ s : ℕ) → Memᴰ s spied → (z : ℕ) → (value2 g.p (times2 g.p δ Z) z (point s) ≡ 0) × (value2 g.p (times2 g.p δ Z) (point s) z ≡ 0)
  unseen δ s m z = (
    none δ z (point s) (so (at δ z (point s) ⊞ (δ * eval C.cs z) ⊠ C.there s m) (omega arith)),
    none δ (point s) z (so (at δ (point s) z ⊞ (δ * eval C.cs z) ⊠ C.there s m) (omega arith)),
  )

  moved : (δ : ℕ) (rs : List (List ℕ)) → value2 g.p (plus2 g.p rs (times2 g.p δ Z)) 0 0 ≡ (value2 g.p rs 0 0 + δ) % g.p
  moved δ rs = value2_is g.p (plus2 g.p rs (times2 g.p δ Z)) 0 0 ∙
      rest (so (plus2_is g.p rs (times2 g.p δ Z) 0 0 ⊟ back g.p (value2_is g.p rs 0 0) ⊞ at δ 0 0 ⊞ (δ * eval C.cs 0) ⊠ C.here ⊞ δ ⊠ C.here) (omega arith))

pub hides_secret_lem : HidesSecret
hides_secret_lem g sound spied few inside liars = (
  Z g sound spied few inside,
  low g sound spied few inside,
  λ rs d kept strict fair δ. (
    moved g sound spied few inside δ rs,
    hides_dealing_lem g sound (g.f + 1) (g.f + 1) (omega arith) (omega arith) (omega arith) rs d kept strict fair spied inside liars (times2 g.p δ (Z g sound spied few inside))
        (low_times2 g.p δ (g.f + 1) (g.f + 1) (Z g sound spied few inside) (low g sound spied few inside)) (unseen g sound spied few inside δ),
  ),
)
