-- The laws as they are stated: of values, that is, of remainders.
use mathlib.Core.Path.{◌≡◌, refl, sym, ◌∙◌}
use mathlib.Core.Logic.{⊎_elim}
use mathlib.Core.List.{List, [], ◌∷◌}
use Prim.Native.Nat.{ℕ, ◌%◌}
use native.Mathlib.Omega.{arith}
use native.Mathlib.Nat.{mod-lt, mod-eq_of_lt}
use Rattle.algebra.specs.Polynomial.{value}
use Rattle.algebra.specs.Laws.{FewRoots, Determined, Interpolation, InterpolationOfNumbers, Vanishing, Linearity, Inverses, Shares, MovesApart}
use Rattle.algebra.proofs.Same.{Same, same, rest, back, so, ◌⊞◌, ◌⊟◌, ◌⊠◌}
use Rattle.algebra.proofs.Evaluation.{eval, value_is, down, agree}
use Rattle.algebra.proofs.Inverse.{inverse}
use Rattle.algebra.proofs.Rows.{value2_is, column, column_is, length-column, through}
use Rattle.algebra.proofs.Mask.{vanishing}
use Rattle.algebra.proofs.Coefficients.{plus_is, length-plus, times_is, length-times, product_is, length-product, plus2_is, times2_is, outer_is, low_outer, first_is, second_is, exact_first, exact_second, determined, apart-plus2}

-- between values and whole numbers
pub of_values : (p : ℕ) (cs ds : List ℕ) (x y : ℕ) → value p cs x ≡ value p ds y → Same p (eval cs x) (eval ds y)
of_values p cs ds x y e = same p _ _ (sym (value_is p cs x) ∙ e ∙ value_is p ds y)

pub to_values : (p : ℕ) (cs ds : List ℕ) (x y : ℕ) → Same p (eval cs x) (eval ds y) → value p cs x ≡ value p ds y
to_values p cs ds x y s = value_is p cs x ∙ rest s ∙ sym (value_is p ds y)

pub few_roots_lem : FewRoots
few_roots_lem p prime at is apart cs ds hc hd h x = to_values p cs ds x x (agree prime at is apart cs ds hc hd (λ i m. of_values p cs ds (at i) (at i) (h i m)) x)

pub determined_by_values : Determined
determined_by_values p prime n room cs ds c d h = determined prime n room cs ds c d (λ x. of_values p cs ds x x (h x))

pub interpolation : Interpolation
interpolation p prime at is apart e want h =
    let t = through prime at is apart e want h in
    (t.rows, record { rows = omega (arith, t.size); each = t.low }, λ i m y. value2_is p t.rows (at i) y ∙ rest (t.fits i m y) ∙ sym (value_is p (want i) y))

pub interpolation_of_numbers_lem : InterpolationOfNumbers
unfolding eval
interpolation_of_numbers_lem p prime at is apart want =
    let t = through prime at is apart 1 (λ i. want i ∷ []) (λ i m. omega arith) in
    (column t.rows 0, omega (arith, length-column t.rows 0, t.size), λ i m. down p (column t.rows 0) (at i) (rw column_is (so (t.fits i m 0) (omega arith))))

pub vanishing-stands : Vanishing
vanishing-stands p prime at is h =
    let v = vanishing prime at is (λ i m s. h i m (rest s ∙ mod-eq_of_lt (omega (arith, prime.0)))) in
    (v.cs, v.size, down p v.cs 0 v.here ∙ mod-eq_of_lt (omega (arith, prime.0)), λ i m. down p v.cs (at i) (v.there i m) ∙ mod-eq_of_lt (omega (arith, prime.0)))

pub linearity : Linearity
linearity p = record {
  of_plus = λ cs ds x. down p _ x (so (plus_is p cs ds x ⊟ back p (value_is p cs x) ⊟ back p (value_is p ds x)) (omega arith));
  of_times = λ s cs x. down p _ x (so (times_is p s cs x ⊟ s ⊠ back p (value_is p cs x)) (omega arith));
  of_product = λ cs ds x. down p _ x (so (product_is p cs ds x ⊟ eval ds x ⊠ back p (value_is p cs x) ⊟ value p cs x ⊠ back p (value_is p ds x)) (omega arith));
  of_plus2 = λ rs qs x y. value2_is p _ x y ∙ rest (so (plus2_is p rs qs x y ⊟ back p (value2_is p rs x y) ⊟ back p (value2_is p qs x y)) (omega arith));
  of_times2 = λ s rs x y. value2_is p _ x y ∙ rest (so (times2_is p s rs x y ⊟ s ⊠ back p (value2_is p rs x y)) (omega arith));
  of_outer = λ cs ds x y. value2_is p _ x y ∙ rest (so (outer_is p cs ds x y ⊟ eval ds y ⊠ back p (value_is p cs x) ⊟ value p cs x ⊠ back p (value_is p ds y)) (omega arith));
  long_plus = length-plus p;
  long_times = length-times p;
  long_product = length-product p;
  low_outer = low_outer p;
}

pub inverses : Inverses
inverses p prime a h = ⊎_elim
    (λ z. absurd (h (rest z ∙ mod-eq_of_lt (omega (arith, prime.0)))))
    (λ u. (b % p, mod-lt b (omega (arith, prime.0)), rest (so (a ⊠ back p {n = b} refl ⊞ u) (omega arith)) ∙ mod-eq_of_lt (omega (arith, prime.0))))
    (inverse prime a).1
  where
    b : ℕ
    b = (inverse prime a).0

pub shares : Shares
shares p rs = record {
  across = λ x y. down p _ x (second_is p rs x y) ∙ sym (value2_is p rs x y);
  down = λ x y. down p _ y (first_is p rs x y) ∙ sym (value2_is p rs x y);
  exact = λ d e one many x z. (record { count = (exact_second p rs z one).count ∙ x.count; small = (exact_second p rs z one).small }, exact_first p e rs z one (omega (arith, x.count)) x.each);
}

pub moves_apart_lem : MovesApart
moves_apart_lem = apart-plus2
