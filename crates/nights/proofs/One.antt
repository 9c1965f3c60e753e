-- Two polynomials of low degree that agree at enough keepers' points are one.
use Rattle.std.proofs.Common.{ℕ, ◌+◌, ◌<◌, ◌++◌, sym, ◌∙◌, arith, length-append}
use mathlib.Core.List.Memᴰ
use mathlib.Core.List.{Memᴰ}
use Rattle.algebra.specs.Sharing.{point}
use Rattle.rules.specs.Deal.{size}
use Rattle.nights.specs.Promise.{OnePolynomial, HadBack}
use Rattle.algebra.proofs.Same.{same, rest}
use Rattle.algebra.proofs.Members.{Without, without, upto, upto_below, upto-differ, length-upto}
use Rattle.algebra.proofs.Evaluation.{value_is, agree}
use Rattle.algebra.proofs.Coefficients.{apart}

pub one : OnePolynomial
one g sound k room cs ds lc ld who d enough inside h x =
    value_is p cs x ∙ rest (agree sound.prime point who (apart p point (λ i j e. omega arith) who d (λ i m. omega (arith, inside i m, sound.room))) cs ds (omega arith) (omega arith) (λ i m. same p _ _ (sym (value_is p cs (point i)) ∙ h i m ∙ value_is p ds (point i))) x) ∙ sym (value_is p ds x)
  where
    p : ℕ
    p = g.p

pub had_back_lem : HadBack
had_back_lem g sound cs ds lc ld said a b ma mb x =
    one g sound (g.f + 1) (omega arith) cs ds lc ld w.kept w.differ (omega (arith, w.enough, length-upto (size g), length-append a b, ma.2, mb.2)) below
    (λ i m. ma.1 i (below i m) (λ n. (w.from i m).1 (Memᴰ.append_left b n)) ∙ sym (mb.1 i (below i m) (λ n. (w.from i m).1 (Memᴰ.append_right a n)))) x
  where
    w : Without (upto (size g)) (a ++ b)
    w = without (upto (size g)) (a ++ b) (upto-differ (size g))

    below : (i : ℕ) → Memᴰ i w.kept → i < size g
    below i m = upto_below (size g) i (w.from i m).0
