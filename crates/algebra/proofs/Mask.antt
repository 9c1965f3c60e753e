-- The vanishing polynomial of some points, and the product of two polynomials in an unknown each.
use mathlib.Core.Path.{◌≡◌, refl, ap, subst, fun_ext}
use mathlib.Core.Logic.{⊎_elim}
use mathlib.Core.List.{List, [], ◌∷◌, Memᴰ}
use Prim.Native.Nat.{ℕ, suc, ◌+◌, ◌*◌}
use native.Mathlib.Omega.{arith}
use lib.ListN.{length}
use Rattle.algebra.specs.Prime.{Prime}
use Rattle.algebra.proofs.Same.{Same, equal, so, ◌⊞◌, ◌⊟◌, ◌⊠◌, minus, minus_is}
use Rattle.algebra.proofs.Inverse.{inverse}
use Rattle.algebra.proofs.Evaluation.{eval, add, eval_add, length-add, scale, eval-scale, length-scale}
use Rattle.algebra.proofs.Rows.{eval2, Rows}

-- 1 at 0, and 0 at each of these points
pub record Vanishes (p : ℕ) (pt : ℕ → ℕ) (is : List ℕ) : Type 0 where
  pub cs : List ℕ
  pub size : length cs ≡ suc (length is)
  pub here : Same p (eval cs 0) 1
  pub there : (i : ℕ) → Memᴰ i is → Same p (eval cs (pt i)) 0

pub vanishing : {p : ℕ} → Prime p → (pt : ℕ → ℕ) (is : List ℕ) → ((i : ℕ) → Memᴰ i is → Same p (pt i) 0 → ⊥) → Vanishes p pt is
unfolding eval
vanishing prime pt [] h = record { cs = 1 ∷ []; size = refl; here = equal (omega arith); there = λ i m. elim m [ ] }
vanishing {p} prime pt (i ∷ is) h = built (vanishing prime pt is (λ j m. h j (Memᴰ.tail m)))
  where
    r : ℕ
    r = minus p 0 (pt i)

    r_is : Same p (r + pt i) 0
    r_is = minus_is prime.0 0 (pt i)

    b : ℕ
    b = (inverse prime r).0

    unit : Same p (r * b) 1
    unit = ⊎_elim (λ z. absurd (h i (Memᴰ.head refl) (so (r_is ⊟ z) (omega arith)))) (λ u. u) (inverse prime r).1

    built : Vanishes p pt is → Vanishes p pt (i ∷ is)
    built t = record {
      cs = more;
      size = simp (length-scale, length-add) (omega (arith, t.size));
      here = so (eval t.cs 0 ⊠ unit ⊞ t.here) (omega (arith, more_is 0));
      there = there;
    }
      where
        more : List ℕ
        more = scale b (add (0 ∷ t.cs) (scale r t.cs))

        more_is : (x : ℕ) → eval more x ≡ b * (x * eval t.cs x + r * eval t.cs x)
        more_is x = simp (eval-scale, eval_add) (omega arith)

        there : (j : ℕ) → Memᴰ j (i ∷ is) → Same p (eval more (pt j)) 0
        there j (Memᴰ.head q) = rw q (so ((b * eval t.cs (pt i)) ⊠ r_is) (omega (arith, more_is (pt i))))
        there j (Memᴰ.tail m) = so ((b * (pt j + r)) ⊠ t.there j m) (omega (arith, more_is (pt j)))

-- none of these stands at 0
abbrev pub Off : ℕ → (ℕ → ℕ) → List ℕ → Type 0
Off p pt l = (i : ℕ) → Memᴰ i l → Same p (pt i) 0 → ⊥

-- it depends on the points alone
pub vanishing_same : {p : ℕ} (prime : Prime p) (pt : ℕ → ℕ) (a b : List ℕ) (ha : Off p pt a) → a ≡ b → (hb : Off p pt b) → (vanishing prime pt a ha).cs ≡ (vanishing prime pt b hb).cs
vanishing_same {p} prime pt a b ha e = subst (λ c. (hc : Off p pt c) → (vanishing prime pt a ha).cs ≡ (vanishing prime pt c hc).cs) e
    (λ hc. ap (λ (h : Off p pt a). (vanishing prime pt a h).cs) (fun_ext (λ i. fun_ext (λ m. fun_ext (λ z. absurd (ha i m z))))))

-- a polynomial in the first unknown times one in the second
pub cross : List ℕ → List ℕ → List (List ℕ)
cross [] ds = []
cross (c ∷ cs) ds = scale c ds ∷ cross cs ds

pub cross_is : (cs ds : List ℕ) (x y : ℕ) → eval2 (cross cs ds) x y ≡ eval cs x * eval ds y
unfolding eval eval2 cross
cross_is [] ds x y = omega arith
cross_is (c ∷ cs) ds x y = omega (arith, eval-scale c ds y, ap (λ n. x * n) (cross_is cs ds x y))

pub length-cross : (cs ds : List ℕ) → length (cross cs ds) ≡ length cs
unfolding cross
length-cross [] ds = refl
length-cross (c ∷ cs) ds = ap suc (length-cross cs ds)

pub cross-rows : (cs ds : List ℕ) → Rows (length ds) (cross cs ds)
unfolding cross
cross-rows [] ds r m = elim m [ ]
cross-rows (c ∷ cs) ds r (Memᴰ.head q) = rw q (omega (arith, length-scale c ds))
cross-rows (c ∷ cs) ds r (Memᴰ.tail m) = cross-rows cs ds r m
