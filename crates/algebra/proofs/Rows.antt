-- Polynomials in two unknowns, as rows of coefficients: one through given polynomials, and the one that shares which agree are of.
use mathlib.Core.Path.{◌≡◌, refl, sym, ap, ◌∙◌}
use mathlib.Core.Logic.{⊎_elim}
use mathlib.Core.List.{List, [], ◌∷◌, Memᴰ}
use Prim.Native.Nat.{ℕ, suc, pred, ◌+◌, ◌*◌, ◌%◌, ◌≤◌}
use native.Mathlib.Omega.{arith}
use native.Mathlib.Nat.{zero-mod}
use lib.ListN.{length}
use Rattle.algebra.specs.Prime.{Prime}
use Rattle.algebra.specs.Polynomial.{value2}
use Rattle.algebra.specs.Laws.{Apart}
use Rattle.algebra.proofs.Same.{Same, rest, back, so, ◌⊞◌, ◌⊟◌, ◌⊠◌, minus, minus_is}
use Rattle.algebra.proofs.Evaluation.{eval, value_is, add, eval_add, length-add, scale, eval-scale, length-scale, agree}
use Rattle.algebra.proofs.Inverse.{inverse}

unfoldable pub eval2 : List (List ℕ) → ℕ → ℕ → ℕ
eval2 [] x y = 0
eval2 (r ∷ rs) x y = eval r y + x * eval2 rs x y

pub value2_is : (p : ℕ) (rs : List (List ℕ)) (x y : ℕ) → value2 p rs x y ≡ eval2 rs x y % p
unfolding eval2 value2
value2_is p [] x y = sym (zero-mod p)
value2_is p (r ∷ rs) x y = rest (so (back p (value_is p r y) ⊞ x ⊠ back p (value2_is p rs x y)) (omega arith))

-- in the first unknown alone, and in the second alone
pub column : List (List ℕ) → ℕ → List ℕ
column [] y = []
column (r ∷ rs) y = eval r y ∷ column rs y

pub column_is : (rs : List (List ℕ)) (x y : ℕ) → eval (column rs y) x ≡ eval2 rs x y
unfolding eval eval2 column
column_is [] x y = refl
column_is (r ∷ rs) x y = ap (λ n. eval r y + x * n) (column_is rs x y)

pub length-column : (rs : List (List ℕ)) (y : ℕ) → length (column rs y) ≡ length rs
unfolding column
length-column [] y = refl
length-column (r ∷ rs) y = ap suc (length-column rs y)

pub row : List (List ℕ) → ℕ → List ℕ
row [] x = []
row (r ∷ rs) x = add r (scale x (row rs x))

pub row_is : (rs : List (List ℕ)) (x y : ℕ) → eval (row rs x) y ≡ eval2 rs x y
unfolding eval eval2 row
row_is [] x y = refl
row_is (r ∷ rs) x y = simp (eval_add, eval-scale, row_is rs x y)

abbrev pub Rows : ℕ → List (List ℕ) → Type 0
Rows e rs = (r : List ℕ) → Memᴰ r rs → length r ≤ e

pub length-row : (e : ℕ) (rs : List (List ℕ)) (x : ℕ) → Rows e rs → length (row rs x) ≤ e
unfolding row
length-row e [] x h = omega arith
length-row e (r ∷ rs) x h =
    omega (arith, length-add r (scale x (row rs x)), length-scale x (row rs x), h r (Memᴰ.head refl), length-row e rs x (λ t m. h t (Memᴰ.tail m)))

-- want + (X + r) rs
raise : List ℕ → ℕ → List (List ℕ) → List (List ℕ)
raise w r [] = w ∷ []
raise w r (c ∷ cs) = add w (scale r c) ∷ raise c r cs

raise_is : (w : List ℕ) (r : ℕ) (rs : List (List ℕ)) (x y : ℕ) → eval2 (raise w r rs) x y ≡ eval w y + (x + r) * eval2 rs x y
unfolding eval2 raise
raise_is w r [] x y = omega arith
raise_is w r (c ∷ cs) x y = omega (arith, eval_add w (scale r c) y, eval-scale r c y, ap (λ n. x * n) (raise_is c r cs x y))

length-raise : (w : List ℕ) (r : ℕ) (rs : List (List ℕ)) → length (raise w r rs) ≡ suc (length rs)
unfolding raise
length-raise w r [] = refl
length-raise w r (c ∷ cs) = ap suc (length-raise c r cs)

raise-rows : (e : ℕ) (w : List ℕ) (r : ℕ) (rs : List (List ℕ)) → length w ≤ e → Rows e rs → Rows e (raise w r rs)
unfolding raise
raise-rows e w r [] hw h s (Memᴰ.head q) = rw q hw
raise-rows e w r [] hw h s (Memᴰ.tail m) = elim m [ ]
raise-rows e w r (c ∷ cs) hw h s (Memᴰ.head q) = rw q (omega (arith, length-add w (scale r c), length-scale r c, h c (Memᴰ.head refl)))
raise-rows e w r (c ∷ cs) hw h s (Memᴰ.tail m) = raise-rows e c r cs (h c (Memᴰ.head refl)) (λ t n. h t (Memᴰ.tail n)) s m

-- the polynomial that is each wanted one at its point
pub record Through (p : ℕ) (pt : ℕ → ℕ) (is : List ℕ) (e : ℕ) (want : ℕ → List ℕ) : Type 0 where
  pub rows : List (List ℕ)
  pub size : length rows ≡ length is
  pub low : Rows e rows
  pub fits : (i : ℕ) → Memᴰ i is → (y : ℕ) → Same p (eval2 rows (pt i) y) (eval (want i) y)

pub through : {p : ℕ} → Prime p → (pt : ℕ → ℕ) (is : List ℕ) → Apart p pt is → (e : ℕ) (want : ℕ → List ℕ) →
    ((i : ℕ) → Memᴰ i is → length (want i) ≤ e) → Through p pt is e want
unfolding Apart
through prime pt [] apart e want h = record { rows = []; size = refl; low = λ r m. elim m [ ]; fits = λ i m. elim m [ ] }
through {p} prime pt (i ∷ is) apart e want h = built (through prime pt is apart.1 e slope low)
  where
    r : ℕ
    r = minus p 0 (pt i)

    r_is : Same p (r + pt i) 0
    r_is = minus_is prime.0 0 (pt i)

    w : List ℕ
    w = want i

    over : ℕ → ℕ
    over j = (inverse prime (pt j + r)).0

    slope : ℕ → List ℕ
    slope j = scale (over j) (add (want j) (scale (pred p) w))

    slope_is : (j y : ℕ) → eval (slope j) y ≡ over j * minus p (eval (want j) y) (eval w y)
    slope_is j y = simp (eval-scale, eval_add)

    low : (j : ℕ) → Memᴰ j is → length (slope j) ≤ e
    low j m = simp (length-scale, length-add) (omega (arith, h i (Memᴰ.head refl), h j (Memᴰ.tail m)))

    built : Through p pt is e slope → Through p pt (i ∷ is) e want
    built t = record { rows = raise w r t.rows; size = length-raise w r t.rows ∙ ap suc t.size; low = raise-rows e w r t.rows (h i (Memᴰ.head refl)) t.low; fits = fits }
      where
        fits : (j : ℕ) → Memᴰ j (i ∷ is) → (y : ℕ) → Same p (eval2 (raise w r t.rows) (pt j) y) (eval (want j) y)
        fits j (Memᴰ.head q) y = rw q (so (eval2 t.rows (pt i) y ⊠ r_is) (omega (arith, raise_is w r t.rows (pt i) y)))
        fits j (Memᴰ.tail m) y = ⊎_elim
            (λ z. absurd (apart.0 j m (rest (so (z ⊟ r_is) (omega arith)))))
            (λ u. so ((pt j + r) ⊠ t.fits j m y ⊞ minus p (eval (want j) y) (eval w y) ⊠ u ⊞ minus_is prime.0 (eval (want j) y) (eval w y))
            (omega (arith, raise_is w r t.rows (pt j) y, ap (λ n. (pt j + r) * n) (slope_is j y))))
            (inverse prime (pt j + r)).1

-- Shares that agree are of one polynomial: those of W agree with those of V, and is and js are as many of V as the two degrees ask for.
pub surface : {p : ℕ} → Prime p → (pt : ℕ → ℕ) (is js : List ℕ) → Apart p pt is → Apart p pt js → (V W : ℕ → Type 0) → ((i : ℕ) → V i → W i) →
    ((i : ℕ) → Memᴰ i is → V i) → ((j : ℕ) → Memᴰ j js → V j) → (across down : ℕ → List ℕ) →
    ((i : ℕ) → W i → (length (across i) ≤ length is) × (length (down i) ≤ length js)) →
    ((i k : ℕ) → W i → V k → Same p (eval (across i) (pt k)) (eval (down k) (pt i)) × Same p (eval (down i) (pt k)) (eval (across k) (pt i))) →
    (rs : List (List ℕ)) × (length rs ≡ length is) × Rows (length js) rs ×
    ((i : ℕ) → W i → (x : ℕ) → Same p (eval (across i) x) (eval2 rs x (pt i)) × Same p (eval (down i) x) (eval2 rs (pt i) x))
surface {p} prime pt is js apart-is apart-js V W more hi hj across down low fit = (rs, t.size, t.low, λ i w x. (acrosses i w x, downs i w x))
  where
    t : Through p pt is (length js) down
    t = through prime pt is apart-is (length js) down (λ i m. (low i (more i (hi i m))).1)

    rs : List (List ℕ)
    rs = t.rows

    acrosses : (i : ℕ) → W i → (x : ℕ) → Same p (eval (across i) x) (eval2 rs x (pt i))
    acrosses i w x = rw column_is at (agree prime pt is apart-is (across i) (column rs (pt i)) (low i w).0 (omega (arith, length-column rs (pt i), t.size))
        (λ k m. rw column_is (so ((fit i k w (hi k m)).0 ⊟ t.fits k m (pt i)) (omega arith))) x)

    downs : (i : ℕ) → W i → (y : ℕ) → Same p (eval (down i) y) (eval2 rs (pt i) y)
    downs i w y = rw row_is at (agree prime pt js apart-js (down i) (row rs (pt i)) (low i w).1 (length-row (length js) rs (pt i) t.low)
        (λ k m. rw row_is (so ((fit i k w (hj k m)).1 ⊞ acrosses k (more k (hj k m)) (pt i)) (omega arith))) y)
