-- Polynomials in one unknown: their values as whole numbers, of which `value` is the remainder, and few roots.
use mathlib.Core.Path.{◌≡◌, refl, sym, ap, ◌∙◌}
use mathlib.Core.Logic.{⊎_elim}
use mathlib.Core.List.{List, [], ◌∷◌, Memᴰ}
use Prim.Native.Nat.{ℕ, suc, pred, max, ◌+◌, ◌*◌, ◌%◌, ◌≤◌}
use native.Mathlib.Omega.{arith}
use native.Mathlib.Nat.{zero-mod}
use lib.ListN.{length}
use Rattle.algebra.specs.Prime.{Prime}
use Rattle.algebra.specs.Polynomial.{value}
use Rattle.algebra.specs.Laws.{Apart}
use Rattle.algebra.proofs.Same.{Same, rest, back, equal, so, ◌⊞◌, ◌⊟◌, ◌⊠◌, split}

unfoldable pub eval : List ℕ → ℕ → ℕ
eval [] x = 0
eval (c ∷ cs) x = c + x * eval cs x

pub value_is : (p : ℕ) (cs : List ℕ) (x : ℕ) → value p cs x ≡ eval cs x % p
unfolding eval value
value_is p [] x = sym (zero-mod p)
value_is p (c ∷ cs) x = rest (so (x ⊠ back p (value_is p cs x)) (omega arith))

pub down : (p : ℕ) (cs : List ℕ) (x : ℕ) {n : ℕ} → Same p (eval cs x) n → value p cs x ≡ n % p
down p cs x s = value_is p cs x ∙ rest s

pub add : List ℕ → List ℕ → List ℕ
add [] ds = ds
add (c ∷ cs) [] = c ∷ cs
add (c ∷ cs) (d ∷ ds) = (c + d) ∷ add cs ds

pub eval_add : (cs ds : List ℕ) (x : ℕ) → eval (add cs ds) x ≡ eval cs x + eval ds x
unfolding eval add
eval_add [] ds x = omega arith
eval_add (c ∷ cs) [] x = omega arith
eval_add (c ∷ cs) (d ∷ ds) x = omega (arith, ap (λ n. x * n) (eval_add cs ds x))

pub length-add : (cs ds : List ℕ) → length (add cs ds) ≡ max (length cs) (length ds)
unfolding add
length-add [] ds = omega arith
length-add (c ∷ cs) [] = omega arith
length-add (c ∷ cs) (d ∷ ds) = omega (arith, length-add cs ds)

pub scale : ℕ → List ℕ → List ℕ
scale s [] = []
scale s (c ∷ cs) = s * c ∷ scale s cs

pub eval-scale : (s : ℕ) (cs : List ℕ) (x : ℕ) → eval (scale s cs) x ≡ s * eval cs x
unfolding eval scale
eval-scale s [] x = omega arith
eval-scale s (c ∷ cs) x = omega (arith, ap (λ n. x * n) (eval-scale s cs x))

pub length-scale : (s : ℕ) (cs : List ℕ) → length (scale s cs) ≡ length cs
unfolding scale
length-scale s [] = refl
length-scale s (c ∷ cs) = ap suc (length-scale s cs)

-- the quotient of c ∷ cs by X - r, whatever c is
over : List ℕ → ℕ → List ℕ
over [] r = []
over (c ∷ cs) r = eval (c ∷ cs) r ∷ over cs r

over_is : (cs : List ℕ) (r x : ℕ) → x * eval cs x + r * eval (over cs r) x ≡ x * eval (over cs r) x + r * eval cs r
unfolding eval over
over_is [] r x = omega arith
over_is (c ∷ cs) r x = omega (arith, ap (λ n. x * n) (over_is cs r x))

length_over : (cs : List ℕ) (r : ℕ) → length (over cs r) ≡ length cs
unfolding over
length_over [] r = refl
length_over (c ∷ cs) r = ap suc (length_over cs r)

pub quotient : List ℕ → ℕ → List ℕ
quotient [] r = []
quotient (c ∷ cs) r = over cs r

-- cs is (X - r) times its quotient, and its value at r
pub factor : (cs : List ℕ) (r x : ℕ) → eval cs x + r * eval (quotient cs r) x ≡ x * eval (quotient cs r) x + eval cs r
unfolding eval quotient
factor [] r x = omega arith
factor (c ∷ cs) r x = omega (arith, over_is cs r x)

length-quotient : (cs : List ℕ) (r : ℕ) → length (quotient cs r) ≡ pred (length cs)
unfolding quotient
length-quotient [] r = refl
length-quotient (c ∷ cs) r = length_over cs r

empty : (cs ds : List ℕ) → length cs ≤ 0 → length ds ≤ 0 → cs ≡ ds
empty [] [] h k = refl
empty [] (d ∷ ds) h k = absurd (omega arith)
empty (c ∷ cs) ds h k = absurd (omega arith)

-- two polynomials that agree at as many points as they have coefficients agree everywhere
pub agree : {p : ℕ} → Prime p → (pt : ℕ → ℕ) (is : List ℕ) → Apart p pt is → (cs ds : List ℕ) → length cs ≤ length is → length ds ≤ length is →
    ((i : ℕ) → Memᴰ i is → Same p (eval cs (pt i)) (eval ds (pt i))) → (x : ℕ) → Same p (eval cs x) (eval ds x)
unfolding Apart
agree prime pt [] apart cs ds hc hd h x = equal (ap (λ l. eval l x) (empty cs ds hc hd))
agree {p} prime pt (i ∷ is) apart cs ds hc hd h x =
    finish (agree prime pt is apart.1 (quotient cs r) (quotient ds r) (omega (arith, length-quotient cs r)) (omega (arith, length-quotient ds r)) others x)
  where
    r : ℕ
    r = pt i

    here : Same p (eval cs r) (eval ds r)
    here = h i (Memᴰ.head refl)

    others : (j : ℕ) → Memᴰ j is → Same p (eval (quotient cs r) (pt j)) (eval (quotient ds r) (pt j))
    others j m = ⊎_elim (λ e. absurd (apart.0 j m (rest e))) (λ e. e)
        (split prime (pt j) r _ _ (so (h j (Memᴰ.tail m) ⊟ here) (omega (arith, factor cs r (pt j), factor ds r (pt j)))))

    finish : Same p (eval (quotient cs r) x) (eval (quotient ds r) x) → Same p (eval cs x) (eval ds x)
    finish q = so (x ⊠ q ⊟ r ⊠ q ⊞ here) (omega (arith, factor cs r x, factor ds r x))
