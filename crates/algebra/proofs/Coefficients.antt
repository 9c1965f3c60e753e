-- Coefficients below p: sums, multiples and products of lists, what is left with one unknown set, and that such lists are determined by their values.
use mathlib.Core.Path.{◌≡◌, refl, ap, ◌∙◌, subst}
use mathlib.Core.Logic.{⊎_elim}
use mathlib.Core.List.{List, [], ◌∷◌, Memᴰ}
use Prim.Native.Nat.{ℕ, suc, max, ◌+◌, ◌*◌, ◌%◌, ◌<◌, ◌≤◌}
use native.Mathlib.Omega.{arith}
use native.Mathlib.Nat.{mod-lt, mod-eq_of_lt}
use lib.ListN.{length}
use Rattle.algebra.specs.Prime.{Prime}
use Rattle.algebra.specs.Counting.{Distinct}
use Rattle.algebra.specs.Polynomial.{Low2, Exact, Exact2, plus, times, product, plus2, times2, outer, set_first, set_second}
use Rattle.algebra.specs.Laws.{Apart}
use Rattle.algebra.proofs.Same.{Same, same, rest, back, equal, so, ◌⊞◌, ◌⊠◌, split, vanishes}
use Rattle.algebra.proofs.Evaluation.{eval, value_is, agree}
use Rattle.algebra.proofs.Rows.{eval2}
use Rattle.algebra.proofs.Members.{upto, upto_below, upto-differ, length-upto}

pub plus_is : (p : ℕ) (cs ds : List ℕ) (x : ℕ) → Same p (eval (plus p cs ds) x) (eval cs x + eval ds x)
unfolding eval plus
plus_is p [] ds x = equal (omega arith)
plus_is p (c ∷ cs) [] x = equal (omega arith)
plus_is p (c ∷ cs) (d ∷ ds) x = so (back p {n = c + d} refl ⊞ x ⊠ plus_is p cs ds x) (omega arith)

pub length-plus : (p : ℕ) (cs ds : List ℕ) → length (plus p cs ds) ≡ max (length cs) (length ds)
unfolding plus
length-plus p [] ds = omega arith
length-plus p (c ∷ cs) [] = omega arith
length-plus p (c ∷ cs) (d ∷ ds) = omega (arith, length-plus p cs ds)

pub times_is : (p s : ℕ) (cs : List ℕ) (x : ℕ) → Same p (eval (times p s cs) x) (s * eval cs x)
unfolding eval times
times_is p s [] x = equal (omega arith)
times_is p s (c ∷ cs) x = so (back p {n = s * c} refl ⊞ x ⊠ times_is p s cs x) (omega arith)

pub length-times : (p s : ℕ) (cs : List ℕ) → length (times p s cs) ≡ length cs
unfolding times
length-times p s [] = refl
length-times p s (c ∷ cs) = ap suc (length-times p s cs)

pub plus2_is : (p : ℕ) (rs qs : List (List ℕ)) (x y : ℕ) → Same p (eval2 (plus2 p rs qs) x y) (eval2 rs x y + eval2 qs x y)
unfolding eval2 plus2
plus2_is p [] qs x y = equal (omega arith)
plus2_is p (r ∷ rs) [] x y = equal (omega arith)
plus2_is p (r ∷ rs) (q ∷ qs) x y = so (plus_is p r q y ⊞ x ⊠ plus2_is p rs qs x y) (omega arith)

pub times2_is : (p s : ℕ) (rs : List (List ℕ)) (x y : ℕ) → Same p (eval2 (times2 p s rs) x y) (s * eval2 rs x y)
unfolding eval2 times2
times2_is p s [] x y = equal (omega arith)
times2_is p s (r ∷ rs) x y = so (times_is p s r y ⊞ x ⊠ times2_is p s rs x y) (omega arith)

pub low_times2 : (p s d e : ℕ) (rs : List (List ℕ)) → Low2 d e rs → Low2 d e (times2 p s rs)
unfolding times2
low_times2 p s d e rs l = record { rows = omega (arith, long rs, l.rows); each = each rs l.each }
  where
    long : (rs : List (List ℕ)) → length (times2 p s rs) ≡ length rs
    long [] = refl
    long (r ∷ rs) = ap suc (long rs)

    each : (rs : List (List ℕ)) → ((r : List ℕ) → Memᴰ r rs → length r ≤ e) → (r : List ℕ) → Memᴰ r (times2 p s rs) → length r ≤ e
    each [] h r m = elim m [ ]
    each (q ∷ rs) h r (Memᴰ.head w) = rw w (omega (arith, length-times p s q, h q (Memᴰ.head refl)))
    each (q ∷ rs) h r (Memᴰ.tail m) = each rs (λ a b. h a (Memᴰ.tail b)) r m

pub first_is : (p : ℕ) (rs : List (List ℕ)) (x y : ℕ) → Same p (eval (set_first p rs x) y) (eval2 rs x y)
unfolding eval eval2 set_first
first_is p [] x y = equal refl
first_is p (r ∷ rs) x y = so (plus_is p r (times p x (set_first p rs x)) y ⊞ times_is p x (set_first p rs x) y ⊞ x ⊠ first_is p rs x y) (omega arith)

pub second_is : (p : ℕ) (rs : List (List ℕ)) (x y : ℕ) → Same p (eval (set_second p rs y) x) (eval2 rs x y)
unfolding eval eval2 set_second
second_is p [] x y = equal refl
second_is p (r ∷ rs) x y = so (back p (value_is p r y) ⊞ x ⊠ second_is p rs x y) (omega arith)

pub product_is : (p : ℕ) (cs ds : List ℕ) (x : ℕ) → Same p (eval (product p cs ds) x) (eval cs x * eval ds x)
unfolding eval product
product_is p [] ds x = equal (omega arith)
product_is p (c ∷ cs) ds x = so (plus_is p (times p c ds) (0 ∷ product p cs ds) x ⊞ times_is p c ds x ⊞ x ⊠ product_is p cs ds x) (omega arith)

pub length-product : (p : ℕ) (cs ds : List ℕ) → length (product p cs ds) ≤ length cs + length ds
unfolding product
length-product p [] ds = omega arith
length-product p (c ∷ cs) ds = omega (arith, length-plus p (times p c ds) (0 ∷ product p cs ds), length-times p c ds, length-product p cs ds)

pub outer_is : (p : ℕ) (cs ds : List ℕ) (x y : ℕ) → Same p (eval2 (outer p cs ds) x y) (eval cs x * eval ds y)
unfolding eval eval2 outer
outer_is p [] ds x y = equal (omega arith)
outer_is p (c ∷ cs) ds x y = so (times_is p c ds y ⊞ x ⊠ outer_is p cs ds x y) (omega arith)

pub low_outer : (p : ℕ) (cs ds : List ℕ) → Low2 (length cs) (length ds) (outer p cs ds)
unfolding outer
low_outer p cs ds = record { rows = rows cs; each = each cs }
  where
    rows : (cs : List ℕ) → length (outer p cs ds) ≤ length cs
    rows [] = omega arith
    rows (c ∷ cs) = omega (arith, rows cs)

    each : (cs : List ℕ) → (r : List ℕ) → Memᴰ r (outer p cs ds) → length r ≤ length ds
    each [] r m = elim m [ ]
    each (c ∷ cs) r (Memᴰ.head e) = rw e (omega (arith, length-times p c ds))
    each (c ∷ cs) r (Memᴰ.tail m) = each cs r m

-- each below p
abbrev Small : ℕ → List ℕ → Type 0
Small p cs = (c : ℕ) → Memᴰ c cs → c < p

small_times : (p s : ℕ) (cs : List ℕ) → 1 ≤ p → Small p (times p s cs)
unfolding times
small_times p s [] h c m = elim m [ ]
small_times p s (d ∷ cs) h c (Memᴰ.head e) = rw e (mod-lt (s * d) h)
small_times p s (d ∷ cs) h c (Memᴰ.tail m) = small_times p s cs h c m

small_plus : (p : ℕ) (cs ds : List ℕ) → 1 ≤ p → length ds ≤ length cs → Small p cs → Small p (plus p cs ds)
unfolding plus
small_plus p [] [] h l s c m = elim m [ ]
small_plus p [] (d ∷ ds) h l s c m = absurd (omega arith)
small_plus p (b ∷ cs) [] h l s c m = s c m
small_plus p (b ∷ cs) (d ∷ ds) h l s c (Memᴰ.head e) = rw e (mod-lt (b + d) h)
small_plus p (b ∷ cs) (d ∷ ds) h l s c (Memᴰ.tail m) = small_plus p cs ds h (omega arith) (λ a k. s a (Memᴰ.tail k)) c m

pub exact_plus : (p n : ℕ) (cs ds : List ℕ) → 1 ≤ p → Exact p n cs → length ds ≤ n → Exact p n (plus p cs ds)
exact_plus p n cs ds h r l = record { count = omega (arith, length-plus p cs ds, r.count); small = small_plus p cs ds h (omega (arith, r.count)) r.small }

pub exact_plus2 : (p d e : ℕ) (rs qs : List (List ℕ)) → 1 ≤ p → Exact2 p d e rs → Low2 d e qs → Exact2 p d e (plus2 p rs qs)
unfolding plus2
exact_plus2 p d e rs qs h r l = record { count = count rs qs (omega (arith, r.count, l.rows)) ∙ r.count; each = each rs qs (omega (arith, r.count, l.rows)) r.each l.each }
  where
    count : (rs qs : List (List ℕ)) → length qs ≤ length rs → length (plus2 p rs qs) ≡ length rs
    count [] [] l = refl
    count [] (q ∷ qs) l = absurd (omega arith)
    count (r ∷ rs) [] l = refl
    count (r ∷ rs) (q ∷ qs) l = ap suc (count rs qs (omega arith))

    each : (rs qs : List (List ℕ)) → length qs ≤ length rs → ((r : List ℕ) → Memᴰ r rs → Exact p e r) → ((q : List ℕ) → Memᴰ q qs → length q ≤ e) → (r : List ℕ) → Memᴰ r (plus2 p rs qs) → Exact p e r
    each [] [] l a b r m = elim m [ ]
    each [] (q ∷ qs) l a b r m = absurd (omega arith)
    each (s ∷ rs) [] l a b r m = a r m
    each (s ∷ rs) (q ∷ qs) l a b r (Memᴰ.head w) = rw w (exact_plus p e s q h (a s (Memᴰ.head refl)) (b q (Memᴰ.head refl)))
    each (s ∷ rs) (q ∷ qs) l a b r (Memᴰ.tail m) = each rs qs (omega arith) (λ t k. a t (Memᴰ.tail k)) (λ t k. b t (Memᴰ.tail k)) r m

pub exact_second : (p : ℕ) (rs : List (List ℕ)) (y : ℕ) → 1 ≤ p → Exact p (length rs) (set_second p rs y)
unfolding set_second
exact_second p rs y h = record { count = count rs; small = small rs }
  where
    count : (rs : List (List ℕ)) → length (set_second p rs y) ≡ length rs
    count [] = refl
    count (r ∷ rs) = ap suc (count rs)

    small : (rs : List (List ℕ)) → Small p (set_second p rs y)
    small [] c m = elim m [ ]
    small (r ∷ rs) c (Memᴰ.head e) = rw (e, value_is p r y) (mod-lt (eval r y) h)
    small (r ∷ rs) c (Memᴰ.tail m) = small rs c m

pub exact_first : (p e : ℕ) (rs : List (List ℕ)) (x : ℕ) → 1 ≤ p → 1 ≤ length rs → ((r : List ℕ) → Memᴰ r rs → Exact p e r) → Exact p e (set_first p rs x)
unfolding set_first
exact_first p e [] x h l a = absurd (omega arith)
exact_first p e (r ∷ rs) x h l a = exact_plus p e r (times p x (set_first p rs x)) h (a r (Memᴰ.head refl)) (omega (arith, length-times p x (set_first p rs x), low rs (λ t k. a t (Memᴰ.tail k))))
  where
    low : (rs : List (List ℕ)) → ((r : List ℕ) → Memᴰ r rs → Exact p e r) → length (set_first p rs x) ≤ e
    low [] a = omega arith
    low (r ∷ rs) a = omega (arith, length-plus p r (times p x (set_first p rs x)), length-times p x (set_first p rs x), (a r (Memᴰ.head refl)).count, low rs (λ t k. a t (Memᴰ.tail k)))

-- different indices stand apart, if their points are different and below p
pub apart : (p : ℕ) (pt : ℕ → ℕ) → ((i j : ℕ) → pt i ≡ pt j → i ≡ j) → (who : List ℕ) → Distinct who → ((i : ℕ) → Memᴰ i who → pt i < p) → Apart p pt who
unfolding Distinct Apart
apart p pt one [] d h = tt
apart p pt one (i ∷ is) d h = (λ j m s. d.0 (subst (λ n. Memᴰ n is) (same_point j m s) m), apart p pt one is d.1 (λ j m. h j (Memᴰ.tail m)))
  where
    same_point : (j : ℕ) → Memᴰ j is → pt j % p ≡ pt i % p → j ≡ i
    same_point j m s = one j i (omega (arith, mod-eq_of_lt (h j (Memᴰ.tail m)), mod-eq_of_lt (h i (Memᴰ.head refl)), s))

-- a list of n < p coefficients below p is determined by its values
pub determined : {p : ℕ} → Prime p → (n : ℕ) → n < p → (cs ds : List ℕ) → Exact p n cs → Exact p n ds → ((x : ℕ) → Same p (eval cs x) (eval ds x)) → cs ≡ ds
unfolding eval
determined prime n room [] [] rc rd h = refl
determined prime n room [] (d ∷ ds) rc rd h = absurd (omega (arith, rc.count, rd.count))
determined prime n room (c ∷ cs) [] rc rd h = absurd (omega (arith, rc.count, rd.count))
determined {p} prime n room (c ∷ cs) (d ∷ ds) rc rd h = joined head (determined prime (length cs) (omega (arith, rc.count)) cs ds
    (record { count = refl; small = λ a m. rc.small a (Memᴰ.tail m) })
    (record { count = omega (arith, rc.count, rd.count); small = λ a m. rd.small a (Memᴰ.tail m) })
    (agree prime suc is (apart p suc (λ i j e. omega arith) is (upto-differ (length cs)) near) cs ds (omega (arith, length-upto (length cs))) (omega (arith, length-upto (length cs), rc.count, rd.count)) at))
  where
    joined : c ≡ d → cs ≡ ds → c ∷ cs ≡ d ∷ ds
    joined e f = cc

    is : List ℕ
    is = upto (length cs)

    head : c ≡ d
    head = omega (arith, mod-eq_of_lt (rc.small c (Memᴰ.head refl)), mod-eq_of_lt (rd.small d (Memᴰ.head refl)), rest (so {a = c} {b = d} (h 0) (omega arith)))

    near : (i : ℕ) → Memᴰ i is → suc i < p
    near i m = omega (arith, upto_below (length cs) i m, rc.count)

    at : (i : ℕ) → Memᴰ i is → Same p (eval cs (suc i)) (eval ds (suc i))
    at i m = ⊎_elim
        (λ z. absurd (omega (arith, vanishes z, mod-eq_of_lt (near i m))))
        (λ s. s)
        (split prime (suc i) 0 (eval cs (suc i)) (eval ds (suc i)) (so (h (suc i)) (omega (arith, head))))

-- no two lists of coefficients below p come to the same by adding one
apart-plus : (p : ℕ) (qs cs ds : List ℕ) → 1 ≤ p → Small p cs → Small p ds → length cs ≡ length ds → plus p cs qs ≡ plus p ds qs → cs ≡ ds
unfolding plus
apart-plus p qs [] [] h a b l e = refl
apart-plus p qs [] (d ∷ ds) h a b l e = absurd (omega arith)
apart-plus p qs (c ∷ cs) [] h a b l e = absurd (omega arith)
apart-plus p [] (c ∷ cs) (d ∷ ds) h a b l e = e
apart-plus p (q ∷ qs) (c ∷ cs) (d ∷ ds) h a b l e =
    both (first (cc)) (apart-plus p qs cs ds h (λ x m. a x (Memᴰ.tail m)) (λ x m. b x (Memᴰ.tail m)) (omega arith) (cc))
  where
    both : c ≡ d → cs ≡ ds → c ∷ cs ≡ d ∷ ds
    both u v = cc

    first : (c + q) % p ≡ (d + q) % p → c ≡ d
    first u = omega (arith, mod-eq_of_lt (a c (Memᴰ.head refl)), mod-eq_of_lt (b d (Memᴰ.head refl)), rest (so {a = c} {b = d} (same p (c + q) (d + q) u) (omega arith)))

pub apart-plus2 : (p d e : ℕ) → 1 ≤ p → (qs rs ss : List (List ℕ)) → Exact2 p d e rs → Exact2 p d e ss → plus2 p rs qs ≡ plus2 p ss qs → rs ≡ ss
unfolding plus2
apart-plus2 p d e h qs [] [] r s eq = refl
apart-plus2 p d e h qs [] (b ∷ ss) r s eq = absurd (omega (arith, r.count, s.count))
apart-plus2 p d e h qs (a ∷ rs) [] r s eq = absurd (omega (arith, r.count, s.count))
apart-plus2 p d e h [] (a ∷ rs) (b ∷ ss) r s eq = eq
apart-plus2 p d e h (q ∷ qs) (a ∷ rs) (b ∷ ss) r s eq = both
    (apart-plus p q a b h (r.each a (Memᴰ.head refl)).small (s.each b (Memᴰ.head refl)).small (omega (arith, (r.each a (Memᴰ.head refl)).count, (s.each b (Memᴰ.head refl)).count)) (cc))
    (apart-plus2 p (length rs) e h qs rs ss (record { count = refl; each = λ t m. r.each t (Memᴰ.tail m) })
    (record { count = omega (arith, r.count, s.count); each = λ t m. s.each t (Memᴰ.tail m) }) (cc))
  where
    both : a ≡ b → rs ≡ ss → a ∷ rs ≡ b ∷ ss
    both u v = cc
