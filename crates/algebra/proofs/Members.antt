-- Lists with no number twice: what is left of one without others, and how many those are.
use mathlib.Core.Path.{◌≡◌, refl, sym, ap, ◌∙◌, subst, fun_ext}
use mathlib.Core.Bool.{Bool, true, false, cond, ◌||◌}
use mathlib.Core.List.Memᴰ
use mathlib.Core.List.{List, [], ◌∷◌, Memᴰ}
use Prim.Native.Nat.{ℕ, zero, suc, ◌+◌, ◌<◌, ◌≤◌}
use native.Mathlib.Omega.{arith}
use native.Mathlib.Decide.{ℕ_discrete}
use lib.Dec.{T, eqb, eqb→eq, eqb_refl}
use lib.ListN.{length}
use Rattle.algebra.specs.Counting.{Distinct, count}

pub record Without (who a : List ℕ) : Type 0 where
  pub kept : List ℕ
  pub differ : Distinct kept
  pub from : (i : ℕ) → Memᴰ i kept → Memᴰ i who × (Memᴰ i a → ⊥)
  pub enough : length who ≤ length kept + length a

drop : (x : ℕ) (l : List ℕ) → Distinct l → Without l (x ∷ [])
unfolding Distinct
drop x [] d = record { kept = []; differ = tt; from = λ i m. elim m [ ]; enough = omega arith }
drop x (y ∷ l) d = go (ℕ_discrete y x) (drop x l d.1)
  where
    go : Dec (y ≡ x) → Without l (x ∷ []) → Without (y ∷ l) (x ∷ [])
    go (yes e) o = record { kept = l; differ = d.1; from = λ i m. (Memᴰ.tail m, λ q. d.0 (Memᴰ.cast (e ∙ sym (Memᴰ.eq_of_singleton q)) m)); enough = omega arith }
    go (no n) o = record { kept = y ∷ o.kept; differ = (λ m. d.0 (o.from y m).0, o.differ); from = from; enough = omega (arith, o.enough) }
      where
        from : (i : ℕ) → Memᴰ i (y ∷ o.kept) → Memᴰ i (y ∷ l) × (Memᴰ i (x ∷ []) → ⊥)
        from i (Memᴰ.head e) = (Memᴰ.head e, λ q. n (sym e ∙ Memᴰ.eq_of_singleton q))
        from i (Memᴰ.tail m) = (Memᴰ.tail (o.from i m).0, (o.from i m).1)

pub without : (who a : List ℕ) → Distinct who → Without who a
without who [] d = record { kept = who; differ = d; from = λ i m. (m, λ n. elim n [ ]); enough = omega arith }
without who (x ∷ a) d = next (without who a d)
  where
    next : Without who a → Without who (x ∷ a)
    next w = record { kept = o.kept; differ = o.differ; from = from; enough = omega (arith, o.enough, w.enough) }
      where
        o : Without w.kept (x ∷ [])
        o = drop x w.kept w.differ

        from : (i : ℕ) → Memᴰ i o.kept → Memᴰ i who × (Memᴰ i (x ∷ a) → ⊥)
        from i m = ((w.from i (o.from i m).0).0, other)
          where
            other : Memᴰ i (x ∷ a) → ⊥
            other (Memᴰ.head e) = (o.from i m).1 (Memᴰ.head e)
            other (Memᴰ.tail n) = (w.from i (o.from i m).0).1 n

-- so many of them
pub record Part (n : ℕ) (who : List ℕ) : Type 0 where
  pub kept : List ℕ
  pub count : length kept ≡ n
  pub differ : Distinct kept
  pub from : (i : ℕ) → Memᴰ i kept → Memᴰ i who

pub some : (n : ℕ) (who : List ℕ) → n ≤ length who → Distinct who → Part n who
unfolding Distinct
some zero who h d = record { kept = []; count = refl; differ = tt; from = λ i m. elim m [ ] }
some (suc n) [] h d = absurd (omega arith)
some (suc n) (x ∷ who) h d = more (some n who (omega arith) d.1)
  where
    more : Part n who → Part (suc n) (x ∷ who)
    more s = record { kept = x ∷ s.kept; count = ap suc s.count; differ = (λ m. d.0 (s.from x m), s.differ); from = from }
      where
        from : (i : ℕ) → Memᴰ i (x ∷ s.kept) → Memᴰ i (x ∷ who)
        from i (Memᴰ.head e) = Memᴰ.head e
        from i (Memᴰ.tail m) = Memᴰ.tail (s.from i m)

-- those below n that pass a test
pub those : ℕ → (ℕ → Bool) → List ℕ
those zero l = []
those (suc n) l = cond (l n) (n ∷ those n l) (those n l)

pub length-those : (n : ℕ) (l : ℕ → Bool) → length (those n l) ≡ count n l
unfolding those count
length-those zero l = refl
length-those (suc n) l = by (l n) (length-those n l)
  where
    by : (b : Bool) → length (those n l) ≡ count n l → length (cond b (n ∷ those n l) (those n l)) ≡ cond b 1 0 + count n l
    by true e = omega arith
    by false e = omega arith

pub those_all : (n i : ℕ) (l : ℕ → Bool) → i < n → T (l i) → Memᴰ i (those n l)
unfolding those
those_all zero i l h t = absurd (omega arith)
those_all (suc n) i l h t = by (l n) refl (λ k. those_all n i l k t)
  where
    by : (b : Bool) → l n ≡ b → (i < n → Memᴰ i (those n l)) → Memᴰ i (cond b (n ∷ those n l) (those n l))
    by true e f = elim (ℕ_discrete i n) [ yes q ↦ Memᴰ.head q | no ne ↦ Memᴰ.tail (f (omega arith)) ]
    by false e f = elim (ℕ_discrete i n) [ yes q ↦ absurd (subst T (ap l q ∙ e) t) | no ne ↦ f (omega arith) ]

pub those_in : (n i : ℕ) (l : ℕ → Bool) → Memᴰ i (those n l) → (i < n) × (l i ≡ true)
unfolding those
those_in zero i l m = elim m [ ]
those_in (suc n) i l m = by (l n) refl (λ k. those_in n i l k) m
  where
    by : (b : Bool) → l n ≡ b → (Memᴰ i (those n l) → (i < n) × (l i ≡ true)) → Memᴰ i (cond b (n ∷ those n l) (those n l)) → (i < suc n) × (l i ≡ true)
    by true e f (Memᴰ.head q) = (omega arith, ap l q ∙ e)
    by true e f (Memᴰ.tail k) = (omega (arith, (f k).0), (f k).1)
    by false e f k = (omega (arith, (f k).0), (f k).1)

pub those-differ : (n : ℕ) (l : ℕ → Bool) → Distinct (those n l)
unfolding those Distinct
those-differ zero l = tt
those-differ (suc n) l = by (l n) (those-differ n l)
  where
    by : (b : Bool) → Distinct (those n l) → Distinct (cond b (n ∷ those n l) (those n l))
    by true f = (λ m. omega (arith, (those_in n n l m).0), f)
    by false f = f

-- all below a number
abbrev pub upto : ℕ → List ℕ
upto n = those n (λ i. true)

pub upto_below : (n i : ℕ) → Memᴰ i (upto n) → i < n
upto_below n i m = (those_in n i (λ j. true) m).0

pub upto-differ : (n : ℕ) → Distinct (upto n)
upto-differ n = those-differ n (λ j. true)

pub length-upto : (n : ℕ) → length (upto n) ≡ n
unfolding those
length-upto zero = refl
length-upto (suc n) = ap suc (length-upto n)

none_in : (l : List ℕ) → ((i : ℕ) → Memᴰ i l → ⊥) → length l ≡ 0
none_in [] h = refl
none_in (x ∷ l) h = absurd (h x (Memᴰ.head refl))

-- what stands in another list is no more than that
pub no_more : (who l : List ℕ) → Distinct who → ((i : ℕ) → Memᴰ i who → Memᴰ i l) → length who ≤ length l
no_more who l d h = omega (arith, w.enough, none_in w.kept (λ i m. (w.from i m).1 (h i (w.from i m).0)))
  where
    w : Without who l
    w = without who l d

-- a list's members below n, each once and in order: so lists with the same members give the same
is_in : ℕ → List ℕ → Bool
is_in i [] = false
is_in i (x ∷ l) = eqb x i || is_in i l

pub or_left : (a b : Bool) → T a → T (a || b)
or_left true b t = tt
or_left false b t = absurd t

pub or_right : (a b : Bool) → T b → T (a || b)
or_right true b t = tt
or_right false b t = t

to_in : (i : ℕ) (l : List ℕ) → Memᴰ i l → T (is_in i l)
unfolding is_in
to_in i [] m = elim m [ ]
to_in i (x ∷ l) (Memᴰ.head e) = or_left (eqb x i) (is_in i l) (subst (λ k. T (eqb x k)) (sym e) (eqb_refl x))
to_in i (x ∷ l) (Memᴰ.tail m) = or_right (eqb x i) (is_in i l) (to_in i l m)

of_in : (i : ℕ) (l : List ℕ) → T (is_in i l) → Memᴰ i l
unfolding is_in
of_in i [] t = absurd t
of_in i (x ∷ l) t = by (eqb x i) (eqb→eq x i) (of_in i l) t
  where
    by : (b : Bool) → (T b → x ≡ i) → (T (is_in i l) → Memᴰ i l) → T (b || is_in i l) → Memᴰ i (x ∷ l)
    by true e f t = Memᴰ.head (sym (e tt))
    by false e f t = Memᴰ.tail (f t)

pub pick : ℕ → List ℕ → List ℕ
pick n l = those n (λ i. is_in i l)

pub pick_in : (n : ℕ) (l : List ℕ) (i : ℕ) → Memᴰ i (pick n l) → (i < n) × Memᴰ i l
unfolding pick
pick_in n l i m = let h = those_in n i (λ j. is_in j l) m in (h.0, of_in i l (subst T (sym h.1) tt))

pub pick_all : (n : ℕ) (l : List ℕ) (i : ℕ) → i < n → Memᴰ i l → Memᴰ i (pick n l)
unfolding pick
pick_all n l i h m = those_all n i (λ j. is_in j l) h (to_in i l m)

pub length-pick : (n : ℕ) (l k : List ℕ) → ((i : ℕ) → Memᴰ i l → Memᴰ i k) → length (pick n l) ≤ length k
unfolding pick
length-pick n l k h = no_more (pick n l) k (those-differ n (λ j. is_in j l)) (λ i m. h i (pick_in n l i m).1)

pub pick_same : (n : ℕ) (l k : List ℕ) → ((i : ℕ) → Memᴰ i l → Memᴰ i k) → ((i : ℕ) → Memᴰ i k → Memᴰ i l) → pick n l ≡ pick n k
unfolding pick
pick_same n l k f g = ap (those n) (fun_ext (λ i. both (is_in i l) (is_in i k) (λ t. to_in i k (f i (of_in i l t))) (λ t. to_in i l (g i (of_in i k t)))))
  where
    both : (a b : Bool) → (T a → T b) → (T b → T a) → a ≡ b
    both true true f g = refl
    both true false f g = absurd (f tt)
    both false true f g = absurd (g tt)
    both false false f g = refl
