-- A fair dealer could as well have drawn other numbers: its dealing looks the same to the spied.
use Rattle.std.proofs.Common.{◌≡◌, ℕ, ◌+◌, ◌≤◌, T, ◌⊎◌, List, Some, None, Option, sym, refl, ap, ◌∙◌, inl, inr, ⊎_elim, arith}
use mathlib.Core.List.{Memᴰ}
use native.Mathlib.Decide.{ℕ_discrete}
use Rattle.algebra.specs.Polynomial.{value2, Low2, Exact2, plus2}
use Rattle.algebra.specs.Sharing.{point, Pair, swap, pair_at, share_of}
use Rattle.rules.specs.Deal.{Group, Sound, Keeper, Honest, Dealing, Doubts, Kept, Strict, Fair, SeenDeal}
use Rattle.rules.specs.Promise.{Unseen, HidesDealing}
use Rattle.algebra.proofs.Same.{Same, back, so, ◌⊟◌}
use Rattle.algebra.proofs.Rows.{eval2, value2_is}
use Rattle.rules.proofs.Slots.{never}
use Rattle.algebra.proofs.Coefficients.{plus2_is, exact_plus2}
use Rattle.rules.proofs.Drawn.{share_same}
use Rattle.rules.proofs.Fairly.{lies_or_not, honesty, shows, shares-agree, lows, fits, hidden}

module _ (g : Group) (sound : Sound g) (high low : ℕ) (h1 : 1 ≤ high) (hh : high ≤ g.f + 1) (hl : low ≤ g.f + 1) (rs : List (List ℕ)) (d : Dealing) (kept : Kept g high low d) (strict : Strict g high low d) (fair : Fair g high low rs d)
    (spied : List ℕ) (inside : (i : ℕ) → Memᴰ i spied → Keeper g i) (liars : (i : ℕ) → Keeper g i → T (g.lies i) → Memᴰ i spied)
    (qs : List (List ℕ)) (small : Low2 high low qs) (unseen : (s : ℕ) → Memᴰ s spied → Unseen g qs s) where
  ts : List (List ℕ)
  ts = plus2 g.p rs qs

  drawn : Exact2 g.p high low ts
  unfolding ts
  drawn = exact_plus2 g.p high low rs qs (omega (arith, sound.room)) fair.chance small

  gone : (x y : ℕ) → value2 g.p qs x y ≡ 0 → Same g.p (eval2 ts x y) (eval2 rs x y)
  unfolding ts
  gone x y e = so (plus2_is g.p rs qs x y ⊟ back g.p (value2_is g.p qs x y)) (omega arith)

  -- what is seen: the shares of the spied, and what any share gives at their points
  same_share : (i : ℕ) → Memᴰ i spied → share_of g.p ts i ≡ share_of g.p rs i
  same_share i m = share_same g sound.prime high low h1 (omega (arith, sound.room)) (omega (arith, sound.room)) ts rs drawn fair.chance i
      (λ z. (gone z (point i) (unseen i m z).0, gone (point i) z (unseen i m z).1))

  same_pair : (i j : ℕ) → Memᴰ i spied ⊎ Memᴰ j spied → pair_at g.p (share_of g.p ts i) j ≡ pair_at g.p (share_of g.p rs i) j
  same_pair i j = ⊎_elim (λ m. ap (λ s. pair_at g.p s j) (same_share i m)) (λ m. shares-agree g ts i j ∙ ap (λ s. swap (pair_at g.p s i)) (same_share j m) ∙ sym (shares-agree g rs i j))

  got : (i j : ℕ) → Keeper g i → pair_at g.p (d.dealt i) j ≡ pair_at g.p (share_of g.p rs i) j
  got i j h = ap (λ s. pair_at g.p s j) (fair.deals i h)

  -- THE OTHER DEALING. Honest keepers tell others of their new shares; all else is as it was.
  Speaks : ℕ → ℕ → Type 0
  Speaks i j = ((i ≡ j → ⊥) × (T (g.lies i) → ⊥)) ⊎ ((i ≡ j) ⊎ T (g.lies i))

  speaks : (i j : ℕ) → Speaks i j
  unfolding Speaks
  speaks i j = elim (ℕ_discrete i j) [ yes e ↦ inr (inl e) | no n ↦ ⊎_elim (λ l. inr (inr l)) (λ h. inl (n, h)) (lies_or_not g i) ]

  say : (i j : ℕ) → Speaks i j → Option Pair
  unfolding Speaks
  say i j (inl n) = Some (pair_at g.p (share_of g.p ts i) j)
  say i j (inr l) = d.told i j

  e : Dealing
  e = record { dealt = share_of g.p ts; told = λ i j. say i j (speaks i j); complaints = d.complaints; reveals = d.reveals; fine = d.fine }

  say_liar : (i j : ℕ) → T (g.lies i) → say i j (speaks i j) ≡ d.told i j
  unfolding say Speaks
  say_liar i j l = by (speaks i j)
    where
      by : (s : Speaks i j) → say i j s ≡ d.told i j
      by (inl n) = absurd (n.1 l)
      by (inr m) = refl

  say_honest : (i j : ℕ) → Honest g i → (i ≡ j → ⊥) → say i j (speaks i j) ≡ Some (pair_at g.p (share_of g.p ts i) j)
  unfolding say Speaks
  say_honest i j h n = by (speaks i j)
    where
      by : (s : Speaks i j) → say i j s ≡ Some (pair_at g.p (share_of g.p ts i) j)
      by (inl m) = refl
      by (inr m) = absurd (⊎_elim n h.1 m)

  told : (i j : ℕ) → Keeper g i → Keeper g j → Memᴰ i spied ⊎ Memᴰ j spied → d.told i j ≡ say i j (speaks i j)
  unfolding say Speaks
  told i j h k m = by (speaks i j)
    where
      by : (s : Speaks i j) → d.told i j ≡ say i j s
      by (inl n) = kept.tells i j (h, n.1) k n.0 ∙ ap Some (got i j h ∙ sym (same_pair i j m))
      by (inr l) = refl

  -- honest keepers have no doubts about each other
  no_doubt_new : (i j : ℕ) → Honest g i → Honest g j → Doubts g e i j → ⊥
  unfolding e
  no_doubt_new i j hi hj q = q.1 (say_honest j i hj (λ k. q.0 (sym k)) ∙ ap Some (shares-agree g ts j i))

  -- what an honest keeper has at a liar's point is the same, and it doubts a liar in both or in neither
  at_liar : (i j : ℕ) → Honest g i → Keeper g j → T (g.lies j) → pair_at g.p (d.dealt i) j ≡ pair_at g.p (share_of g.p ts i) j
  at_liar i j hi hj l = got i j hi.0 ∙ sym (same_pair i j (inr (liars j hj l)))

  doubt_liar : (i j : ℕ) → Honest g i → Keeper g j → T (g.lies j) → (Doubts g d i j → Doubts g e i j) × (Doubts g e i j → Doubts g d i j)
  unfolding e
  doubt_liar i j hi hj l = (λ q. (q.0, λ w. q.1 (sym (say_liar j i l) ∙ w ∙ sym wants)), λ q. (q.0, λ w. q.1 (say_liar j i l ∙ w ∙ wants)))
    where
      wants : Some (swap (pair_at g.p (d.dealt i) j)) ≡ Some (swap (pair_at g.p (share_of g.p ts i) j))
      wants = ap (λ x. Some (swap x)) (at_liar i j hi hj l)

  -- so an honest keeper's complaint is about one that lies
  about : (i j : ℕ) → Honest g i → Keeper g j → (x : Pair) → d.complaints i j ≡ Some x → T (g.lies j)
  about i j hi hj x q = (shows g sound high low h1 rs d fair strict kept i j hi hj x q).0

  -- and what a complaint speaks of is seen
  right : (a b : ℕ) → Keeper g a → Keeper g b → (x : Pair) → d.complaints a b ≡ Some x → pair_at g.p (share_of g.p ts a) b ≡ pair_at g.p (share_of g.p rs a) b
  right a b ha hb x q = same_pair a b (⊎_elim (λ l. inl (liars a ha l)) (λ o. inr (liars b hb (about a b o hb x q))) (honesty g a ha))

  no_reveal : (i : ℕ) → Honest g i → d.reveals i ≡ None
  no_reveal = hidden g sound high low h1 rs d fair strict

  fair_new : Fair g high low ts e
  unfolding e
  fair_new = record {
    chance = drawn;
    deals = λ i h. refl;
    reveals = λ k hk s q. let f = fair.reveals k hk s q in let c = f.1 in
        (f.0 ∙ sym (same_share k (⊎_elim (liars k hk) (λ h. never (sym (no_reveal k h) ∙ q)) (honesty g k hk))), (c.0, c.1, c.2, c.3, λ w. c.4 (w ∙ right k c.0 hk c.2 c.1 c.3)));
    answers = λ a ha b hb x q n. fair.answers a ha b hb x q n ∙ sym (right a b ha hb x q);
  }

  kept_new : Kept g high low e
  unfolding e
  kept_new = record {
    shares = λ i h. (lows g sound high low h1 ts e fair_new i, shares-agree g ts i i);
    tells = λ i j h k n. say_honest i j h n;
    complains = λ i j h k q. ⊎_elim (λ l. kept.complains i j h k ((doubt_liar i j h k l).1 q) ∙ ap Some (at_liar i j h k l)) (λ o. absurd (no_doubt_new i j h o q)) (honesty g j k);
    says_fine = λ i h _. fits g sound high low h1 ts e fair_new i h.0 (no_reveal i h);
  }

  strict_new : Strict g high low e
  unfolding e
  strict_new = record {
    only_then = λ i j h k x q. let o = strict.only_then i j h k x q in let l = about i j h k x q in (o.0 ∙ at_liar i j h k l, (doubt_liar i j h k l).0 o.1);
    fines_if = λ i h _. strict.fines_if i h (fits g sound high low h1 rs d fair i h.0 (no_reveal i h));
  }

  other : (k : Dealing) × Kept g high low k × Strict g high low k × Fair g high low (plus2 g.p rs qs) k × SeenDeal g spied d k
  unfolding ts e
  other = (e, kept_new, strict_new, fair_new, record { complaints = refl; reveals = refl; fine = refl; dealt = λ i m. fair.deals i (inside i m) ∙ sym (same_share i m); told = told })

pub hides_dealing_lem : HidesDealing
hides_dealing_lem = other
