-- The main promise: the shares of all honest keepers in an accepted dealing are of one polynomial.
use Rattle.std.proofs.Common.{◌≡◌, ℕ, ◌+◌, ◌*◌, ◌<◌, ◌≤◌, Bool, true, false, not, ◌||◌, T, ◌⊎◌, List, [], ◌∷◌, length, Some, None, Option, sym, refl, ap, ◌∙◌, subst, inl, inr, ⊎_elim, arith, leb→le}
use mathlib.Core.List.{Memᴰ}
use native.Mathlib.Decide.{ℕ_discrete}
use Rattle.algebra.specs.Polynomial.{value, Low2}
use Rattle.algebra.specs.Counting.{count}
use Rattle.algebra.specs.Sharing.{point, Pair, swap, pair_at, Of, Agree}
use Rattle.rules.specs.Deal.{Group, size, away, Sound, Honest, Lengths, Dealing, Fits, Kept, is_accepted, own, or_else}
use Rattle.rules.specs.Promise.{Main}
use Rattle.algebra.proofs.Same.{Same, same, rest}
use Rattle.algebra.proofs.Evaluation.{eval, value_is}
use Rattle.algebra.proofs.Rows.{eval2, value2_is, Rows, surface}
use Rattle.algebra.proofs.Coefficients.{apart}
use Rattle.rules.proofs.Slots.{same_some}
use Rattle.algebra.proofs.Members.{Without, without, Part, some, those, length-those, those_all, those_in, those-differ}

-- what a keeper goes on with: a share that was revealed of it, or what it got
pub found : {A : Type 0} (a : A) (o : Option A) → ((o ≡ None) × (or_else a o ≡ a)) ⊎ ((x : A) × (o ≡ Some x) × (or_else a o ≡ x))
found a None = inl (refl, refl)
found a (Some x) = inr (x, refl, refl)

pub pairs : (a b : Pair) → Dec (a ≡ b)
pairs a b = elim (ℕ_discrete a.across b.across) [
  | no n ↦ no (λ e. n (ap (λ (x : Pair). x.across) e))
  | yes e ↦ elim (ℕ_discrete a.down b.down) [ no n ↦ no (λ h. n (ap (λ (x : Pair). x.down) h)) | yes h ↦ yes (λ i. record { across = e i; down = h i }) ]
]

-- whoever can be counted on is honest
pub honest_if : (g : Group) (i : ℕ) → i < size g → (T (away g i) → ⊥) → Honest g i
honest_if g i h n = let b = by (g.lies i) (g.takes i) n in ((h, b.0), b.1)
  where
    by : (l t : Bool) → (T (l || not t) → ⊥) → T t × (T l → ⊥)
    by true t n = absurd (n tt)
    by false true n = (tt, λ l. l)
    by false false n = absurd (n tt)

first : (l : List ℕ) → 1 ≤ length l → (k : ℕ) × Memᴰ k l
first [] h = absurd (omega arith)
first (k ∷ l) h = (k, Memᴰ.head refl)

module _ (g : Group) (sound : Sound g) (high low : ℕ) (d : Dealing) (kept : Kept g high low d) (acc : T (is_accepted g d)) where
  -- the honest among those who said that all fits
  sure : Without (those (size g) d.fine) (those (size g) (away g))
  sure = without (those (size g) d.fine) (those (size g) (away g)) (those-differ (size g) d.fine)

  Sure : ℕ → Type 0
  Sure k = Memᴰ k sure.kept

  enough : g.f + 1 ≤ length sure.kept
  enough = omega (arith, sure.enough, leb→le (2 * g.f + 1) (count (size g) d.fine) acc, length-those (size g) d.fine, length-those (size g) (away g), sound.few)

  honest : (k : ℕ) → Sure k → Honest g k
  unfolding Sure
  honest k m = let h = (those_in (size g) k d.fine (sure.from k m).0).0 in honest_if g k h (λ t. (sure.from k m).1 (those_all (size g) k (away g) h t))

  says : (k : ℕ) → Sure k → Fits g high low d k
  unfolding Sure
  says k m = kept.says_fine k (honest k m) (those_in (size g) k d.fine (sure.from k m).0).1

  lows : (i : ℕ) → Honest g i → Lengths high low (own d i)
  unfolding Sure
  lows i hi = ⊎_elim
      (λ h. subst (Lengths high low) (sym h.1) (kept.shares i hi).0)
      (λ h. let k = first sure.kept (omega (arith, enough)) in subst (Lengths high low) (sym h.2) ((says k.0 k.1).shown i hi.0 h.0 h.1).0)
      (found (d.dealt i) (d.reveals i))

  -- two honest keepers that don't agree complain about each other, so one is revealed
  dealt-agree : (i k : ℕ) → Honest g i → d.reveals i ≡ None → Sure k → Agree g.p i (d.dealt i) k (d.dealt k)
  dealt-agree i k hi nr m = elim (ℕ_discrete i k) [
    | yes e ↦ subst (λ j. Agree g.p i (d.dealt i) j (d.dealt j)) e (kept.shares i hi).1
    | no ne ↦ elim (pairs (mine i k) (swap (mine k i))) [
      | yes e ↦ e
      | no bad ↦ (says k m).settled i hi.0 k hk.0 _ _
          (kept.complains i k hi hk.0 (ne, λ e. bad (ap swap (same_some (sym e ∙ kept.tells k i hk hi.0 (λ q. ne (sym q)))))))
          (kept.complains k i hk hi.0 (λ q. ne (sym q), λ e. bad (same_some (sym (kept.tells i k hi hk.0 ne) ∙ e))))
          nr (says k m).hidden
    ]
  ]
    where
      hk : Honest g k
      hk = honest k m

      mine : ℕ → ℕ → Pair
      mine a b = pair_at g.p (d.dealt a) b

  agrees : (i k : ℕ) → Honest g i → Sure k → Agree g.p i (own d i) k (own d k)
  agrees i k hi m = subst (Agree g.p i (own d i) k) (sym (ap (or_else (d.dealt k)) (says k m).hidden)) (⊎_elim
      (λ h. subst (λ s. Agree g.p i s k (d.dealt k)) (sym h.1) (dealt-agree i k hi h.0 m))
      (λ h. subst (λ s. Agree g.p i s k (d.dealt k)) (sym h.2) (sym (ap swap ((says k m).shown i hi.0 h.0 h.1).1)))
      (found (d.dealt i) (d.reveals i)))

  level : (cs ds : List ℕ) (x y : ℕ) → value g.p cs x ≡ value g.p ds y → Same g.p (eval cs x) (eval ds y)
  level cs ds x y e = same g.p _ _ (sym (value_is g.p cs x) ∙ e ∙ value_is g.p ds y)

  holds : high ≤ g.f + 1 → low ≤ g.f + 1 → (rs : List (List ℕ)) × Low2 high low rs × ((i : ℕ) → Honest g i → Of g.p rs i (own d i))
  unfolding Sure
  holds hh hl = (
    s.0,
    record { rows = omega (arith, s.1, is.count); each = λ r m. omega (arith, s.2 r m, js.count) },
    λ i hi. record {
      across = λ x. value_is p (own d i).across x ∙ rest (s.3 i hi x).0 ∙ sym (value2_is p s.0 x (point i));
      down = λ y. value_is p (own d i).down y ∙ rest (s.3 i hi y).1 ∙ sym (value2_is p s.0 (point i) y);
    },
  )
    where
      p : ℕ
      p = g.p

      is : Part high sure.kept
      is = some high sure.kept (omega (arith, enough)) sure.differ

      js : Part low sure.kept
      js = some low sure.kept (omega (arith, enough)) sure.differ

      near : (i : ℕ) → Sure i → point i < p
      near i m = omega (arith, (honest i m).0.0, sound.room)

      s : (rs : List (List ℕ)) × (length rs ≡ length is.kept) × Rows (length js.kept) rs ×
          ((i : ℕ) → Honest g i → (x : ℕ) → Same p (eval (own d i).across x) (eval2 rs x (point i)) × Same p (eval (own d i).down x) (eval2 rs (point i) x))
      s = surface sound.prime point is.kept js.kept (apart p point (λ i j e. omega arith) is.kept is.differ (λ i m. near i (is.from i m))) (apart p point (λ i j e. omega arith) js.kept js.differ (λ i m. near i (js.from i m)))
          Sure (Honest g) honest is.from js.from (λ i. (own d i).across) (λ i. (own d i).down)
          (λ i hi. (omega (arith, (lows i hi).0, is.count), omega (arith, (lows i hi).1, js.count)))
          (λ i k hi m. let a = agrees i k hi m in (level _ _ _ _ (ap (λ (x : Pair). x.across) a), level _ _ _ _ (ap (λ (x : Pair). x.down) a)))

pub main : Main
main g sound high low hh hl d kept acc = holds g sound high low d kept acc hh hl
