-- A fair dealer's dealing is accepted.
use Rattle.std.proofs.Common.{◌≡◌, ℕ, ◌+◌, ◌*◌, ◌≤◌, Bool, true, false, T, ◌⊎◌, List, Some, None, sym, ap, ◌∙◌, subst, inl, inr, ⊎_elim, arith, le→leb}
use mathlib.Core.List.{Memᴰ}
use Rattle.algebra.specs.Counting.{count}
use Rattle.algebra.specs.Sharing.{point, swap, pair_at, Agree, share_of, Pair}
use Rattle.rules.specs.Deal.{Group, size, away, Sound, Keeper, Honest, Lengths, Dealing, Fits, Strict, Fair, is_accepted, own, Doubts, Kept}
use Rattle.rules.specs.Promise.{FairPasses, FairShows}
use Rattle.rules.proofs.Dealt.{found, honest_if}
use Rattle.rules.proofs.Drawn.{of_share, lengths-share}
use Rattle.algebra.proofs.Members.{Without, without, upto, upto_below, upto-differ, length-upto, those, length-those, those_all, no_more}

-- shares of one polynomial agree
pub shares-agree : (g : Group) (rs : List (List ℕ)) (i j : ℕ) → Agree g.p i (share_of g.p rs i) j (share_of g.p rs j)
shares-agree g rs i j k = record {
  across = ((of_share g.p rs i).across (point j) ∙ sym ((of_share g.p rs j).down (point i))) k;
  down = ((of_share g.p rs i).down (point j) ∙ sym ((of_share g.p rs j).across (point i))) k;
}

pub lies_or_not : (g : Group) (i : ℕ) → T (g.lies i) ⊎ (T (g.lies i) → ⊥)
lies_or_not g i = by (g.lies i)
  where
    by : (b : Bool) → T b ⊎ (T b → ⊥)
    by true = inl tt
    by false = inr (λ t. t)

pub honesty : (g : Group) (i : ℕ) → Keeper g i → T (g.lies i) ⊎ Honest g i
honesty g i h = ⊎_elim inl (λ n. inr (h, n)) (lies_or_not g i)

-- what an honest dealer's rules alone give
module _ (g : Group) (sound : Sound g) (high low : ℕ) (h1 : 1 ≤ high) (rs : List (List ℕ)) (d : Dealing) (fair : Fair g high low rs d) where
  pub lows : (i : ℕ) → Lengths high low (share_of g.p rs i)
  lows = lengths-share g.p high low (omega (arith, sound.room)) h1 rs fair.chance

  pub fits : (i : ℕ) → Keeper g i → d.reveals i ≡ None → Fits g high low d i
  fits i h n = record {
    hidden = n;
    shown = λ k hk s e. let r = (fair.reveals k hk s e).0 in (subst (Lengths high low) (sym r) (lows k), subst (λ t. Agree g.p i (d.dealt i) k t) (sym r) (subst (λ t. Agree g.p i t k (share_of g.p rs k)) (sym (fair.deals i h)) (shares-agree g rs i k)));
    settled = λ a ha b hb x y ex ey na nb. fair.answers a ha b hb x ex na ∙ shares-agree g rs a b ∙ ap swap (sym (fair.answers b hb a ha y ey nb));
  }

  pub own_is : (i : ℕ) → Keeper g i → own d i ≡ share_of g.p rs i
  own_is i h = ⊎_elim (λ f. f.1 ∙ fair.deals i h) (λ f. f.2 ∙ (fair.reveals i h f.0 f.1).0) (found (d.dealt i) (d.reveals i))

  module _ (strict : Strict g high low d) where
    pub hidden : (i : ℕ) → Honest g i → d.reveals i ≡ None
    hidden i hi = ⊎_elim
        (λ h. h.0)
        (λ h. let c = (fair.reveals i hi.0 h.0 h.1).1 in absurd (c.4 ((strict.only_then i c.0 hi c.2 c.1 c.3).0 ∙ ap (λ s. pair_at g.p s c.0) (fair.deals i hi.0))))
        (found (d.dealt i) (d.reveals i))

    -- an honest keeper complains only about one that lies, and what it says that one holds itself
    pub shows : Kept g high low d → (i j : ℕ) → Honest g i → Keeper g j → (x : Pair) → d.complaints i j ≡ Some x → T (g.lies j) × (x ≡ swap (pair_at g.p (share_of g.p rs j) i))
    shows kept i j hi hj x e = (⊎_elim (λ l. l) (λ o. absurd (no_doubt o only.1)) (honesty g j hj), only.0 ∙ got i j hi.0 ∙ shares-agree g rs i j)
      where
        only : (x ≡ pair_at g.p (d.dealt i) j) × Doubts g d i j
        only = strict.only_then i j hi hj x e

        got : (i j : ℕ) → Keeper g i → pair_at g.p (d.dealt i) j ≡ pair_at g.p (share_of g.p rs i) j
        got i j h = ap (λ s. pair_at g.p s j) (fair.deals i h)

        no_doubt : Honest g j → Doubts g d i j → ⊥
        no_doubt hj q = q.1 (kept.tells j i hj hi.0 (λ k. q.0 (sym k)) ∙ ap Some (got j i hj.0 ∙ shares-agree g rs j i ∙ ap swap (sym (got i j hi.0))))

    true_ones : Without (upto (size g)) (those (size g) (away g))
    true_ones = without (upto (size g)) (those (size g) (away g)) (upto-differ (size g))

    honest : (i : ℕ) → Memᴰ i true_ones.kept → Honest g i
    honest i m = let k = upto_below (size g) i (true_ones.from i m).0 in honest_if g i k (λ t. (true_ones.from i m).1 (those_all (size g) i (away g) k t))

    pub fair_accepted : T (is_accepted g d)
    fair_accepted = le→leb (2 * g.f + 1) (count (size g) d.fine) (omega (
      arith,
      true_ones.enough,
      length-upto (size g),
      length-those (size g) (away g),
      length-those (size g) d.fine,
      sound.few,
      no_more true_ones.kept (those (size g) d.fine) true_ones.differ
          (λ i m. let h = honest i m in those_all (size g) i d.fine h.0.0 (subst T (sym (strict.fines_if i h (fits i h.0 (hidden i h)))) tt)),
    ))

pub passes : FairPasses
passes g sound high low h1 rs d strict fair =
    (fair_accepted g sound high low h1 rs d fair strict, λ i h. own_is g sound high low h1 rs d fair i h.0, hidden g sound high low h1 rs d fair strict)

pub fair_shows_lem : FairShows
fair_shows_lem g sound high low h1 rs d kept strict fair = shows g sound high low h1 rs d fair strict kept
