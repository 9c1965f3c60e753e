-- What a court keeps after the first night; and that the board alone says whether a night is over.
use Rattle.std.proofs.Common.{◌≡◌, ℕ, suc, ◌+◌, ◌*◌, ◌%◌, ◌<◌, ◌≤◌, Bool, true, false, cond, ◌&&◌, eqb, leb, get_or, Some, None, Option, sym, refl, ap, ◌∙◌, ap₂, arith}
use Rattle.std.specs.Option.{option_map}
use Rattle.algebra.specs.Prime.{p}
use Rattle.algebra.specs.Counting.{count}
use Rattle.algebra.specs.Sharing.{point}
use Rattle.rules.specs.Deal.{Honest}
use Rattle.rules.specs.Play as play
use Rattle.nights.specs.Run.{Lasting, at}
use Rattle.courts.specs.Court.{Court, at_day, fresh, members, gains, renewed}
use Rattle.courts.specs.Nights.{Nights, Called, keepers_of, begins, within}
use Rattle.courts.proofs.Sits.{sitting, play_of}
use Rattle.courts.proofs.Eves.{here, morning, ends_as, next_of}
use Rattle.courts.proofs.Kept.{kept_last, kept_at}
use Rattle.courts.proofs.Public.{finished_at, finished_same, over_at, over_is}

pub value_of : (f i t : ℕ) (o : Option ℕ) → (next_of f i t o).value ≡ o
unfolding next_of
value_of f i t None = by (eqb t 0)
  where
    by : (b : Bool) → (cond b (fresh f i) (at_day f i (cond (eqb t 4294967295) t (t + 1)) (eqb t 4294967295) None)).value ≡ None
    by true = refl
    by false = refl
value_of f i t (Some v) = refl

module _ (m : Nights) (lies : ℕ → ℕ → Bool) (lasting : Lasting (keepers_of m lies)) (fixed : Called m lies) where
  -- the value after a night
  pub ends : (t i : ℕ) (soon : t < m.many) (hi : Honest (at (keepers_of m lies) t) i) → begins m t i ≡ at_day m.f i t false (begins m t i).value →
      (begins m (suc t) i).value ≡ cond (over_at m t) (renewed (within m t (m.calls t) i)) (begins m t i).value
  ends t i soon hi eve =
      ap (λ (c : Court). c.value) (ends_as m lies lasting fixed t i soon hi eve) ∙ value_of m.f i t (morning m lies lasting fixed t i soon hi eve)
      ∙ ap₂ (λ b v. cond b (renewed (within m t (m.calls t) i)) v) (over_is m lies lasting fixed t i soon hi eve) (here m lies lasting fixed t i soon hi eve (m.calls t) (fixed.rounds t soon).1).value

  -- and the court with it
  pub ends_with : (t i : ℕ) (soon : t < m.many) (hi : Honest (at (keepers_of m lies) t) i) → begins m t i ≡ at_day m.f i t false (begins m t i).value → begins m (suc t) i ≡ next_of m.f i t (begins m (suc t) i).value
  ends_with t i soon hi eve = let e = ends_as m lies lasting fixed t i soon hi eve in e ∙ ap (next_of m.f i t) (sym (ap (λ (c : Court). c.value) e ∙ value_of m.f i t (morning m lies lasting fixed t i soon hi eve)))

  -- after the first
  pub first_value : m.f ≤ 5 → (i : ℕ) → 0 < m.many → Honest (at (keepers_of m lies) 0) i → (begins m 1 i).value ≡ cond (over_at m 0) (play.at_call (sitting m 0 0) (play_of m 0 0) 5 i).kept None
  unfolding begins
  first_value few i soon hi = ends 0 i soon hi refl ∙ ap (λ o. cond (over_at m 0) o None)
      (ap (λ n. renewed (within m 0 n i)) (fixed.first soon)
      ∙ ap (λ n. cond (eqb n 0) (get_or (within m 0 6 i).kept 0 None) (option_map (λ v. (v + point (within m 0 6 i).me * gains (within m 0 6 i).kept (members (within m 0 6 i))) % p) (within m 0 6 i).value))
      (here m lies lasting fixed 0 i soon hi refl 6 (omega arith)).night
      ∙ ap (λ l. get_or l 0 None) (kept_last m lies fixed 0 i soon hi refl) ∙ kept_at m lies fixed 0 i soon hi refl few 0 (omega arith))

-- whether a night is over depends on its calls and its board alone
pub over_same : (m n : Nights) → m.f ≡ n.f → m.calls ≡ n.calls → m.board ≡ n.board → (t : ℕ) → over_at m t ≡ over_at n t
over_same m n f c b t =
    ap₂ (λ g k. eqb (k t) 6 && leb (2 * g + 1) (count (3 * g + 1) (λ i. get_or (finished_at m t (k t)) i false))) f c
    ∙ ap (λ l. eqb (n.calls t) 6 && leb (2 * n.f + 1) (count (3 * n.f + 1) (λ i. get_or l i false))) (finished_same m n f b t (n.calls t))
