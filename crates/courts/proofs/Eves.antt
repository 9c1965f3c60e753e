-- A court that keeps the rules as a night begins: by day, with nothing but its value.
use Rattle.std.proofs.Common.{◌≡◌, ℕ, zero, suc, ◌+◌, ◌<◌, ◌≤◌, Bool, false, cond, eqb, List, map, replicate, Some, None, Option, sym, refl, ap, ◌∙◌, subst, ap₂, arith, eq-eqb, ne_eqb}
use native.Mathlib.Decide.{ℕ_discrete}
use Rattle.std.specs.List.{range_with_len}
use Rattle.rules.specs.Deal.{Honest}
use Rattle.rules.specs.Rounds.{nothing_heard}
use Rattle.rules.specs.Play as play
use Rattle.nights.specs.Run.{Lasting, at}
use Rattle.courts.specs.Court.{Court, Round, at_day, fresh, advanced, decided_at, next_night, is_over, renewed}
use Rattle.courts.specs.Nights.{Nights, Called, Born, keepers_of, step, fed, during, begins, within}
use Rattle.courts.proofs.Routing.{fed_same}
use Rattle.courts.proofs.Calls.{call_last, end_is}
use Rattle.courts.proofs.Sits.{Sits, sits}

-- what doesn't change in a night
pub record Here (m : Nights) (t r i : ℕ) (c : Court) : Type 0 where
  pub f : c.f ≡ m.f
  pub me : c.me ≡ i
  pub night : c.night ≡ t
  pub value : c.value ≡ (begins m t i).value
  pub round : c.round ≡ r

here_sits : (m : Nights) (t r i : ℕ) (c : Court) → Sits m t r i c → Here m t r i c
here_sits m t r i c s = record { f = s.f; me = s.me; night = s.night; value = s.value; round = s.round }

here_fed : (m : Nights) (t r i : ℕ) (c : Court) (ls : List play.Line) → Here m t r i c → Here m t r i (fed c ls)
here_fed m t r i c ls s = let e = fed_same c ls in record {
  f = ap (λ k. k.f) e.frame ∙ s.f;
  me = ap (λ k. k.me) e.frame ∙ s.me;
  night = ap (λ k. k.night) e.frame ∙ s.night;
  value = ap (λ k. k.value) e.frame ∙ s.value;
  round = ap (λ k. k.round) e.frame ∙ s.round;
}

-- the court after a night's end
unfoldable pub next_of : (f i t : ℕ) → Option ℕ → Court
next_of f i t None = cond (eqb t 0) (fresh f i) (at_day f i (cond (eqb t 4294967295) t (t + 1)) (eqb t 4294967295) None)
next_of f i t (Some v) = at_day f i (cond (eqb t 4294967295) t (t + 1)) (eqb t 4294967295) (Some v)

next_as : (c : Court) (o : Option ℕ) → next_night c o ≡ next_of c.f c.me c.night o
unfolding next_of
next_as c None = refl
next_as c (Some v) = refl

next_is : (f i t : ℕ) (o : Option ℕ) → t < 4294967295 → (t ≡ 0 → o ≡ None → ⊥) → next_of f i t o ≡ at_day f i (suc t) false o
unfolding next_of
next_is f i t None h n = rw (ne_eqb t 0 (λ e. n e refl), ne_eqb t 4294967295 (λ e. omega arith)) (ap (λ k. at_day f i k false None) (omega arith))
next_is f i t (Some v) h n = rw (ne_eqb t 4294967295 (λ e. omega arith)) (ap (λ k. at_day f i k false (Some v)) (omega arith))

value_next : (f i t : ℕ) → t ≡ 0 → (next_of f i t None).value ≡ None
unfolding next_of
value_next f i t e = rw (eq-eqb t 0 e)

module _ (m : Nights) (lies : ℕ → ℕ → Bool) (lasting : Lasting (keepers_of m lies)) (plays : Called m lies) where
  pub honest_before : (t i : ℕ) → Honest (at (keepers_of m lies) (suc t)) i → Honest (at (keepers_of m lies) t) i
  honest_before t i h = (h.0, λ l. h.1 (lasting.on t i l))

  pub honest_first : (t i : ℕ) → Honest (at (keepers_of m lies) t) i → Honest (at (keepers_of m lies) 0) i
  honest_first zero i h = h
  honest_first (suc t) i h = honest_first t i (honest_before t i h)

  module _ (t i : ℕ) (soon : t < m.many) (honest : Honest (at (keepers_of m lies) t) i) (eve : begins m t i ≡ at_day m.f i t false (begins m t i).value) where
    pub here : (r : ℕ) → r ≤ 6 → Here m t r i (within m t r i)
    unfolding during
    here zero h = here_sits m t 0 i (within m t 0 i) (sits m lies plays t i soon honest eve 0 (omega arith))
    here (suc r) h = elim (ℕ_discrete r 5) [
      | yes e ↦ subst (λ k. Here m t (suc k) i (within m t (suc k) i)) (sym e) last
      | no n ↦ here_sits m t (suc r) i (within m t (suc r) i) (sits m lies plays t i soon honest eve (suc r) (omega arith))
    ]
      where
        c : Court
        c = within m t 5 i

        s : Sits m t 5 i c
        s = sits m lies plays t i soon honest eve 5 (omega arith)

        q : step c Round ≡ advanced c 6 None (replicate 16 nothing_heard) (map (decided_at c) (range_with_len 0 16))
        q = call_last c s.spent s.round

        last : Here m t 6 i (within m t 6 i)
        last = here_fed m t 6 i (step c Round) (m.lines t 6 i) (record {
          f = ap (λ k. k.f) q ∙ s.f;
          me = ap (λ k. k.me) q ∙ s.me;
          night = ap (λ k. k.night) q ∙ s.night;
          value = ap (λ k. k.value) q ∙ s.value;
          round = ap (λ k. k.round) q;
        })

    pub here_last : Here m t (m.calls t) i (within m t (m.calls t) i)
    here_last = here (m.calls t) (plays.rounds t soon).1

    -- what it keeps after the night
    abbrev pub morning : Option ℕ
    morning = cond (is_over (within m t (m.calls t) i)) (renewed (within m t (m.calls t) i)) (within m t (m.calls t) i).value

    pub ends_as : begins m (suc t) i ≡ next_of m.f i t morning
    unfolding begins
    ends_as = end_is (within m t (m.calls t) i) (omega (arith, here_last.round, (plays.rounds t soon).0)) ∙ next_as (within m t (m.calls t) i) morning ∙
        ap₂ (λ f j. next_of f j (within m t (m.calls t) i).night morning) here_last.f here_last.me ∙ ap (λ n. next_of m.f i n morning) here_last.night

    pub next_eve : Born m lies → suc t < m.many → begins m (suc t) i ≡ at_day m.f i (suc t) false morning
    next_eve born h = ends_as ∙ next_is m.f i t morning (omega (arith, plays.few)) none
      where
        none : t ≡ 0 → morning ≡ None → ⊥
        none e q = born (omega arith) i (honest_first t i honest) (subst (λ k. (begins m (suc k) i).value ≡ None) e (ap (λ (c : Court). c.value) (ends_as ∙ ap (next_of m.f i t) q) ∙ value_next m.f i t e))

  -- by day
  pub eves : Born m lies → (t i : ℕ) → t < m.many → Honest (at (keepers_of m lies) t) i → begins m t i ≡ at_day m.f i t false (begins m t i).value
  unfolding begins
  eves born zero i h hi = refl
  eves born (suc t) i h hi = let q = next_eve t i (omega arith) (honest_before t i hi) (eves born t i (omega arith) (honest_before t i hi)) born h in
      q ∙ ap (at_day m.f i (suc t) false) (sym (ap (λ (c : Court). c.value) q))
