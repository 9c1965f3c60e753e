-- What a court keeps of a dealing when the sixth round is called.
use Rattle.std.proofs.Common.{◌≡◌, ℕ, ◌+◌, ◌*◌, ◌<◌, ◌≤◌, Bool, true, false, cond, eqb, map, get_or, None, sym, refl, ap, ◌∙◌, ap₂, arith, lt-ltb}
use Rattle.std.specs.List.{range_with_len}
use Rattle.std.proofs.lemmas.List.FromFn.{get_or-map-range_with_len}
use Rattle.rules.specs.Deal.{Honest}
use Rattle.rules.specs.Seat as seat
use Rattle.rules.specs.Seat.{State, decided}
use Rattle.rules.specs.Play as play
use Rattle.nights.specs.Run.{at}
use Rattle.courts.specs.Court.{Court, at_day, dealers_of, terms_at, seat_at, decided_at, members}
use Rattle.courts.specs.Nights.{Nights, Called, keepers_of, during, begins, within, called}
use Rattle.courts.proofs.Routing.{fed_same}
use Rattle.courts.proofs.Calls.{call_last}
use Rattle.courts.proofs.Sits.{Sits, sits, sitting, play_of, seats_are, terms_are}

module _ (m : Nights) (lies : ℕ → ℕ → Bool) (fixed : Called m lies) (t i : ℕ) (soon : t < m.many) (hi : Honest (at (keepers_of m lies) t) i) (eve : begins m t i ≡ at_day m.f i t false (begins m t i).value) where
  abbrev c5 : Court
  c5 = within m t 5 i

  s5 : Sits m t 5 i c5
  s5 = sits m lies fixed t i soon hi eve 5 (omega arith)

  pub kept_list : (called m t 5 i).kept ≡ map (decided_at c5) (range_with_len 0 16)
  kept_list = ap (λ (c : Court). c.kept) (call_last c5 s5.spent s5.round)

  pub kept_last : (within m t 6 i).kept ≡ map (decided_at c5) (range_with_len 0 16)
  unfolding during
  kept_last = ap (λ (c : Court). c.kept) (fed_same (called m t 5 i) (m.lines t 6 i)).frame ∙ kept_list

  module _ (few : m.f ≤ 5) (d : ℕ) (deals : d < dealers_of m.f t) where
    inside : d < 3 * m.f + 1
    inside = by (eqb t 0) deals
      where
        by : (b : Bool) → d < cond b 1 (3 * m.f + 1) → d < 3 * m.f + 1
        by true h = omega arith
        by false h = h

    few_d : d < 16
    few_d = omega (arith, inside)

    sixth : (x : seat.Terms) (st : State) → st.round ≡ 5 → (seat.called x st).kept ≡ decided x st
    sixth x st e = rw e refl

    pub kept_at : get_or (map (decided_at c5) (range_with_len 0 16)) d None ≡ (play.at_call (sitting m t d) (play_of m t d) 5 i).kept
    kept_at =
        get_or-map-range_with_len (decided_at c5) 0 16 d d None few_d (omega arith)
        ∙ ap (λ b. cond b (decided (terms_at c5 d) (seat_at c5 d)) None) (lt-ltb d (members c5) (omega (arith, s5.f, inside)))
        ∙ ap₂ decided (terms_are m t 5 i d c5 s5) (seats_are m lies fixed t i soon hi eve d deals few_d 5 (omega arith))
        ∙ sym (sixth (play.terms_of (sitting m t d) i) (play.after (sitting m t d) (play_of m t d) 5 i) (ap (λ (st : State). st.round) (sym (seats_are m lies fixed t i soon hi eve d deals few_d 5 (omega arith))) ∙ s5.round))
