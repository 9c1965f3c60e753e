-- A court that keeps the rules sits in each dealing of a night as a keeper does that plays this dealing alone.
use Rattle.std.proofs.Common.{◌≡◌, ℕ, zero, suc, ◌+◌, ◌*◌, ◌<◌, ◌≤◌, Bool, true, false, cond, ◌&&◌, eqb, ltb, List, [], ◌∷◌, length, get_or, set, replicate, Some, None, Option, sym, refl, ap, ◌∙◌, subst, ap₂, arith, length-set, ltb-true, lt-ltb, eq-eqb, ne_eqb}
use mathlib.Core.Bool.{false≢true}
use mathlib.Core.List.{foldl}
use native.Mathlib.Decide.{ℕ_discrete}
use lib.ListN.{get_or-replicate}
use Rattle.algebra.specs.Prime.{p}
use Rattle.rules.specs.Deal.{Honest}
use Rattle.rules.specs.Rounds.{Said, nothing_heard, nothing_posted}
use Rattle.rules.specs.Wire.{small}
use Rattle.rules.specs.Seat as seat
use Rattle.rules.specs.Seat.{Terms, State, unless, seated}
use Rattle.rules.specs.Play as play
use Rattle.rules.proofs.Steps.{silent_lines}
use Rattle.nights.specs.Run.{at}
use Rattle.courts.specs.Court.{Court, Chance, Round, at_day, low_of, dealers_of, terms_at, seat_at, outcome, rows_from, own_hand}
use Rattle.courts.specs.Nights.{Nights, Called, keepers_of, step, fed, during, begins, within, called}
use Rattle.courts.proofs.Routing.{fed_same, fed_seat, tagged}
use Rattle.courts.proofs.Calls.{call_early, call_seat}

-- the polynomial that keeper i draws for night t, if it deals then
abbrev pub rows_of : Nights → (t i : ℕ) → List (List ℕ)
rows_of m t i = rows_from (low_of m.f t) (m.f + 1) (m.draws t i)

abbrev pub drawn : Nights → (t i : ℕ) → Option (List (List ℕ))
drawn m t i = cond (ltb i (dealers_of m.f t)) (Some (rows_of m t i)) None

-- keeper i's court in night t, after r calls
pub record Sits (m : Nights) (t r i : ℕ) (c : Court) : Type 0 where
  pub f : c.f ≡ m.f
  pub me : c.me ≡ i
  pub night : c.night ≡ t
  pub spent : c.spent ≡ false
  pub value : c.value ≡ (begins m t i).value
  pub round : c.round ≡ r
  pub chance : c.chance ≡ drawn m t i
  pub kept : c.kept ≡ replicate 16 None
  pub hands : length c.hands ≡ 16
  pub boards : length c.boards ≡ 16
  pub finished : length c.finished ≡ 16

sits_fed : (m : Nights) (t r i : ℕ) (c : Court) (ls : List play.Line) → Sits m t r i c → Sits m t r i (fed c ls)
sits_fed m t r i c ls s = let e = fed_same c ls in record {
  f = ap (λ k. k.f) e.frame ∙ s.f;
  me = ap (λ k. k.me) e.frame ∙ s.me;
  night = ap (λ k. k.night) e.frame ∙ s.night;
  spent = ap (λ k. k.spent) e.frame ∙ s.spent;
  value = ap (λ k. k.value) e.frame ∙ s.value;
  round = ap (λ k. k.round) e.frame ∙ s.round;
  chance = ap (λ k. k.chance) e.frame ∙ s.chance;
  kept = ap (λ k. k.kept) e.frame ∙ s.kept;
  hands = e.hands ∙ s.hands;
  boards = e.boards ∙ s.boards;
  finished = e.finished ∙ s.finished;
}

pub sits_call : (m : Nights) (t r i : ℕ) (c : Court) → r < 5 → Sits m t r i c → Sits m t (suc r) i (step c Round)
sits_call m t r i c h s = let e = call_early c s.spent (omega (arith, s.round)) in record {
  f = ap (λ k. k.f) e ∙ s.f;
  me = ap (λ k. k.me) e ∙ s.me;
  night = ap (λ k. k.night) e ∙ s.night;
  spent = ap (λ k. k.spent) e ∙ s.spent;
  value = ap (λ k. k.value) e ∙ s.value;
  round = ap (λ k. k.round) e ∙ omega (arith, s.round);
  chance = ap (λ k. k.chance) e ∙ s.chance;
  kept = ap (λ k. k.kept) e ∙ s.kept;
  hands = ap (λ k. length k.hands) e ∙ long (eqb c.round 0) ∙ s.hands;
  boards = ap (λ k. length k.boards) e ∙ s.boards;
  finished = ap (λ k. length k.finished) e ∙ s.finished;
}
  where
    long : (b : Bool) → length (cond b (set c.hands c.me (own_hand c)) c.hands) ≡ length c.hands
    long true = length-set c.hands c.me (own_hand c)
    long false = refl

-- the dealing of dealer d in night t, by itself
abbrev pub sitting : Nights → (t d : ℕ) → play.Sitting
sitting m t d = record { f = m.f; night = t; dealer = d; high = m.f + 1; low = low_of m.f t }

unfoldable pub keep : ℕ → List (Said (List ℕ)) → List (Said (List ℕ))
keep d [] = []
keep d (w ∷ ws) = cond (eqb (get_or w.word 5 0) d) (w ∷ keep d ws) (keep d ws)

unfoldable pub lines_for : Nights → (t d r j : ℕ) → List play.Line
lines_for m t d zero j = []
lines_for m t d (suc r) j = cond (ltb r 5) (tagged d (m.lines t (suc r) j)) []

pub lines_for_is : {A : Type 0} (m : Nights) (t d r j : ℕ) → r < 5 → (f : List play.Line → A) → f (lines_for m t d (suc r) j) ≡ f (tagged d (m.lines t (suc r) j))
unfolding lines_for
lines_for_is m t d r j h f = ap (λ b. f (cond b (tagged d (m.lines t (suc r) j)) [])) (lt-ltb r 5 h)

unfoldable pub board_for : Nights → (t d r : ℕ) → List (Said (List ℕ))
board_for m t d zero = []
board_for m t d (suc r) = cond (ltb r 5) (keep d (m.board t (suc r))) []

abbrev pub play_of : Nights → (t d : ℕ) → play.Play
play_of m t d = record { chance = Some (rows_of m t d); lines = lines_for m t d; board = board_for m t d }

pub terms_are : (m : Nights) (t r i d : ℕ) (c : Court) → Sits m t r i c → terms_at c d ≡ play.terms_of (sitting m t d) i
terms_are m t r i d c s z = record {
  night = s.night z;
  setting = record { p = p; f = s.f z; dealer = d; high = s.f z + 1; low = low_of (s.f z) (s.night z) };
  me = s.me z;
}

module _ (m : Nights) (lies : ℕ → ℕ → Bool) (plays : Called m lies) (t i : ℕ) (soon : t < m.many) (honest : Honest (at (keepers_of m lies) t) i)
    (eve : begins m t i ≡ at_day m.f i t false (begins m t i).value) where
  abbrev pub v : Option ℕ
  v = (begins m t i).value

  abbrev pub start : Option (List (List ℕ)) → Court
  start o = record {
    f = m.f;
    me = i;
    night = t;
    spent = false;
    value = v;
    round = 0;
    chance = o;
    hands = replicate 16 nothing_heard;
    boards = replicate 16 nothing_posted;
    kept = replicate 16 None;
    finished = replicate 16 false;
  }

  -- with what it drew
  pub start_is : step (begins m t i) (Chance (m.draws t i)) ≡ start (drawn m t i)
  start_is = ap (λ c. step c (Chance (m.draws t i))) eve ∙ by (ltb i (dealers_of m.f t)) (λ q. ltb-true i (dealers_of m.f t) q)
    where
      ns : List ℕ
      ns = m.draws t i

      ok : Bool
      ok = eqb (length ns) ((m.f + 1) * low_of m.f t) && small ns

      both : (a b : Bool) → a ≡ true → b ≡ true → (a && b) ≡ true
      both true b p q = q
      both false b p q = absurd (false≢true p)

      by : (b : Bool) → (b ≡ true → i < dealers_of m.f t) →
          (outcome (unless ok 1 (unless true 2 (unless (b && true) 3 (unless true 7 None)))) (start (Some (rows_of m t i))) (start None)).0 ≡ start (cond b (Some (rows_of m t i)) None)
      by true h = let q = plays.draws t i soon honest (h refl) in given ok (both _ _ (eq-eqb _ _ q.0) q.1)
        where
          given : (b : Bool) → b ≡ true → (outcome (unless b 1 None) (start (Some (rows_of m t i))) (start None)).0 ≡ start (Some (rows_of m t i))
          given true e = refl
          given false e = absurd (false≢true e)
      by false h = none ok
        where
          none : (b : Bool) → (outcome (unless b 1 (Some 3)) (start (Some (rows_of m t i))) (start None)).0 ≡ start None
          none true = refl
          none false = refl

  sits_start : Sits m t 0 i (step (begins m t i) (Chance (m.draws t i)))
  sits_start = subst (Sits m t 0 i) (sym start_is) (record { f = refl; me = refl; night = refl; spent = refl; value = refl; round = refl; chance = refl; kept = refl; hands = refl; boards = refl; finished = refl })

  pub sits : (r : ℕ) → r ≤ 5 → Sits m t r i (within m t r i)
  unfolding during
  sits zero h = sits_fed m t 0 i _ (m.lines t 0 i) sits_start
  sits (suc r) h = sits_fed m t (suc r) i _ (m.lines t (suc r) i) (sits_call m t r i _ (omega arith) (sits r (omega arith)))

  module _ (d : ℕ) (deals : d < dealers_of m.f t) (room : d < 16) where
    abbrev k : play.Sitting
    k = sitting m t d

    in_court : (r : ℕ) (c : Court) → Sits m t r i c → d < dealers_of c.f c.night
    in_court r c s = subst (λ n. d < n) (sym (ap₂ dealers_of s.f s.night)) deals

    -- what comes before the first call changes nothing
    first_seat : seat_at (within m t 0 i) d ≡ seated (cond (eqb i d) (Some (rows_of m t d)) None)
    unfolding during
    first_seat = fed_seat c0 d (in_court 0 c0 sits_start) (omega (arith, sits_start.hands)) (omega (arith, sits_start.boards)) (m.lines t 0 i)
        ∙ silent_lines (terms_at c0 d) (seat_at c0 d) (tagged d (m.lines t 0 i)) sits_start.round
        ∙ ap (λ c. seat_at c d) start_is
        ∙ (λ z. record { round = 0; chance = mine z; hand = get_or-replicate 16 d nothing_heard nothing_heard room z; posts = get_or-replicate 16 d nothing_posted nothing_posted room z; kept = get_or-replicate 16 d None None room z })
      where
        c0 : Court
        c0 = step (begins m t i) (Chance (m.draws t i))

        mine : cond (eqb d i) (drawn m t i) None ≡ cond (eqb i d) (Some (rows_of m t d)) None
        mine = elim (ℕ_discrete d i) [
          | yes e ↦ rw (eq-eqb d i e, eq-eqb i d (sym e)) (subst (λ j. drawn m t j ≡ Some (rows_of m t d)) e (rw (lt-ltb d (dealers_of m.f t) deals)))
          | no n ↦ rw (ne_eqb d i n, ne_eqb i d (λ e. n (sym e)))
        ]

    call_is : (r : ℕ) → r < 5 → seat_at (called m t r i) d ≡ seat.called (play.terms_of k i) (seat_at (within m t r i) d)
    call_is r h = let s = sits r (omega arith) in
        call_seat (within m t r i) d s.spent (omega (arith, s.round)) (omega (arith, s.hands)) (none r h s)
        ∙ ap (λ x. seat.called x (seat_at (within m t r i) d)) (terms_are m t r i d (within m t r i) s)
      where
        none : (r : ℕ) → r < 5 → Sits m t r i (within m t r i) → (within m t r i).round ≡ 0 → get_or (within m t r i).hands d nothing_heard ≡ nothing_heard
        none zero h s e = ap (λ (x : State). x.hand) first_seat
        none (suc r) h s e = absurd (omega (arith, s.round))

    -- a seat of the court is a seat in the dealing by itself
    pub seats_are : (r : ℕ) → r ≤ 5 → seat_at (within m t r i) d ≡ play.after k (play_of m t d) r i
    unfolding during play.after lines_for
    seats_are zero h = first_seat
    seats_are (suc r) h = let c = called m t r i in let s = sits_call m t r i (within m t r i) (omega arith) (sits r (omega arith)) in
        fed_seat c d (in_court (suc r) c s) (omega (arith, s.hands)) (omega (arith, s.boards)) (m.lines t (suc r) i)
        ∙ ap (λ x. foldl (play.taken x) (seat_at c d) (tagged d (m.lines t (suc r) i))) (terms_are m t (suc r) i d c s)
        ∙ ap (λ x. foldl (play.taken (play.terms_of k i)) x (tagged d (m.lines t (suc r) i))) (call_is r (omega arith) ∙ ap (seat.called (play.terms_of k i)) (seats_are r (omega arith)))
        ∙ ap (foldl (play.taken (play.terms_of k i)) (seat.called (play.terms_of k i) (play.after k (play_of m t d) r i))) (ap (λ b. cond b (tagged d (m.lines t (suc r) i)) []) (sym (lt-ltb r 5 (omega arith))))

    -- and so it is when a round is called
    pub calls_are : (r : ℕ) → r < 5 → seat_at (called m t r i) d ≡ play.at_call k (play_of m t d) r i
    calls_are r h = call_is r h ∙ ap (seat.called (play.terms_of k i)) (seats_are r (omega arith))
