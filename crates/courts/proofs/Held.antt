-- The promise of every night: dealings, values, and having the secret back.
use Rattle.std.proofs.Common.{◌≡◌, ℕ, suc, ◌+◌, ◌*◌, ◌<◌, ◌≤◌, Bool, T, get_or, Some, None, sym, refl, ap, ◌∙◌, subst, ap₂, arith}
use Rattle.algebra.specs.Prime.{p}
use Rattle.algebra.specs.Counting.{count}
use Rattle.algebra.specs.Polynomial.{value2}
use Rattle.algebra.specs.Sharing.{Of}
use Rattle.rules.specs.Deal.{Honest, own, or_else}
use Rattle.rules.specs.Rounds.{mine, revealed, complaint}
use Rattle.rules.specs.Seat.{State, accepted, own_share}
use Rattle.rules.specs.Play as play
use Rattle.rules.specs.Play.{overall, One, Passes}
use Rattle.rules.proofs.Slots.{same_some}
use Rattle.rules.proofs.Whole.{one_dealing_lem}
use Rattle.nights.specs.Run.{Lasting, at, Run, held}
use Rattle.nights.specs.Promise as nights
use Rattle.nights.proofs.Days.{holds}
use Rattle.courts.specs.Court.{dealers_of, seat_at}
use Rattle.courts.specs.Nights.{Nights, Plays, keepers_of, begins, within, called}
use Rattle.courts.specs.Promise.{setting, polynomial, board, goes_on, Deals, Given, Stays}
use Rattle.courts.proofs.Sits.{sits, sitting, play_of, terms_are, seats_are}
use Rattle.courts.proofs.Eves.{eves, honest_first}
use Rattle.courts.proofs.Kept.{kept_list, kept_at}
use Rattle.courts.proofs.Apart.{plays_apart, possible, room}
use Rattle.courts.proofs.Records.{run, base, base_is, base_exact, real_first, keeps_run, values_are, same_posts, drawn_exact}

module _ (m : Nights) (lies : ℕ → ℕ → Bool) (lasting : Lasting (keepers_of m lies)) (plays : Plays m lies) (few : m.f ≤ 5) where
  module _ (liars : (t : ℕ) → count (3 * m.f + 1) (lies t) ≤ m.f) (t d : ℕ) (soon : t < m.many) (whole : m.calls t ≡ 6) (deals : d < dealers_of m.f t) where
    abbrev pub k : play.Sitting
    k = sitting m t d

    abbrev pub x : play.Play
    x = play_of m t d

    abbrev pub H : ℕ → Type 0
    H i = Honest (at (keepers_of m lies) t) i

    seat_is : (i : ℕ) → H i → seat_at (within m t 5 i) d ≡ play.after k x 5 i
    seat_is i hi = seats_are m lies plays.fixed t i soon hi (eves m lies lasting plays.fixed plays.born t i soon hi) d deals (room m lies lasting plays.fixed plays.born few t d soon deals) 5 (omega arith)

    board_is : (i : ℕ) → H i → board m t d i ≡ (play.after k x 5 i).posts
    board_is i hi = ap (λ (st : State). st.posts) (seat_is i hi)

    posts_same : (h i : ℕ) → H h → H i → (play.after k x 5 h).posts ≡ (play.after k x 5 i).posts
    posts_same h i hh hi = same_posts m lies lasting plays few t d soon whole deals h i hh hi

    goes_is : (h i : ℕ) → H h → H i → goes_on m t d i ≡ own (overall k x h) i
    goes_is h i hh hi = ap₂ own_share (terms_are m t 5 i d (within m t 5 i) (sits m lies plays.fixed t i soon hi (eves m lies lasting plays.fixed plays.born t i soon hi) 5 (omega arith))) (seat_is i hi)
        ∙ ap (λ q. or_else (mine (play.setting_of k) i (play.after k x 5 i).hand) (revealed q i)) (posts_same i h hi hh)

    pub keeps_is : (i : ℕ) → H i → get_or (called m t 5 i).kept d None ≡ (play.at_call k x 5 i).kept
    keeps_is i hi = let eve = eves m lies lasting plays.fixed plays.born t i soon hi in
        ap (λ l. get_or l d None) (kept_list m lies plays.fixed t i soon hi eve) ∙ kept_at m lies plays.fixed t i soon hi eve few d deals

    dealing : (h : ℕ) → H h → (T (accepted (play.setting_of k) (play.after k x 5 h).posts) → One k (lies t) x h) × (H d → Passes k (lies t) x h (polynomial m t d))
    dealing h hh = let r = one_dealing_lem k (possible m lies lasting plays.fixed plays.born few t d soon deals) (lies t) (liars t) x (plays_apart m lies lasting plays few t d soon whole deals) h hh in
        (r.0, λ hd. r.1 (polynomial m t d) refl (drawn_exact m lies lasting plays few t d soon whole deals hd) hd)

    pub deals_so : Deals m lies t d
    deals_so = record {
      same = λ h i hh hi. board_is h hh ∙ posts_same h i hh hi ∙ sym (board_is i hi);
      one = λ h hh a. let o = (dealing h hh).0 (subst (λ q. T (accepted (setting m t d) q)) (board_is h hh) a) in
          (o.rows, o.low, λ i hi. (subst (Of p o.rows i) (sym (goes_is h i hh hi)) (o.shares i hi), keeps_is i hi ∙ o.values i hi));
      fair = λ hd i hi. let q = (dealing i hi).1 hd in
          (subst (λ b. T (accepted (setting m t d) b)) (sym (board_is i hi)) q.accepts, goes_is i i hi hi ∙ q.dealt i hi, ap (λ b. revealed b i) (board_is i hi) ∙ q.hidden i hi);
      shows = λ hd i j hi hj a e. ((dealing i hi).1 hd).shows i j hi (hj, tt) a (ap (λ b. complaint b i j) (sym (board_is i hi)) ∙ e);
    }

  module _ (some : 0 < m.many) (given : Given m lies) where
    abbrev r : Run
    r = run m lies lasting plays few (base m lies lasting plays few)

    h : nights.Holds (keepers_of m lies) r
    h = holds (keepers_of m lies) lasting r (keeps_run m lies lasting plays few (base m lies lasting plays few) (base_is m lies lasting plays few) (λ t d _ e. base_exact m lies lasting plays few t d e))

    value_is : (t i : ℕ) → t < m.many → Honest (at (keepers_of m lies) t) i → (begins m (suc t) i).value ≡ Some (held (keepers_of m lies) r t i)
    value_is t i soon hi = values_are m lies lasting plays few (base m lies lasting plays few) i (given i (honest_first m lies lasting plays.fixed t i hi)) t soon hi

    said_is : (t : ℕ) → t < m.many → (said : ℕ → ℕ) → ((i : ℕ) → Honest (at (keepers_of m lies) t) i → (begins m (suc t) i).value ≡ Some (said i)) →
        (i : ℕ) → Honest (at (keepers_of m lies) t) i → said i ≡ held (keepers_of m lies) r t i
    said_is t soon said e i hi = same_some (sym (e i hi) ∙ value_is t i soon hi)

    pub stays_so : Stays m lies
    stays_so = record {
      secret = h.secret;
      drawn = λ h0. h.drawn h0 ∙ ap (λ rs. value2 p rs 0 0) (base_is m lies lasting plays few 0 0 (real_first m lies lasting plays few some));
      days = λ t soon. let d = h.stays t in (d.0, d.1, d.2, λ i hi. value_is t i soon hi ∙ ap Some (d.3 i hi));
      found = λ t soon said e. h.found t said (said_is t soon said e);
      back = λ t soon said e. h.back t said (said_is t soon said e);
    }
