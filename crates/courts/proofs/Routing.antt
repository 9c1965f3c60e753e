-- Each line goes to the dealing that it names, and changes nothing in any other.
use Rattle.std.proofs.Common.{◌≡◌, ℕ, ◌+◌, ◌*◌, ◌<◌, Bool, true, false, cond, ◌&&◌, eqb, ltb, leb, ◌≢◌, List, [], ◌∷◌, length, get_or, Some, None, Option, sym, refl, ap, ◌∙◌, subst, arith, length-set, get_or-set_other, get_or-set_same, eq-eqb, ne_eqb}
use mathlib.Core.List.{foldl}
use native.Mathlib.Decide.{ℕ_discrete}
use Rattle.algebra.specs.Prime.{p}
use Rattle.rules.specs.Rounds.{Hand, Posts, nothing_heard, nothing_posted}
use Rattle.rules.specs.Message.{Message, Share, Told, Complaint, Reveal, Fine, Finished, Value}
use Rattle.rules.specs.Wire.{parse, by_kind, read_share, read_told, read_complaint, read_reveal, read_fine, read_finished, read_value, when, number4, number8, share_at, pair_from, small_share, small_pair}
use Rattle.rules.specs.Seat as seat
use Rattle.rules.specs.Seat.{Terms, State, answer, unless, known, mail_taken, board_taken, mail_noted, board_noted}
use Rattle.rules.specs.Play as play
use Rattle.courts.specs.Court.{Court, terms_at, seat_at, outcome, settled, with_seat, mail_heard, board_posted, seat_posted, place_of, dealer_of, of_read, read_by, low_of, dealers_of, members, finished_refusal, with_finished}
use Rattle.courts.specs.Nights.{step, comes, fed}

-- the dealing that a line names
abbrev pub line_tag : play.Line → ℕ
line_tag (play.Mail from bs) = get_or bs 5 0
line_tag (play.Board who bs) = get_or bs 5 0

unfoldable pub tagged : ℕ → List play.Line → List play.Line
tagged d [] = []
tagged d (l ∷ ls) = cond (eqb (line_tag l) d) (l ∷ tagged d ls) (tagged d ls)

-- what is read names the dealing that stands in the sixth byte
abbrev pub Names : ℕ → Option Message → Type 0
Names d o = (m : Message) → o ≡ Some m → dealer_of m ≡ d

pub when-names : (b : Bool) (x : Message) (d : ℕ) → dealer_of x ≡ d → Names d (when b x)
when-names true x d e m q = let z : x ≡ m = cc in ap dealer_of (sym z) ∙ e
when-names false x d e m q = let z : ◌≡◌ {A = ℕ} 0 1 = cc in absurd (omega arith)

pub none_names : (d : ℕ) → Names d None
none_names d m q = let z : ◌≡◌ {A = ℕ} 0 1 = cc in absurd (omega arith)

pub cond-names : (b : Bool) (x y : Option Message) (d : ℕ) → Names d x → Names d y → Names d (cond b x y)
cond-names true x y d f g = f
cond-names false x y d f g = g

pub parse-names : (n high low : ℕ) (bs : List ℕ) → Names (get_or bs 5 0) (parse n high low bs)
unfolding parse
parse-names n high low bs = cond-names (leb 6 (length bs) && ltb d n) (by_kind n high low bs kind night d) None d
    (cond-names (eqb kind 1) (read_share high low bs night d) _ d (when-names (eqb (length bs) (6 + 8 * (high + low)) && small_share (share_at high low bs 6)) (Share night d (share_at high low bs 6)) d refl)
    (cond-names (eqb kind 2) (read_told bs night d) _ d (when-names (eqb (length bs) 22 && small_pair (pair_from bs 6)) (Told night d (pair_from bs 6)) d refl)
    (cond-names (eqb kind 3) (read_complaint n bs night d) _ d (when-names (eqb (length bs) 24 && (ltb (get_or bs 6 0) n && (ltb (get_or bs 7 0) n && small_pair (pair_from bs 8)))) (Complaint night d (get_or bs 6 0) (get_or bs 7 0) (pair_from bs 8)) d refl)
    (cond-names (eqb kind 4) (read_reveal n high low bs night d) _ d (when-names (eqb (length bs) (7 + 8 * (high + low)) && (ltb (get_or bs 6 0) n && small_share (share_at high low bs 7))) (Reveal night d (get_or bs 6 0) (share_at high low bs 7)) d refl)
    (cond-names (eqb kind 5) (read_fine n bs night d) _ d (when-names (eqb (length bs) 8 && (ltb (get_or bs 6 0) n && ltb (get_or bs 7 0) 2)) (Fine night d (get_or bs 6 0) (eqb (get_or bs 7 0) 1)) d refl)
    (cond-names (eqb kind 6) (read_finished n bs night d) _ d (when-names (eqb (length bs) 7 && (eqb d 0 && ltb (get_or bs 6 0) n)) (Finished night d (get_or bs 6 0)) d refl)
    (cond-names (eqb kind 7) (read_value n bs night d) None d (when-names (eqb (length bs) 15 && (eqb d 0 && (ltb (get_or bs 6 0) n && ltb (number8 bs 7) p))) (Value night d (get_or bs 6 0) (number8 bs 7)) d refl) (none_names d))))))))
    (none_names d)
  where
    kind : ℕ
    kind = get_or bs 0 0

    d : ℕ
    d = get_or bs 5 0

    night : ℕ
    night = number4 bs 1

-- REFUSED. A message about another dealing changes nothing.
no_deal : (k n : Bool) (new old : State) → (answer (unless k 1 (unless n 2 (Some 3))) new old).0 ≡ old
no_deal false n new old = refl
no_deal true false new old = refl
no_deal true true new old = refl

no_post : (k o n : Bool) (new old : State) → (answer (unless k 1 (unless o 1 (unless n 2 (Some 3)))) new old).0 ≡ old
no_post false o n new old = refl
no_post true false n new old = refl
no_post true true false new old = refl
no_post true true true new old = refl

refused : (b : Bool) (k : ℕ) (st : State) → (answer (unless b 1 (Some k)) st st).0 ≡ st
refused true k st = refl
refused false k st = refl

mail_else : (t : Terms) (st : State) (from : ℕ) (m : Message) → dealer_of m ≢ t.setting.dealer → (mail_taken t st from m).0 ≡ st
mail_else t st from (Share night dealer x) n = rw (ne_eqb dealer t.setting.dealer n) (no_deal (known t from) _ _ st)
mail_else t st from (Told night dealer a) n = rw (ne_eqb dealer t.setting.dealer n) (no_deal (known t from) _ _ st)
mail_else t st from (Complaint night dealer by about a) n = refused (known t from) 1 st
mail_else t st from (Reveal night dealer keeper x) n = refused (known t from) 1 st
mail_else t st from (Fine night dealer keeper b) n = refused (known t from) 1 st
mail_else t st from (Finished night dealer keeper) n = refused (known t from) 1 st
mail_else t st from (Value night dealer keeper v) n = refused (known t from) 2 st

board_else : (t : Terms) (st : State) (who : ℕ) (m : Message) → dealer_of m ≢ t.setting.dealer → (board_taken t st who m).0 ≡ st
board_else t st who (Share night dealer x) n = refused (known t who) 1 st
board_else t st who (Told night dealer a) n = refused (known t who) 1 st
board_else t st who (Complaint night dealer by about a) n = rw (ne_eqb dealer t.setting.dealer n) (no_post (known t who) (known t about) _ _ st)
board_else t st who (Reveal night dealer keeper x) n = rw (ne_eqb dealer t.setting.dealer n) (no_post (known t who) (known t keeper) _ _ st)
board_else t st who (Fine night dealer keeper b) n = rw (ne_eqb dealer t.setting.dealer n) (no_deal (known t who) _ _ st)
board_else t st who (Finished night dealer keeper) n = refused (known t who) 2 st
board_else t st who (Value night dealer keeper v) n = refused (known t who) 1 st

-- WHAT A LINE CAN CHANGE: what is held of the dealings, what stands on the board, and who has finished.
abbrev pub tables : Court → List Hand → List Posts → List Bool → Court
tables c hands boards finished = record {
  f = c.f;
  me = c.me;
  night = c.night;
  spent = c.spent;
  value = c.value;
  round = c.round;
  chance = c.chance;
  hands = hands;
  boards = boards;
  kept = c.kept;
  finished = finished;
}

pub record Same (c e : Court) : Type 0 where
  pub frame : e ≡ tables c e.hands e.boards e.finished
  pub hands : length e.hands ≡ length c.hands
  pub boards : length e.boards ≡ length c.boards
  pub finished : length e.finished ≡ length c.finished

pub same_self : (c : Court) → Same c c
same_self c = record { frame = refl; hands = refl; boards = refl; finished = refl }

by_outcome : (P : Court → Type 0) (o : Option ℕ) (new old : Court) → P new → P old → P (outcome o new old).0
by_outcome P None new old a b = a
by_outcome P (Some k) new old a b = b

same_settled : (c : Court) (d : ℕ) (r : State × Option ℕ) → Same c (settled c d r).0
same_settled c d r = by_outcome (Same c) r.1 (with_seat c d r.0) c
    (record { frame = refl; hands = length-set c.hands d r.0.hand; boards = length-set c.boards d r.0.posts; finished = refl }) (same_self c)

same_seat : (c : Court) (who : ℕ) (m : Message) → Same c (seat_posted c who m).0
same_seat c who m = same_settled c (place_of c m) (board_taken (terms_at c (place_of c m)) (seat_at c (place_of c m)) who m)

same_posted : (c : Court) (who : ℕ) (m : Message) → Same c (board_posted c who m).0
same_posted c who (Share night dealer x) = same_seat c who (Share night dealer x)
same_posted c who (Told night dealer a) = same_seat c who (Told night dealer a)
same_posted c who (Complaint night dealer by about a) = same_seat c who (Complaint night dealer by about a)
same_posted c who (Reveal night dealer keeper x) = same_seat c who (Reveal night dealer keeper x)
same_posted c who (Fine night dealer keeper b) = same_seat c who (Fine night dealer keeper b)
same_posted c who (Finished night dealer keeper) = by_outcome (Same c) (finished_refusal c who night keeper) (with_finished c who) c
    (record { frame = refl; hands = refl; boards = refl; finished = length-set c.finished who true }) (same_self c)
same_posted c who (Value night dealer keeper v) = same_seat c who (Value night dealer keeper v)

same_read : (c : Court) (o : Option Message) (take : Message → Court × Option ℕ) → ((m : Message) → Same c (take m).0) → Same c (of_read c o take).0
same_read c None take h = same_self c
same_read c (Some m) take h = h m

pub line_same : (c : Court) (l : play.Line) → Same c (step c (comes l))
line_same c (play.Mail from bs) = same_read c (read_by c bs) (mail_heard c from) (λ m. same_settled c (place_of c m) (mail_taken (terms_at c (place_of c m)) (seat_at c (place_of c m)) from m))
line_same c (play.Board who bs) = same_read c (read_by c bs) (board_posted c who) (same_posted c who)

-- A SEAT AFTER A LINE
module _ (c : Court) (d : ℕ) (inside : d < dealers_of c.f c.night) (hl : d < length c.hands) (bl : d < length c.boards) where
  seat_back : (x : State) → seat_at (with_seat c d x) d ≡ record { round = c.round; chance = cond (eqb d c.me) c.chance None; hand = x.hand; posts = x.posts; kept = get_or c.kept d None }
  seat_back x z = record {
    round = c.round;
    chance = cond (eqb d c.me) c.chance None;
    hand = get_or-set_same c.hands d x.hand nothing_heard hl z;
    posts = get_or-set_same c.boards d x.posts nothing_posted bl z;
    kept = get_or c.kept d None;
  }

  seat_else : (e : ℕ) (x : State) → d ≢ e → seat_at (with_seat c e x) d ≡ seat_at c d
  seat_else e x n z = record {
    round = c.round;
    chance = cond (eqb d c.me) c.chance None;
    hand = get_or-set_other c.hands e d x.hand nothing_heard n z;
    posts = get_or-set_other c.boards e d x.posts nothing_posted n z;
    kept = get_or c.kept d None;
  }

  abbrev st : State
  st = seat_at c d

  mail_noted_lem : (i : ℕ) (m : Message) → seat_at (with_seat c d (mail_noted st i m)) d ≡ mail_noted st i m
  mail_noted_lem i m = seat_back (mail_noted st i m) ∙ eta m
    where
      eta : (m : Message) → record { round = c.round; chance = cond (eqb d c.me) c.chance None; hand = (mail_noted st i m).hand; posts = (mail_noted st i m).posts; kept = get_or c.kept d None } ≡ mail_noted st i m
      eta (Share night dealer x) = refl
      eta (Told night dealer a) = refl
      eta (Complaint night dealer by about a) = refl
      eta (Reveal night dealer keeper x) = refl
      eta (Fine night dealer keeper b) = refl
      eta (Finished night dealer keeper) = refl
      eta (Value night dealer keeper v) = refl

  board_noted_lem : (i : ℕ) (m : Message) → seat_at (with_seat c d (board_noted st i m)) d ≡ board_noted st i m
  board_noted_lem i m = seat_back (board_noted st i m) ∙ eta m
    where
      eta : (m : Message) → record { round = c.round; chance = cond (eqb d c.me) c.chance None; hand = (board_noted st i m).hand; posts = (board_noted st i m).posts; kept = get_or c.kept d None } ≡ board_noted st i m
      eta (Share night dealer x) = refl
      eta (Told night dealer a) = refl
      eta (Complaint night dealer by about a) = refl
      eta (Reveal night dealer keeper x) = refl
      eta (Fine night dealer keeper b) = refl
      eta (Finished night dealer keeper) = refl
      eta (Value night dealer keeper v) = refl

  answered : (o : Option ℕ) (new : State) → seat_at (with_seat c d new) d ≡ new → seat_at (settled c d (answer o new st)).0 d ≡ (answer o new st).0
  answered None new e = e
  answered (Some k) new e = refl

  -- the place that a message goes to is the dealing that it names, or it changes nothing there
  module _ (take : ℕ → Message → State × Option ℕ) (m : Message) (put : seat_at (settled c d (take d m)).0 d ≡ (take d m).0) (else : dealer_of m ≢ d → (take d m).0 ≡ st) where
    away : (e : ℕ) (r : State × Option ℕ) → d ≢ e → seat_at (settled c e r).0 d ≡ st
    away e r n = by_outcome (λ k. seat_at k d ≡ st) r.1 (with_seat c e r.0) c (seat_else e r.0 n) refl

    place_is : dealer_of m ≡ d → place_of c m ≡ d
    place_is e = by (eqb c.night 0) inside
      where
        by : (b : Bool) → d < cond b 1 (3 * c.f + 1) → cond b 0 (dealer_of m) ≡ d
        by true h = omega arith
        by false h = e

    there : (e : ℕ) → e ≡ d → seat_at (settled c e (take e m)).0 d ≡ (take d m).0
    there e q = subst (λ k. seat_at (settled c k (take k m)).0 d ≡ (take d m).0) (sym q) put

    pub one_seat : (tag : ℕ) → dealer_of m ≡ tag → seat_at (settled c (place_of c m) (take (place_of c m) m)).0 d ≡ cond (eqb tag d) (take d m).0 st
    one_seat tag e = go (ℕ_discrete tag d)
      where
        go : Dec (tag ≡ d) → seat_at (settled c (place_of c m) (take (place_of c m) m)).0 d ≡ cond (eqb tag d) (take d m).0 st
        go (yes q) = rw (eq-eqb tag d q) (there (place_of c m) (place_is (e ∙ q)))
        go (no n) = rw (ne_eqb tag d n) (elim (ℕ_discrete (place_of c m) d) [
          | yes q ↦ there (place_of c m) q ∙ else (λ r. n (sym e ∙ r))
          | no q ↦ away (place_of c m) (take (place_of c m) m) (λ r. q (sym r))
        ])

  by_mail : (from tag : ℕ) (o : Option Message) → Names tag o → seat_at (of_read c o (mail_heard c from)).0 d ≡ cond (eqb tag d) (seat.of_read st o (mail_taken (terms_at c d) st from)).0 st
  by_mail from tag None h = sym (either (eqb tag d))
    where
      either : (b : Bool) → cond b st st ≡ st
      either true = refl
      either false = refl
  by_mail from tag (Some m) h = one_seat (λ e x. mail_taken (terms_at c e) (seat_at c e) from x) m (answered (unless (known (terms_at c d) from) 1 (seat.mail_refusal (terms_at c d) st from m)) (mail_noted st from m) (mail_noted_lem from m)) (mail_else (terms_at c d) st from m) tag (h m refl)

  by_seat : (who tag : ℕ) (m : Message) → dealer_of m ≡ tag → seat_at (seat_posted c who m).0 d ≡ cond (eqb tag d) (board_taken (terms_at c d) st who m).0 st
  by_seat who tag m e = one_seat (λ e x. board_taken (terms_at c e) (seat_at c e) who x) m (answered (unless (known (terms_at c d) who) 1 (seat.board_refusal (terms_at c d) st who m)) (board_noted st who m) (board_noted_lem who m)) (board_else (terms_at c d) st who m) tag e

  by_board : (who tag : ℕ) (o : Option Message) → Names tag o → seat_at (of_read c o (board_posted c who)).0 d ≡ cond (eqb tag d) (seat.of_read st o (board_taken (terms_at c d) st who)).0 st
  by_board who tag None h = by_mail 0 tag None h
  by_board who tag (Some (Share night dealer x)) h = by_seat who tag (Share night dealer x) (h (Share night dealer x) refl)
  by_board who tag (Some (Told night dealer a)) h = by_seat who tag (Told night dealer a) (h (Told night dealer a) refl)
  by_board who tag (Some (Complaint night dealer by about a)) h = by_seat who tag (Complaint night dealer by about a) (h (Complaint night dealer by about a) refl)
  by_board who tag (Some (Reveal night dealer keeper x)) h = by_seat who tag (Reveal night dealer keeper x) (h (Reveal night dealer keeper x) refl)
  by_board who tag (Some (Fine night dealer keeper b)) h = by_seat who tag (Fine night dealer keeper b) (h (Fine night dealer keeper b) refl)
  by_board who tag (Some (Finished night dealer keeper)) h = by_outcome (λ k. seat_at k d ≡ st) (finished_refusal c who night keeper) (with_finished c who) c refl refl ∙ sym (rw (refused (known (terms_at c d) who) 2 st) (either (eqb tag d)))
    where
      either : (b : Bool) → cond b st st ≡ st
      either true = refl
      either false = refl
  by_board who tag (Some (Value night dealer keeper v)) h = by_seat who tag (Value night dealer keeper v) (h (Value night dealer keeper v) refl)

  pub line_seat : (l : play.Line) → seat_at (step c (comes l)) d ≡ cond (eqb (line_tag l) d) (play.taken (terms_at c d) st l) st
  line_seat (play.Mail from bs) = by_mail from (get_or bs 5 0) (read_by c bs) (parse-names (members c) (c.f + 1) (low_of c.f c.night) bs)
  line_seat (play.Board who bs) = by_board who (get_or bs 5 0) (read_by c bs) (parse-names (members c) (c.f + 1) (low_of c.f c.night) bs)

-- MANY LINES
same_trans : (c d e : Court) → Same c d → Same d e → Same c e
same_trans c d e p q = record {
  frame = q.frame ∙ ap (λ k. tables k e.hands e.boards e.finished) p.frame;
  hands = q.hands ∙ p.hands;
  boards = q.boards ∙ p.boards;
  finished = q.finished ∙ p.finished;
}

pub fed_same : (c : Court) (ls : List play.Line) → Same c (fed c ls)
unfolding fed
fed_same c [] = same_self c
fed_same c (l ∷ ls) = same_trans c (step c (comes l)) (fed (step c (comes l)) ls) (line_same c l) (fed_same (step c (comes l)) ls)

-- a seat after some lines is what those make of it that name its dealing
pub fed_seat : (c : Court) (d : ℕ) → d < dealers_of c.f c.night → d < length c.hands → d < length c.boards → (ls : List play.Line) → seat_at (fed c ls) d ≡ foldl (play.taken (terms_at c d)) (seat_at c d) (tagged d ls)
unfolding fed tagged
fed_seat c d inside hl bl [] = refl
fed_seat c d inside hl bl (l ∷ ls) =
    fed_seat e d (subst (λ k. d < dealers_of k.f k.night) (sym s.frame) inside) (omega (arith, s.hands)) (omega (arith, s.boards)) ls
    ∙ ap (λ k. foldl (play.taken (terms_at k d)) (seat_at e d) (tagged d ls)) s.frame
    ∙ ap (λ x. foldl (play.taken (terms_at c d)) x (tagged d ls)) (line_seat c d inside hl bl l)
    ∙ either (eqb (line_tag l) d)
  where
    e : Court
    e = step c (comes l)

    s : Same c e
    s = line_same c l

    either : (b : Bool) → foldl (play.taken (terms_at c d)) (cond b (play.taken (terms_at c d) (seat_at c d) l) (seat_at c d)) (tagged d ls) ≡ foldl (play.taken (terms_at c d)) (seat_at c d) (cond b (l ∷ tagged d ls) (tagged d ls))
    either true = refl
    either false = refl
