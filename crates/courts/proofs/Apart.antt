-- In a night with all its rounds, each dealing is played as it would be by itself.
use Rattle.std.proofs.Common.{◌≡◌, ℕ, zero, suc, ◌+◌, ◌-◌, ◌*◌, ◌<◌, ◌≤◌, Bool, true, false, cond, not, ◌||◌, eqb, [], ◌∷◌, ◌++◌, map, Some, None, Option, sym, refl, ap, ◌∙◌, subst, ap₂, append-nil, arith, le-ltb, lt-ltb, eq-eqb, ne_eqb}
use mathlib.Core.Path.{fun_ext}
use native.Mathlib.Decide.{dec_lt}
use Rattle.std.specs.Option.{option_to_list}
use Rattle.rules.specs.Deal.{Honest}
use Rattle.rules.specs.Rounds.{words_by}
use Rattle.rules.specs.Message.{Message, Finished}
use Rattle.rules.specs.Wire.{wire}
use Rattle.rules.specs.Seat.{Terms, State, known, mail_to, line_of}
use Rattle.rules.specs.Play as play
use Rattle.rules.specs.Play.{collected, mail_of, board_of}
use Rattle.rules.proofs.Sat.{late_call}
use Rattle.nights.specs.Run.{Lasting, at}
use Rattle.courts.specs.Court.{Court, at_day, dealers_of, members, terms_at, seat_at, letter_to, post_at, posts_up_to, finished_word}
use Rattle.courts.specs.Nights.{Nights, Called, Born, Plays, keepers_of, begins, within, called, sends, posts}
use Rattle.courts.proofs.Sits.{Sits, sits, sits_call, sitting, play_of, lines_for, board_for, keep, terms_are, calls_are}
use Rattle.courts.proofs.Tags.{of_tag, mail-tagged, board-tagged, words_keep, each_tag, posts_tag, mail-names, line_names}
use Rattle.courts.proofs.Eves.{Here, eves}
use Rattle.courts.proofs.Public.{call_here}

-- after the sixth call nothing is said
pub quiet-mail : (t : Terms) (st : State) (j : ℕ) → st.round ≡ 6 → mail_to t st j ≡ None
quiet-mail t st j e = rw e (both (eqb j t.me || not (known t j)))
  where
    both : (b : Bool) → ◌≡◌ {A = Option Message} (cond b None None) None
    both true = refl
    both false = refl

pub quiet_line : (t : Terms) (st : State) (k : ℕ) → st.round ≡ 6 → line_of t st k ≡ None
quiet_line t st k e = rw e (both (known t k))
  where
    both : (b : Bool) → ◌≡◌ {A = Option Message} (cond b None None) None
    both true = refl
    both false = refl

none_collected : (n : ℕ) (g : ℕ → Option Message) → ((e : ℕ) → g e ≡ None) → collected n g ≡ []
unfolding collected
none_collected zero g h = refl
none_collected (suc n) g h = ap₂ ◌++◌ (none_collected n g h) (ap option_to_list (h n))

no_posts : (c : Court) (n : ℕ) → ((d k : ℕ) → post_at c d k ≡ None) → posts_up_to c n ≡ []
unfolding posts_up_to
no_posts c zero h = refl
no_posts c (suc n) h = ap₂ ◌++◌ (no_posts c n h) (none_collected (members c) (post_at c n) (h n))

-- but that one has finished
module _ (m : Nights) (lies : ℕ → ℕ → Bool) (lasting : Lasting (keepers_of m lies)) (fixed : Called m lies) (born : Born m lies) (t i : ℕ) (soon : t < m.many) (hi : Honest (at (keepers_of m lies) t) i) where
  abbrev c : Court
  c = called m t 5 i

  last : Here m t 6 i c
  last = call_here m lies lasting fixed t i soon hi (eves m lies lasting fixed born t i soon hi) 5 (omega arith)

  pub last_sends : (j : ℕ) → sends m t 5 i j ≡ []
  last_sends j = ap (map wire) (none_collected (dealers_of c.f c.night) (letter_to c j) (λ d. quiet-mail (terms_at c d) (seat_at c d) j last.round))

  pub last_posts : posts m t 5 i ≡ wire (Finished t 0 i) ∷ []
  last_posts = ap (λ l. map wire (l ++ option_to_list (finished_word c))) (no_posts c (dealers_of c.f c.night) (λ d n. quiet_line (terms_at c d) (seat_at c d) n last.round))
      ∙ ap (λ b. map wire (option_to_list (cond b (Some (Finished c.night 0 c.me)) None))) (eq-eqb c.round 6 last.round)
      ∙ ap₂ (λ a b. wire (Finished a 0 b) ∷ []) last.night last.me

module _ (m : Nights) (lies : ℕ → ℕ → Bool) (lasting : Lasting (keepers_of m lies)) (fixed : Called m lies) (born : Born m lies) (few : m.f ≤ 5) (t d : ℕ) (soon : t < m.many) (deals : d < dealers_of m.f t) where
  abbrev k : play.Sitting
  k = sitting m t d

  abbrev x : play.Play
  x = play_of m t d

  pub room : d < 16
  room = by (eqb t 0) deals
    where
      by : (b : Bool) → d < cond b 1 (3 * m.f + 1) → d < 16
      by true h = omega arith
      by false h = omega arith

  pub possible : play.Possible k
  possible = record { few = few; timed = omega (arith, fixed.few); deals = all_deal (eqb t 0) deals; some = omega arith; wide = omega arith; tall = low (eqb t 0) }
    where
      all_deal : (b : Bool) → d < cond b 1 (3 * m.f + 1) → d < 3 * m.f + 1
      all_deal true h = omega arith
      all_deal false h = h

      low : (b : Bool) → cond b (m.f + 1) m.f ≤ m.f + 1
      low true = omega arith
      low false = omega arith

  -- what a court says about the dealing is what the seat says
  module _ (i : ℕ) (hi : Honest (at (keepers_of m lies) t) i) where
    eve : begins m t i ≡ at_day m.f i t false (begins m t i).value
    eve = eves m lies lasting fixed born t i soon hi

    pub called-sits : (r : ℕ) → r < 5 → Sits m t (suc r) i (called m t r i)
    called-sits r h = sits_call m t r i (within m t r i) h (sits m lies fixed t i soon hi eve r (omega arith))

    terms : (r e : ℕ) → r < 5 → terms_at (called m t r i) e ≡ play.terms_of (sitting m t e) i
    terms r e h = terms_are m t (suc r) i e (called m t r i) (called-sits r h)

    pub letter_is : (r j : ℕ) → r < 5 → letter_to (called m t r i) j d ≡ mail_to (play.terms_of k i) (play.at_call k x r i) j
    letter_is r j h = ap₂ (λ a st. mail_to a st j) (terms r d h) (calls_are m lies fixed t i soon hi eve d deals room r h)

    pub post_is : (r n : ℕ) → r < 5 → post_at (called m t r i) d n ≡ line_of (play.terms_of k i) (play.at_call k x r i) n
    post_is r n h = ap₂ (λ a st. line_of a st n) (terms r d h) (calls_are m lies fixed t i soon hi eve d deals room r h)

    all : (r : ℕ) → r < 5 → d < dealers_of (called m t r i).f (called m t r i).night
    all r h = subst (λ n. d < n) (sym (ap₂ dealers_of (called-sits r h).f (called-sits r h).night)) deals

    pub says : (r j : ℕ) → r < 5 → of_tag d (sends m t r i j) ≡ play.sends k x r i j
    says r j h = each_tag d _ (letter_to (called m t r i) j) (λ e. mail-names (terms_at (called m t r i) e) (seat_at (called m t r i) e) j) (all r h) ∙ ap (λ o. map wire (option_to_list o)) (letter_is r j h)

    pub unfinished : (r : ℕ) → r < 5 → finished_word (called m t r i) ≡ None
    unfinished r h = rw (ne_eqb (called m t r i).round 6 (λ e. omega (arith, (called-sits r h).round)))

    pub puts_so : (r : ℕ) → r < 5 → map wire (collected (members (called m t r i)) (post_at (called m t r i) d)) ≡ play.posts k x r i
    puts_so r h = ap₂ (λ n g. map wire (collected n g)) (ap (λ f. 3 * f + 1) (called-sits r h).f) (fun_ext (λ n. post_is r n h))

    pub puts : (r : ℕ) → r < 5 → of_tag d (posts m t r i) ≡ play.posts k x r i
    puts r h =
        ap (λ o. of_tag d (map wire (posts_up_to c (dealers_of c.f c.night) ++ option_to_list o))) (unfinished r h)
        ∙ ap (λ l. of_tag d (map wire l)) (append-nil (posts_up_to c (dealers_of c.f c.night)))
        ∙ posts_tag c (λ e n. line_names (terms_at c e) (seat_at c e) n) d (dealers_of c.f c.night) (all r h)
        ∙ puts_so r h
      where
        c : Court
        c = called m t r i

module _ (m : Nights) (lies : ℕ → ℕ → Bool) (lasting : Lasting (keepers_of m lies)) (plays : Plays m lies) (few : m.f ≤ 5) (t d : ℕ) (soon : t < m.many) (whole : m.calls t ≡ 6) (deals : d < dealers_of m.f t) where
  abbrev K : play.Sitting
  K = sitting m t d

  abbrev X : play.Play
  X = play_of m t d

  sees : (r i : ℕ) → Honest (at (keepers_of m lies) t) i → board_of (X.lines r i) ≡ X.board r
  unfolding lines_for board_for board_of
  sees zero i h = refl
  sees (suc r) i h = elim (dec_lt r 5) [
    | yes l ↦ rw (lt-ltb r 5 l) (board-tagged d (m.lines t (suc r) i) ∙ ap (keep d) (plays.fixed.sees t (suc r) i soon (omega arith) h))
    | no l ↦ rw (le-ltb r 5 (omega arith))
  ]

  module _ (i : ℕ) (hi : Honest (at (keepers_of m lies) t) i) where
    late : (r : ℕ) → 5 ≤ r → (play.at_call K X r i).round ≡ 6
    late r h = let e : r ≡ r - 5 + 5 = omega arith in ap (λ n. (play.at_call K X n i).round) e ∙ late_call K X (r - 5) i

    mails : (r j : ℕ) → words_by i (mail_of (X.lines (suc r) j)) ≡ play.sends K X r i j
    unfolding lines_for mail_of words_by
    mails r j = elim (dec_lt r 5) [
      | yes l ↦ rw (lt-ltb r 5 l) (ap (words_by i) (mail-tagged d (m.lines t (suc r) j)) ∙ words_keep i d (mail_of (m.lines t (suc r) j)) ∙ ap (of_tag d) (plays.mails t r i j soon (omega arith) hi) ∙ says m lies lasting plays.fixed plays.born few t d soon deals i hi r j l)
      | no l ↦ rw (le-ltb r 5 (omega arith)) (sym (ap (λ o. map wire (option_to_list o)) (quiet-mail (play.terms_of K i) (play.at_call K X r i) j (late r (omega arith)))))
    ]

    lines : (r : ℕ) → words_by i (X.board (suc r)) ≡ play.posts K X r i
    unfolding board_for words_by
    lines r = elim (dec_lt r 5) [
      | yes l ↦ rw (lt-ltb r 5 l) (words_keep i d (m.board t (suc r)) ∙ ap (of_tag d) (plays.lines t r i soon (omega arith) hi) ∙ puts m lies lasting plays.fixed plays.born few t d soon deals i hi r l)
      | no l ↦ rw (le-ltb r 5 (omega arith)) (sym (ap (map wire) (none_collected (3 * m.f + 1) _ (λ n. quiet_line (play.terms_of K i) (play.at_call K X r i) n (late r (omega arith))))))
    ]

  pub plays_apart : play.Plays K (lies t) X
  unfolding lines_for board_for mail_of words_by
  plays_apart = record { sees = sees; mails = λ r i j h. mails i h r j; lines = λ r i h. lines i h r; silent = λ i j h. (refl, refl) }
