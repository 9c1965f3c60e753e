-- The run in which one dealer of each night draws other numbers: each of its dealings by itself.
use Rattle.std.proofs.Common.{◌≡◌, ℕ, zero, suc, ◌+◌, ◌*◌, ◌%◌, ◌<◌, ◌≤◌, Bool, true, false, cond, not, ◌&&◌, ◌||◌, T, eqb, ltb, ◌⊎◌, List, [], ◌∷◌, ◌++◌, map, length, get_or, Some, None, Option, sym, refl, ap, ◌∙◌, subst, ap₂, inl, inr, ⊎_elim, true≢false, append-nil, arith, ltb-true, lt-ltb, eq-eqb, ne_eqb, eqb-true}
use mathlib.Core.Path.{fun_ext}
use mathlib.Core.List.{Memᴰ}
use native.Mathlib.Decide.{ℕ_discrete}
use Rattle.std.specs.Option.{option_to_list}
use Rattle.algebra.specs.Prime.{p}
use Rattle.algebra.specs.Counting.{count}
use Rattle.algebra.specs.Polynomial.{value, value2, Exact2, Low2, plus2}
use Rattle.algebra.proofs.Coefficients.{exact_plus2}
use Rattle.rules.specs.Deal.{Keeper, Honest, own}
use Rattle.rules.specs.Rounds.{words_by}
use Rattle.rules.specs.Wire.{small, wire, when}
use Rattle.rules.specs.Seat.{State, accepted, mail_to}
use Rattle.rules.specs.Play as play
use Rattle.rules.specs.Play.{mail_of, board_of, overall, collected}
use Rattle.rules.proofs.Retouch.{to_each, to_each_same, words_retouch, retouch_same}
use Rattle.rules.proofs.Slots.{never}
use Rattle.rules.proofs.Retold as retold
use Rattle.rules.proofs.Retold.{resay, reline, board-reline, mail-reline}
use Rattle.rules.proofs.Sat as sat
use Rattle.rules.proofs.Sat.{plays_keep_lem}
use Rattle.nights.specs.Run as nights
use Rattle.nights.specs.Run.{Keepers, Lasting, at, dealers, width, Spied, Run, Keeps, held}
use Rattle.nights.proofs.Forever.{who, who_in, who_out, who_honest, inside, by, by_low, unseen, moved, at_who, elsewhere, values, secret}
use Rattle.nights.proofs.Plainly.{plain}
use Rattle.courts.specs.Court.{Court, Chance, Round, low_of, dealers_of, rows_from, members, terms_at, seat_at, letter_to, post_at, posts_up_to, posts_of, finished_word}
use Rattle.courts.specs.Promise.{OneDay, Seen, Moved, over, polynomial}
use Rattle.courts.specs.Nights.{Nights, Called, Born, Plays, keepers_of, step, fed, during, begins, within, called, sends, posts}
use Rattle.courts.proofs.Routing.{Names, tagged}
use Rattle.courts.proofs.Tags.{of_tag, mail-tagged, words_keep, mail-names}
use Rattle.courts.proofs.Sits.{Sits, sitting, play_of, rows_of, lines_for, board_for, lines_for_is}
use Rattle.courts.proofs.Eves.{eves, honest_before, honest_first, next_of}
use Rattle.courts.proofs.Public.{over_at, over_is}
use Rattle.courts.proofs.First.{first_value, over_same, ends_with}
use Rattle.courts.proofs.Apart.{plays_apart, possible, called-sits, letter_is, puts_so, unfinished, last_sends, last_posts}
use Rattle.courts.proofs.Draws.{flat, flat_back, flat-length, flat_small}
use Rattle.courts.proofs.Records.{real, real_whole, real_first, drawn_exact, dealers_are, width_is, guide, guide_honest, happened, run, base, base_is, base_exact, keeps_run, values_are}
use Rattle.courts.proofs.Turned.{turn, resay-names, tagged_there, tagged_else, turn_all, turn_none, collected_anew, collected_same, posts_same, reline_none, turn_same, say-later}

and_left : (a b : Bool) → (a && b) ≡ true → a ≡ true
and_left true b e = refl
and_left false b e = e

module _ (m : Nights) (lies : ℕ → ℕ → Bool) (lasting : Lasting (keepers_of m lies)) (plays : Plays m lies) (few : m.f ≤ 5) (liars : (t : ℕ) → count (3 * m.f + 1) (lies t) ≤ m.f)
    (day night : ℕ → List ℕ) (spied : Spied (keepers_of m lies) day night) (out : Memᴰ 0 (night 0) → ⊥) (δ : ℕ) where
  abbrev pub Q : Keepers
  Q = keepers_of m lies

  -- who draws other numbers, and which
  abbrev pub w : ℕ → ℕ
  w = who Q lasting day night spied out

  abbrev pub q : ℕ → List (List ℕ)
  q = by Q lasting day night spied out δ

  -- in the first night, and in each that is over
  abbrev pub R : ℕ → Bool
  R = real m lies lasting plays few

  abbrev pub ts : ℕ → List (List ℕ)
  ts t = plus2 p (rows_of m t (w t)) (q t)

  abbrev pub say : (t r j : ℕ) → ℕ → List ℕ → List ℕ
  say t r j = resay (sitting m t (w t)) (lies t) (ts t) r j

  abbrev pub n : Nights
  n = record {
    f = m.f;
    many = m.many;
    draws = λ t i. cond (R t && eqb i (w t)) (flat (ts t)) (m.draws t i);
    calls = m.calls;
    lines = λ t r j. cond (R t) (map (reline (turn (w t) (say t r j))) (m.lines t r j)) (m.lines t r j);
    board = m.board;
  }

  pub w-deals : (t : ℕ) → w t < dealers_of m.f t
  w-deals t = subst (λ x. w t < x) (dealers_are Q t) (who_in Q lasting day night spied out t)

  pub w_honest : (t : ℕ) → Honest (at Q t) (w t)
  w_honest = who_honest Q lasting day night spied out

  q_low : (t : ℕ) → Low2 (m.f + 1) (low_of m.f t) (q t)
  q_low t = subst (λ x. Low2 (m.f + 1) x (q t)) (width_is Q t) (by_low Q lasting day night spied out δ t)

  module _ (t : ℕ) (e : R t ≡ true) where
    pub soon : t < m.many
    soon = (real_whole m lies lasting plays few t e).0

    pub whole : m.calls t ≡ 6
    whole = (real_whole m lies lasting plays few t e).1

    abbrev pub k : play.Sitting
    k = sitting m t (w t)

    abbrev pub x : play.Play
    x = play_of m t (w t)

    exact : Exact2 p (m.f + 1) (low_of m.f t) (rows_of m t (w t))
    exact = drawn_exact m lies lasting plays few t (w t) soon whole (w-deals t) (w_honest t)

    pub exact_ts : Exact2 p (m.f + 1) (low_of m.f t) (ts t)
    exact_ts = exact_plus2 p (m.f + 1) (low_of m.f t) (rows_of m t (w t)) (q t) (omega arith) exact (q_low t)

    pub apart : play.Plays k (lies t) x
    apart = plays_apart m lies lasting plays few t (w t) soon whole (w-deals t)

    pub can : play.Possible k
    can = possible m lies lasting plays.fixed plays.born few t (w t) soon (w-deals t)

    keeper : (i : ℕ) → Memᴰ i (night t) → Keeper (at Q t) i
    keeper i h = (inside Q lasting day night spied out t i h, tt)

    abbrev pub other : play.Play
    other = retold.retold k (lies t) (ts t) x

    pub other_plays : play.Plays k (lies t) other
    other_plays = retold.plays_so k can (lies t) (liars t) x apart (rows_of m t (w t)) refl exact (w_honest t) (night t) keeper (λ i h. spied.liars t i h.0) (who_out Q lasting day night spied out t) (q t) (q_low t) (unseen Q lasting day night spied out δ t)

    pub other_posts : (r i : ℕ) → Honest (at Q t) i → play.posts k x r i ≡ play.posts k other r i
    other_posts = retold.posts_so k can (lies t) (liars t) x apart (rows_of m t (w t)) refl exact (w_honest t) (night t) keeper (λ i h. spied.liars t i h.0) (who_out Q lasting day night spied out t) (q t) (q_low t) (unseen Q lasting day night spied out δ t)

    pub other_words : (r i j : ℕ) → Memᴰ i (night t) ⊎ Memᴰ j (night t) → to_each (say t r j i) (words_by i (mail_of (x.lines r j))) ≡ words_by i (mail_of (x.lines r j))
    other_words = retold.words_so k can (lies t) (liars t) x apart (rows_of m t (w t)) refl exact (w_honest t) (night t) keeper (λ i h. spied.liars t i h.0) (who_out Q lasting day night spied out t) (q t) (q_low t) (unseen Q lasting day night spied out δ t)

    other_seen : (r i : ℕ) → sat.seen k other r i ≡ sat.seen k x r i
    other_seen = retold.seen_so k can (lies t) (liars t) x apart (rows_of m t (w t)) refl exact (w_honest t) (night t) keeper (λ i h. spied.liars t i h.0) (who_out Q lasting day night spied out t) (q t) (q_low t) (unseen Q lasting day night spied out δ t)

    pub other_board : (i : ℕ) → (play.after k other 5 i).posts ≡ (play.after k x 5 i).posts
    other_board i = ap (λ (st : State). st.posts) (sat.after5 k other i) ∙ other_seen 5 i ∙ sym (ap (λ (st : State). st.posts) (sat.after5 k x i))

    -- what is said in the other is what was said, said anew
    pub other_sends : (r i j : ℕ) → Honest (at Q t) i → to_each (say t (suc r) j i) (play.sends k x r i j) ≡ play.sends k other r i j
    other_sends r i j hi = ap (to_each (say t (suc r) j i)) (sym (apart.mails r i j hi)) ∙ sym (words_retouch (say t (suc r) j) i (mail_of (x.lines (suc r) j)))
        ∙ ap (words_by i) (sym (mail-reline (say t (suc r) j) (x.lines (suc r) j))) ∙ other_plays.mails r i j hi

  -- THE DRAWS
  drawn_there : (t : ℕ) → R t ≡ true → n.draws t (w t) ≡ flat (ts t)
  drawn_there t e = ap₂ (λ a b. cond (a && b) (flat (ts t)) (m.draws t (w t))) e (eq-eqb (w t) (w t) refl)

  pub drawn_else : (t i : ℕ) → (R t ≡ true → i ≡ w t → ⊥) → n.draws t i ≡ m.draws t i
  drawn_else t i h = go (R t) (eqb i (w t)) h (eqb-true i (w t))
    where
      go : (a b : Bool) → (a ≡ true → i ≡ w t → ⊥) → (b ≡ true → i ≡ w t) → cond (a && b) (flat (ts t)) (m.draws t i) ≡ m.draws t i
      go true true h f = absurd (h refl (f refl))
      go true false h f = refl
      go false b h f = refl

  pub rows_there : (t : ℕ) → R t ≡ true → rows_of n t (w t) ≡ ts t
  rows_there t e = ap (rows_from (low_of m.f t) (m.f + 1)) (drawn_there t e) ∙ flat_back (low_of m.f t) (m.f + 1) (ts t) (exact_ts t e)

  draws_ok : (t i : ℕ) → t < m.many → Honest (at Q t) i → i < dealers_of m.f t → (length (n.draws t i) ≡ (m.f + 1) * low_of m.f t) × (small (n.draws t i) ≡ true)
  draws_ok t i s h d = go (R t && eqb i (w t)) (λ e. and_left (R t) (eqb i (w t)) e)
    where
      go : (b : Bool) → (b ≡ true → R t ≡ true) → (length (cond b (flat (ts t)) (m.draws t i)) ≡ (m.f + 1) * low_of m.f t) × (small (cond b (flat (ts t)) (m.draws t i)) ≡ true)
      go true f = (flat-length (low_of m.f t) (m.f + 1) (ts t) (exact_ts t (f refl)), flat_small (low_of m.f t) (m.f + 1) (ts t) (exact_ts t (f refl)))
      go false f = plays.fixed.draws t i s h d

  -- WHAT IS SET
  board_kept : (t r i : ℕ) → board_of (n.lines t r i) ≡ board_of (m.lines t r i)
  board_kept t r i = go (R t)
    where
      go : (b : Bool) → board_of (cond b (map (reline (turn (w t) (say t r i))) (m.lines t r i)) (m.lines t r i)) ≡ board_of (m.lines t r i)
      go true = board-reline (turn (w t) (say t r i)) (m.lines t r i)
      go false = refl

  pub fixed_n : Called n lies
  fixed_n = record {
    few = plays.fixed.few;
    rounds = plays.fixed.rounds;
    first = plays.fixed.first;
    draws = draws_ok;
    sees = λ t r i s h hi. board_kept t r i ∙ plays.fixed.sees t r i s h hi;
  }

  -- EACH DEALING BY ITSELF
  boards_kept : (t d r : ℕ) → board_for n t d r ≡ board_for m t d r
  unfolding board_for
  boards_kept t d zero = refl
  boards_kept t d (suc r) = refl

  lines_there : (t : ℕ) → R t ≡ true → (r j : ℕ) → lines_for n t (w t) r j ≡ map (reline (say t r j)) (lines_for m t (w t) r j)
  unfolding lines_for
  lines_there t e zero j = refl
  lines_there t e (suc r) j = ap (λ b. cond (ltb r 5) (tagged (w t) (cond b (map (reline (turn (w t) (say t (suc r) j))) (m.lines t (suc r) j)) (m.lines t (suc r) j))) []) e
      ∙ ap (λ l. cond (ltb r 5) l []) (tagged_there (w t) (say t (suc r) j) (resay-names (sitting m t (w t)) (lies t) (ts t) (suc r) j) (m.lines t (suc r) j)) ∙ go (ltb r 5)
    where
      go : (b : Bool) → cond b (map (reline (say t (suc r) j)) (tagged (w t) (m.lines t (suc r) j))) [] ≡ map (reline (say t (suc r) j)) (cond b (tagged (w t) (m.lines t (suc r) j)) [])
      go true = refl
      go false = refl

  pub play_there : (t : ℕ) (e : R t ≡ true) → play_of n t (w t) ≡ other t e
  play_there t e z = record { chance = Some (rows_there t e z); lines = fun_ext (λ r. fun_ext (λ j. lines_there t e r j)) z; board = fun_ext (boards_kept t (w t)) z }

  lines_else : (t d : ℕ) → (R t ≡ true → d ≡ w t → ⊥) → (r j : ℕ) → lines_for n t d r j ≡ lines_for m t d r j
  unfolding lines_for
  lines_else t d h zero j = refl
  lines_else t d h (suc r) j = go (R t) h
    where
      go : (b : Bool) → (b ≡ true → d ≡ w t → ⊥) → cond (ltb r 5) (tagged d (cond b (map (reline (turn (w t) (say t (suc r) j))) (m.lines t (suc r) j)) (m.lines t (suc r) j))) [] ≡ cond (ltb r 5) (tagged d (m.lines t (suc r) j)) []
      go true h = ap (λ l. cond (ltb r 5) l []) (tagged_else (w t) (say t (suc r) j) (resay-names (sitting m t (w t)) (lies t) (ts t) (suc r) j) d (h refl) (m.lines t (suc r) j))
      go false h = refl

  pub play_else : (t d : ℕ) → (R t ≡ true → d ≡ w t → ⊥) → play_of n t d ≡ play_of m t d
  play_else t d h z = record {
    chance = Some (rows_from (low_of m.f t) (m.f + 1) (drawn_else t d h z));
    lines = fun_ext (λ r. fun_ext (λ j. lines_else t d h r j)) z;
    board = fun_ext (boards_kept t d) z;
  }

  -- THE FIRST NIGHT gives values as it did
  pub first_dealer : w 0 ≡ 0
  first_dealer = omega (arith, who_in Q lasting day night spied out 0)

  pub over_n : (t : ℕ) → over_at n t ≡ over_at m t
  over_n t = over_same n m refl refl refl t

  module _ (some : 0 < m.many) (i : ℕ) (hi : Honest (at Q 0) i) where
    real_0 : R 0 ≡ true
    real_0 = real_first m lies lasting plays few some

    gives : Bool
    gives = accepted (play.setting_of (k 0 real_0)) (play.after (k 0 real_0) (x 0 real_0) 5 i).posts

    kept_m : (v : ℕ) × ((begins m 1 i).value ≡ cond (over_at m 0) (when gives v) None)
    unfolding gives
    kept_m = (_, first_value m lies lasting plays.fixed few i some hi ∙ ap (λ o. cond (over_at m 0) o None) (ap (λ d. (play.at_call (sitting m 0 d) (play_of m 0 d) 5 i).kept) (sym first_dealer) ∙ (plays_keep_lem (k 0 real_0) (can 0 real_0) (lies 0) (x 0 real_0) (apart 0 real_0) i hi).keeps))

    kept_n : (v : ℕ) × ((begins n 1 i).value ≡ cond (over_at m 0) (when gives v) None)
    unfolding gives
    kept_n = (
      _,
      first_value n lies lasting fixed_n few i some hi ∙ ap₂ (λ b o. cond b o None) (over_n 0)
          (ap (λ d. (play.at_call (sitting m 0 d) (play_of n 0 d) 5 i).kept) (sym first_dealer) ∙ ap (λ y. (play.at_call (k 0 real_0) y 5 i).kept) (play_there 0 real_0)
          ∙ (plays_keep_lem (k 0 real_0) (can 0 real_0) (lies 0) (other 0 real_0) (other_plays 0 real_0) i hi).keeps ∙ ap (λ b. when (accepted (play.setting_of (k 0 real_0)) b) (value p (own (overall (k 0 real_0) (other 0 real_0) i) i).across 0)) (other_board 0 real_0 i)),
    )

    none_as : (b a : Bool) (v u : ℕ) → cond b (when a v) None ≡ None → cond b (when a u) None ≡ None
    none_as true true v u e = absurd (let z : ◌≡◌ {A = ℕ} 0 1 = cc in omega arith)
    none_as true false v u e = refl
    none_as false a v u e = refl

    pub none_then : (begins n 1 i).value ≡ None → (begins m 1 i).value ≡ None
    none_then e = kept_m.1 ∙ none_as (over_at m 0) gives kept_n.0 kept_m.0 (sym kept_n.1 ∙ e)

    pub none_so : (begins m 1 i).value ≡ None → (begins n 1 i).value ≡ None
    none_so e = kept_n.1 ∙ none_as (over_at m 0) gives kept_m.0 kept_n.0 (sym kept_m.1 ∙ e)

  pub born_n : Born n lies
  born_n many i hi e = plays.born many i hi (none_then (omega arith) i hi e)

  -- WHAT COURTS SAY in both runs
  module _ (t r i : ℕ) (soon' : t < m.many) (early : r < 5) (hi : Honest (at Q t) i) where
    abbrev cm : Court
    cm = called m t r i

    abbrev cn : Court
    cn = called n t r i

    sm : Sits m t (suc r) i cm
    sm = called-sits m lies lasting plays.fixed plays.born few t (w t) soon' (w-deals t) i hi r early

    sn : Sits n t (suc r) i cn
    sn = called-sits n lies lasting fixed_n born_n few t (w t) soon' (w-deals t) i hi r early

    dealers_m : dealers_of cm.f cm.night ≡ dealers_of m.f t
    dealers_m = ap₂ dealers_of sm.f sm.night

    dealers_n : dealers_of cn.f cn.night ≡ dealers_of m.f t
    dealers_n = ap₂ dealers_of sn.f sn.night

    letter_m : (j d : ℕ) → d < dealers_of m.f t → letter_to cm j d ≡ mail_to (play.terms_of (sitting m t d) i) (play.at_call (sitting m t d) (play_of m t d) r i) j
    letter_m j d h = letter_is m lies lasting plays.fixed plays.born few t d soon' h i hi r j early

    letter_n : (j d : ℕ) → d < dealers_of m.f t → letter_to cn j d ≡ mail_to (play.terms_of (sitting m t d) i) (play.at_call (sitting m t d) (play_of n t d) r i) j
    letter_n j d h = letter_is n lies lasting fixed_n born_n few t d soon' h i hi r j early

    letter_else : (j d : ℕ) → d < dealers_of m.f t → (R t ≡ true → d ≡ w t → ⊥) → letter_to cm j d ≡ letter_to cn j d
    letter_else j d h e = letter_m j d h ∙ ap (λ y. mail_to (play.terms_of (sitting m t d) i) (play.at_call (sitting m t d) y r i) j) (sym (play_else t d e)) ∙ sym (letter_n j d h)

    names : (j d : ℕ) → Names d (letter_to cm j d)
    names j d = mail-names (terms_at cm d) (seat_at cm d) j

    -- where one dealing is said anew
    letter_there : (e : R t ≡ true) (j d : ℕ) → d < dealers_of m.f t → to_each (turn (w t) (say t (suc r) j) i) (map wire (option_to_list (letter_to cm j d))) ≡ map wire (option_to_list (letter_to cn j d))
    letter_there e j d h = elim (ℕ_discrete d (w t)) [
      | yes q ↦ subst (λ d'. to_each (turn (w t) (say t (suc r) j) i) (map wire (option_to_list (letter_to cm j d'))) ≡ map wire (option_to_list (letter_to cn j d'))) (sym q)
          (turn_all (w t) (say t (suc r) j) i (letter_to cm j (w t)) (names j (w t)) ∙ ap (λ o. to_each (say t (suc r) j i) (map wire (option_to_list o))) (letter_m j (w t) (w-deals t))
          ∙ other_sends t e r i j hi ∙ sym (ap (λ o. map wire (option_to_list o)) (letter_n j (w t) (w-deals t) ∙ ap (λ y. mail_to (play.terms_of (sitting m t (w t)) i) (play.at_call (sitting m t (w t)) y r i) j) (play_there t e))))
      | no q ↦ turn_none (w t) (say t (suc r) j) i d (letter_to cm j d) (names j d) q ∙ ap (λ o. map wire (option_to_list o)) (letter_else j d h (λ _. q))
    ]

    sends_there : R t ≡ true → (j : ℕ) → to_each (turn (w t) (say t (suc r) j) i) (sends m t r i j) ≡ sends n t r i j
    sends_there e j = ap (λ a. to_each (turn (w t) (say t (suc r) j) i) (map wire (collected a (letter_to cm j)))) dealers_m
        ∙ collected_anew (turn (w t) (say t (suc r) j) i) (dealers_of m.f t) (letter_to cm j) (letter_to cn j) (letter_there e j) ∙ ap (λ a. map wire (collected a (letter_to cn j))) (sym dealers_n)

    sends_else : R t ≡ false → (j : ℕ) → sends m t r i j ≡ sends n t r i j
    sends_else e j = ap (λ a. map wire (collected a (letter_to cm j))) dealers_m
        ∙ ap (map wire) (collected_same (dealers_of m.f t) (letter_to cm j) (letter_to cn j) (λ d h. letter_else j d h (λ q. absurd (true≢false (sym q ∙ e))))) ∙ ap (λ a. map wire (collected a (letter_to cn j))) (sym dealers_n)

    -- on the board nothing changes
    post_d : (d : ℕ) → d < dealers_of m.f t → map wire (collected (members cm) (post_at cm d)) ≡ map wire (collected (members cn) (post_at cn d))
    post_d d h = puts_so m lies lasting plays.fixed plays.born few t d soon' h i hi r early ∙ go (R t) refl (ℕ_discrete d (w t)) ∙ sym (puts_so n lies lasting fixed_n born_n few t d soon' h i hi r early)
      where
        there : (e : R t ≡ true) → play.posts (sitting m t (w t)) (play_of m t (w t)) r i ≡ play.posts (sitting m t (w t)) (play_of n t (w t)) r i
        there e = other_posts t e r i hi ∙ ap (λ y. play.posts (sitting m t (w t)) y r i) (sym (play_there t e))

        else : (R t ≡ true → d ≡ w t → ⊥) → play.posts (sitting m t d) (play_of m t d) r i ≡ play.posts (sitting m t d) (play_of n t d) r i
        else e = ap (λ y. play.posts (sitting m t d) y r i) (sym (play_else t d e))

        go : (b : Bool) → R t ≡ b → Dec (d ≡ w t) → play.posts (sitting m t d) (play_of m t d) r i ≡ play.posts (sitting m t d) (play_of n t d) r i
        go true e (yes q) = subst (λ d'. play.posts (sitting m t d') (play_of m t d') r i ≡ play.posts (sitting m t d') (play_of n t d') r i) (sym q) (there e)
        go true e (no q) = else (λ _. q)
        go false e q = else (λ a. absurd (true≢false (sym a ∙ e)))

    posts_early : posts m t r i ≡ posts n t r i
    posts_early = quiet m cm (unfinished m lies lasting plays.fixed plays.born few t (w t) soon' (w-deals t) i hi r early) ∙ ap (λ a. map wire (posts_up_to cm a)) dealers_m
        ∙ posts_same cm cn (dealers_of m.f t) post_d ∙ ap (λ a. map wire (posts_up_to cn a)) (sym dealers_n) ∙ sym (quiet n cn (unfinished n lies lasting fixed_n born_n few t (w t) soon' (w-deals t) i hi r early))
      where
        quiet : (y : Nights) (c : Court) → finished_word c ≡ None → map wire (posts_of c) ≡ map wire (posts_up_to c (dealers_of c.f c.night))
        quiet y c e = ap (λ o. map wire (posts_up_to c (dealers_of c.f c.night) ++ option_to_list o)) e ∙ ap (map wire) (append-nil (posts_up_to c (dealers_of c.f c.night)))

  posts_n : (t r i : ℕ) → t < m.many → r < 6 → Honest (at Q t) i → posts m t r i ≡ posts n t r i
  posts_n t r i s h hi = elim (ℕ_discrete r 5) [
    | yes e ↦ subst (λ a. posts m t a i ≡ posts n t a i) (sym e) (last_posts m lies lasting plays.fixed plays.born t i s hi ∙ sym (last_posts n lies lasting fixed_n born_n t i s hi))
    | no e ↦ posts_early t r i s (omega arith) hi
  ]

  -- THE RULES ARE KEPT
  words_n : (t r i j : ℕ) → R t ≡ true → words_by i (mail_of (n.lines t r j)) ≡ to_each (turn (w t) (say t r j) i) (words_by i (mail_of (m.lines t r j)))
  words_n t r i j e = ap (λ b. words_by i (mail_of (cond b (map (reline (turn (w t) (say t r j))) (m.lines t r j)) (m.lines t r j)))) e
      ∙ ap (words_by i) (mail-reline (turn (w t) (say t r j)) (m.lines t r j)) ∙ words_retouch (turn (w t) (say t r j)) i (mail_of (m.lines t r j))

  lines_as : (t r j : ℕ) → R t ≡ false → n.lines t r j ≡ m.lines t r j
  lines_as t r j e = ap (λ b. cond b (map (reline (turn (w t) (say t r j))) (m.lines t r j)) (m.lines t r j)) e

  -- before the first call nothing is said anew
  lines_first : (t j : ℕ) → n.lines t 0 j ≡ m.lines t 0 j
  lines_first t j = go (R t)
    where
      same : (b : Bool) (bs : List ℕ) → cond b bs bs ≡ bs
      same true bs = refl
      same false bs = refl

      go : (b : Bool) → cond b (map (reline (turn (w t) (say t 0 j))) (m.lines t 0 j)) (m.lines t 0 j) ≡ m.lines t 0 j
      go true = reline_none (turn (w t) (say t 0 j)) (λ i bs. same (eqb (get_or bs 5 0) (w t)) bs) (m.lines t 0 j)
      go false = refl

  mails_n : (t r i j : ℕ) → t < m.many → suc r < m.calls t → Honest (at Q t) i → words_by i (mail_of (n.lines t (suc r) j)) ≡ sends n t r i j
  mails_n t r i j s h hi = go (R t) refl
    where
      early : r < 5
      early = omega (arith, (plays.fixed.rounds t s).1)

      go : (b : Bool) → R t ≡ b → words_by i (mail_of (n.lines t (suc r) j)) ≡ sends n t r i j
      go true e = words_n t (suc r) i j e ∙ ap (to_each (turn (w t) (say t (suc r) j) i)) (plays.mails t r i j s h hi) ∙ sends_there t r i s early hi e j
      go false e = ap (λ l. words_by i (mail_of l)) (lines_as t (suc r) j e) ∙ plays.mails t r i j s h hi ∙ sends_else t r i s early hi e j

  abbrev Late : Nights → (t r i j : ℕ) → Type 0
  Late y t r i j = (late : List (List ℕ)) × (words_by i (mail_of (y.lines t (suc r) j)) ++ late ≡ sends y t r i j) × (suc t < m.many → Honest (at Q (suc t)) i → words_by i (mail_of (y.lines (suc t) 0 j)) ≡ late)

  late_n : (t r i j : ℕ) → t < m.many → suc r ≡ m.calls t → Honest (at Q t) i → Late n t r i j
  unfolding to_each
  late_n t r i j s h hi = go (R t) refl (plays.late_mails t r i j s h hi)
    where
      next : (late : List (List ℕ)) → (suc t < m.many → Honest (at Q (suc t)) i → words_by i (mail_of (m.lines (suc t) 0 j)) ≡ late) → suc t < m.many → Honest (at Q (suc t)) i → words_by i (mail_of (n.lines (suc t) 0 j)) ≡ late
      next late f a b = ap (λ l. words_by i (mail_of l)) (lines_first (suc t) j) ∙ f a b

      nil_left : (a b : List (List ℕ)) → a ++ b ≡ [] → a ≡ []
      nil_left [] b e = refl
      nil_left (x ∷ a) b e = absurd (let z : ◌≡◌ {A = ℕ} 0 1 = cc in omega arith)

      nil_right : (a b : List (List ℕ)) → a ++ b ≡ [] → b ≡ []
      nil_right [] b e = e
      nil_right (x ∷ a) b e = absurd (let z : ◌≡◌ {A = ℕ} 0 1 = cc in omega arith)

      five : R t ≡ true → r ≡ 5
      five e = omega (arith, whole t e)

      last_m : r ≡ 5 → sends m t r i j ≡ []
      last_m e = ap (λ a. sends m t a i j) e ∙ last_sends m lies lasting plays.fixed plays.born t i s hi j

      last_n : r ≡ 5 → sends n t r i j ≡ []
      last_n e = ap (λ a. sends n t a i j) e ∙ last_sends n lies lasting fixed_n born_n t i s hi j

      same : R t ≡ false → sends m t r i j ≡ sends n t r i j
      same e = elim (ℕ_discrete r 5) [ yes a ↦ last_m a ∙ sym (last_n a) | no a ↦ sends_else t r i s (omega (arith, (plays.fixed.rounds t s).1)) hi e j ]

      go : (b : Bool) → R t ≡ b → Late m t r i j → Late n t r i j
      go true e l = let z = l.1 ∙ last_m (five e) in
          (l.0, ap₂ ◌++◌ (words_n t (suc r) i j e ∙ ap (to_each (turn (w t) (say t (suc r) j) i)) (nil_left (words_by i (mail_of (m.lines t (suc r) j))) l.0 z)) (nil_right (words_by i (mail_of (m.lines t (suc r) j))) l.0 z) ∙ sym (last_n (five e)), next l.0 l.2)
      go false e l = (l.0, ap (λ a. words_by i (mail_of a) ++ l.0) (lines_as t (suc r) j e) ∙ l.1 ∙ same e, next l.0 l.2)

  pub plays_n : Plays n lies
  plays_n = record {
    fixed = fixed_n;
    born = born_n;
    mails = mails_n;
    lines = λ t r i s h hi. plays.lines t r i s h hi ∙ posts_n t r i s (omega (arith, (plays.fixed.rounds t s).1)) hi;
    late_mails = late_n;
    late_lines = λ t r i s h hi. let l = plays.late_lines t r i s h hi in (l.0, l.1 ∙ posts_n t r i s (omega (arith, (plays.fixed.rounds t s).1)) hi, l.2);
    silent = λ i j s h. (ap (λ l. words_by i (mail_of l)) (lines_first 0 j) ∙ (plays.silent i j s h).0, (plays.silent i j s h).1);
  }

  -- WHAT THE SPIED SEE
  words_kept : (t r i j : ℕ) → Memᴰ i (night t) ⊎ Memᴰ j (night t) → R t ≡ true → to_each (turn (w t) (say t r j) i) (words_by i (mail_of (m.lines t r j))) ≡ words_by i (mail_of (m.lines t r j))
  words_kept t r i j h e = turn_same (w t) (say t r j) i (words_by i (mail_of (m.lines t r j))) (go r)
    where
      ws : ℕ → List (List ℕ)
      ws r = words_by i (mail_of (m.lines t r j))

      none : (bs : List (List ℕ)) → to_each (λ b. b) bs ≡ bs
      none = to_each_same (λ b. b) (λ b. refl)

      there : (r : ℕ) → r < 5 → words_by i (mail_of (lines_for m t (w t) (suc r) j)) ≡ of_tag (w t) (ws (suc r))
      there r l = lines_for_is m t (w t) r j l (λ x. words_by i (mail_of x)) ∙ ap (words_by i) (mail-tagged (w t) (m.lines t (suc r) j)) ∙ words_keep i (w t) (mail_of (m.lines t (suc r) j))

      early : (r : ℕ) → r < 5 → to_each (say t (suc r) j i) (of_tag (w t) (ws (suc r))) ≡ of_tag (w t) (ws (suc r))
      early r l = ap (to_each (say t (suc r) j i)) (sym (there r l)) ∙ other_words t e (suc r) i j h ∙ there r l

      go : (r : ℕ) → to_each (say t r j i) (of_tag (w t) (ws r)) ≡ of_tag (w t) (ws r)
      go zero = none (of_tag (w t) (ws 0))
      go (suc zero) = early 0 (omega arith)
      go (suc (suc zero)) = early 1 (omega arith)
      go (suc (suc (suc r))) = later (suc (suc (suc r))) (omega arith)
        where
          later : (r : ℕ) → 3 ≤ r → to_each (say t r j i) (of_tag (w t) (ws r)) ≡ of_tag (w t) (ws r)
          later r l = to_each_same (say t r j i) (say-later (sitting m t (w t)) (lies t) (ts t) r j i l) (of_tag (w t) (ws r))

  said_kept : (t r i j : ℕ) → Memᴰ i (night t) → words_by i (mail_of (m.lines t r j)) ≡ words_by i (mail_of (n.lines t r j))
  said_kept t r i j h = go (R t) refl
    where
      go : (b : Bool) → R t ≡ b → words_by i (mail_of (m.lines t r j)) ≡ words_by i (mail_of (n.lines t r j))
      go true e = sym (words_n t r i j e ∙ words_kept t r i j (inl h) e)
      go false e = ap (λ l. words_by i (mail_of l)) (sym (lines_as t r j e))

  pub lines_kept : (t r j : ℕ) → Memᴰ j (night t) → m.lines t r j ≡ n.lines t r j
  lines_kept t r j h = go (R t) refl
    where
      go : (b : Bool) → R t ≡ b → m.lines t r j ≡ n.lines t r j
      go true e = sym (ap (λ b. cond b (map (reline (turn (w t) (say t r j))) (m.lines t r j)) (m.lines t r j)) e
          ∙ retold.reline_same (turn (w t) (say t r j)) (m.lines t r j) (retouch_same (turn (w t) (say t r j)) (mail_of (m.lines t r j)) (λ i. words_kept t r i j (inr h) e)))
      go false e = sym (lines_as t r j e)

  -- WHAT IS HELD by whoever is spied out on a day
  abbrev B : ℕ → ℕ → List (List ℕ)
  B = base m lies lasting plays few

  abbrev ch : ℕ → ℕ → List (List ℕ)
  ch = moved Q lasting day night spied out δ B

  abbrev was : Run
  was = run m lies lasting plays few B

  abbrev is : Run
  is = run n lies lasting plays_n few ch

  real_n : (t : ℕ) → real n lies lasting plays_n few t ≡ R t
  real_n t = ap (λ b. ltb t m.many && (eqb t 0 || b)) (over_n t)

  ch_is : (t d : ℕ) → R t ≡ true → ch t d ≡ rows_of n t d
  ch_is t d e = elim (ℕ_discrete d (w t)) [
    | yes a ↦ subst (λ d'. ch t d' ≡ rows_of n t d') (sym a) (at_who Q lasting day night spied out δ t (plus2 p (B t (w t)) (q t)) (B t (w t)) ∙ ap (λ rs. plus2 p rs (q t)) (base_is m lies lasting plays few t (w t) e) ∙ sym (rows_there t e))
    | no a ↦ elsewhere Q lasting day night spied out δ t d (plus2 p (B t d) (q t)) (B t d) a ∙ base_is m lies lasting plays few t d e ∙ ap (rows_from (low_of m.f t) (m.f + 1)) (sym (drawn_else t d (λ _. a)))
  ]

  ch_exact : (t d : ℕ) → R t ≡ false → Exact2 p (m.f + 1) (width Q t) (ch t d)
  ch_exact t d e = go (eqb d (w t))
    where
      go : (b : Bool) → Exact2 p (m.f + 1) (width Q t) (cond b (plus2 p (B t d) (q t)) (B t d))
      go true = exact_plus2 p (m.f + 1) (width Q t) (B t d) (q t) (omega arith) (base_exact m lies lasting plays few t d e) (by_low Q lasting day night spied out δ t)
      go false = base_exact m lies lasting plays few t d e

  keeps_was : Keeps Q was
  keeps_was = keeps_run m lies lasting plays few B (base_is m lies lasting plays few) (λ t d _ e. base_exact m lies lasting plays few t d e)

  keeps_is : Keeps Q is
  keeps_is = keeps_run n lies lasting plays_n few ch (λ t d e. ch_is t d (sym (real_n t) ∙ e)) (λ t d _ e. ch_exact t d (sym (real_n t) ∙ e))

  others : (t j : ℕ) → j < dealers Q t → (j ≡ w t → ⊥) → is.deal t j ≡ was.deal t j
  unfolding guide
  others t j h a = ap (λ b. cond b (happened n lies lasting plays_n few t j) (plain p (ch t j))) (real_n t)
      ∙ ap₂ (λ y c. cond (R t) (overall (sitting m t j) y (guide m lies lasting plays few t)) (plain p c)) (play_else t j (λ _. a)) (elsewhere Q lasting day night spied out δ t j (plus2 p (B t j) (q t)) (B t j) a)

  is_moved : is ≡ record { chance = ch; deal = is.deal; dropped = was.dropped }
  is_moved z = record { chance = ch; deal = is.deal; dropped = fun_ext (λ t. ap (λ b. ltb t m.many && not b) (real_n t)) z }

  module _ (one-day : OneDay m lies day) where
    days_of : nights.OneDay was day
    days_of t i d = go (ltb (suc t) m.many) (over_at m (suc t)) (ltb-true (suc t) m.many) refl d
      where
        go : (a b : Bool) → (a ≡ true → suc t < m.many) → over_at m (suc t) ≡ b → T (a && not (a && (eqb (suc t) 0 || b))) → (Memᴰ i (day t) → Memᴰ i (day (suc t))) × (Memᴰ i (day (suc t)) → Memᴰ i (day t))
        go true false f e d = let s = f refl in let hg = guide_honest m lies lasting plays few (suc t) in
            one-day t i (guide m lies lasting plays few (suc t)) s hg (over_is m lies lasting plays.fixed (suc t) (guide m lies lasting plays few (suc t)) s hg (eves m lies lasting plays.fixed plays.born (suc t) (guide m lies lasting plays few (suc t)) s hg) ∙ e)
        go true true f e d = absurd (both (eqb (suc t) 0) d)
          where
            both : (a : Bool) → T (not (a || true)) → ⊥
            both true x = x
            both false x = x
        go false b f e d = absurd d

    held_same : (t j : ℕ) → Memᴰ j (day t) → held Q was t j ≡ held Q is t j
    held_same t j h = values Q lasting day night spied out δ was is.deal keeps_was (record { kept = keeps_is.kept; strict = keeps_is.strict; fair = keeps_is.fair }) days_of others t j h ∙ ap (λ r. held Q r t j) (sym is_moved)

    value_same : (t j : ℕ) → t < m.many → Memᴰ j (day t) → Honest (at Q t) j → (begins m (suc t) j).value ≡ (begins n (suc t) j).value
    value_same t j s h hj = go (begins m 1 j).value refl
      where
        some : 0 < m.many
        some = omega arith

        h0 : Honest (at Q 0) j
        h0 = honest_first m lies lasting plays.fixed t j hj

        go : (o : Option ℕ) → (begins m 1 j).value ≡ o → (begins m (suc t) j).value ≡ (begins n (suc t) j).value
        go None e = first t s
          where
            first : (t : ℕ) → t < m.many → (begins m (suc t) j).value ≡ (begins n (suc t) j).value
            first zero s = e ∙ sym (none_so some j h0 e)
            first (suc t) s = absurd (plays.born (omega arith) j h0 e)
        go (Some v) e =
            values_are m lies lasting plays few B j (λ a. never (sym a ∙ e)) t s hj ∙ ap Some (held_same t j h)
            ∙ sym (values_are n lies lasting plays_n few ch j (λ a. never (sym (none_then some j h0 a) ∙ e)) t s hj)

    abbrev Eve : (t j : ℕ) → Type 0
    Eve t j = begins m t j ≡ begins n t j

    days_same : (t j : ℕ) → t < m.many → Memᴰ j (day t) → Honest (at Q t) j → Eve (suc t) j
    days_same t j s h hj =
        ends_with m lies lasting plays.fixed t j s hj (eves m lies lasting plays.fixed plays.born t j s hj) ∙ ap (next_of m.f j t) (value_same t j s h hj)
        ∙ sym (ends_with n lies lasting fixed_n t j s hj (eves n lies lasting fixed_n born_n t j s hj))

    eve_same : (t j : ℕ) → t < m.many → Memᴰ j (night t) → Honest (at Q t) j → Eve t j
    unfolding begins
    eve_same zero j s h hj = refl
    eve_same (suc t) j s h hj = days_same t j (omega arith) (spied.before t j h) (honest_before m lies lasting plays.fixed t j hj)

    nights_same : (t r j : ℕ) → t < m.many → Memᴰ j (night t) → Honest (at Q t) j → within m t r j ≡ within n t r j
    nights_same t r j s h hj = ap₂ (λ c ls. during c ls r) (ap₂ (λ c ns. step c (Chance ns)) (eve_same t j s h hj) draws_same) (fun_ext (λ a. lines_kept t a j h))
      where
        draws_same : m.draws t j ≡ n.draws t j
        draws_same = sym (drawn_else t j (λ _ e. who_out Q lasting day night spied out t (subst (λ v. Memᴰ v (night t)) e h)))

    pub seen_n : Seen lies day night m n
    seen_n = record {
      f = refl;
      many = refl;
      calls = refl;
      boards = refl;
      draws = λ t j h. sym (drawn_else t j (λ _ e. who_out Q lasting day night spied out t (subst (λ v. Memᴰ v (night t)) e h)));
      lines = lines_kept;
      said = said_kept;
      nights = nights_same;
      between = λ t r j s h hj ls rest e. ap (λ c. fed (step c Round) ls) (nights_same t r j s h hj);
      days = days_same;
    }

  -- WHICH DRAWS ARE MOVED
  not_over : (t h : ℕ) → t < m.many → Honest (at Q t) h → over m t h ≡ over_at m t
  not_over t h s hh = over_is m lies lasting plays.fixed t h s hh (eves m lies lasting plays.fixed plays.born t h s hh)

  real_if : (t h : ℕ) → t < m.many → Honest (at Q t) h → (t ≡ 0) ⊎ (over m t h ≡ true) → R t ≡ true
  real_if t h s hh o = ap (λ b. b && (eqb t 0 || over_at m t)) (lt-ltb t m.many s) ∙ ⊎_elim (λ e. ap (λ b. b || over_at m t) (eq-eqb t 0 e)) (λ e. ap (λ b. eqb t 0 || b) (sym (not_over t h s hh) ∙ e) ∙ either (eqb t 0)) o
    where
      either : (b : Bool) → (b || true) ≡ true
      either true = refl
      either false = refl

  unreal_if : (t h : ℕ) → t < m.many → Honest (at Q t) h → (t ≡ 0 → ⊥) → over m t h ≡ false → R t ≡ false
  unreal_if t h s hh z o = ap (λ b. b && (eqb t 0 || over_at m t)) (lt-ltb t m.many s) ∙ ap₂ ◌||◌ (ne_eqb t 0 z) (sym (not_over t h s hh) ∙ o)

  pub moved_n : Moved lies w q m n
  moved_n = record {
    others = λ t j e. drawn_else t j (λ _. e);
    moved = λ t h s hh o. rows_there t (real_if t h s hh o);
    unmoved = λ t h s hh z o. drawn_else t (w t) (λ e _. true≢false (sym e ∙ unreal_if t h s hh z o));
  }

  pub secret_n : 0 < m.many → value2 p (polynomial n 0 0) 0 0 ≡ (value2 p (polynomial m 0 0) 0 0 + δ) % p
  secret_n some = ap (λ rs. value2 p rs 0 0) (sym (ch_is 0 0 (real_first m lies lasting plays few some))) ∙ secret Q lasting day night spied out δ B ∙ ap (λ rs. (value2 p rs 0 0 + δ) % p) (base_is m lies lasting plays few 0 0 (real_first m lies lasting plays few some))
