-- The theorem, of messages: no spies ever learn the secret by all the messages that they have seen in all nights.
use Rattle.std.proofs.Common.{◌≡◌, ℕ, zero, suc, ◌+◌, ◌%◌, ◌<◌, ◌≤◌, cond, eqb, List, sym, refl, ap, ◌∙◌, subst, ap₂, arith}
use mathlib.Core.Path.{fun_ext}
use mathlib.Core.List.{Memᴰ, foldl}
use native.Mathlib.Decide.{ℕ_discrete}
use Rattle.algebra.specs.Polynomial.{value2, plus2}
use Rattle.rules.specs.Deal.{size, Honest}
use Rattle.rules.specs.Rounds.{Letter, Said, Lines, hand, board, words_by, Follows, Deals, read_off, nothing_heard, heard, Quiet}
use Rattle.rules.specs.Deal.{or_else}
use Rattle.nights.specs.Run.{Keepers, at, Lasting, dealers, Spied, OneDay, Moved}
use Rattle.nights.specs.Nights.{Nights, setting, lines_of, Plays, run_of, SeenNights, hands, sorted}
use Rattle.nights.specs.Promise.{TheoremOfNights}
use Rattle.nights.proofs.Days.{holds, width_low}
use Rattle.nights.proofs.Forever.{who, who_in, who_out, who_honest, inside, by, by_low, unseen, moved, at_who, elsewhere, values, secret}
use Rattle.rules.proofs.Retouch.{to_each, to_each_same, touch, touched, retouch, words_retouch, retouch_same}
use Rattle.rules.proofs.Reworded.{reword, reworded, quiet-reworded, Alike, alike}
use Rattle.nights.proofs.Courts.{dealers_few, all_hands, all_posts, in_night, follows, deals, plays_keeps_lem}

module _ (k : Keepers) (lasting : Lasting k) (fit : size (at k 0) ≤ 16) (day night : ℕ → List ℕ) (spied : Spied k day night) (out : Memᴰ 0 (night 0) → ⊥) (δ : ℕ)
    (m : Nights) (plays : Plays k m) (one-day : OneDay (run_of k m) day) where
  -- who draws other numbers in each night, and which
  abbrev w : ℕ → ℕ
  w = who k lasting day night spied out

  abbrev qs : ℕ → List (List ℕ)
  qs = by k lasting day night spied out δ

  abbrev ts : ℕ → List (List ℕ)
  ts t = plus2 k.p (m.chance t (w t)) (qs t)

  -- and what honest keepers then say about that dealing
  abbrev say : (t r j : ℕ) → ℕ → Letter → Letter
  say t r j i x = or_else x (reword (setting k t (w t)) (k.lies t) (ts t) r j i)

  abbrev turn : (t r j : ℕ) → ℕ → Said Letter → Said Letter
  turn t r j d x = cond (eqb d (w t)) (touch (say t r j) x) x

  n : Nights
  n = record { chance = moved k lasting day night spied out δ m.chance; mail = λ t r j. retouch (turn t r j) (m.mail t r j); board = m.board; last = m.last }

  there : (t r j : ℕ) (ms : List (Said Letter)) → to_each (turn t r j (w t)) ms ≡ retouch (say t r j) ms
  there t r j ms = ap (λ f. to_each f ms) (fun_ext (λ x. at_who k lasting day night spied out δ t (touch (say t r j) x) x)) ∙ touched (say t r j) ms

  untouched : (t r j d : ℕ) → (d ≡ w t → ⊥) → (ms : List (Said Letter)) → to_each (turn t r j d) ms ≡ ms
  untouched t r j d e = to_each_same (turn t r j d) (λ x. elsewhere k lasting day night spied out δ t d (touch (say t r j) x) x e)

  lines_there : (t : ℕ) → lines_of n t (w t) ≡ reworded (setting k t (w t)) (k.lies t) (ts t) (lines_of m t (w t))
  unfolding n
  lines_there t z = record { mail = fun_ext (λ r. fun_ext (λ j. words_retouch (turn t r j) (w t) (m.mail t r j) ∙ there t r j (words_by (w t) (m.mail t r j)))) z; board = λ r. words_by (w t) (m.board t r) }

  lines_else : (t d : ℕ) → (d ≡ w t → ⊥) → lines_of n t d ≡ lines_of m t d
  unfolding n
  lines_else t d e z = record { mail = fun_ext (λ r. fun_ext (λ j. words_retouch (turn t r j) d (m.mail t r j) ∙ untouched t r j d e (words_by d (m.mail t r j)))) z; board = λ r. words_by d (m.board t r) }

  abbrev FollowsBy : (t d : ℕ) → Lines → Type 0
  FollowsBy t d l = Follows (setting k t d) (k.lies t) l (hand (setting k t d) l) (board (setting k t d) l)

  abbrev DealsBy : (t d : ℕ) → Lines → List (List ℕ) → Type 0
  DealsBy t d l c = Deals (setting k t d) (k.lies t) l (board (setting k t d) l) c

  few : (t d : ℕ) → d < dealers k t → d < 16
  few t d h = omega (arith, dealers_few k t)

  alike_at : (t : ℕ) → Alike (setting k t (w t)) (k.lies t) (ts t) (night t) (lines_of m t (w t)) (reworded (setting k t (w t)) (k.lies t) (ts t) (lines_of m t (w t)))
  alike_at t = alike (setting k t (w t)) (k.lies t) (lines_of m t (w t)) fit (lasting.sound t) (omega arith) (omega arith) (width_low k t)
      (follows k lasting fit m plays t (w t) (who_in k lasting day night spied out t)) (m.chance t (w t)) (deals k lasting fit m plays t (w t) (who_in k lasting day night spied out t) (who_honest k lasting day night spied out t))
      (night t) (λ i h. (inside k lasting day night spied out t i h, tt)) (λ i h. spied.liars t i h.0) (who_out k lasting day night spied out t) (qs t) (by_low k lasting day night spied out δ t) (unseen k lasting day night spied out δ t)

  follows_n : (t d : ℕ) → d < dealers k t → FollowsBy t d (lines_of n t d)
  follows_n t d h = elim (ℕ_discrete d (w t)) [
    | yes e ↦ subst (λ c. FollowsBy t c (lines_of n t c)) (sym e) (subst (FollowsBy t (w t)) (sym (lines_there t)) (alike_at t).follows)
    | no e ↦ subst (FollowsBy t d) (sym (lines_else t d e)) (follows k lasting fit m plays t d h)
  ]

  deals_n : (t d : ℕ) → d < dealers k t → Honest (at k t) d → DealsBy t d (lines_of n t d) (n.chance t d)
  unfolding n
  deals_n t d h o = elim (ℕ_discrete d (w t)) [
    | yes e ↦ subst (λ c. DealsBy t c (lines_of n t c) (n.chance t c)) (sym e) (subst (DealsBy t (w t) (lines_of n t (w t))) (sym (at_who k lasting day night spied out δ t (ts t) (m.chance t (w t))))
        (subst (λ l. DealsBy t (w t) l (ts t)) (sym (lines_there t)) (alike_at t).deals))
    | no e ↦ subst (DealsBy t d (lines_of n t d)) (sym (elsewhere k lasting day night spied out δ t d _ (m.chance t d) e)) (subst (λ l. DealsBy t d l (m.chance t d)) (sym (lines_else t d e)) (deals k lasting fit m plays t d h o))
  ]

  plays_n : Plays k n
  plays_n = record {
    hush = λ t d h. elim (ℕ_discrete d (w t)) [
      | yes e ↦ subst (λ c. Quiet (setting k t c) (k.lies t) (lines_of n t c)) (sym e) (subst (Quiet (setting k t (w t)) (k.lies t)) (sym (lines_there t)) (quiet-reworded (setting k t (w t)) (k.lies t) (ts t) (lines_of m t (w t)) (plays.hush t (w t) (who_in k lasting day night spied out t))))
      | no e ↦ subst (Quiet (setting k t d) (k.lies t)) (sym (lines_else t d e)) (plays.hush t d h)
    ];
    follows = λ t d h. in_night k n t d (few t d h) (Follows (setting k t d) (k.lies t) (lines_of n t d)) (follows_n t d h);
    deals = λ t d h o. in_night k n t d (few t d h) (λ _ q. Deals (setting k t d) (k.lies t) (lines_of n t d) q (n.chance t d)) (deals_n t d h o);
    quiet = λ t d h r i j hi. let e : lines_of n t d ≡ lines_of m t d = lines_else t d (λ q. omega (arith, who_in k lasting day night spied out t)) in let q = plays.quiet t d h r i j hi in
        (ap (λ (l : Lines). words_by i (l.mail r j)) e ∙ q.0, ap (λ (l : Lines). words_by i (l.board r)) e ∙ q.1);
  }

  -- what the spied see
  whole : (x : Nights) (t d : ℕ) → d < dealers k t → (run_of k x).deal t d ≡ read_off (setting k t d) (hand (setting k t d) (lines_of x t d) 5) (board (setting k t d) (lines_of x t d) 5)
  whole x t d h = ap₂ (λ a q. read_off (setting k t d) (a 5) (q 5)) (all_hands k x t d (few t d h)) (all_posts k x t d (few t d h))

  others : (t d : ℕ) → d < dealers k t → (d ≡ w t → ⊥) → (run_of k n).deal t d ≡ (run_of k m).deal t d
  others t d h e = whole n t d h ∙ ap (λ l. read_off (setting k t d) (hand (setting k t d) l 5) (board (setting k t d) l 5)) (lines_else t d e) ∙ sym (whole m t d h)

  mail_same : (t r j : ℕ) → Memᴰ j (night t) → n.mail t r j ≡ m.mail t r j
  unfolding n
  mail_same t r j h = retouch_same (turn t r j) (m.mail t r j) (λ d. elim (ℕ_discrete d (w t)) [
    | yes e ↦ subst (λ c. to_each (turn t r j c) (words_by c (m.mail t r j)) ≡ words_by c (m.mail t r j)) (sym e) (there t r j (words_by (w t) (m.mail t r j)) ∙ (alike_at t).mails r j h)
    | no e ↦ untouched t r j d e (words_by d (m.mail t r j))
  ])

  states : (t r j : ℕ) → Memᴰ j (night t) → hands k n t r j ≡ hands k m t r j
  unfolding hands
  states t zero j h = refl
  states t (suc r) j h = ap₂ (λ l ms. foldl (sorted nothing_heard (λ d. heard (setting k t d) (suc r))) l ms) (states t r j h) (mail_same t (suc r) j h)

  seen : SeenNights k day night m n
  unfolding n
  seen = record {
    boards = refl;
    lasts = refl;
    chances = λ t j h. sym (elsewhere k lasting day night spied out δ t j _ (m.chance t j) (λ e. who_out k lasting day night spied out t (subst (λ v. Memᴰ v (night t)) e h)));
    mails = λ t r j h. sym (mail_same t r j h);
    states = λ t r j h. sym (states t r j h);
    said = λ t r d i j h hj. sym (ap (words_by i) (words_retouch (turn t r j) d (m.mail t r j)) ∙ elim (ℕ_discrete d (w t)) [
      | yes e ↦ subst (λ c. words_by i (to_each (turn t r j c) (words_by c (m.mail t r j))) ≡ words_by i (words_by c (m.mail t r j))) (sym e) (ap (words_by i) (there t r j (words_by (w t) (m.mail t r j))) ∙ (alike_at t).said r i j hj h)
      | no e ↦ ap (words_by i) (untouched t r j d e (words_by d (m.mail t r j)))
    ]);
    values = values k lasting day night spied out δ (run_of k m) (run_of k n).deal (plays_keeps_lem k lasting fit m plays) (plays_keeps_lem k lasting fit n plays_n) one-day others;
  }

  other : (x : Nights) × Plays k x × (value2 k.p (x.chance 0 0) 0 0 ≡ (value2 k.p (m.chance 0 0) 0 0 + δ) % k.p) × SeenNights k day night m x × Moved k w qs (run_of k m) (run_of k x)
  unfolding n
  other = (n, plays_n, secret k lasting day night spied out δ m.chance, seen, λ t j. refl)

pub theorem_of_nights_lem : TheoremOfNights
theorem_of_nights_lem k lasting fit = (
  λ m plays. holds k lasting (run_of k m) (plays_keeps_lem k lasting fit m plays),
  λ day night spied out. (who k lasting day night spied out, by k lasting day night spied out, λ m plays one-day δ. other k lasting fit day night spied out δ m plays one-day),
)
