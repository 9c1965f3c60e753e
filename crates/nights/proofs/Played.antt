-- There are nights in which honest keepers play by the rules, whatever the liars say: the messages of all dealings, one after the other.
use Rattle.std.proofs.Common.{◌≡◌, ℕ, ◌+◌, ◌<◌, ◌≤◌, true, false, List, [], sym, refl, ap, ◌∙◌, subst, arith}
use mathlib.Core.Path.{fun_ext}
use Rattle.algebra.specs.Polynomial.{Exact2}
use Rattle.algebra.specs.Sharing.{share_of}
use Rattle.rules.specs.Deal.{size, Honest}
use Rattle.rules.specs.Rounds.{Said, Lines, hand, board, words_by, Follows, Quiet, Deals}
use Rattle.nights.specs.Run.{Keepers, at, dealers, width}
use Rattle.nights.specs.Nights.{Nights, setting, lines_of, Plays}
use Rattle.nights.specs.Promise.{CanPlay}
use Rattle.rules.specs.Course.{spoken, run}
use Rattle.rules.proofs.Playing.{spoken-later, spoken_honest, can_follow_lem}
use Rattle.nights.proofs.Courts.{dealers_few, in_night}

-- the words of all dealings
abbrev all : {W : Type 0} → ℕ → (ℕ → List W) → List (Said W)
all n words = spoken (λ i. false) n words []

module _ (k : Keepers) (fit : size (at k 0) ≤ 16) (said : Nights) (drawn : (t d : ℕ) → d < dealers k t → Honest (at k t) d → Exact2 k.p (k.f + 1) (width k t) (said.chance t d)) where
  lines : (t d : ℕ) → Lines
  lines t d = run (setting k t d) (k.lies t) (lines_of said t d) (share_of k.p (said.chance t d))

  m : Nights
  m = record { chance = said.chance; mail = λ t r j. all (dealers k t) (λ d. (lines t d).mail r j); board = λ t r. all (dealers k t) (λ d. (lines t d).board r); last = said.last }

  lines_are : (t d : ℕ) → d < dealers k t → lines_of m t d ≡ lines t d
  unfolding m
  lines_are t d h z = record {
    mail = fun_ext (λ r. fun_ext (λ j. spoken_honest (λ i. false) (λ d. (lines t d).mail r j) [] d (dealers k t) refl h)) z;
    board = fun_ext (λ r. spoken_honest (λ i. false) (λ d. (lines t d).board r) [] d (dealers k t) refl h) z;
  }

  few : (t d : ℕ) → d < dealers k t → d < 16
  few t d h = omega (arith, dealers_few k t)

  follows : (t d : ℕ) → Follows (setting k t d) (k.lies t) (lines t d) (hand (setting k t d) (lines t d)) (board (setting k t d) (lines t d))
  unfolding lines
  follows t d = (can_follow_lem (setting k t d) (k.lies t) (lines_of said t d) (share_of k.p (said.chance t d))).0

  hush : (t d : ℕ) → Quiet (setting k t d) (k.lies t) (lines t d)
  unfolding lines
  hush t d = (can_follow_lem (setting k t d) (k.lies t) (lines_of said t d) (share_of k.p (said.chance t d))).1

  deals : (t d : ℕ) → d < dealers k t → Honest (at k t) d → Deals (setting k t d) (k.lies t) (lines t d) (board (setting k t d) (lines t d)) (said.chance t d)
  unfolding lines
  deals t d h o = let c = (can_follow_lem (setting k t d) (k.lies t) (lines_of said t d) (share_of k.p (said.chance t d))).2 o in record { chance = drawn t d h o; gives = λ j _. c.0 j; answers = c.1 }

  silent : (t d : ℕ) → dealers k t ≤ d → (r i j : ℕ) → (words_by i ((lines_of m t d).mail r j) ≡ []) × (words_by i ((lines_of m t d).board r) ≡ [])
  unfolding m words_by
  silent t d h r i j = (ap (words_by i) (spoken-later (λ i. false) (λ d. (lines t d).mail r j) [] d (dealers k t) refl h), ap (words_by i) (spoken-later (λ i. false) (λ d. (lines t d).board r) [] d (dealers k t) refl h))

  plays : Plays k m
  unfolding m
  plays = record {
    follows = λ t d h. in_night k m t d (few t d h) (Follows (setting k t d) (k.lies t) (lines_of m t d))
        (subst (λ l. Follows (setting k t d) (k.lies t) l (hand (setting k t d) l) (board (setting k t d) l)) (sym (lines_are t d h)) (follows t d));
    hush = λ t d h. subst (Quiet (setting k t d) (k.lies t)) (sym (lines_are t d h)) (hush t d);
    deals = λ t d h o. in_night k m t d (few t d h) (λ _ q. Deals (setting k t d) (k.lies t) (lines_of m t d) q (said.chance t d))
        (subst (λ l. Deals (setting k t d) (k.lies t) l (board (setting k t d) l) (said.chance t d)) (sym (lines_are t d h)) (deals t d h o));
    quiet = λ t d h r i j _. silent t d h r i j;
  }

  by_liars : (t r d i : ℕ) → d < dealers k t → k.lies t i ≡ true →
      ((j : ℕ) → words_by i (words_by d (m.mail t r j)) ≡ words_by i (words_by d (said.mail t r j))) × (words_by i (words_by d (m.board t r)) ≡ words_by i (words_by d (said.board t r)))
  unfolding lines
  by_liars t r d i h l = let c = (can_follow_lem (setting k t d) (k.lies t) (lines_of said t d) (share_of k.p (said.chance t d))).3 r i l in
      (λ j. ap (λ (x : Lines). words_by i (x.mail r j)) (lines_are t d h) ∙ c.0 j, ap (λ (x : Lines). words_by i (x.board r)) (lines_are t d h) ∙ c.1)

  result : (n : Nights) × Plays k n × (n.chance ≡ said.chance) × (n.last ≡ said.last) ×
      ((t r d i : ℕ) → d < dealers k t → k.lies t i ≡ true →
      ((j : ℕ) → words_by i (words_by d (n.mail t r j)) ≡ words_by i (words_by d (said.mail t r j))) × (words_by i (words_by d (n.board t r)) ≡ words_by i (words_by d (said.board t r))))
  unfolding m
  result = (m, plays, refl, refl, by_liars)

pub can_play_lem : CanPlay
can_play_lem = result
