-- Nights in which honest keepers play by the rules are runs that keep the rules: each dealing is apart from the others.
use Rattle.std.proofs.Common.{◌≡◌, ℕ, zero, suc, ◌+◌, ◌<◌, ◌≤◌, List, length, replicate, sym, refl, ap, ◌∙◌, subst₂, arith, length-set}
use mathlib.Core.Path.{fun_ext}
use mathlib.Core.List.{foldl}
use Rattle.rules.specs.Deal.{size, Honest, Kept, Strict, Fair}
use Rattle.rules.specs.Rounds.{Said, Hand, Posts, nothing_heard, nothing_posted, heard, posted, hand, board, words_by, Follows, Deals, read_off}
use Rattle.nights.specs.Run.{Keepers, at, Lasting, dealers, width}
use Rattle.nights.specs.Nights.{Nights, setting, sorted, hands, boards, hand_of, posts_of, lines_of, Plays, run_of}
use Rattle.nights.specs.Promise.{PlaysKeeps}
use Rattle.rules.proofs.Slots.{steady, blank, apart_folds}
use Rattle.rules.proofs.Keeping.{keeps_rules_lem, deals_fairly_lem}

length-replicate : {A : Type 0} (n : ℕ) (a : A) → length (replicate n a) ≡ n
length-replicate zero a = refl
length-replicate (suc n) a = ap suc (length-replicate n a)

long : {S W : Type 0} (none : S) (step : ℕ → S → W → S) (l : List S) (ms : List (Said W)) → length l ≡ 16 → length (foldl (sorted none step) l ms) ≡ 16
long none step = steady (λ l. length l ≡ 16) (sorted none step) (λ l m e. length-set l m.by _ ∙ e)

pub dealers_few : (k : Keepers) (t : ℕ) → dealers k t ≤ size (at k 0)
dealers_few k zero = omega arith
dealers_few k (suc t) = omega arith

module _ (k : Keepers) (m : Nights) (t d : ℕ) (few : d < 16) where
  hands_long : (r j : ℕ) → length (hands k m t r j) ≡ 16
  unfolding hands
  hands_long zero j = length-replicate 16 nothing_heard
  hands_long (suc r) j = long nothing_heard (λ e. heard (setting k t e) (suc r)) (hands k m t r j) (m.mail t (suc r) j) (hands_long r j)

  boards_long : (r : ℕ) → length (boards k m t r) ≡ 16
  unfolding boards
  boards_long zero = length-replicate 16 nothing_posted
  boards_long (suc r) = long nothing_posted (λ e. posted (setting k t e) (suc r)) (boards k m t r) (m.board t (suc r)) (boards_long r)

  -- a court's hand in one dealing is what comes of the words about that dealing alone
  hand_is : (r j : ℕ) → hand_of k m t d r j ≡ hand (setting k t d) (lines_of m t d) r j
  unfolding hands hand
  hand_is zero j = blank 16 d nothing_heard
  hand_is (suc r) j = apart_folds nothing_heard (λ e. heard (setting k t e) (suc r)) (hands k m t r j) (m.mail t (suc r) j) d (omega (arith, hands_long r j)) ∙
      ap (λ h. foldl (heard (setting k t d) (suc r)) h (words_by d (m.mail t (suc r) j))) (hand_is r j)

  posts_is : (r : ℕ) → posts_of k m t d r ≡ board (setting k t d) (lines_of m t d) r
  unfolding boards board
  posts_is zero = blank 16 d nothing_posted
  posts_is (suc r) = apart_folds nothing_posted (λ e. posted (setting k t e) (suc r)) (boards k m t r) (m.board t (suc r)) d (omega (arith, boards_long r)) ∙
      ap (λ q. foldl (posted (setting k t d) (suc r)) q (words_by d (m.board t (suc r)))) (posts_is r)

  pub all_hands : hand_of k m t d ≡ hand (setting k t d) (lines_of m t d)
  all_hands = fun_ext (λ r. fun_ext (λ j. hand_is r j))

  pub all_posts : posts_of k m t d ≡ board (setting k t d) (lines_of m t d)
  all_posts = fun_ext posts_is

  -- what holds of each dealing by itself holds in the night
  pub in_night : (P : (ℕ → ℕ → Hand) → (ℕ → Posts) → Type 0) → P (hand (setting k t d) (lines_of m t d)) (board (setting k t d) (lines_of m t d)) → P (hand_of k m t d) (posts_of k m t d)
  in_night P = subst₂ P (sym all_hands) (sym all_posts)

  pub by_itself : (P : (ℕ → ℕ → Hand) → (ℕ → Posts) → Type 0) → P (hand_of k m t d) (posts_of k m t d) → P (hand (setting k t d) (lines_of m t d)) (board (setting k t d) (lines_of m t d))
  by_itself P = subst₂ P all_hands all_posts

module _ (k : Keepers) (lasting : Lasting k) (fit : size (at k 0) ≤ 16) (m : Nights) (plays : Plays k m) (t d : ℕ) (h : d < dealers k t) where
  few : d < 16
  few = omega (arith, dealers_few k t)

  pub follows : Follows (setting k t d) (k.lies t) (lines_of m t d) (hand (setting k t d) (lines_of m t d)) (board (setting k t d) (lines_of m t d))
  follows = by_itself k m t d few (Follows (setting k t d) (k.lies t) (lines_of m t d)) (plays.follows t d h)

  pub deals : Honest (at k t) d → Deals (setting k t d) (k.lies t) (lines_of m t d) (board (setting k t d) (lines_of m t d)) (m.chance t d)
  deals o = by_itself k m t d few (λ _ q. Deals (setting k t d) (k.lies t) (lines_of m t d) q (m.chance t d)) (plays.deals t d h o)

  rules : Kept (at k t) (k.f + 1) (width k t) ((run_of k m).deal t d) × Strict (at k t) (k.f + 1) (width k t) ((run_of k m).deal t d)
  rules = in_night k m t d few (λ h q. Kept (at k t) (k.f + 1) (width k t) (read_off (setting k t d) (h 5) (q 5)) × Strict (at k t) (k.f + 1) (width k t) (read_off (setting k t d) (h 5) (q 5)))
      (keeps_rules_lem (setting k t d) (k.lies t) (lines_of m t d) fit follows)

  fair : Honest (at k t) d → Fair (at k t) (k.f + 1) (width k t) (m.chance t d) ((run_of k m).deal t d)
  fair o = in_night k m t d few (λ h q. Fair (at k t) (k.f + 1) (width k t) (m.chance t d) (read_off (setting k t d) (h 5) (q 5)))
      (deals_fairly_lem (setting k t d) (k.lies t) (lines_of m t d) (m.chance t d) fit (omega (arith, (lasting.sound 0).room)) (omega arith) (deals o))

pub plays_keeps_lem : PlaysKeeps
plays_keeps_lem k lasting fit m plays = record {
  kept = λ t d h. (rules k lasting fit m plays t d h).0;
  strict = λ t d h. (rules k lasting fit m plays t d h).1;
  fair = fair k lasting fit m plays;
}
