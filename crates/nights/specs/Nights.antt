-- All nights, message by message: a court keeps one hand for each dealing of a night, and the board has a part for each.
use Rattle.std.specs.Prelude.{◌≡◌, ℕ, zero, suc, ◌+◌, ◌*◌, ◌<◌, ◌≤◌, Bool, false, not, ◌||◌, List, [], ◌∷◌, replicate, ◌==◌, nat_le, slice_index_or, slice_set}
use mathlib.Core.List.{foldl, Memᴰ}
use Rattle.algebra.specs.Counting.{count}
use Rattle.rules.specs.Deal.{Keeper, Honest}
use Rattle.rules.specs.Rounds.{Setting, Letter, Post, Said, Hand, Posts, Lines, nothing_heard, nothing_posted, heard, posted, words_by, Follows, Quiet, Deals, read_off}
use Rattle.nights.specs.Run.{Keepers, at, Run, dealers, width, held}

-- a word of a night: by names the dealing that it is about, and the word says who said what
abbrev pub About : Type 0 → Type 0
About W = Said (Said W)

-- a night's last lines: a keeper is finished, or the night is over
pub data Last : Type 0 where
  Finished : ℕ → Last
  Over : Last

-- what each dealer draws, and what is said: to each keeper and on the board, by night and round
pub record Nights : Type 0 where
  pub chance : (t d : ℕ) → List (List ℕ)
  pub mail : (t r j : ℕ) → List (About Letter)
  pub board : (t r : ℕ) → List (About Post)
  pub last : ℕ → List Last

-- dealing d of night t
abbrev pub setting : Keepers → (t d : ℕ) → Setting
setting k t d = record { p = k.p; f = k.f; dealer = d; high = k.f + 1; low = width k t }

-- a word changes the part of the state that it is about
abbrev pub sorted : {S W : Type 0} → S → (ℕ → S → W → S) → List S → Said W → List S
sorted none step l m = slice_set l m.by (step m.by (slice_index_or l m.by none) m.word)

-- what keeper j's court holds after round r of night t, and what stands on the board
unfoldable pub hands : Keepers → Nights → (t r j : ℕ) → List Hand
hands k m t zero j = replicate 16 nothing_heard
hands k m t (suc r) j = foldl (sorted nothing_heard (λ d. heard (setting k t d) (suc r))) (hands k m t r j) (m.mail t (suc r) j)

unfoldable pub boards : Keepers → Nights → (t r : ℕ) → List Posts
boards k m t zero = replicate 16 nothing_posted
boards k m t (suc r) = foldl (sorted nothing_posted (λ d. posted (setting k t d) (suc r))) (boards k m t r) (m.board t (suc r))

-- what a court holds of dealing d, and what stands on the board about it
abbrev pub hand_of : Keepers → Nights → (t d r j : ℕ) → Hand
hand_of k m t d r j = slice_index_or (hands k m t r j) d nothing_heard

abbrev pub posts_of : Keepers → Nights → (t d r : ℕ) → Posts
posts_of k m t d r = slice_index_or (boards k m t r) d nothing_posted

-- what is said about one dealing
abbrev pub lines_of : Nights → (t d : ℕ) → Lines
lines_of m t d = record { mail = λ r j. words_by d (m.mail t r j); board = λ r. words_by d (m.board t r) }

-- THE RULES. Honest keepers say what their courts' states ask for, about each dealing, and honest dealers deal.
pub record Plays (k : Keepers) (m : Nights) : Type 0 where
  pub follows : (t d : ℕ) → d < dealers k t → Follows (setting k t d) (k.lies t) (lines_of m t d) (hand_of k m t d) (posts_of k m t d)
  pub hush : (t d : ℕ) → d < dealers k t → Quiet (setting k t d) (k.lies t) (lines_of m t d)
  pub deals : (t d : ℕ) → d < dealers k t → Honest (at k t) d → Deals (setting k t d) (k.lies t) (lines_of m t d) (posts_of k m t d) (m.chance t d)
  -- they say nothing about dealings that there are not
  pub quiet : (t d : ℕ) → dealers k t ≤ d → (r i j : ℕ) → Honest (at k t) i → (words_by i ((lines_of m t d).mail r j) ≡ []) × (words_by i ((lines_of m t d).board r) ≡ [])

-- who is finished before the night is over
unfoldable pub finished : List Last → ℕ → Bool
finished [] i = false
finished (Finished j ∷ l) i = j == i || finished l i
finished (Over ∷ l) i = false

-- what happened: each dealing is read off the courts and the board, and a night is dropped if not all but f are finished before it is over
abbrev pub run_of : Keepers → Nights → Run
run_of k m = record {
  chance = m.chance;
  deal = λ t d. read_off (setting k t d) (hand_of k m t d 5) (posts_of k m t d 5);
  dropped = λ t. not (nat_le (2 * k.f + 1) (count (3 * k.f + 1) (finished (m.last t))));
}

-- Two courses of nights look alike to the spies: all that stands on the board, and where; of those spied out in a night, what they drew, what came to them and in which order, what their courts held after each round, and what they said to anyone; and what those spied out on a day hold.
pub record SeenNights (k : Keepers) (day night : ℕ → List ℕ) (m n : Nights) : Type 0 where
  pub boards : m.board ≡ n.board
  pub lasts : m.last ≡ n.last
  pub chances : (t j : ℕ) → Memᴰ j (night t) → m.chance t j ≡ n.chance t j
  pub mails : (t r j : ℕ) → Memᴰ j (night t) → m.mail t r j ≡ n.mail t r j
  pub states : (t r j : ℕ) → Memᴰ j (night t) → hands k m t r j ≡ hands k n t r j
  pub said : (t r d i j : ℕ) → Memᴰ i (night t) → Keeper (at k t) j → words_by i (words_by d (m.mail t r j)) ≡ words_by i (words_by d (n.mail t r j))
  pub values : (t i : ℕ) → Memᴰ i (day t) → held k (run_of k m) t i ≡ held k (run_of k n) t i
