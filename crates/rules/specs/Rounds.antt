-- One dealing, message by message: what a keeper holds, what stands on the board, what a word changes, and what an honest keeper says.
use Rattle.std.specs.Prelude.{◌≡◌, ℕ, zero, suc, ◌+◌, ◌*◌, Bool, true, false, cond, not, ◌&&◌, ◌||◌, List, [], ◌∷◌, ◌++◌, length, replicate, Some, None, Option, ◌==◌, ◌≢◌, nat_lt, slice_index_or, slice_set}
use mathlib.Core.List.{foldl}
use Rattle.algebra.specs.Polynomial.{Exact2}
use Rattle.algebra.specs.Sharing.{Share, Pair, swap, pair_at, share_of}
use Rattle.rules.specs.Deal.{Group, Keeper, Honest, Dealing, or_else}

-- one dealing: who deals, and the degrees
pub record Setting : Type 0 where
  pub p : ℕ
  pub f : ℕ
  pub dealer : ℕ
  pub high : ℕ
  pub low : ℕ

-- how many keepers there are
abbrev pub keepers : Setting → ℕ
keepers s = 3 * s.f + 1

-- the keepers of a dealing
abbrev pub group : Setting → (ℕ → Bool) → Group
group s lies = record { p = s.p; f = s.f; takes = λ i. true; lies = lies }

-- what is said to one keeper: in round 1 the share, in round 2 what one has at the other's point
pub data Letter : Type 0 where
  Deal : Share → Letter
  Told : Pair → Letter

-- what is said to all, on the board: in round 3 complaints (about whom), in round 4 shares (of whom), in round 5 whether all fits
pub data Post : Type 0 where
  Complaint : ℕ → Pair → Post
  Reveal : ℕ → Share → Post
  Fine : Bool → Post

-- a word, and who it is by
pub record Said (W : Type 0) : Type 0 where
  pub by : ℕ
  pub word : W

-- what one keeper heard: the share, and what each keeper told it
pub record Hand : Type 0 where
  pub share : Option Share
  pub told : List (Option Pair)

-- what all saw: complaints by and about each, what was revealed of each, what each said at the end
pub record Posts : Type 0 where
  pub complaints : List (List (Option Pair))
  pub reveals : List (Option Share)
  pub fines : List (Option Bool)

-- before anything is said
abbrev pub nothing_heard : Hand
nothing_heard = record { share = None; told = replicate 16 None }

abbrev pub nothing_posted : Posts
nothing_posted = record { complaints = replicate 16 (replicate 16 None); reveals = replicate 16 None; fines = replicate 16 None }

-- a place is free
abbrev pub free : {A : Type 0} → Option A → Bool
free None = true
free (Some x) = false

-- a test passes for all numbers below one, or for some
unfoldable pub every : ℕ → (ℕ → Bool) → Bool
every zero t = true
every (suc n) t = t n && every n t

unfoldable pub any : ℕ → (ℕ → Bool) → Bool
any zero t = false
any (suc n) t = t n || any n t

-- what stands in a place
abbrev pub told_by : Hand → ℕ → Option Pair
told_by h i = slice_index_or h.told i None

abbrev pub complaint : Posts → (by about : ℕ) → Option Pair
complaint q a b = slice_index_or (slice_index_or q.complaints a []) b None

abbrev pub revealed : Posts → ℕ → Option Share
revealed q k = slice_index_or q.reveals k None

abbrev pub said_fine : Posts → ℕ → Option Bool
said_fine q i = slice_index_or q.fines i None

-- WHAT A WORD CHANGES. In round r, a word is turned away or takes a place that was free.
abbrev pub hears : Setting → ℕ → Hand → ℕ → Letter → Bool
hears s r h from (Deal x) = (r == 1 && from == s.dealer) && free h.share
hears s r h from (Told x) = (r == 2 && nat_lt from (keepers s)) && free (told_by h from)

abbrev pub heard_it : Hand → ℕ → Letter → Hand
heard_it h from (Deal x) = record { share = Some x; told = h.told }
heard_it h from (Told x) = record { share = h.share; told = slice_set h.told from (Some x) }

abbrev pub heard : Setting → ℕ → Hand → Said Letter → Hand
heard s r h m = cond (hears s r h m.by m.word) (heard_it h m.by m.word) h

-- only those that complained are revealed
abbrev pub complained : Setting → Posts → ℕ → Bool
complained s q k = any (keepers s) (λ b. not (free (complaint q k b)))

abbrev pub posts : Setting → ℕ → Posts → ℕ → Post → Bool
posts s r q from (Complaint a x) = (r == 3 && (nat_lt from (keepers s) && (nat_lt a (keepers s) && not (from == a)))) && free (complaint q from a)
posts s r q from (Reveal k x) = (r == 4 && (from == s.dealer && (nat_lt k (keepers s) && complained s q k))) && free (revealed q k)
posts s r q from (Fine b) = (r == 5 && nat_lt from (keepers s)) && free (said_fine q from)

abbrev pub posted_it : Posts → ℕ → Post → Posts
posted_it q from (Complaint a x) = record { complaints = slice_set q.complaints from (slice_set (slice_index_or q.complaints from []) a (Some x)); reveals = q.reveals; fines = q.fines }
posted_it q from (Reveal k x) = record { complaints = q.complaints; reveals = slice_set q.reveals k (Some x); fines = q.fines }
posted_it q from (Fine b) = record { complaints = q.complaints; reveals = q.reveals; fines = slice_set q.fines from (Some b) }

abbrev pub posted : Setting → ℕ → Posts → Said Post → Posts
posted s r q m = cond (posts s r q m.by m.word) (posted_it q m.by m.word) q

-- WHAT IS SAID: what comes to each keeper in each round, and to the board, in any order.
pub record Lines : Type 0 where
  pub mail : ℕ → ℕ → List (Said Letter)
  pub board : ℕ → List (Said Post)

-- what keeper j holds after round r, and what all saw
unfoldable pub hand : Setting → Lines → ℕ → ℕ → Hand
hand s lines zero j = nothing_heard
hand s lines (suc r) j = foldl (heard s (suc r)) (hand s lines r j) (lines.mail (suc r) j)

unfoldable pub board : Setting → Lines → ℕ → Posts
board s lines zero = nothing_posted
board s lines (suc r) = foldl (posted s (suc r)) (board s lines r) (lines.board (suc r))

-- WHAT AN HONEST KEEPER SAYS.
abbrev pub same : Pair → Pair → Bool
same a b = a.across == b.across && a.down == b.down

-- the lengths are right
abbrev pub lengths : Setting → Share → Bool
lengths s x = length x.across == s.high && length x.down == s.low

-- as many zeros as are asked for
abbrev pub zeros : Setting → Share
zeros s = record { across = replicate s.high 0; down = replicate s.low 0 }

-- the share that a keeper goes on with: zeros for a bad one, or for none
abbrev pub checked : Setting → ℕ → Option Share → Share
checked s me None = zeros s
checked s me (Some x) = cond (lengths s x && same (pair_at s.p x me) (swap (pair_at s.p x me))) x (zeros s)

-- the share that a keeper goes on with, by what it heard
abbrev pub mine : Setting → ℕ → Hand → Share
mine s me h = checked s me h.share

-- what a keeper tells another one
abbrev pub tells_to : Setting → ℕ → Hand → ℕ → Letter
tells_to s me h to = Told (pair_at s.p (mine s me h) to)

-- a word for each number, below one, that passes a test
unfoldable pub gather : {A : Type 0} → ℕ → (ℕ → Bool) → (ℕ → A) → List A
gather zero t w = []
gather (suc n) t w = gather n t w ++ cond (t n) (w n ∷ []) []

-- what was told is what is wanted
abbrev pub fits : Option Pair → Pair → Bool
fits None b = false
fits (Some a) b = same a b

-- reason to complain about j
abbrev pub doubts : Setting → ℕ → Hand → ℕ → Bool
doubts s me h j = not (me == j) && not (fits (told_by h j) (swap (pair_at s.p (mine s me h) j)))

-- what a keeper complains of
abbrev pub complaints_of : Setting → ℕ → Hand → List Post
complaints_of s me h = gather (keepers s) (doubts s me h) (λ j. Complaint j (pair_at s.p (mine s me h) j))

-- the dealer, who gave these shares, reveals whoever complains with something else
abbrev pub differs : Option Pair → Pair → Bool
differs None b = false
differs (Some a) b = not (same a b)

-- keeper k's complaint about b isn't what it was given
abbrev pub wrong : Setting → (ℕ → Share) → Posts → ℕ → ℕ → Bool
wrong s shares q k b = differs (complaint q k b) (pair_at s.p (shares k) b)

-- whom the dealer reveals
abbrev pub answers_of : Setting → (ℕ → Share) → Posts → List Post
answers_of s shares q = gather (keepers s) (λ k. any (keepers s) (wrong s shares q k)) (λ k. Reveal k (shares k))

-- what is revealed has the right lengths and agrees
abbrev pub shows : Setting → ℕ → Share → ℕ → Option Share → Bool
shows s me x k None = true
shows s me x k (Some y) = lengths s y && same (pair_at s.p x k) (swap (pair_at s.p y me))

-- two that complain about each other say the same, or one is revealed
abbrev pub settles : Option Pair → Option Pair → Option Share → Option Share → Bool
settles None y r t = true
settles (Some x) None r t = true
settles (Some x) (Some y) (Some r) t = true
settles (Some x) (Some y) None (Some t) = true
settles (Some x) (Some y) None None = same x (swap y)

-- all fits
abbrev pub all_fits : Setting → ℕ → Share → Posts → Bool
all_fits s me x q =
    free (revealed q me) && (every (keepers s) (λ k. shows s me x k (revealed q k)) &&
    every (keepers s) (λ a. every (keepers s) (λ b. settles (complaint q a b) (complaint q b a) (revealed q a) (revealed q b))))

-- THE RULES. The words by one keeper, in order:
unfoldable pub words_by : {W : Type 0} → ℕ → List (Said W) → List W
words_by i [] = []
words_by i (m ∷ ms) = cond (m.by == i) (m.word ∷ words_by i ms) (words_by i ms)

-- of honest keepers stands exactly what they say, by what they hold and see after each round (hand, board); whatever else stands there, between it and around it
pub record Follows (s : Setting) (lies : ℕ → Bool) (lines : Lines) (hand : ℕ → ℕ → Hand) (board : ℕ → Posts) : Type 0 where
  pub tells : (i j : ℕ) → Honest (group s lies) i → Keeper (group s lies) j → (i ≢ j) → words_by i (lines.mail 2 j) ≡ tells_to s i (hand 1 i) j ∷ []
  pub complains : (i : ℕ) → Honest (group s lies) i → words_by i (lines.board 3) ≡ complaints_of s i (hand 2 i)
  pub judges : (i : ℕ) → Honest (group s lies) i → words_by i (lines.board 5) ≡ Fine (all_fits s i (mine s i (hand 4 i)) (board 4)) ∷ []

-- and they say nothing else, but for what the dealer says
pub record Quiet (s : Setting) (lies : ℕ → Bool) (lines : Lines) : Type 0 where
  pub mail : (r i j : ℕ) → Honest (group s lies) i → ((r ≡ 1) × (i ≡ s.dealer) → ⊥) → ((r ≡ 2) × (i ≢ j) → ⊥) → words_by i (lines.mail r j) ≡ []
  pub board : (r i : ℕ) → Honest (group s lies) i → (r ≢ 3) → ((r ≡ 4) × (i ≡ s.dealer) → ⊥) → (r ≢ 5) → words_by i (lines.board r) ≡ []

-- an honest dealer draws as many numbers as are asked for, gives each keeper the share of that polynomial, and answers
pub record Deals (s : Setting) (lies : ℕ → Bool) (lines : Lines) (board : ℕ → Posts) (rs : List (List ℕ)) : Type 0 where
  pub chance : Exact2 s.p s.high s.low rs
  pub gives : (j : ℕ) → Keeper (group s lies) j → words_by s.dealer (lines.mail 1 j) ≡ Deal (share_of s.p rs j) ∷ []
  pub answers : words_by s.dealer (lines.board 4) ≡ answers_of s (share_of s.p rs) (board 3)

-- what happened, read off what keepers hold and see at the end
abbrev pub read_off : Setting → (ℕ → Hand) → Posts → Dealing
read_off s hand q = record {
  dealt = λ i. mine s i (hand i);
  told = λ j i. told_by (hand i) j;
  complaints = complaint q;
  reveals = revealed q;
  fine = λ i. or_else false (said_fine q i);
}
