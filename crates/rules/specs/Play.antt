-- A dealing played with bytes: what comes to each keeper, what its seat makes of it, and what it means to keep the rules.
use Rattle.std.specs.Prelude.{◌≡◌, ℕ, zero, suc, ◌+◌, ◌*◌, ◌^◌, ◌<◌, ◌≤◌, Bool, cond, T, List, [], ◌∷◌, ◌++◌, map, Some, None, Option, ◌==◌}
use mathlib.Core.List.{foldl}
use Rattle.std.specs.Option.{option_to_list}
use Rattle.algebra.specs.Prime.{p}
use Rattle.algebra.specs.Polynomial.{value, value2, Low2, Exact2}
use Rattle.algebra.specs.Sharing.{point, Pair, swap, pair_at, share_of, Of}
use Rattle.rules.specs.Deal.{Keeper, Honest, Dealing, Kept, Strict, Fair, own}
use Rattle.rules.specs.Rounds.{Setting, group, Said, words_by, read_off}
use Rattle.rules.specs.Wire.{wire, when}
use Rattle.rules.specs.Seat.{Terms, State, mail_bytes, board_bytes, mail_to, line_of, called, seated, accepted}

-- a line that comes to a keeper: mail, and from whom; or a line of the board, and who put it there
pub data Line : Type 0 where
  Mail : (from : ℕ) → List ℕ → Line
  Board : (who : ℕ) → List ℕ → Line

-- the seat after a line
abbrev pub taken : Terms → State → Line → State
taken t st (Mail from bs) = (mail_bytes t st from bs).0
taken t st (Board who bs) = (board_bytes t st who bs).0

-- of the lines of a keeper, its mail and the board, in their order
unfoldable pub mail_of : List Line → List (Said (List ℕ))
mail_of [] = []
mail_of (Mail from bs ∷ ls) = record { by = from; word = bs } ∷ mail_of ls
mail_of (Board who bs ∷ ls) = mail_of ls

unfoldable pub board_of : List Line → List (Said (List ℕ))
board_of [] = []
board_of (Mail from bs ∷ ls) = board_of ls
board_of (Board who bs ∷ ls) = record { by = who; word = bs } ∷ board_of ls

-- one dealing, where it is played: among how many, in which night, by whom, with which lengths
pub record Sitting : Type 0 where
  pub f : ℕ
  pub night : ℕ
  pub dealer : ℕ
  pub high : ℕ
  pub low : ℕ

abbrev pub setting_of : Sitting → Setting
setting_of k = record { p = p; f = k.f; dealer = k.dealer; high = k.high; low = k.low }

abbrev pub terms_of : Sitting → ℕ → Terms
terms_of k i = record { night = k.night; setting = setting_of k; me = i }

pub record Possible (k : Sitting) : Type 0 where
  pub few : k.f ≤ 5
  pub timed : k.night < 2 ^ 32
  pub deals : k.dealer < 3 * k.f + 1
  pub some : 1 ≤ k.high
  pub wide : k.high ≤ k.f + 1
  pub tall : k.low ≤ k.f + 1

-- what the dealer drew; what comes to each keeper in each round, mail and board in any order; and what stands on the board, round by round
pub record Play : Type 0 where
  pub chance : Option (List (List ℕ))
  pub lines : (round keeper : ℕ) → List Line
  pub board : (round : ℕ) → List (Said (List ℕ))

-- keeper i's seat when round r is called, and after the lines of round r (round 0: before the first call)
unfoldable pub after : Sitting → Play → (r i : ℕ) → State
after k m zero i = foldl (taken (terms_of k i)) (seated (cond (i == k.dealer) m.chance None)) (m.lines 0 i)
after k m (suc r) i = foldl (taken (terms_of k i)) (called (terms_of k i) (after k m r i)) (m.lines (suc r) i)

abbrev pub at_call : Sitting → Play → (r i : ℕ) → State
at_call k m r i = called (terms_of k i) (after k m r i)

-- the bytes that keeper i sends j, and puts on the board, in round r + 1: what its seat says when that round is called
abbrev pub sends : Sitting → Play → (r i j : ℕ) → List (List ℕ)
sends k m r i j = map wire (option_to_list (mail_to (terms_of k i) (at_call k m r i) j))

-- a line for each keeper below n, or none
unfoldable pub collected : {A : Type 0} → ℕ → (ℕ → Option A) → List A
collected zero line = []
collected (suc n) line = collected n line ++ option_to_list (line n)

abbrev pub posts : Sitting → Play → (r i : ℕ) → List (List ℕ)
posts k m r i = map wire (collected (3 * k.f + 1) (line_of (terms_of k i) (at_call k m r i)))

-- THE RULES. Everybody sees the board as it stands. Of a keeper that keeps the rules there come exactly, and in order, the bytes that its seat says, to everybody in the round in which it says them; before the first call nothing. All else is free.
pub record Plays (k : Sitting) (lies : ℕ → Bool) (m : Play) : Type 0 where
  pub sees : (r i : ℕ) → Honest (group (setting_of k) lies) i → board_of (m.lines r i) ≡ m.board r
  pub mails : (r i j : ℕ) → Honest (group (setting_of k) lies) i → words_by i (mail_of (m.lines (suc r) j)) ≡ sends k m r i j
  pub lines : (r i : ℕ) → Honest (group (setting_of k) lies) i → words_by i (m.board (suc r)) ≡ posts k m r i
  pub silent : (i j : ℕ) → Honest (group (setting_of k) lies) i → (words_by i (mail_of (m.lines 0 j)) ≡ []) × (words_by i (m.board 0) ≡ [])

-- what happened, read off the seats of all and the board as keeper h sees it
abbrev pub overall : Sitting → Play → ℕ → Dealing
overall k m h = read_off (setting_of k) (λ i. (after k m 5 i).hand) (after k m 5 h).posts

-- What happened is a dealing that keeps the rules, to whichever honest keeper h one listens: it sees the board as all honest keepers do, and in the end keeps of its own share the value at 0, if the dealing is accepted. An honest dealer's is a fair one.
pub record Played (k : Sitting) (lies : ℕ → Bool) (m : Play) (h : ℕ) : Type 0 where
  pub kept : Kept (group (setting_of k) lies) k.high k.low (overall k m h)
  pub strict : Strict (group (setting_of k) lies) k.high k.low (overall k m h)
  pub fair : (rs : List (List ℕ)) → m.chance ≡ Some rs → Exact2 p k.high k.low rs → Honest (group (setting_of k) lies) k.dealer → Fair (group (setting_of k) lies) k.high k.low rs (overall k m h)
  pub keeps : (at_call k m 5 h).kept ≡ when (accepted (setting_of k) (after k m 5 h).posts) (value p (own (overall k m h) h).across 0)
  pub same : (j : ℕ) → Honest (group (setting_of k) lies) j → (after k m 5 h).posts ≡ (after k m 5 j).posts

-- WHAT IS PROMISED of a dealing played with bytes, as keeper h sees it. If it is accepted, there is one polynomial of the stated lengths that the shares of all honest keepers are of, and each keeps its value of it at 0.
pub record One (k : Sitting) (lies : ℕ → Bool) (m : Play) (h : ℕ) : Type 0 where
  pub rows : List (List ℕ)
  pub low : Low2 k.high k.low rows
  pub shares : (i : ℕ) → Honest (group (setting_of k) lies) i → Of p rows i (own (overall k m h) i)
  pub values : (i : ℕ) → Honest (group (setting_of k) lies) i → (at_call k m 5 i).kept ≡ Some (value2 p rows 0 (point i))

-- An honest dealer's dealing is accepted; the honest keepers have what was dealt, and none of them is revealed; and whatever they complain of is about liars, with numbers that these hold themselves.
pub record Passes (k : Sitting) (lies : ℕ → Bool) (m : Play) (h : ℕ) (rs : List (List ℕ)) : Type 0 where
  pub accepts : T (accepted (setting_of k) (after k m 5 h).posts)
  pub dealt : (i : ℕ) → Honest (group (setting_of k) lies) i → own (overall k m h) i ≡ share_of p rs i
  pub hidden : (i : ℕ) → Honest (group (setting_of k) lies) i → (overall k m h).reveals i ≡ None
  pub shows : (i j : ℕ) → Honest (group (setting_of k) lies) i → Keeper (group (setting_of k) lies) j → (x : Pair) → (overall k m h).complaints i j ≡ Some x → T (lies j) × (x ≡ swap (pair_at p (share_of p rs j) i))
