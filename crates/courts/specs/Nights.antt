-- All nights of 3 f + 1 courts: what comes to each, what its court makes of it, and what it means to keep the rules.
use Rattle.std.specs.Prelude.{◌≡◌, ℕ, zero, suc, ◌+◌, ◌*◌, ◌<◌, ◌≤◌, Bool, true, List, [], ◌∷◌, ◌++◌, map, length, None, ◌≢◌}
use Rattle.algebra.specs.Prime.{p}
use Rattle.rules.specs.Deal.{Honest}
use Rattle.rules.specs.Rounds.{Said, words_by}
use Rattle.rules.specs.Wire.{wire, small}
use Rattle.rules.specs.Play as play
use Rattle.rules.specs.Play.{mail_of, board_of}
use Rattle.nights.specs.Run.{Keepers, at}
use Rattle.courts.specs.Court.{Court, Line, Mail, Board, Chance, Round, Over, fresh, taken, low_of, dealers_of, letters_to, posts_of}

-- In nights 0 to many - 1: the numbers that each keeper draws; how many rounds are called before the night's end; what comes to each keeper after each call (before the first: after 0), mail and board in their order; and what stands on the board.
pub record Nights : Type 0 where
  pub f : ℕ
  pub many : ℕ
  pub draws : (t i : ℕ) → List ℕ
  pub calls : (t : ℕ) → ℕ
  pub lines : (t r i : ℕ) → List play.Line
  pub board : (t r : ℕ) → List (Said (List ℕ))

-- the court after a line, whether it is taken or turned away
abbrev pub step : Court → Line → Court
step c l = (taken c l).0

abbrev pub comes : play.Line → Line
comes (play.Mail from bs) = Mail from bs
comes (play.Board who bs) = Board who bs

unfoldable pub fed : Court → List play.Line → Court
fed c [] = c
fed c (l ∷ ls) = fed (step c (comes l)) ls

-- a court in a night: after r calls, and what came then
unfoldable pub during : Court → (ℕ → List play.Line) → (r : ℕ) → Court
during c lines zero = fed c (lines 0)
during c lines (suc r) = fed (step (during c lines r) Round) (lines (suc r))

-- keeper i's court as night t begins
unfoldable pub begins : Nights → (t i : ℕ) → Court
begins m zero i = fresh m.f i
begins m (suc t) i = step (during (step (begins m t i) (Chance (m.draws t i))) (λ r. m.lines t r i) (m.calls t)) Over

-- and after r calls of night t
abbrev pub within : Nights → (t r i : ℕ) → Court
within m t r i = during (step (begins m t i) (Chance (m.draws t i))) (λ r. m.lines t r i) r

-- when round r + 1 is called
abbrev pub called : Nights → (t r i : ℕ) → Court
called m t r i = step (within m t r i) Round

-- the bytes that keeper i's court then sends j, and puts on the board
abbrev pub sends : Nights → (t r i j : ℕ) → List (List ℕ)
sends m t r i j = map wire (letters_to (called m t r i) j)

abbrev pub posts : Nights → (t r i : ℕ) → List (List ℕ)
posts m t r i = map wire (posts_of (called m t r i))

abbrev pub keepers_of : Nights → (lies : ℕ → ℕ → Bool) → Keepers
keepers_of m lies = record { p = p; f = m.f; lies = lies }

-- WHAT IS FIXED, whatever the courts say.
pub record Called (m : Nights) (lies : ℕ → ℕ → Bool) : Type 0 where
  -- no night comes after night 4,294,967,295; from one to six rounds are called in a night, in the first all
  pub few : m.many ≤ 4294967296
  pub rounds : (t : ℕ) → t < m.many → (1 ≤ m.calls t) × (m.calls t ≤ 6)
  pub first : 0 < m.many → m.calls 0 ≡ 6
  -- whoever deals, and keeps the rules, draws as many numbers below p as are asked for
  pub draws : (t i : ℕ) → t < m.many → Honest (at (keepers_of m lies) t) i → i < dealers_of m.f t → (length (m.draws t i) ≡ (m.f + 1) * low_of m.f t) × (small (m.draws t i) ≡ true)
  -- everybody sees the board as it stands
  pub sees : (t r i : ℕ) → t < m.many → r ≤ m.calls t → Honest (at (keepers_of m lies) t) i → board_of (m.lines t r i) ≡ m.board t r

-- there is a second night only after a first one that gave the courts their values
abbrev pub Born : Nights → (lies : ℕ → ℕ → Bool) → Type 0
Born m lies = 1 < m.many → (i : ℕ) → Honest (at (keepers_of m lies) 0) i → (begins m 1 i).value ≢ None

-- THE RULES, for the keepers that keep them; lies: by night, who doesn't. Everything else is free: any bytes by liars to anybody, different to each, any lines of theirs on the board, all in any order.
pub record Plays (m : Nights) (lies : ℕ → ℕ → Bool) : Type 0 where
  pub fixed : Called m lies
  pub born : Born m lies
  -- what a court says when a round is called comes, in order and as it is, before the next is called
  pub mails : (t r i j : ℕ) → t < m.many → suc r < m.calls t → Honest (at (keepers_of m lies) t) i → words_by i (mail_of (m.lines t (suc r) j)) ≡ sends m t r i j
  pub lines : (t r i : ℕ) → t < m.many → suc r < m.calls t → Honest (at (keepers_of m lies) t) i → words_by i (m.board t (suc r)) ≡ posts m t r i
  -- what it says when the last round is called comes before the night's end, or behind it
  pub late_mails : (t r i j : ℕ) → t < m.many → suc r ≡ m.calls t → Honest (at (keepers_of m lies) t) i →
      (late : List (List ℕ)) × (words_by i (mail_of (m.lines t (suc r) j)) ++ late ≡ sends m t r i j) × (suc t < m.many → Honest (at (keepers_of m lies) (suc t)) i → words_by i (mail_of (m.lines (suc t) 0 j)) ≡ late)
  pub late_lines : (t r i : ℕ) → t < m.many → suc r ≡ m.calls t → Honest (at (keepers_of m lies) t) i →
      (late : List (List ℕ)) × (words_by i (m.board t (suc r)) ++ late ≡ posts m t r i) × (suc t < m.many → Honest (at (keepers_of m lies) (suc t)) i → words_by i (m.board (suc t) 0) ≡ late)
  -- before the first night it says nothing
  pub silent : (i j : ℕ) → 0 < m.many → Honest (at (keepers_of m lies) 0) i → (words_by i (mail_of (m.lines 0 0 j)) ≡ []) × (words_by i (m.board 0 0) ≡ [])
