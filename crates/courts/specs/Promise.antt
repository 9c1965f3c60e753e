-- What is promised of courts through all nights. Each is a type; a proof of the type is the theorem.
use Rattle.std.specs.Prelude.{◌≡◌, ℕ, suc, ◌+◌, ◌*◌, ◌%◌, ◌<◌, ◌≤◌, Bool, true, false, T, ◌⊎◌, List, ◌++◌, length, Some, None, ◌≢◌, slice_index_or}
use mathlib.Core.List.{Memᴰ}
use Rattle.algebra.specs.Prime.{p}
use Rattle.algebra.specs.Counting.{count}
use Rattle.algebra.specs.Polynomial.{value, value2, Low, Low2, plus2}
use Rattle.algebra.specs.Sharing.{point, Share, Pair, swap, pair_at, share_of, Of}
use Rattle.rules.specs.Deal.{Honest}
use Rattle.rules.specs.Wire.{small}
use Rattle.rules.specs.Rounds.{Said, Setting, Posts, complaint, revealed, words_by}
use Rattle.rules.specs.Seat.{accepted, own_share}
use Rattle.rules.specs.Play as play
use Rattle.rules.specs.Play.{mail_of}
use Rattle.nights.specs.Run.{at, Spied}
use Rattle.nights.specs.Promise.{Misses}
use Rattle.courts.specs.Court.{low_of, dealers_of, terms_at, seat_at, rows_from, is_over}
use Rattle.courts.specs.Nights.{Nights, Born, Plays, keepers_of, fed, begins, within, called, posts}

-- dealing d of night t: its lengths, and the polynomial that its dealer draws
abbrev pub setting : Nights → (t d : ℕ) → Setting
setting m t d = record { p = p; f = m.f; dealer = d; high = m.f + 1; low = low_of m.f t }

abbrev pub polynomial : Nights → (t d : ℕ) → List (List ℕ)
polynomial m t d = rows_from (low_of m.f t) (m.f + 1) (m.draws t d)

-- when the sixth round is called: what stands on the board, as keeper i's court sees it; the share that it goes on with; and what it keeps
abbrev pub board : Nights → (t d i : ℕ) → Posts
board m t d i = (seat_at (within m t 5 i) d).posts

abbrev pub goes_on : Nights → (t d i : ℕ) → Share
goes_on m t d i = own_share (terms_at (within m t 5 i) d) (seat_at (within m t 5 i) d)

-- is the night over, as keeper i's court sees it when the end comes
abbrev pub over : Nights → (t i : ℕ) → Bool
over m t i = is_over (within m t (m.calls t) i)

-- THE DEALINGS. What holds of dealing d of night t, if its six rounds are called.
pub record Deals (m : Nights) (lies : ℕ → ℕ → Bool) (t d : ℕ) : Type 0 where
  -- all that keep the rules see the same board
  pub same : (h i : ℕ) → Honest (at (keepers_of m lies) t) h → Honest (at (keepers_of m lies) t) i → board m t d h ≡ board m t d i
  -- if it is accepted, their shares are of one polynomial of the stated lengths, and each keeps its value of it
  pub one : (h : ℕ) → Honest (at (keepers_of m lies) t) h → T (accepted (setting m t d) (board m t d h)) →
      (rs : List (List ℕ)) × Low2 (m.f + 1) (low_of m.f t) rs ×
      ((i : ℕ) → Honest (at (keepers_of m lies) t) i → Of p rs i (goes_on m t d i) × (slice_index_or (called m t 5 i).kept d None ≡ Some (value2 p rs 0 (point i))))
  -- an honest dealer's is accepted, they have what was dealt, none of them is revealed,
  pub fair : Honest (at (keepers_of m lies) t) d → (i : ℕ) → Honest (at (keepers_of m lies) t) i →
      T (accepted (setting m t d) (board m t d i)) × (goes_on m t d i ≡ share_of p (polynomial m t d) i) × (revealed (board m t d i) i ≡ None)
  -- and whatever they complain of is about liars, with numbers that these hold themselves
  pub shows : Honest (at (keepers_of m lies) t) d → (i j : ℕ) → Honest (at (keepers_of m lies) t) i → j < 3 * m.f + 1 → (x : Pair) → complaint (board m t d i) i j ≡ Some x →
      T (lies t j) × (x ≡ swap (pair_at p (share_of p (polynomial m t d) j) i))

-- THE VALUES, if night 0 gave the courts theirs. Day t follows night t.
abbrev pub Given : Nights → (ℕ → ℕ → Bool) → Type 0
Given m lies = (i : ℕ) → Honest (at (keepers_of m lies) 0) i → (begins m 1 i).value ≢ None

pub record Stays (m : Nights) (lies : ℕ → ℕ → Bool) : Type 0 where
  -- there is one secret, what keeper 0 drew if it was honest then, and on each day the values of the honest courts lie on a polynomial of at most f + 1 coefficients that has it at 0
  pub secret : ℕ
  pub drawn : Honest (at (keepers_of m lies) 0) 0 → secret ≡ value2 p (polynomial m 0 0) 0 0
  pub days : (t : ℕ) → t < m.many →
      (cs : List ℕ) × Low (m.f + 1) cs × (value p cs 0 ≡ secret) × ((i : ℕ) → Honest (at (keepers_of m lies) t) i → (begins m (suc t) i).value ≡ Some (value p cs (point i)))
  -- whatever the others say, there is such a polynomial that all but f of the values said lie on, and every such polynomial has the secret at 0
  pub found : (t : ℕ) → t < m.many → (said : ℕ → ℕ) → ((i : ℕ) → Honest (at (keepers_of m lies) t) i → (begins m (suc t) i).value ≡ Some (said i)) →
      (cs : List ℕ) × (a : List ℕ) × Low (m.f + 1) cs × Misses (at (keepers_of m lies) t) cs said a
  pub back : (t : ℕ) → t < m.many → (said : ℕ → ℕ) → ((i : ℕ) → Honest (at (keepers_of m lies) t) i → (begins m (suc t) i).value ≡ Some (said i)) →
      (cs a : List ℕ) → Low (m.f + 1) cs → Misses (at (keepers_of m lies) t) cs said a → value p cs 0 ≡ secret

-- THE SPIES. Days around a dropped night count as one.
abbrev pub OneDay : Nights → (ℕ → ℕ → Bool) → (day : ℕ → List ℕ) → Type 0
OneDay m lies day = (t i h : ℕ) → suc t < m.many → Honest (at (keepers_of m lies) (suc t)) h → over m (suc t) h ≡ false → (Memᴰ i (day t) → Memᴰ i (day (suc t))) × (Memᴰ i (day (suc t)) → Memᴰ i (day t))

-- Two runs are the same to the spies: how many rounds are called, and every line of the board;
-- of whoever is spied out in a night, what it draws, all that comes to it and in which order, all that it says to anybody, and, if it keeps the rules, its court at every moment; of whoever is spied out on a day, its court.
pub record Seen (lies : ℕ → ℕ → Bool) (day night : ℕ → List ℕ) (m n : Nights) : Type 0 where
  pub f : m.f ≡ n.f
  pub many : m.many ≡ n.many
  pub calls : m.calls ≡ n.calls
  pub boards : m.board ≡ n.board
  pub draws : (t j : ℕ) → Memᴰ j (night t) → m.draws t j ≡ n.draws t j
  pub lines : (t r j : ℕ) → Memᴰ j (night t) → m.lines t r j ≡ n.lines t r j
  pub said : (t r i j : ℕ) → Memᴰ i (night t) → words_by i (mail_of (m.lines t r j)) ≡ words_by i (mail_of (n.lines t r j))
  pub nights : (t r j : ℕ) → t < m.many → Memᴰ j (night t) → Honest (at (keepers_of m lies) t) j → within m t r j ≡ within n t r j
  pub between : (t r j : ℕ) → t < m.many → Memᴰ j (night t) → Honest (at (keepers_of m lies) t) j → (ls rest : List play.Line) → m.lines t (suc r) j ≡ ls ++ rest → fed (called m t r j) ls ≡ fed (called n t r j) ls
  pub days : (t j : ℕ) → t < m.many → Memᴰ j (day t) → Honest (at (keepers_of m lies) t) j → begins m (suc t) j ≡ begins n (suc t) j

-- The run n is drawn as m is, but that in the first night, and in each that is over, one dealer's polynomial is moved by what is given for that night.
pub record Moved (lies : ℕ → ℕ → Bool) (who : ℕ → ℕ) (by : ℕ → List (List ℕ)) (m n : Nights) : Type 0 where
  pub others : (t j : ℕ) → (j ≢ who t) → n.draws t j ≡ m.draws t j
  pub moved : (t h : ℕ) → t < m.many → Honest (at (keepers_of m lies) t) h → (t ≡ 0) ⊎ (over m t h ≡ true) → polynomial n t (who t) ≡ plus2 p (polynomial m t (who t)) (by t)
  pub unmoved : (t h : ℕ) → t < m.many → Honest (at (keepers_of m lies) t) h → (t ≢ 0) → over m t h ≡ false → n.draws t (who t) ≡ m.draws t (who t)

-- Whatever δ is, there are polynomials, given by who is spied out when and δ alone, such that for every run in which the courts keep the rules, the one that is moved by these keeps them too, with the same liars saying the same; the spies see the same; and the secret is moved by δ.
abbrev pub Hides : (f : ℕ) → (lies : ℕ → ℕ → Bool) → (day night : ℕ → List ℕ) → Type 0
Hides f lies day night =
    (who : ℕ → ℕ) × (by : ℕ → ℕ → List (List ℕ)) ×
    ((m : Nights) → m.f ≡ f → 0 < m.many → Plays m lies → OneDay m lies day → (δ : ℕ) →
    (n : Nights) × Plays n lies × (value2 p (polynomial n 0 0) 0 0 ≡ (value2 p (polynomial m 0 0) 0 0 + δ) % p) × Seen lies day night m n × Moved lies who (by δ) m n)

-- at most f lie in any night, and whoever has lied counts among those that lie from then on
pub record Liars (f : ℕ) (lies : ℕ → ℕ → Bool) : Type 0 where
  pub few : (t : ℕ) → count (3 * f + 1) (lies t) ≤ f
  pub on : (t i : ℕ) → T (lies t i) → T (lies (suc t) i)

-- THE THEOREM. For every f from 0 to 5 and every choice of who lies in which night, at most f: of every run in which the others keep the rules, whatever liars send and put on the board. The secret is hidden if keeper 0 isn't spied out in the night in which it deals it.
abbrev pub Theorem : Type 0
Theorem =
    (f : ℕ) → f ≤ 5 → (lies : ℕ → ℕ → Bool) → Liars f lies →
    ((m : Nights) → m.f ≡ f → Plays m lies → ((t d : ℕ) → t < m.many → m.calls t ≡ 6 → d < dealers_of f t → Deals m lies t d) × (0 < m.many → Given m lies → Stays m lies)) ×
    ((day night : ℕ → List ℕ) → Spied (record { p = p; f = f; lies = lies }) day night → (Memᴰ 0 (night 0) → ⊥) → Hides f lies day night)

-- SUCH RUNS EXIST, whatever is drawn, however many rounds are called, whoever of the honest says its last words behind the night's end (late), and whatever liars send and put on the board: of them exactly that comes. There may be a second night if keeper 0 is honest in the first and nobody is late in it.
abbrev pub CanPlay : Type 0
CanPlay =
    (f many : ℕ) → f ≤ 5 → many ≤ 4294967296 → (lies : ℕ → ℕ → Bool) → Liars f lies →
    (draws : (t i : ℕ) → List ℕ) → ((t i : ℕ) → t < many → i < dealers_of f t → lies t i ≡ false → (length (draws t i) ≡ (f + 1) * low_of f t) × (small (draws t i) ≡ true)) →
    (calls : ℕ → ℕ) → ((t : ℕ) → t < many → (1 ≤ calls t) × (calls t ≤ 6)) → calls 0 ≡ 6 → (late : (t i : ℕ) → Bool) →
    (mail : (t r j : ℕ) → List (Said (List ℕ))) (lines : (t r : ℕ) → List (Said (List ℕ))) →
    (m : Nights) × (m.f ≡ f) × (m.many ≡ many) × (m.draws ≡ draws) × (m.calls ≡ calls) ×
    (Born m lies → Plays m lies) × (lies 0 0 ≡ false → ((i : ℕ) → late 0 i ≡ false) → Born m lies) ×
    ((t r i : ℕ) → lies t i ≡ true → ((j : ℕ) → words_by i (mail_of (m.lines t r j)) ≡ words_by i (mail t r j)) × (words_by i (m.board t r) ≡ words_by i (lines t r)))

-- IN TIME. A night whose six rounds are called is over if what the honest courts say in the last one stands on the board before its end.
abbrev pub OverInTime : Type 0
OverInTime =
    (f : ℕ) → f ≤ 5 → (lies : ℕ → ℕ → Bool) → Liars f lies → (m : Nights) → m.f ≡ f → Plays m lies → (t : ℕ) → t < m.many → m.calls t ≡ 6 →
    ((i : ℕ) → Honest (at (keepers_of m lies) t) i → words_by i (m.board t 6) ≡ posts m t 5 i) → (h : ℕ) → Honest (at (keepers_of m lies) t) h → over m t h ≡ true
