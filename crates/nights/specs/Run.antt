-- A run: in night 0 keeper 0 deals the secret, and in every later night every keeper deals what is added to the shares; a day follows each night.
use Rattle.std.specs.Prelude.{◌≡◌, ℕ, zero, suc, ◌+◌, ◌*◌, ◌%◌, ◌<◌, ◌≤◌, Bool, true, cond, T, List, length, ◌==◌}
use mathlib.Core.List.{Memᴰ}
use Rattle.algebra.specs.Polynomial.{value, plus2}
use Rattle.algebra.specs.Sharing.{point}
use Rattle.rules.specs.Deal.{Group, size, Sound, Honest, Dealing, Kept, Strict, Fair, SeenDeal, is_accepted, own}

-- the keepers through all nights; lies: by night, who doesn't keep the rules
pub record Keepers : Type 0 where
  pub p : ℕ
  pub f : ℕ
  pub lies : ℕ → ℕ → Bool

-- in night t and on the day after
abbrev pub at : Keepers → ℕ → Group
at k t = record { p = k.p; f = k.f; takes = λ i. true; lies = k.lies t }

-- whoever has lied counts among those that lie from then on
pub record Lasting (k : Keepers) : Type 0 where
  pub sound : (t : ℕ) → Sound (at k t)
  pub on : (t i : ℕ) → T (k.lies t i) → T (k.lies (suc t) i)

-- by night and dealer: what the dealer drew, and what happened; a night that wasn't over by its end is dropped
pub record Run : Type 0 where
  pub chance : ℕ → ℕ → List (List ℕ)
  pub deal : ℕ → ℕ → Dealing
  pub dropped : ℕ → Bool

-- how many deal in a night: keeper 0 the secret, and later all
abbrev pub dealers : Keepers → ℕ → ℕ
dealers k zero = 1
dealers k (suc t) = size (at k (suc t))

-- the bound for the degree in the second unknown
abbrev pub width : Keepers → ℕ → ℕ
width k zero = k.f + 1
width k (suc t) = k.f

-- each dealing keeps the rules, and honest dealers are fair
pub record Keeps (k : Keepers) (r : Run) : Type 0 where
  pub kept : (t j : ℕ) → j < dealers k t → Kept (at k t) (k.f + 1) (width k t) (r.deal t j)
  pub strict : (t j : ℕ) → j < dealers k t → Strict (at k t) (k.f + 1) (width k t) (r.deal t j)
  pub fair : (t j : ℕ) → j < dealers k t → Honest (at k t) j → Fair (at k t) (k.f + 1) (width k t) (r.chance t j) (r.deal t j)

-- what the first n dealers' accepted dealings give keeper i
unfoldable pub gain : Group → (ℕ → Dealing) → ℕ → ℕ → ℕ
gain g ds zero i = 0
gain g ds (suc n) i = cond (is_accepted g (ds n)) (value g.p (own (ds n) i).across 0) 0 + gain g ds n i

-- what keeper i holds on day t
unfoldable pub held : Keepers → Run → ℕ → ℕ → ℕ
held k r zero i = gain (at k 0) (r.deal 0) (dealers k 0) i % k.p
held k r (suc t) i = cond (r.dropped (suc t)) (held k r t i) ((held k r t i + point i * gain (at k (suc t)) (r.deal (suc t)) (dealers k (suc t)) i) % k.p)

-- Who is spied out, by day and by night: no more than f on any day, and whoever is spied out in a night counts for the day before and the day after. Those that lie in a night are among them.
pub record Spied (k : Keepers) (day night : ℕ → List ℕ) : Type 0 where
  pub few : (t : ℕ) → length (day t) ≤ k.f
  pub inside : (t i : ℕ) → Memᴰ i (day t) → i < size (at k t)
  pub liars : (t i : ℕ) → i < size (at k t) → T (k.lies t i) → Memᴰ i (night t)
  pub after : (t i : ℕ) → Memᴰ i (night t) → Memᴰ i (day t)
  pub before : (t i : ℕ) → Memᴰ i (night (suc t)) → Memᴰ i (day t)

-- days with a dropped night between them count as one
abbrev pub OneDay : Run → (day : ℕ → List ℕ) → Type 0
OneDay r day = (t i : ℕ) → T (r.dropped (suc t)) → (Memᴰ i (day t) → Memᴰ i (day (suc t))) × (Memᴰ i (day (suc t)) → Memᴰ i (day t))

-- two runs look alike to the spies: all boards, what those spied out in a night drew and dealt, were dealt, were told and told, and what those spied out on a day hold. What those that lie do is among it, so if they act on what the spies see, they do the same in both.
pub record Seen (k : Keepers) (day night : ℕ → List ℕ) (r s : Run) : Type 0 where
  pub drops : r.dropped ≡ s.dropped
  pub deals : (t j : ℕ) → j < dealers k t → SeenDeal (at k t) (night t) (r.deal t j) (s.deal t j)
  pub chances : (t j : ℕ) → Memᴰ j (night t) → (r.chance t j ≡ s.chance t j) × ((r.deal t j).dealt ≡ (s.deal t j).dealt)
  pub values : (t i : ℕ) → Memᴰ i (day t) → held k r t i ≡ held k s t i

-- the run s was drawn as r was, but that in each night one dealer's numbers are moved by what is given for that night
abbrev pub Moved : Keepers → (who : ℕ → ℕ) → (by : ℕ → List (List ℕ)) → Run → Run → Type 0
Moved k who by r s = (t j : ℕ) → s.chance t j ≡ cond (j == who t) (plus2 k.p (r.chance t j) (by t)) (r.chance t j)
