-- One dealing: a dealer hands shares to keepers, who compare them, complain on a board that all see, and say whether what they hold fits.
use Rattle.std.specs.Prelude.{◌≡◌, ℕ, ◌+◌, ◌*◌, ◌<◌, ◌≤◌, Bool, true, not, ◌||◌, T, ◌⊎◌, List, length, Some, None, Option, ◌≢◌, nat_le}
use mathlib.Core.List.{Memᴰ}
use Rattle.algebra.specs.Prime.{Prime}
use Rattle.algebra.specs.Counting.{count}
use Rattle.algebra.specs.Polynomial.{Exact2}
use Rattle.algebra.specs.Sharing.{Share, Pair, swap, pair_at, Agree, share_of}

-- Keepers 0 to 3 f; keeper i stands at the point i + 1. takes: who takes part; lies: who doesn't keep the rules.
pub record Group : Type 0 where
  pub p : ℕ
  pub f : ℕ
  pub takes : ℕ → Bool
  pub lies : ℕ → Bool

-- how many keepers there are
abbrev pub size : Group → ℕ
size g = 3 * g.f + 1

-- who can't be counted on
abbrev pub away : Group → ℕ → Bool
away g i = g.lies i || not (g.takes i)

-- p is prime and has room for the keepers' points, and at most f lie or don't take part
pub record Sound (g : Group) : Type 0 where
  pub prime : Prime g.p
  pub room : size g < g.p
  pub few : count (size g) (away g) ≤ g.f

-- a keeper that takes part
abbrev pub Keeper : Group → ℕ → Type 0
Keeper g i = (i < size g) × T (g.takes i)

-- one that keeps the rules
abbrev pub Honest : Group → ℕ → Type 0
Honest g i = Keeper g i × (T (g.lies i) → ⊥)

-- a share has the right lengths: high coefficients across, low down
abbrev pub Lengths : (high low : ℕ) → Share → Type 0
Lengths high low s = (length s.across ≡ high) × (length s.down ≡ low)

-- What happened in one dealing. dealt: the share that each keeper took; told j i: what i heard from j; complaints i j: what i says on the board that it has at j's point;
-- reveals: what the dealer shows of a keeper's share; fine: who said that all fits.
pub record Dealing : Type 0 where
  pub dealt : ℕ → Share
  pub told : ℕ → ℕ → Option Pair
  pub complaints : ℕ → ℕ → Option Pair
  pub reveals : ℕ → Option Share
  pub fine : ℕ → Bool

-- keeper i has reason to complain about another one, j: what j told it isn't what its own share gives
abbrev pub Doubts : Group → Dealing → (i j : ℕ) → Type 0
Doubts g d i j = (i ≢ j) × (d.told j i ≢ Some (swap (pair_at g.p (d.dealt i) j)))

-- All fits for keeper i: it isn't revealed, what is revealed is of the right lengths and agrees with its own share, and two that complain about each other say the same, or one is revealed.
pub record Fits (g : Group) (high low : ℕ) (d : Dealing) (i : ℕ) : Type 0 where
  pub hidden : d.reveals i ≡ None
  pub shown : (k : ℕ) → Keeper g k → (s : Share) → d.reveals k ≡ Some s → Lengths high low s × Agree g.p i (d.dealt i) k s
  pub settled : (a : ℕ) → Keeper g a → (b : ℕ) → Keeper g b → (x y : Pair) → d.complaints a b ≡ Some x → d.complaints b a ≡ Some y → d.reveals a ≡ None → d.reveals b ≡ None → x ≡ swap y

-- The rules, for the honest keepers: what makes an accepted dealing one polynomial.
pub record Kept (g : Group) (high low : ℕ) (d : Dealing) : Type 0 where
  -- a share is taken only if it has the right lengths and it agrees with itself, else zeros are
  pub shares : (i : ℕ) → Honest g i → Lengths high low (d.dealt i) × Agree g.p i (d.dealt i) i (d.dealt i)
  pub tells : (i j : ℕ) → Honest g i → Keeper g j → (i ≢ j) → d.told i j ≡ Some (pair_at g.p (d.dealt i) j)
  -- whoever has reason to complains, and says what it has
  pub complains : (i j : ℕ) → Honest g i → Keeper g j → Doubts g d i j → d.complaints i j ≡ Some (pair_at g.p (d.dealt i) j)
  -- whoever says that all fits is right
  pub says_fine : (i : ℕ) → Honest g i → d.fine i ≡ true → Fits g high low d i

-- And what makes an honest dealer's dealing pass, and hide: nobody honest complains without reason or with other numbers, and all say that all fits if it does.
pub record Strict (g : Group) (high low : ℕ) (d : Dealing) : Type 0 where
  pub only_then : (i j : ℕ) → Honest g i → Keeper g j → (x : Pair) → d.complaints i j ≡ Some x → (x ≡ pair_at g.p (d.dealt i) j) × Doubts g d i j
  pub fines_if : (i : ℕ) → Honest g i → Fits g high low d i → d.fine i ≡ true

-- an honest dealer draws high times low numbers below p, deals from that polynomial, and reveals exactly those that complained with something else than what it gave them
pub record Fair (g : Group) (high low : ℕ) (rs : List (List ℕ)) (d : Dealing) : Type 0 where
  pub chance : Exact2 g.p high low rs
  pub deals : (i : ℕ) → Keeper g i → d.dealt i ≡ share_of g.p rs i
  pub reveals : (k : ℕ) → Keeper g k → (s : Share) → d.reveals k ≡ Some s →
      (s ≡ share_of g.p rs k) × ((b : ℕ) × (x : Pair) × Keeper g b × (d.complaints k b ≡ Some x) × (x ≢ pair_at g.p (share_of g.p rs k) b))
  pub answers : (a : ℕ) → Keeper g a → (b : ℕ) → Keeper g b → (x : Pair) → d.complaints a b ≡ Some x → d.reveals a ≡ None → x ≡ pair_at g.p (share_of g.p rs a) b

-- two dealings look alike to the spied: the board is the same, and so is what was dealt to them, told to them and told by them
pub record SeenDeal (g : Group) (spied : List ℕ) (d e : Dealing) : Type 0 where
  pub complaints : d.complaints ≡ e.complaints
  pub reveals : d.reveals ≡ e.reveals
  pub fine : d.fine ≡ e.fine
  pub dealt : (i : ℕ) → Memᴰ i spied → d.dealt i ≡ e.dealt i
  pub told : (i j : ℕ) → Keeper g i → Keeper g j → Memᴰ i spied ⊎ Memᴰ j spied → d.told i j ≡ e.told i j

-- enough have said that all fits: all but f
abbrev pub is_accepted : Group → Dealing → Bool
is_accepted g d = nat_le (2 * g.f + 1) (count (size g) d.fine)

-- what is there, or else a
abbrev pub or_else : {A : Type 0} → A → Option A → A
or_else a None = a
or_else a (Some x) = x

-- the share that a keeper goes on with: what was revealed of it, or else what it got
abbrev pub own : Dealing → ℕ → Share
own d i = or_else (d.dealt i) (d.reveals i)
