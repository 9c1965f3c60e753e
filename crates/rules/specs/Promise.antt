-- What is promised of one dealing. Each is a type; a proof of the type is the theorem.
use Rattle.std.specs.Prelude.{◌≡◌, ℕ, ◌+◌, ◌*◌, ◌%◌, ◌≤◌, Bool, true, T, List, [], ◌∷◌, length, Some, None, Option}
use mathlib.Core.List.{Memᴰ}
use Rattle.algebra.specs.Prime.{p}
use Rattle.algebra.specs.Counting.{count}
use Rattle.algebra.specs.Polynomial.{value2, Low2, Exact2, plus2, times2}
use Rattle.rules.specs.Seat.{accepted}
use Rattle.algebra.specs.Sharing.{point, Pair, Share, swap, pair_at, share_of, Of}
use Rattle.rules.specs.Deal.{Group, Sound, Keeper, Honest, Dealing, Kept, Strict, Fair, SeenDeal, is_accepted, own}
use Rattle.rules.specs.Play.{Sitting, Possible, Play, Plays, mail_of, setting_of, after, Played, One, Passes}
use Rattle.rules.specs.Course.{run}
use Rattle.rules.specs.Rounds.{Setting, Said, Lines, keepers, group, Follows, Quiet, Deals, Deal, read_off, words_by, answers_of, hand, board}

-- MAIN. Whatever the dealer and the liars do: if a dealing is accepted, there is one polynomial, of the stated degrees, that the shares of all honest keepers are of.
abbrev pub Main : Type 0
Main =
    (g : Group) → Sound g → (high low : ℕ) → high ≤ g.f + 1 → low ≤ g.f + 1 → (d : Dealing) → Kept g high low d → T (is_accepted g d) →
    (rs : List (List ℕ)) × Low2 high low rs × ((i : ℕ) → Honest g i → Of g.p rs i (own d i))

-- AN HONEST DEALER PASSES. Its dealing is accepted, every honest keeper has what was dealt, no honest keeper is revealed,
abbrev pub FairPasses : Type 0
FairPasses =
    (g : Group) → Sound g → (high low : ℕ) → 1 ≤ high → (rs : List (List ℕ)) → (d : Dealing) → Strict g high low d → Fair g high low rs d →
    T (is_accepted g d) × ((i : ℕ) → Honest g i → own d i ≡ share_of g.p rs i) × ((i : ℕ) → Honest g i → d.reveals i ≡ None)

-- and an honest keeper complains only about one that lies, with numbers that that one holds in its own share.
abbrev pub FairShows : Type 0
FairShows =
    (g : Group) → Sound g → (high low : ℕ) → 1 ≤ high → (rs : List (List ℕ)) → (d : Dealing) → Kept g high low d → Strict g high low d → Fair g high low rs d →
    (i j : ℕ) → Honest g i → Keeper g j → (x : Pair) → d.complaints i j ≡ Some x → T (g.lies j) × (x ≡ swap (pair_at g.p (share_of g.p rs j) i))

-- HIDING. A polynomial that is 0 wherever keeper s looks
abbrev pub Unseen : Group → List (List ℕ) → ℕ → Type 0
Unseen g qs s = (z : ℕ) → (value2 g.p qs z (point s) ≡ 0) × (value2 g.p qs (point s) z ≡ 0)

-- can be added to what an honest dealer deals, and with the same lies nothing changes that the spied see, if all liars count as spied.
abbrev pub HidesDealing : Type 0
HidesDealing =
    (g : Group) → Sound g → (high low : ℕ) → 1 ≤ high → high ≤ g.f + 1 → low ≤ g.f + 1 → (rs : List (List ℕ)) → (d : Dealing) → Kept g high low d → Strict g high low d → Fair g high low rs d →
    (spied : List ℕ) → ((i : ℕ) → Memᴰ i spied → Keeper g i) → ((i : ℕ) → Keeper g i → T (g.lies i) → Memᴰ i spied) →
    (qs : List (List ℕ)) → Low2 high low qs → ((s : ℕ) → Memᴰ s spied → Unseen g qs s) →
    (e : Dealing) × Kept g high low e × Strict g high low e × Fair g high low (plus2 g.p rs qs) e × SeenDeal g spied d e

-- So the secret is hidden from any f: there is one polynomial Z, given by who the f are, multiples of which take any polynomial with any secret to one with any other, and nothing that they see changes. (No two are taken to the same, so each secret fits equally often.)
abbrev pub HidesSecret : Type 0
HidesSecret =
    (g : Group) → Sound g → (spied : List ℕ) → length spied ≤ g.f → ((i : ℕ) → Memᴰ i spied → Keeper g i) → ((i : ℕ) → Keeper g i → T (g.lies i) → Memᴰ i spied) →
    (Z : List (List ℕ)) × Low2 (g.f + 1) (g.f + 1) Z ×
    ((rs : List (List ℕ)) (d : Dealing) → Kept g (g.f + 1) (g.f + 1) d → Strict g (g.f + 1) (g.f + 1) d → Fair g (g.f + 1) (g.f + 1) rs d → (δ : ℕ) →
    let ts = plus2 g.p rs (times2 g.p δ Z) in
    (value2 g.p ts 0 0 ≡ (value2 g.p rs 0 0 + δ) % g.p) ×
    ((e : Dealing) × Kept g (g.f + 1) (g.f + 1) e × Strict g (g.f + 1) (g.f + 1) e × Fair g (g.f + 1) (g.f + 1) ts e × SeenDeal g spied d e))

-- MESSAGE BY MESSAGE. Whatever the liars do, and in whatever order words come: what happened keeps the rules of a dealing,
abbrev pub KeepsRules : Type 0
KeepsRules =
    (s : Setting) (lies : ℕ → Bool) (lines : Lines) → keepers s ≤ 16 → Follows s lies lines (hand s lines) (board s lines) →
    let d = read_off s (hand s lines 5) (board s lines 5) in Kept (group s lies) s.high s.low d × Strict (group s lies) s.high s.low d

-- and an honest dealer's those of a fair one.
abbrev pub DealsFairly : Type 0
DealsFairly =
    (s : Setting) (lies : ℕ → Bool) (lines : Lines) (rs : List (List ℕ)) → keepers s ≤ 16 → 1 ≤ s.p → 1 ≤ s.high → Deals s lies lines (board s lines) rs →
    Fair (group s lies) s.high s.low rs (read_off s (hand s lines 5) (board s lines 5))

-- And the rules can be kept, whatever the liars say: in the course of a dealing honest keepers say what the rules ask for and nothing else, an honest dealer deals these shares, and of liars exactly comes what they say.
abbrev pub CanFollow : Type 0
CanFollow =
    (s : Setting) (lies : ℕ → Bool) (said : Lines) (shares : ℕ → Share) →
    let lines = run s lies said shares in
    Follows s lies lines (hand s lines) (board s lines) × Quiet s lies lines ×
    (Honest (group s lies) s.dealer → ((j : ℕ) → words_by s.dealer (lines.mail 1 j) ≡ Deal (shares j) ∷ []) × (words_by s.dealer (lines.board 4) ≡ answers_of s shares (board s lines 3))) ×
    ((r i : ℕ) → lies i ≡ true → ((j : ℕ) → words_by i (lines.mail r j) ≡ words_by i (said.mail r j)) × (words_by i (lines.board r) ≡ words_by i (said.board r)))

-- FROM BYTES TO THE RULES. Any f up to 5, any liars, any bytes of theirs to anybody and on the board, all in any order; keepers that keep the rules run their seats, and what they say comes within its round: what happened is a dealing that keeps the rules.
abbrev pub PlaysKeep : Type 0
PlaysKeep = (k : Sitting) → Possible k → (lies : ℕ → Bool) (m : Play) → Plays k lies m → (h : ℕ) → Honest (group (setting_of k) lies) h → Played k lies m h

-- ONE DEALING, PLAYED WITH BYTES, with at most f liars.
abbrev pub OneDealing : Type 0
OneDealing =
    (k : Sitting) → Possible k → (lies : ℕ → Bool) → count (3 * k.f + 1) lies ≤ k.f → (m : Play) → Plays k lies m → (h : ℕ) → Honest (group (setting_of k) lies) h →
    (T (accepted (setting_of k) (after k m 5 h).posts) → One k lies m h) ×
    ((rs : List (List ℕ)) → m.chance ≡ Some rs → Exact2 p k.high k.low rs → Honest (group (setting_of k) lies) k.dealer → Passes k lies m h rs)

-- And there are such plays, whatever the dealer draws and whatever bytes liars send and put on the board: of liars exactly that comes.
abbrev pub CanPlay : Type 0
CanPlay =
    (k : Sitting) (lies : ℕ → Bool) (chance : Option (List (List ℕ))) (mail : (round keeper : ℕ) → List (Said (List ℕ))) (lines : (round : ℕ) → List (Said (List ℕ))) →
    (m : Play) × Plays k lies m × (m.chance ≡ chance) ×
    ((r i : ℕ) → lies i ≡ true → ((j : ℕ) → words_by i (mail_of (m.lines r j)) ≡ words_by i (mail r j)) × (words_by i (m.board r) ≡ words_by i (lines r)))

-- HIDING, OF BYTES. A polynomial that is 0 wherever the spied look can be added to what an honest dealer deals: there is a play that keeps the rules in which the same stands on the board, everything that comes to the spied is the same and in the same order, and they say the same to everybody. (All liars count as spied, the dealer isn't.)
abbrev pub HidesBytes : Type 0
HidesBytes =
    (k : Sitting) → Possible k → (lies : ℕ → Bool) → count (3 * k.f + 1) lies ≤ k.f → (m : Play) → Plays k lies m →
    (rs : List (List ℕ)) → m.chance ≡ Some rs → Exact2 p k.high k.low rs → Honest (group (setting_of k) lies) k.dealer →
    (spied : List ℕ) → ((i : ℕ) → Memᴰ i spied → Keeper (group (setting_of k) lies) i) → ((i : ℕ) → Keeper (group (setting_of k) lies) i → T (lies i) → Memᴰ i spied) → (Memᴰ k.dealer spied → ⊥) →
    (qs : List (List ℕ)) → Low2 k.high k.low qs → ((i : ℕ) → Memᴰ i spied → Unseen (group (setting_of k) lies) qs i) →
    (n : Play) × Plays k lies n × (n.chance ≡ Some (plus2 p rs qs)) × (n.board ≡ m.board) ×
    ((r j : ℕ) → Memᴰ j spied → n.lines r j ≡ m.lines r j) × ((r i j : ℕ) → Memᴰ i spied → words_by i (mail_of (n.lines r j)) ≡ words_by i (mail_of (m.lines r j)))
