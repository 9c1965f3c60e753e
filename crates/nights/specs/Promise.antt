-- What is promised. Each is a type; a proof of the type is the theorem.
use Rattle.std.specs.Prelude.{◌≡◌, ℕ, ◌+◌, ◌%◌, ◌<◌, ◌≤◌, Bool, true, T, List, length, Some, None}
use mathlib.Core.List.{Memᴰ}
use Rattle.algebra.specs.Polynomial.{value, value2, Low, Low2, Exact2}
use Rattle.algebra.specs.Counting.{Distinct}
use Rattle.algebra.specs.Sharing.{point, Of, share_of, Pair, swap, pair_at}
use Rattle.rules.specs.Deal.{Group, size, Sound, Honest, is_accepted, own, Keeper}
use Rattle.rules.specs.Rounds.{words_by}
use Rattle.nights.specs.Nights.{Nights, Plays, run_of, SeenNights}
use Rattle.nights.specs.Run.{Keepers, at, Lasting, Run, dealers, width, Keeps, held, Spied, OneDay, Seen, Moved}

-- a polynomial that all but f of the values said lie on
abbrev pub Misses : (g : Group) → List ℕ → (ℕ → ℕ) → List ℕ → Type 0
Misses g cs said who = Distinct who × ((i : ℕ) → i < size g → (Memᴰ i who → ⊥) → value g.p cs (point i) ≡ said i) × (length who ≤ g.f)

-- Two polynomials of low degree that all but f values lie on are one,
abbrev pub HadBack : Type 0
HadBack =
    (g : Group) → Sound g → (cs ds : List ℕ) → Low (g.f + 1) cs → Low (g.f + 1) ds → (said : ℕ → ℕ) → (a b : List ℕ) → Misses g cs said a → Misses g ds said b → (x : ℕ) →
    value g.p cs x ≡ value g.p ds x

-- since two that agree at more keepers' points than their degree are.
abbrev pub OnePolynomial : Type 0
OnePolynomial =
    (g : Group) → Sound g → (k : ℕ) → k ≤ size g → (cs ds : List ℕ) → Low k cs → Low k ds → (who : List ℕ) → Distinct who → k ≤ length who → ((i : ℕ) → Memᴰ i who → i < size g) →
    ((i : ℕ) → Memᴰ i who → value g.p cs (point i) ≡ value g.p ds (point i)) → (x : ℕ) → value g.p cs x ≡ value g.p ds x

-- ALL NIGHTS. What holds of every run that keeps the rules.
pub record Holds (k : Keepers) (r : Run) : Type 0 where
  -- every accepted dealing is of one polynomial
  pub one : (t j : ℕ) → j < dealers k t → T (is_accepted (at k t) (r.deal t j)) →
      (rs : List (List ℕ)) × Low2 (k.f + 1) (width k t) rs × ((i : ℕ) → Honest (at k t) i → Of k.p rs i (own (r.deal t j) i))
  -- honest dealers' dealings are accepted, the honest keepers have what was dealt, and none of them is revealed
  pub fair : (t j : ℕ) → j < dealers k t → Honest (at k t) j →
      T (is_accepted (at k t) (r.deal t j)) × ((i : ℕ) → Honest (at k t) i → own (r.deal t j) i ≡ share_of k.p (r.chance t j) i) × ((i : ℕ) → Honest (at k t) i → (r.deal t j).reveals i ≡ None)
  -- of honest dealers' dealings, honest keepers complain only about those that lie, and what they say these hold themselves
  pub shows : (t j : ℕ) → j < dealers k t → Honest (at k t) j → (i l : ℕ) → Honest (at k t) i → Keeper (at k t) l → (x : Pair) → (r.deal t j).complaints i l ≡ Some x →
      T (k.lies t l) × (x ≡ swap (pair_at k.p (share_of k.p (r.chance t j) l) i))
  -- there is one secret, what keeper 0 drew if it was honest then, and on each day what the honest keepers hold are values of a polynomial of low degree that has it at 0
  pub secret : ℕ
  pub drawn : Honest (at k 0) 0 → secret ≡ value2 k.p (r.chance 0 0) 0 0
  pub stays : (t : ℕ) → (cs : List ℕ) × Low (k.f + 1) cs × (value k.p cs 0 ≡ secret) × ((i : ℕ) → Honest (at k t) i → held k r t i ≡ value k.p cs (point i))
  -- it can be had back on each day, if those that lie say what they like: there is a polynomial of low degree that all but f of the values said lie on, and every such polynomial has the secret at 0
  pub found : (t : ℕ) (said : ℕ → ℕ) → ((i : ℕ) → Honest (at k t) i → said i ≡ held k r t i) → (cs : List ℕ) × (a : List ℕ) × Low (k.f + 1) cs × Misses (at k t) cs said a
  pub back : (t : ℕ) (said : ℕ → ℕ) → ((i : ℕ) → Honest (at k t) i → said i ≡ held k r t i) → (cs a : List ℕ) → Low (k.f + 1) cs → Misses (at k t) cs said a → value k.p cs 0 ≡ secret

-- And the spies never learn the secret, by all that they have seen in all nights: whatever δ is, there are numbers, given by who is spied out when and δ alone, such that the run in which these are added to what one dealer drew in each night keeps the rules, looks the same to the spies, and has the secret moved by δ.
abbrev pub Hides : Keepers → (day night : ℕ → List ℕ) → Type 0
Hides k day night =
    (who : ℕ → ℕ) × (by : ℕ → ℕ → List (List ℕ)) ×
    ((r : Run) → Keeps k r → OneDay r day → (δ : ℕ) →
    (s : Run) × Keeps k s × (value2 k.p (s.chance 0 0) 0 0 ≡ (value2 k.p (r.chance 0 0) 0 0 + δ) % k.p) × Seen k day night r s × Moved k who (by δ) r s)

-- THE THEOREM. The secret is hidden if keeper 0 isn't spied out in the night in which it deals it.
abbrev pub Theorem : Type 0
Theorem =
    (k : Keepers) → Lasting k →
    ((r : Run) → Keeps k r → Holds k r) ×
    ((day night : ℕ → List ℕ) → Spied k day night → (Memᴰ 0 (night 0) → ⊥) → Hides k day night)

-- And the rules can be kept, whatever is drawn.
abbrev pub CanBeKept : Type 0
CanBeKept =
    (k : Keepers) → Lasting k → (chance : ℕ → ℕ → List (List ℕ)) → ((t j : ℕ) → j < dealers k t → Exact2 k.p (k.f + 1) (width k t) (chance t j)) → (dropped : ℕ → Bool) →
    (r : Run) × Keeps k r × (r.chance ≡ chance) × (r.dropped ≡ dropped)

-- ALL NIGHTS, MESSAGE BY MESSAGE. What happens in nights in which honest keepers play by the rules is a run that keeps the rules.
abbrev pub PlaysKeeps : Type 0
PlaysKeeps = (k : Keepers) → Lasting k → size (at k 0) ≤ 16 → (m : Nights) → Plays k m → Keeps k (run_of k m)

-- whatever δ is, there are messages that look the same to the spies, but the secret is moved by δ
abbrev pub HidesNights : Keepers → (day night : ℕ → List ℕ) → Type 0
HidesNights k day night =
    (who : ℕ → ℕ) × (by : ℕ → ℕ → List (List ℕ)) ×
    ((m : Nights) → Plays k m → OneDay (run_of k m) day → (δ : ℕ) →
    (n : Nights) × Plays k n × (value2 k.p (n.chance 0 0) 0 0 ≡ (value2 k.p (m.chance 0 0) 0 0 + δ) % k.p) × SeenNights k day night m n × Moved k who (by δ) (run_of k m) (run_of k n))

-- THE THEOREM, OF MESSAGES.
abbrev pub TheoremOfNights : Type 0
TheoremOfNights =
    (k : Keepers) → Lasting k → size (at k 0) ≤ 16 →
    ((m : Nights) → Plays k m → Holds k (run_of k m)) ×
    ((day night : ℕ → List ℕ) → Spied k day night → (Memᴰ 0 (night 0) → ⊥) → HidesNights k day night)

-- And there are such nights, whatever is drawn and whatever the liars say: said is what would come from everybody, and of liars exactly that comes.
abbrev pub CanPlay : Type 0
CanPlay =
    (k : Keepers) → size (at k 0) ≤ 16 → (said : Nights) → ((t d : ℕ) → d < dealers k t → Honest (at k t) d → Exact2 k.p (k.f + 1) (width k t) (said.chance t d)) →
    (m : Nights) × Plays k m × (m.chance ≡ said.chance) × (m.last ≡ said.last) ×
    ((t r d i : ℕ) → d < dealers k t → k.lies t i ≡ true →
    ((j : ℕ) → words_by i (words_by d (m.mail t r j)) ≡ words_by i (words_by d (said.mail t r j))) × (words_by i (words_by d (m.board t r)) ≡ words_by i (words_by d (said.board t r))))
