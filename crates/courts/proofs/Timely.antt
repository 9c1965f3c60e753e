-- A night in which what is said comes in time is over.
use Rattle.std.proofs.Common.{◌≡◌, ℕ, zero, suc, ◌+◌, ◌*◌, ◌<◌, ◌≤◌, Bool, true, false, cond, not, ◌&&◌, T, eqb, ltb, leb, List, [], ◌∷◌, length, get_or, set, replicate, Some, None, Option, sym, refl, ap, ◌∙◌, ap₂, subst, true≢false, arith, length-set, get_or-set_same, lt-ltb, eq-eqb, eqb-true, le-leb}
use mathlib.Core.Bool.{false≢true}
use mathlib.Core.List.{foldl}
use Rattle.algebra.specs.Counting.{count}
use Rattle.rules.specs.Deal.{Honest}
use Rattle.rules.specs.Rounds.{Said, words_by}
use Rattle.rules.specs.Message.{Message, Share, Told, Complaint, Reveal, Fine, Finished, Value}
use Rattle.rules.specs.Wire.{wire, parse}
use Rattle.rules.specs.Seat.{unless}
use Rattle.rules.proofs.Reading.{parse-wire}
use Rattle.nights.specs.Run.{Lasting, at}
use Rattle.courts.specs.Court.{low_of}
use Rattle.courts.specs.Nights.{Nights, Called, Born, Plays, keepers_of, posts}
use Rattle.courts.specs.Promise.{Liars, OverInTime, over}
use Rattle.courts.proofs.Eves.{eves}
use Rattle.courts.proofs.Public.{ended, marked, mark, finished_at, over_at, over_is}
use Rattle.courts.proofs.Apart.{last_posts}
use Rattle.courts.proofs.Whole.{lasting_of}

-- a mark stays
set_true : (fs : List Bool) (k i : ℕ) → get_or fs i false ≡ true → get_or (set fs k true) i false ≡ true
set_true [] k i e = e
set_true (b ∷ fs) zero zero e = refl
set_true (b ∷ fs) zero (suc i) e = e
set_true (b ∷ fs) (suc k) zero e = e
set_true (b ∷ fs) (suc k) (suc i) e = set_true fs k i e

by_ended : (P : List Bool → Type 0) (o : Option ℕ) (new old : List Bool) → P new → P old → P (ended o new old)
by_ended P None new old a b = a
by_ended P (Some k) new old a b = b

by_marked : (P : List Bool → Type 0) (f t r : ℕ) (fs : List Bool) (who : ℕ) (o : Option Message) → P fs → P (set fs who true) → P (marked f t r fs who o)
by_marked P f t r fs who None a b = a
by_marked P f t r fs who (Some (Share night dealer x)) a b = a
by_marked P f t r fs who (Some (Told night dealer x)) a b = a
by_marked P f t r fs who (Some (Complaint night dealer by about x)) a b = a
by_marked P f t r fs who (Some (Reveal night dealer keeper x)) a b = a
by_marked P f t r fs who (Some (Fine night dealer keeper x)) a b = a
by_marked P f t r fs who (Some (Finished night dealer keeper)) a b = by_ended P _ (set fs who true) fs b a
by_marked P f t r fs who (Some (Value night dealer keeper v)) a b = a

mark_stays : (f t r : ℕ) (fs : List Bool) (w : Said (List ℕ)) (i : ℕ) → get_or fs i false ≡ true → get_or (mark f t r fs w) i false ≡ true
mark_stays f t r fs w i e = by_marked (λ l. get_or l i false ≡ true) f t r fs w.by (parse (3 * f + 1) (f + 1) (low_of f t) w.word) e (set_true fs w.by i e)

mark_long : (f t r : ℕ) (fs : List Bool) (w : Said (List ℕ)) → length fs ≡ 16 → length (mark f t r fs w) ≡ 16
mark_long f t r fs w e = by_marked (λ l. length l ≡ 16) f t r fs w.by (parse (3 * f + 1) (f + 1) (low_of f t) w.word) e (length-set fs w.by true ∙ e)

all_stay : (f t r : ℕ) (ms : List (Said (List ℕ))) (fs : List Bool) (i : ℕ) → get_or fs i false ≡ true → get_or (foldl (mark f t r) fs ms) i false ≡ true
all_stay f t r [] fs i e = e
all_stay f t r (m ∷ ms) fs i e = all_stay f t r ms (mark f t r fs m) i (mark_stays f t r fs m i e)

all_long : (f t r : ℕ) (ms : List (Said (List ℕ))) (fs : List Bool) → length fs ≡ 16 → length (foldl (mark f t r) fs ms) ≡ 16
all_long f t r [] fs e = e
all_long f t r (m ∷ ms) fs e = all_long f t r ms (mark f t r fs m) (mark_long f t r fs m e)

-- a finished word in round 6 marks its keeper
module _ (f t i : ℕ) (few : f ≤ 5) (soon : t < 4294967296) (hi : i < 3 * f + 1) where
  marks : (fs : List Bool) → length fs ≡ 16 → get_or (mark f t 6 fs (record { by = i; word = wire (Finished t 0 i) })) i false ≡ true
  marks fs e = ap (λ o. get_or (marked f t 6 fs i o) i false) (parse-wire (3 * f + 1) (f + 1) (low_of f t) (omega arith) (Finished t 0 i) (soon, omega arith, refl, hi)) ∙ go (ltb i (3 * f + 1)) (eqb t t) (eqb i i) (get_or fs i false) (lt-ltb i (3 * f + 1) hi) (eq-eqb t t refl) (eq-eqb i i refl) refl
    where
      go : (a b c d : Bool) → a ≡ true → b ≡ true → c ≡ true → get_or fs i false ≡ d → get_or (ended (unless a 1 (unless (b && true) 2 (unless (c && not d) 3 None))) (set fs i true) fs) i false ≡ true
      go true true true true p q r s = s
      go true true true false p q r s = get_or-set_same fs i true false (omega arith)
      go true true false d p q r s = absurd (false≢true r)
      go true false c d p q r s = absurd (false≢true q)
      go false b c d p q r s = absurd (false≢true p)

  marked_in : (ms : List (Said (List ℕ))) (fs : List Bool) → length fs ≡ 16 → words_by i ms ≡ wire (Finished t 0 i) ∷ [] → get_or (foldl (mark f t 6) fs ms) i false ≡ true
  unfolding words_by
  marked_in [] fs l e = absurd (let z : ◌≡◌ {A = ℕ} 0 1 = cc in omega arith)
  marked_in (m ∷ ms) fs l e = go (eqb m.by i) (eqb-true m.by i) e (λ q. marked_in ms (mark f t 6 fs m) (mark_long f t 6 fs m l) q)
    where
      head : {x y : List ℕ} {xs ys : List (List ℕ)} → x ∷ xs ≡ y ∷ ys → x ≡ y
      head e = cc

      go : (b : Bool) → (b ≡ true → m.by ≡ i) → cond b (m.word ∷ words_by i ms) (words_by i ms) ≡ wire (Finished t 0 i) ∷ [] → (words_by i ms ≡ wire (Finished t 0 i) ∷ [] → get_or (foldl (mark f t 6) (mark f t 6 fs m) ms) i false ≡ true) → get_or (foldl (mark f t 6) (mark f t 6 fs m) ms) i false ≡ true
      go true h e r = all_stay f t 6 ms (mark f t 6 fs m) i (ap₂ (λ a b. get_or (mark f t 6 fs (record { by = a; word = b })) i false) (h refl) (head e) ∙ marks fs l)
      go false h e r = r e

-- all but those that lie
counted : (n : ℕ) (a b : ℕ → Bool) → ((i : ℕ) → i < n → a i ≡ false → b i ≡ true) → n ≤ count n a + count n b
unfolding count
counted zero a b h = omega arith
counted (suc n) a b h = go (a n) (b n) (h n (omega arith)) (counted n a b (λ i l. h i (omega arith)))
  where
    go : (x y : Bool) → (x ≡ false → y ≡ true) → n ≤ count n a + count n b → suc n ≤ cond x 1 0 + count n a + (cond y 1 0 + count n b)
    go true y f k = omega arith
    go false true f k = omega arith
    go false false f k = absurd (false≢true (f refl))

long_at : (m : Nights) (t r : ℕ) → length (finished_at m t r) ≡ 16
unfolding finished_at
long_at m t zero = all_long m.f t 0 (m.board t 0) (replicate 16 false) refl
long_at m t (suc r) = all_long m.f t (suc r) (m.board t (suc r)) (finished_at m t r) (long_at m t r)

module _ (m : Nights) (lies : ℕ → ℕ → Bool) (lasting : Lasting (keepers_of m lies)) (fixed : Called m lies) (born : Born m lies) (few : m.f ≤ 5) (liars : (t : ℕ) → count (3 * m.f + 1) (lies t) ≤ m.f)
    (t : ℕ) (soon : t < m.many) (whole : m.calls t ≡ 6) (timely : (i : ℕ) → Honest (at (keepers_of m lies) t) i → words_by i (m.board t 6) ≡ posts m t 5 i) where
  done : (i : ℕ) → i < 3 * m.f + 1 → lies t i ≡ false → get_or (finished_at m t 6) i false ≡ true
  unfolding finished_at
  done i h l = marked_in m.f t i few (omega (arith, fixed.few)) h (m.board t 6) (finished_at m t 5) (long_at m t 5) (timely i hi ∙ last_posts m lies lasting fixed born t i soon hi)
    where
      hi : Honest (at (keepers_of m lies) t) i
      hi = ((h, tt), λ q. true≢false (sym (T_true (lies t i) q) ∙ l))
        where
          T_true : (b : Bool) → T b → b ≡ true
          T_true true q = refl
          T_true false q = absurd q

  pub over_timely : over_at m t ≡ true
  over_timely = ap (λ r. eqb r 6 && leb (2 * m.f + 1) (count (3 * m.f + 1) (λ i. get_or (finished_at m t r) i false))) whole
      ∙ le-leb (2 * m.f + 1) (count (3 * m.f + 1) (λ i. get_or (finished_at m t 6) i false)) (omega (arith, liars t, counted (3 * m.f + 1) (lies t) (λ i. get_or (finished_at m t 6) i false) done))

module _ (m : Nights) (lies : ℕ → ℕ → Bool) where
  abbrev Over : ℕ → Type 0
  Over f = f ≤ 5 → Liars f lies → Plays m lies → (t : ℕ) → t < m.many → m.calls t ≡ 6 → ((i : ℕ) → Honest (at (keepers_of m lies) t) i → words_by i (m.board t 6) ≡ posts m t 5 i) →
      (h : ℕ) → Honest (at (keepers_of m lies) t) h → over m t h ≡ true

  in_time : Over m.f
  in_time few liars plays t soon whole timely h hh = let l = lasting_of m.f few lies liars in
      over_is m lies l plays.fixed t h soon hh (eves m lies l plays.fixed plays.born t h soon hh) ∙ over_timely m lies l plays.fixed plays.born few liars.few t soon whole timely

pub over_in_time_lem : OverInTime
over_in_time_lem f few lies liars m e plays = subst (Over m lies) e (in_time m lies) few liars plays
