-- Places that are written once. Whatever words come, and in whatever order: a place holds the first word that it takes.
use Rattle.std.proofs.Common.{◌≡◌, ℕ, zero, suc, ◌<◌, Bool, true, false, cond, ◌&&◌, eqb, List, [], ◌∷◌, ◌++◌, length, get_or, set, replicate, Some, None, Option, sym, refl, ap, ◌∙◌, subst, ap₂, arith, length-set, get_or-set_other, get_or-set_same, eqb-true}
use mathlib.Core.List.{foldl}
use native.Mathlib.Decide.{ℕ_discrete}
use borrow.Author.Tests.{eqb-false}
use Rattle.rules.specs.Rounds.{Said, free, gather, words_by}

-- the first, or else the second
abbrev pub or : {A : Type 0} → Option A → Option A → Option A
or (Some x) o = Some x
or None o = o

pub or_none : {A : Type 0} (o : Option A) → or o None ≡ o
or_none None = refl
or_none (Some x) = refl

or_assoc : {A : Type 0} (a b c : Option A) → or (or a b) c ≡ or a (or b c)
or_assoc None b c = refl
or_assoc (Some x) b c = refl

-- the first that is taken of what is offered
pub first : {M A : Type 0} → (M → Option A) → List M → Option A
first f [] = None
first f (m ∷ ms) = or (f m) (first f ms)

pub first_one : {M A : Type 0} (f : M → Option A) (m : M) → first f (m ∷ []) ≡ f m
unfolding first
first_one f m = or_none (f m)

first_append : {M A : Type 0} (f : M → Option A) (l k : List M) → first f (l ++ k) ≡ or (first f l) (first f k)
unfolding first
first_append f [] k = refl
first_append f (m ∷ l) k = ap (or (f m)) (first_append f l k) ∙ sym (or_assoc (f m) (first f l) (first f k))

-- THE FOLD. see: what a place of the state holds; offer: what a word would put there; each step keeps what the place holds, or takes what is offered.
module _ {S M A : Type 0} (Inv : S → Type 0) (see : S → Option A) (step : S → M → S) (offer : M → Option A)
    (keeps : (s : S) (m : M) → Inv s → Inv (step s m) × (see (step s m) ≡ or (see s) (offer m))) where
  pub folded : (s : S) (ms : List M) → Inv s → Inv (foldl step s ms) × (see (foldl step s ms) ≡ or (see s) (first offer ms))
  unfolding first
  folded s [] i = (i, sym (or_none (see s)))
  folded s (m ∷ ms) i =
      let k = keeps s m i in
      let r = folded (step s m) ms k.0 in
      (r.0, r.1 ∙ ap (λ o. or o (first offer ms)) k.1 ∙ or_assoc (see s) (offer m) (first offer ms))

pub steady : {S M : Type 0} (P : S → Type 0) (step : S → M → S) → ((s : S) (m : M) → P s → P (step s m)) → (s : S) (ms : List M) → P s → P (foldl step s ms)
steady P step k s [] h = h
steady P step k s (m ∷ ms) h = steady P step k (step s m) ms (k s m h)

pub put_here : {A : Type 0} (l : List A) (k j : ℕ) (a d : A) → k ≡ j → k < length l → get_or (set l k a) j d ≡ a
put_here l k j a d e h = subst (λ i. get_or (set l k a) i d ≡ a) e (get_or-set_same l k a d h)

-- Many states side by side, as one for each dealing: each is the fold of the words that are marked as its own.
pub apart_folds : {S W : Type 0} (none : S) (inner : ℕ → S → W → S) (l : List S) (ms : List (Said W)) (d : ℕ) → d < length l →
    get_or (foldl (λ (k : List S) (m : Said W). set k m.by (inner m.by (get_or k m.by none) m.word)) l ms) d none ≡ foldl (inner d) (get_or l d none) (words_by d ms)
unfolding words_by
apart_folds none inner l [] d h = refl
apart_folds {S} none inner l (m ∷ ms) d h = apart_folds none inner next ms d (subst (λ n. d < n) (sym (length-set l m.by _)) h) ∙ go (eqb m.by d) refl
  where
    next : List S
    next = set l m.by (inner m.by (get_or l m.by none) m.word)

    go : (b : Bool) → eqb m.by d ≡ b → foldl (inner d) (get_or next d none) (words_by d ms) ≡ foldl (inner d) (get_or l d none) (cond b (m.word ∷ words_by d ms) (words_by d ms))
    go true e = ap (λ s. foldl (inner d) s (words_by d ms)) (put_here l m.by d _ none (eqb-true m.by d e) (subst (λ k. k < length l) (sym (eqb-true m.by d e)) h) ∙ ap (λ k. inner k (get_or l k none) m.word) (eqb-true m.by d e))
    go false e = ap (λ s. foldl (inner d) s (words_by d ms)) (get_or-set_other l m.by d _ none (λ q. eqb-false m.by d e (sym q)))

-- THE STEP. A word that passes its test (ok) takes the place that it is for (hit: this one), if that is free.
pub placed : {S A : Type 0} (see : S → Option A) (s t : S) (ok hit : Bool) (f : Option A) (x : A) →
    (ok ≡ true → hit ≡ true → (see t ≡ Some x) × (f ≡ see s)) → (ok ≡ true → hit ≡ false → see t ≡ see s) →
    see (cond (ok && free f) t s) ≡ or (see s) (cond (ok && hit) (Some x) None)
placed see s t false hit f x a b = sym (or_none (see s))
placed see s t true false None x a b = b refl refl ∙ sym (or_none (see s))
placed see s t true false (Some y) x a b = sym (or_none (see s))
placed see s t true true None x a b = (a refl refl).0 ∙ ap (λ o. or o (Some x)) (a refl refl).1
placed see s t true true (Some y) x a b = subst (λ o. o ≡ or o (Some x)) (a refl refl).1 refl

-- the places of a list
pub row : {S A : Type 0} (view : S → List (Option A)) (s t : S) (k i : ℕ) (ok : Bool) (x : A) → view t ≡ set (view s) k (Some x) → (ok ≡ true → k < length (view s)) →
    get_or (view (cond (ok && free (get_or (view s) k None)) t s)) i None ≡ or (get_or (view s) i None) (cond (ok && eqb k i) (Some x) None)
row view s t k i ok x e l = placed (λ u. get_or (view u) i None) s t ok (eqb k i) (get_or (view s) k None) x
    (λ o h. (ap (λ v. get_or v i None) e ∙ put_here (view s) k i (Some x) None (eqb-true k i h) (l o), ap (λ j. get_or (view s) j None) (eqb-true k i h)))
    (λ o h. ap (λ v. get_or v i None) e ∙ get_or-set_other (view s) k i (Some x) None (λ q. eqb-false k i h (sym q)))

-- a step that may be made keeps what both sides have
pub either : {S : Type 0} (P : S → Type 0) (b : Bool) {s t : S} → P t → P s → P (cond b t s)
either P true p q = p
either P false p q = q

-- what only one keeper can offer is the first of its own words
pub alone : {W A : Type 0} (offer : ℕ → W → Option A) (i : ℕ) → ((j : ℕ) (w : W) → (j ≡ i → ⊥) → offer j w ≡ None) → (ms : List (Said W)) →
    first (λ (m : Said W). offer m.by m.word) ms ≡ first (offer i) (words_by i ms)
unfolding first words_by
alone offer i h [] = refl
alone {W} offer i h (m ∷ ms) = by (eqb m.by i) refl (alone offer i h ms)
  where
    by : (b : Bool) → eqb m.by i ≡ b → first (λ (m : Said W). offer m.by m.word) ms ≡ first (offer i) (words_by i ms) →
        or (offer m.by m.word) (first (λ (m : Said W). offer m.by m.word) ms) ≡ first (offer i) (cond b (m.word ∷ words_by i ms) (words_by i ms))
    by true e r = rw (eqb-true m.by i e, r)
    by false e r = rw (h m.by m.word (eqb-false m.by i e)) r

-- of words gathered, the one that is taken
first_if : {M A : Type 0} (f : M → Option A) (b : Bool) (m : M) → first f (cond b (m ∷ []) []) ≡ cond b (f m) None
unfolding first
first_if f true m = or_none (f m)
first_if f false m = refl

no_way : {A : Type 0} (b : Bool) {o : Option A} → o ≡ None → cond b o None ≡ None
no_way true e = e
no_way false e = refl

gathered_none : {M A : Type 0} (f : M → Option A) (t : ℕ → Bool) (w : ℕ → M) (n : ℕ) → ((k : ℕ) → k < n → f (w k) ≡ None) → first f (gather n t w) ≡ None
unfolding first gather
gathered_none f t w zero h = refl
gathered_none f t w (suc n) h = first_append f (gather n t w) (cond (t n) (w n ∷ []) [])
    ∙ ap₂ or (gathered_none f t w n (λ k l. h k (omega arith))) (first_if f (t n) (w n) ∙ no_way (t n) (h n (omega arith)))

pub gathered : {M A : Type 0} (f : M → Option A) (t : ℕ → Bool) (w : ℕ → M) (j n : ℕ) → j < n → ((k : ℕ) → (k ≡ j → ⊥) → f (w k) ≡ None) → first f (gather n t w) ≡ cond (t j) (f (w j)) None
unfolding first gather
gathered f t w j zero l h = absurd (omega arith)
gathered f t w j (suc n) l h = first_append f (gather n t w) (cond (t n) (w n ∷ []) []) ∙ ap (or (first f (gather n t w))) (first_if f (t n) (w n)) ∙ by (ℕ_discrete j n) (gathered f t w j n)
  where
    by : Dec (j ≡ n) → (j < n → ((k : ℕ) → (k ≡ j → ⊥) → f (w k) ≡ None) → first f (gather n t w) ≡ cond (t j) (f (w j)) None) →
        or (first f (gather n t w)) (cond (t n) (f (w n)) None) ≡ cond (t j) (f (w j)) None
    by (yes e) r = ap₂ or (gathered_none f t w n (λ k g. h k (λ q. omega arith))) (ap (λ k. cond (t k) (f (w k)) None) (sym e))
    by (no ne) r = ap₂ or (r (omega arith) h) (no_way (t n) (h n (λ q. ne (sym q)))) ∙ or_none (cond (t j) (f (w j)) None)

pub blank : {A : Type 0} (n i : ℕ) (a : A) → get_or (replicate n a) i a ≡ a
blank zero i a = refl
blank (suc n) zero a = refl
blank (suc n) (suc i) a = blank n i a

pub blank2 : {A : Type 0} (n k i j : ℕ) → ◌≡◌ {A = Option A} (get_or (get_or (replicate n (replicate k None)) i []) j None) None
blank2 zero k i j = refl
blank2 (suc n) k zero j = blank k j None
blank2 (suc n) k (suc i) j = blank2 n k i j

-- offers
pub on : {A : Type 0} (b c : Bool) (x : A) → b ≡ true → c ≡ true → cond (b && c) (Some x) None ≡ Some x
on b c x p q = rw (p, q)

pub off : {A : Type 0} (b c : Bool) (x : A) → c ≡ false → cond (b && c) (Some x) None ≡ None
off true c x q = rw q
off false c x q = refl

pub off_left : {A : Type 0} (b c : Bool) (x : A) → b ≡ false → cond (b && c) (Some x) None ≡ None
off_left b c x p = rw p

pub never : {A B : Type 0} {x : A} → None ≡ Some x → B
never e = absurd (let z : ◌≡◌ {A = ℕ} 0 1 = cc in omega arith)

pub same_some : {A : Type 0} {x y : A} → Some x ≡ Some y → x ≡ y
same_some e = cc

pub only_if : {A : Type 0} (b : Bool) {o : Option A} {x : A} → cond b o None ≡ Some x → (b ≡ true) × (o ≡ Some x)
only_if true e = (refl, e)
only_if false e = never e

pub only : {A : Type 0} (b : Bool) {a x : A} → cond b (Some a) None ≡ Some x → (b ≡ true) × (x ≡ a)
only b e = let h = only_if b e in (h.0, sym (same_some h.1))
