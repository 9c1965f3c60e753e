-- Words changed in their places, by who said them.
use Rattle.std.proofs.Common.{◌≡◌, ℕ, zero, suc, ◌<◌, Bool, true, false, cond, eqb, List, [], ◌∷◌, ◌++◌, Decides, sym, refl, ap, subst, ap₂, true≢false, arith, eq-eqb, eqb-true}
use mathlib.Core.Bool.{false≢true}
use Rattle.rules.specs.Rounds.{Said, gather, words_by}

unfoldable pub to_each : {W : Type 0} → (W → W) → List W → List W
to_each f [] = []
to_each f (w ∷ ws) = f w ∷ to_each f ws

pub to_each_one : {W : Type 0} (f : W → W) (w : W) → to_each f (w ∷ []) ≡ f w ∷ []
unfolding to_each
to_each_one f w = refl

pub to_each_none : {W : Type 0} (f : W → W) → to_each f [] ≡ []
unfolding to_each
to_each_none f = refl

pub to_each_same : {W : Type 0} (f : W → W) → ((w : W) → f w ≡ w) → (ws : List W) → to_each f ws ≡ ws
unfolding to_each
to_each_same f h [] = refl
to_each_same f h (w ∷ ws) = ap₂ ◌∷◌ (h w) (to_each_same f h ws)

unfoldable pub retouch : {W : Type 0} → (ℕ → W → W) → List (Said W) → List (Said W)
retouch f [] = []
retouch f (m ∷ ms) = record { by = m.by; word = f m.by m.word } ∷ retouch f ms

abbrev pub touch : {W : Type 0} → (ℕ → W → W) → Said W → Said W
touch f m = record { by = m.by; word = f m.by m.word }

pub touched : {W : Type 0} (f : ℕ → W → W) (ms : List (Said W)) → to_each (touch f) ms ≡ retouch f ms
unfolding to_each retouch
touched f [] = refl
touched f (m ∷ ms) = ap (λ l. touch f m ∷ l) (touched f ms)

pub words_retouch : {W : Type 0} (f : ℕ → W → W) (i : ℕ) (ms : List (Said W)) → words_by i (retouch f ms) ≡ to_each (f i) (words_by i ms)
unfolding words_by retouch to_each
words_retouch f i [] = refl
words_retouch f i (m ∷ ms) = by (eqb m.by i) (eqb-true m.by i) (words_retouch f i ms)
  where
    by : (b : Bool) → (b ≡ true → m.by ≡ i) → words_by i (retouch f ms) ≡ to_each (f i) (words_by i ms) →
        cond b (f m.by m.word ∷ words_by i (retouch f ms)) (words_by i (retouch f ms)) ≡ to_each (f i) (cond b (m.word ∷ words_by i ms) (words_by i ms))
    by true h e = ap₂ ◌∷◌ (ap (λ k. f k m.word) (h refl)) e
    by false h e = e

-- where nobody's words are changed, nothing is
pub retouch_same : {W : Type 0} (f : ℕ → W → W) (ms : List (Said W)) → ((i : ℕ) → to_each (f i) (words_by i ms) ≡ words_by i ms) → retouch f ms ≡ ms
unfolding words_by retouch to_each
retouch_same f [] h = refl
retouch_same {W} f (m ∷ ms) h = joined (head (subst (λ b. to_each (f m.by) (cond b (m.word ∷ words_by m.by ms) (words_by m.by ms)) ≡ cond b (m.word ∷ words_by m.by ms) (words_by m.by ms)) (eq-eqb m.by m.by refl) (h m.by)))
    (retouch_same f ms (λ i. tail i (eqb m.by i) (h i)))
  where
    head : {x y : W} {xs ys : List W} → x ∷ xs ≡ y ∷ ys → x ≡ y
    head e = cc

    rest : {x y : W} {xs ys : List W} → x ∷ xs ≡ y ∷ ys → xs ≡ ys
    rest e = cc

    tail : (i : ℕ) (b : Bool) → to_each (f i) (cond b (m.word ∷ words_by i ms) (words_by i ms)) ≡ cond b (m.word ∷ words_by i ms) (words_by i ms) → to_each (f i) (words_by i ms) ≡ words_by i ms
    tail i true e = rest e
    tail i false e = e

    joined : f m.by m.word ≡ m.word → retouch f ms ≡ ms → record { by = m.by; word = f m.by m.word } ∷ retouch f ms ≡ m ∷ ms
    joined e r k = record { by = m.by; word = e k } ∷ r k

-- words gathered by tests that come out the same
pub gather_same : {A : Type 0} (n : ℕ) (t u : ℕ → Bool) (v w : ℕ → A) → ((k : ℕ) → k < n → t k ≡ u k) → ((k : ℕ) → k < n → t k ≡ true → v k ≡ w k) → gather n t v ≡ gather n u w
unfolding gather
gather_same zero t u v w h g = refl
gather_same {A} (suc n) t u v w h g = ap₂ ◌++◌ (gather_same n t u v w (λ k l. h k (omega arith)) (λ k l. g k (omega arith))) (by (t n) (u n) (h n (omega arith)) (g n (omega arith)))
  where
    by : (b c : Bool) → b ≡ c → (b ≡ true → v n ≡ w n) → cond b (v n ∷ []) [] ≡ cond c (w n ∷ []) []
    by true true e f = ap (λ x. x ∷ []) (f refl)
    by true false e f = absurd (true≢false e)
    by false true e f = absurd (false≢true e)
    by false false e f = refl

pub same_test : (a b : Bool) {P Q : Type 0} → Decides a P → Decides b Q → (P → Q) → (Q → P) → a ≡ b
same_test true true da db f g = refl
same_test true false da db f g = sym (db.1 (f (da.0 refl)))
same_test false true da db f g = da.1 (g (db.0 refl))
same_test false false da db f g = refl
