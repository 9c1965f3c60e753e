-- No spies ever learn the secret, by all that they have seen in all nights.
use Rattle.std.proofs.Common.{◌≡◌, ℕ, zero, suc, pred, ◌+◌, ◌*◌, ◌%◌, ◌<◌, ◌≤◌, Bool, true, false, cond, T, eqb, List, [], ◌∷◌, length, sym, refl, ap, ◌∙◌, subst, ⊎_elim, mod-eq_of_lt, arith, eq-eqb, ne_eqb, eqb-true}
use mathlib.Core.List.{Memᴰ}
use native.Mathlib.Nat.{mod-mod}
use native.Mathlib.Decide.{ℕ_discrete}
use borrow.Author.Tests.{eqb-false}
use Rattle.algebra.specs.Polynomial.{value2, Low2, plus2}
use Rattle.algebra.specs.Sharing.{point}
use Rattle.rules.specs.Deal.{Group, size, Honest, Dealing, Kept, Strict, Fair, SeenDeal}
use Rattle.nights.specs.Run.{Keepers, at, Lasting, Run, dealers, width, Keeps, gain, held, Spied, OneDay, Seen, Moved}
use Rattle.nights.specs.Promise.{Theorem}
use Rattle.rules.specs.Promise.{Unseen}
use Rattle.algebra.proofs.Same.{Same, rest, back, so, vanishes, ◌⊞◌, ◌⊟◌, ◌⊠◌, minus_is, split}
use Rattle.algebra.proofs.Evaluation.{eval, add, eval_add, length-add, scale, eval-scale, length-scale}
use Rattle.algebra.proofs.Rows.{eval2, value2_is}
use Rattle.algebra.proofs.Members.{Without, without, upto, upto_below, upto-differ, length-upto, pick, pick_in, pick_all, pick_same, length-pick}
use Rattle.algebra.proofs.Mask.{Vanishes, vanishing, Off, vanishing_same, cross, cross_is, length-cross, cross-rows}
use Rattle.algebra.proofs.Coefficients.{plus2_is}
use Rattle.rules.proofs.Unseen.{hides_dealing_lem}
use Rattle.nights.proofs.Days.{holds, width_low, term, fair_term}

-- all but the lowest coefficient
upper : List ℕ → List ℕ
upper [] = []
upper (c ∷ cs) = cs

upper_is : (cs : List ℕ) (x : ℕ) → eval cs x ≡ eval cs 0 + x * eval (upper cs) x
unfolding eval upper
upper_is [] x = omega arith
upper_is (c ∷ cs) x = omega arith

length-upper : (cs : List ℕ) (n : ℕ) → length cs ≤ n + 1 → length (upper cs) ≤ n
unfolding upper
length-upper [] n h = omega arith
length-upper (c ∷ cs) n h = omega arith

rest_held : (k : Keepers) (r : Run) (t i : ℕ) → held k r t i % k.p ≡ held k r t i
unfolding held
rest_held k r zero i = mod-mod _ k.p
rest_held k r (suc t) i = by (r.dropped (suc t)) _ _ (rest_held k r t i)
  where
    by : (b : Bool) (v w : ℕ) → v % k.p ≡ v → cond b v (w % k.p) % k.p ≡ cond b v (w % k.p)
    by true v w e = e
    by false v w e = mod-mod w k.p

-- one dealing gives more by h, the others what they gave
module _ (g : Group) (ds es : ℕ → Dealing) (i w h : ℕ) (all : ℕ) (others : (j : ℕ) → j < all → (j ≡ w → ⊥) → ds j ≡ es j) (more : Same g.p (term g (ds w) i) (term g (es w) i + h)) where
  gain_same : (n : ℕ) → n ≤ all → n ≤ w → gain g ds n i ≡ gain g es n i
  unfolding gain
  gain_same zero l k = refl
  gain_same (suc n) l k = omega (arith, ap (λ d. term g d i) (others n (omega arith) (omega arith)), gain_same n (omega arith) (omega arith))

  gain_moved : (n : ℕ) → n ≤ all → w < n → Same g.p (gain g ds n i) (gain g es n i + h)
  unfolding gain
  gain_moved zero l k = absurd (omega arith)
  gain_moved (suc n) l k = by (ℕ_discrete n w) (λ q. gain_moved n (omega arith) q)
    where
      by : Dec (n ≡ w) → (w < n → Same g.p (gain g ds n i) (gain g es n i + h)) → Same g.p (term g (ds n) i + gain g ds n i) (term g (es n) i + gain g es n i + h)
      by (yes e) f = so (subst (λ v. Same g.p (term g (ds v) i) (term g (es v) i + h)) (sym e) more) (omega (arith, gain_same n (omega arith) (omega arith)))
      by (no e) f = so (f (omega arith)) (omega (arith, ap (λ d. term g d i) (others n (omega arith) e)))

module _ (ks : Keepers) (lasting : Lasting ks) (day night : ℕ → List ℕ) (spied : Spied ks day night) (out : Memᴰ 0 (night 0) → ⊥) where
  two : 2 ≤ ks.p
  two = (lasting.sound 0).prime.0

  off : (l : List ℕ) → Off ks.p point (pick (size (at ks 0)) l)
  off l i m z = omega (arith, vanishes z, mod-eq_of_lt (near (pick_in (size (at ks 0)) l i m).0))
    where
      near : i < size (at ks 0) → point i < ks.p
      near h = omega (arith, (lasting.sound 0).room)

  -- 1 at 0, and 0 where these look
  M : (l : List ℕ) → Vanishes ks.p point (pick (size (at ks 0)) l)
  M l = vanishing (lasting.sound 0).prime point (pick (size (at ks 0)) l) (off l)

  m : List ℕ → ℕ → ℕ
  m l x = eval (M l).cs x

  gone : (l : List ℕ) (i : ℕ) → i < size (at ks 0) → Memᴰ i l → Same ks.p (m l (point i)) 0
  unfolding m
  gone l i h k = (M l).there i (pick_all (size (at ks 0)) l i h k)

  low_day : (t : ℕ) → length (M (day t)).cs ≤ ks.f + 1
  low_day t = omega (arith, (M (day t)).size, length-pick (size (at ks 0)) (day t) (day t) (λ i k. k), spied.few t)

  pub inside : (t i : ℕ) → Memᴰ i (night t) → i < size (at ks 0)
  inside t i k = spied.inside t i (spied.after t i k)

  low_night : (t : ℕ) → length (M (night t)).cs ≤ ks.f + 1
  low_night t = omega (arith, (M (night t)).size, length-pick (size (at ks 0)) (night t) (day t) (spied.after t), spied.few t)

  -- one who isn't spied out
  free : (t : ℕ) → (w : ℕ) × (w < size (at ks 0)) × (Memᴰ w (day t) → ⊥)
  free t = first o.kept (omega (arith, o.enough, length-upto (size (at ks 0)), spied.few t)) (λ i k. (i, upto_below (size (at ks 0)) i (o.from i k).0, (o.from i k).1))
    where
      o : Without (upto (size (at ks 0))) (day t)
      o = without (upto (size (at ks 0))) (day t) (upto-differ (size (at ks 0)))

      first : {A : Type 0} (l : List ℕ) → 1 ≤ length l → ((i : ℕ) → Memᴰ i l → A) → A
      first [] h f = absurd (omega arith)
      first (i ∷ l) h f = f i (Memᴰ.head refl)

  -- who draws other numbers
  pub who : ℕ → ℕ
  who zero = 0
  who (suc t) = (free (suc t)).0

  pub who_in : (t : ℕ) → who t < dealers ks t
  unfolding who
  who_in zero = omega arith
  who_in (suc t) = (free (suc t)).1

  pub who_out : (t : ℕ) → Memᴰ (who t) (night t) → ⊥
  unfolding who
  who_out zero k = out k
  who_out (suc t) k = (free (suc t)).2 (spied.after (suc t) (free (suc t)).0 k)

  pub who_honest : (t : ℕ) → Honest (at ks t) (who t)
  who_honest t = ((few t (who t) (who_in t), tt), λ l. who_out t (spied.liars t (who t) (few t (who t) (who_in t)) l))
    where
      few : (t j : ℕ) → j < dealers ks t → j < size (at ks 0)
      few zero j h = omega arith
      few (suc t) j h = h

  module _ (δ : ℕ) where
    -- what the shared polynomial of day t is moved by
    G : ℕ → List ℕ
    G t = scale δ (M (day t)).cs

    G_is : (t x : ℕ) → eval (G t) x ≡ δ * m (day t) x
    unfolding G m
    G_is t x = eval-scale δ (M (day t)).cs x

    change : ℕ → List ℕ
    change t = add (G (suc t)) (scale (pred ks.p) (G t))

    change_is : (t x : ℕ) → Same ks.p (eval (change t) x + eval (G t) x) (eval (G (suc t)) x)
    unfolding change
    change_is t x = so (minus_is two (eval (G (suc t)) x) (eval (G t) x)) (omega (arith, eval_add (G (suc t)) (scale (pred ks.p) (G t)) x, eval-scale (pred ks.p) (G t) x))

    -- and by what it comes to that in night t
    step : ℕ → List ℕ
    step zero = G 0
    step (suc t) = upper (change t)

    step_is : (t x : ℕ) → Same ks.p (eval (G t) x + x * eval (step (suc t)) x) (eval (G (suc t)) x)
    unfolding step m
    step_is t x = so (change_is t x ⊟ change_is t 0 ⊟ δ ⊠ (M (day (suc t))).here ⊞ δ ⊠ (M (day t)).here) (omega (arith, upper_is (change t) x, G_is t 0, G_is (suc t) 0))

    length_step : (t : ℕ) → length (step t) ≤ width ks t
    unfolding step G change
    length_step zero = omega (arith, length-scale δ (M (day 0)).cs, low_day 0)
    length_step (suc t) = length-upper (change t) ks.f (simp (length-add, length-scale) (omega (arith, low_day t, low_day (suc t))))

    step_gone : (t i : ℕ) → Memᴰ i (night t) → Same ks.p (eval (step t) (point i)) 0
    unfolding step
    step_gone zero i k = so (δ ⊠ gone (day 0) i (inside 0 i k) (spied.after 0 i k)) (omega (arith, G_is 0 (point i)))
    step_gone (suc t) i k = ⊎_elim
        (λ z. absurd (omega (arith, vanishes z, mod-eq_of_lt near)))
        (λ e. e)
        (split (lasting.sound 0).prime (point i) 0 (eval (step (suc t)) (point i)) 0
        (so (step_is t (point i) ⊟ δ ⊠ gone (day t) i (inside (suc t) i k) (spied.before t i k) ⊞ δ ⊠ gone (day (suc t)) i (inside (suc t) i k) (spied.after (suc t) i k))
        (omega (arith, G_is t (point i), G_is (suc t) (point i)))))
      where
        near : point i < ks.p
        near = omega (arith, inside (suc t) i k, (lasting.sound 0).room)

    pub by : ℕ → List (List ℕ)
    by t = cross (M (night t)).cs (step t)

    by_is : (t x y : ℕ) → eval2 (by t) x y ≡ m (night t) x * eval (step t) y
    unfolding by m
    by_is t x y = cross_is (M (night t)).cs (step t) x y

    pub by_low : (t : ℕ) → Low2 (ks.f + 1) (width ks t) (by t)
    unfolding by
    by_low t = record { rows = omega (arith, length-cross (M (night t)).cs (step t), low_night t); each = λ r k. omega (arith, cross-rows (M (night t)).cs (step t) r k, length_step t) }

    pub unseen : (t i : ℕ) → Memᴰ i (night t) → Unseen (at ks t) (by t) i
    unseen t i k z = (
      value2_is ks.p (by t) z (point i) ∙ vanishes (so (m (night t) z ⊠ step_gone t i k) (omega (arith, by_is t z (point i)))),
      value2_is ks.p (by t) (point i) z ∙ vanishes (so (eval (step t) z ⊠ gone (night t) i (inside t i k) k) (omega (arith, by_is t (point i) z))),
    )

    -- A RUN IN WHICH ONE DEALER OF EACH NIGHT DRAWS OTHER NUMBERS
    abbrev pub moved : (ℕ → ℕ → List (List ℕ)) → ℕ → ℕ → List (List ℕ)
    moved chance t j = cond (eqb j (who t)) (plus2 ks.p (chance t j) (by t)) (chance t j)

    pub at_who : {A : Type 0} (t : ℕ) (a b : A) → cond (eqb (who t) (who t)) a b ≡ a
    at_who t a b = ap (λ c. cond c a b) (eq-eqb (who t) (who t) refl)

    pub elsewhere : {A : Type 0} (t j : ℕ) (a b : A) → (j ≡ who t → ⊥) → cond (eqb j (who t)) a b ≡ b
    elsewhere t j a b n = ap (λ c. cond c a b) (ne_eqb j (who t) n)

    module _ (r : Run) (deal : ℕ → ℕ → Dealing) (keeps : Keeps ks r) (keeps-new : Keeps ks (record { chance = moved r.chance; deal = deal; dropped = r.dropped })) (one-day : OneDay r day)
        (others : (t j : ℕ) → j < dealers ks t → (j ≡ who t → ⊥) → deal t j ≡ r.deal t j) where
      abbrev s : Run
      s = record { chance = moved r.chance; deal = deal; dropped = r.dropped }

      abbrev rs : ℕ → List (List ℕ)
      rs t = r.chance t (who t)

      abbrev ts : ℕ → List (List ℕ)
      ts t = plus2 ks.p (rs t) (by t)

      fair_new : (t : ℕ) → Fair (at ks t) (ks.f + 1) (width ks t) (ts t) (deal t (who t))
      fair_new t = subst (λ c. Fair (at ks t) (ks.f + 1) (width ks t) c (deal t (who t))) (at_who t (ts t) (rs t)) (keeps-new.fair t (who t) (who_in t) (who_honest t))

      term_new : (t i : ℕ) → i < size (at ks 0) → Same ks.p (term (at ks t) (deal t (who t)) i) (term (at ks t) (r.deal t (who t)) i + eval (step t) (point i))
      unfolding m
      term_new t i h = so (
          back ks.p (fair_term (at ks t) (lasting.sound t) (width ks t) (omega arith) (ts t) (deal t (who t)) (keeps-new.strict t (who t) (who_in t)) (fair_new t) i (h, tt) ∙ value2_is ks.p (ts t) 0 (point i)) ⊞ plus2_is ks.p (rs t) (by t) 0 (point i) ⊟
          back ks.p (fair_term (at ks t) (lasting.sound t) (width ks t) (omega arith) (rs t) (r.deal t (who t)) (keeps.strict t (who t) (who_in t)) (keeps.fair t (who t) (who_in t) (who_honest t)) i (h, tt) ∙ value2_is ks.p (rs t) 0 (point i)) ⊞
          eval (step t) (point i) ⊠ (M (night t)).here)
          (omega (arith, by_is t 0 (point i)))

      gain_new : (t i : ℕ) → i < size (at ks 0) → Same ks.p (gain (at ks t) (deal t) (dealers ks t) i) (gain (at ks t) (r.deal t) (dealers ks t) i + eval (step t) (point i))
      gain_new t i h = gain_moved (at ks t) (deal t) (r.deal t) i (who t) (eval (step t) (point i)) (dealers ks t) (others t) (term_new t i h) (dealers ks t) (omega arith) (who_in t)

      still : (t : ℕ) → T (r.dropped (suc t)) → G t ≡ G (suc t)
      unfolding G M
      still t d = ap (scale δ) (vanishing_same (lasting.sound 0).prime point _ _ (off (day t)) (pick_same (size (at ks 0)) (day t) (day (suc t)) (λ i. (one-day t i d).0) (λ i. (one-day t i d).1)) (off (day (suc t))))

      held_new : (t i : ℕ) → i < size (at ks 0) → Same ks.p (held ks s t i) (held ks r t i + eval (G t) (point i))
      unfolding held step
      held_new zero i h = so (back ks.p {n = gain (at ks 0) (deal 0) (dealers ks 0) i} refl ⊞ gain_new 0 i h ⊟ back ks.p {n = gain (at ks 0) (r.deal 0) (dealers ks 0) i} refl) (omega arith)
      held_new (suc t) i h = on (r.dropped (suc t)) (λ d. d) (held_new t i h)
        where
          on : (b : Bool) → (T b → T (r.dropped (suc t))) → Same ks.p (held ks s t i) (held ks r t i + eval (G t) (point i)) →
              Same ks.p (cond b (held ks s t i) ((held ks s t i + point i * gain (at ks (suc t)) (deal (suc t)) (dealers ks (suc t)) i) % ks.p))
              (cond b (held ks r t i) ((held ks r t i + point i * gain (at ks (suc t)) (r.deal (suc t)) (dealers ks (suc t)) i) % ks.p) + eval (G (suc t)) (point i))
          on true d ih = so ih (omega (arith, ap (λ c. eval c (point i)) (still t (d tt))))
          on false d ih = so (back ks.p {n = held ks s t i + point i * gain (at ks (suc t)) (deal (suc t)) (dealers ks (suc t)) i} refl ⊞ ih ⊞ point i ⊠ gain_new (suc t) i h ⊟
              back ks.p {n = held ks r t i + point i * gain (at ks (suc t)) (r.deal (suc t)) (dealers ks (suc t)) i} refl ⊞ step_is t (point i)) (omega arith)

      pub values : (t i : ℕ) → Memᴰ i (day t) → held ks r t i ≡ held ks s t i
      values t i k = sym (rest_held ks r t i) ∙ sym (rest (so (held_new t i (spied.inside t i k) ⊞ δ ⊠ gone (day t) i (spied.inside t i k) k) (omega (arith, G_is t (point i))))) ∙ rest_held ks s t i

    pub secret : (chance : ℕ → ℕ → List (List ℕ)) → value2 ks.p (moved chance 0 0) 0 0 ≡ (value2 ks.p (chance 0 0) 0 0 + δ) % ks.p
    unfolding who step m
    secret chance = value2_is ks.p (plus2 ks.p (chance 0 0) (by 0)) 0 0 ∙
        rest (so (plus2_is ks.p (chance 0 0) (by 0) 0 0 ⊟ back ks.p (value2_is ks.p (chance 0 0) 0 0) ⊞ eval (G 0) 0 ⊠ (M (night 0)).here ⊞ δ ⊠ (M (day 0)).here) (omega (arith, by_is 0 0 0, G_is 0 0)))

    -- of records
    module _ (r : Run) (keeps : Keeps ks r) (one-day : OneDay r day) where
      new : (t : ℕ) → (e : Dealing) × Kept (at ks t) (ks.f + 1) (width ks t) e × Strict (at ks t) (ks.f + 1) (width ks t) e ×
          Fair (at ks t) (ks.f + 1) (width ks t) (plus2 ks.p (r.chance t (who t)) (by t)) e × SeenDeal (at ks t) (night t) (r.deal t (who t)) e
      new t = hides_dealing_lem (at ks t) (lasting.sound t) (ks.f + 1) (width ks t) (omega arith) (omega arith) (width_low ks t) (r.chance t (who t)) (r.deal t (who t)) (keeps.kept t (who t) (who_in t)) (keeps.strict t (who t) (who_in t))
          (keeps.fair t (who t) (who_in t) (who_honest t)) (night t) (λ i k. (inside t i k, tt)) (λ i h. spied.liars t i h.0) (by t) (by_low t) (unseen t)

      abbrev deal_new : ℕ → ℕ → Dealing
      deal_new t j = cond (eqb j (who t)) (new t).0 (r.deal t j)

      abbrev run_new : Run
      run_new = record { chance = moved r.chance; deal = deal_new; dropped = r.dropped }

      choose : (t j : ℕ) (P : ℕ → List (List ℕ) → Dealing → Type 0) → P (who t) (plus2 ks.p (r.chance t (who t)) (by t)) (new t).0 → ((j ≡ who t → ⊥) → P j (r.chance t j) (r.deal t j)) → P j (run_new.chance t j) (deal_new t j)
      choose t j P a b = on (eqb j (who t)) (eqb-true j (who t)) (eqb-false j (who t))
        where
          on : (c : Bool) → (c ≡ true → j ≡ who t) → (c ≡ false → j ≡ who t → ⊥) → P j (cond c (plus2 ks.p (r.chance t j) (by t)) (r.chance t j)) (cond c (new t).0 (r.deal t j))
          on true e f = subst (λ k. P k (plus2 ks.p (r.chance t k) (by t)) (new t).0) (sym (e refl)) a
          on false e f = b (f refl)

      keeps_moved : Keeps ks run_new
      keeps_moved = record {
        kept = λ t j h. choose t j (λ j c d. Kept (at ks t) (ks.f + 1) (width ks t) d) (new t).1 (λ e. keeps.kept t j h);
        strict = λ t j h. choose t j (λ j c d. Strict (at ks t) (ks.f + 1) (width ks t) d) (new t).2 (λ e. keeps.strict t j h);
        fair = λ t j h o. choose t j (λ j c d. Fair (at ks t) (ks.f + 1) (width ks t) c d) (new t).3 (λ e. keeps.fair t j h o);
      }

      seen : Seen ks day night r run_new
      seen = record {
        drops = refl;
        deals = λ t j h. choose t j (λ j c d. SeenDeal (at ks t) (night t) (r.deal t j) d) (new t).4 (λ e. record { complaints = refl; reveals = refl; fine = refl; dealt = λ i k. refl; told = λ i k l n q. refl });
        chances = λ t j k. let n : j ≡ who t → ⊥ = λ e. who_out t (subst (λ w. Memᴰ w (night t)) e k) in (sym (elsewhere t j _ _ n), ap (λ (d : Dealing). d.dealt) (sym (elsewhere t j (new t).0 (r.deal t j) n)));
        values = values r deal_new keeps keeps_moved one-day (λ t j h n. elsewhere t j (new t).0 (r.deal t j) n);
      }

      all : (q : Run) × Keeps ks q × (value2 ks.p (q.chance 0 0) 0 0 ≡ (value2 ks.p (r.chance 0 0) 0 0 + δ) % ks.p) × Seen ks day night r q × Moved ks who by r q
      all = (run_new, keeps_moved, secret r.chance, seen, λ t j. refl)

pub theorem : Theorem
theorem k lasting = (holds k lasting, λ day night spied out. (who k lasting day night spied out, by k lasting day night spied out, λ r keeps one-day δ. all k lasting day night spied out δ r keeps one-day))
