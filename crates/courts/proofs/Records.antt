-- What happened in the nights, as records: the dealings of nights that were over, and what the courts then hold.
use Rattle.std.proofs.Common.{◌≡◌, ℕ, zero, suc, ◌+◌, ◌*◌, ◌%◌, ◌<◌, ◌≤◌, Bool, true, false, cond, not, ◌&&◌, ◌||◌, eqb, ltb, List, map, length, get_or, replicate, Some, None, Option, sym, refl, ap, ◌∙◌, subst, ap₂, mod-eq_of_lt, arith, ltb-true, lt-ltb, ne_eqb, eqb-true}
use mathlib.Core.Bool.{false≢true}
use mathlib.Core.List.{Memᴰ}
use Rattle.std.specs.List.{range_with_len}
use Rattle.std.specs.Option.{option_map}
use Rattle.algebra.specs.Prime.{p}
use Rattle.algebra.specs.Polynomial.{value, Exact, Exact2}
use Rattle.algebra.specs.Sharing.{point}
use Rattle.rules.specs.Deal.{Honest, Dealing, Kept, Strict, Fair, is_accepted, own, or_else}
use Rattle.rules.specs.Rounds.{read_off}
use Rattle.rules.specs.Wire.{when}
use Rattle.rules.specs.Seat.{accepted}
use Rattle.rules.specs.Play as play
use Rattle.rules.specs.Play.{overall, Played}
use Rattle.rules.proofs.Sat.{plays_keep_lem, value_small}
use Rattle.nights.specs.Run.{Keepers, Lasting, at, Run, dealers, width, Keeps, gain, held}
use Rattle.nights.proofs.Plainly as plainly
use Rattle.nights.proofs.Plainly.{plain}
use Rattle.courts.specs.Court.{dealers_of, low_of, decided_at, members, gains, renewed}
use Rattle.courts.specs.Nights.{Nights, Plays, keepers_of, begins, within}
use Rattle.courts.proofs.Sits.{sitting, play_of, rows_of}
use Rattle.courts.proofs.Eves.{here, eves, honest_before}
use Rattle.courts.proofs.Kept.{kept_last, kept_at}
use Rattle.courts.proofs.Apart.{plays_apart, possible}
use Rattle.courts.proofs.Public.{over_at, some_honest}
use Rattle.courts.proofs.First.{ends, first_value}
use Rattle.courts.proofs.Draws.{rows_exact}

pub dealers_are : (k : Keepers) (t : ℕ) → dealers k t ≡ dealers_of k.f t
dealers_are k zero = refl
dealers_are k (suc t) = rw (ne_eqb (suc t) 0 (λ e. omega arith))

pub width_is : (k : Keepers) (t : ℕ) → width k t ≡ low_of k.f t
width_is k zero = refl
width_is k (suc t) = rw (ne_eqb (suc t) 0 (λ e. omega arith))

and_left : (a b : Bool) → (a && b) ≡ true → a ≡ true
and_left true b e = refl
and_left false b e = e

and_right : (a b : Bool) → (a && b) ≡ true → b ≡ true
and_right true b e = e
and_right false b e = absurd (false≢true e)

zero_row : (n : ℕ) → Exact p n (replicate n 0)
zero_row n = record { count = length-zeros n; small = below n }
  where
    length-zeros : (n : ℕ) → length {A = ℕ} (replicate n 0) ≡ n
    length-zeros zero = refl
    length-zeros (suc n) = ap suc (length-zeros n)

    below : (n c : ℕ) → Memᴰ c (replicate n 0) → c < p
    below zero c k = elim k [ ]
    below (suc n) c (Memᴰ.head e) = omega arith
    below (suc n) c (Memᴰ.tail k) = below n c k

pub no_rows : (high low : ℕ) → List (List ℕ)
no_rows high low = replicate high (replicate low 0)

pub no_rows_exact : (high low : ℕ) → Exact2 p high low (no_rows high low)
unfolding no_rows
no_rows_exact high low = record { count = many high; each = each high }
  where
    many : (n : ℕ) → length {A = List ℕ} (replicate n (replicate low 0)) ≡ n
    many zero = refl
    many (suc n) = ap suc (many n)

    each : (n : ℕ) (r : List ℕ) → Memᴰ r (replicate n (replicate low 0)) → Exact p low r
    each zero r k = elim k [ ]
    each (suc n) r (Memᴰ.head e) = subst (Exact p low) (sym e) (zero_row low)
    each (suc n) r (Memᴰ.tail k) = each n r k

module _ (m : Nights) (lies : ℕ → ℕ → Bool) (lasting : Lasting (keepers_of m lies)) (plays : Plays m lies) (few : m.f ≤ 5) where
  abbrev pub K : Keepers
  K = keepers_of m lies

  -- one that keeps the rules
  unfoldable pub guide : ℕ → ℕ
  guide t = (some_honest (at K t) (lasting.sound t)).0

  pub guide_honest : (t : ℕ) → Honest (at K t) (guide t)
  unfolding guide
  guide_honest t = (some_honest (at K t) (lasting.sound t)).1

  -- the first night, and each that was over
  abbrev pub real : ℕ → Bool
  real t = ltb t m.many && (eqb t 0 || over_at m t)

  pub real_whole : (t : ℕ) → real t ≡ true → (t < m.many) × (m.calls t ≡ 6)
  real_whole t e = (soon, by (eqb t 0) (eqb-true t 0) (and_right (ltb t m.many) _ e))
    where
      soon : t < m.many
      soon = ltb-true t m.many (and_left (ltb t m.many) (eqb t 0 || over_at m t) e)

      by : (b : Bool) → (b ≡ true → t ≡ 0) → (b || over_at m t) ≡ true → m.calls t ≡ 6
      by true h q = let z : 0 < m.many = omega (arith, soon, h refl) in ap m.calls (h refl) ∙ plays.fixed.first z
      by false h q = eqb-true (m.calls t) 6 (and_left (eqb (m.calls t) 6) _ q)

  -- the dealings as they happened, else with nobody lying
  abbrev pub happened : (t d : ℕ) → Dealing
  happened t d = overall (sitting m t d) (play_of m t d) (guide t)

  abbrev pub run : (ℕ → ℕ → List (List ℕ)) → Run
  run ch = record {
    chance = ch;
    deal = λ t d. cond (real t) (happened t d) (plain p (ch t d));
    dropped = λ t. ltb t m.many && not (real t);
  }

  module _ (t d : ℕ) (soon : t < m.many) (whole : m.calls t ≡ 6) (deals : d < dealers_of m.f t) where
    abbrev pub k : play.Sitting
    k = sitting m t d

    pub played : (i : ℕ) → Honest (at K t) i → Played k (lies t) (play_of m t d) i
    played i hi = plays_keep_lem k (possible m lies lasting plays.fixed plays.born few t d soon deals) (lies t) (play_of m t d) (plays_apart m lies lasting plays few t d soon whole deals) i hi

    pub same_posts : (i j : ℕ) → Honest (at K t) i → Honest (at K t) j → (play.after k (play_of m t d) 5 i).posts ≡ (play.after k (play_of m t d) 5 j).posts
    same_posts i j hi hj = (played i hi).same j hj

    pub same_overall : (i : ℕ) → Honest (at K t) i → overall k (play_of m t d) i ≡ happened t d
    same_overall i hi = ap (read_off (play.setting_of k) (λ j. (play.after k (play_of m t d) 5 j).hand)) (same_posts i (guide t) hi (guide_honest t))

    pub drawn_exact : Honest (at K t) d → Exact2 p (m.f + 1) (low_of m.f t) (rows_of m t d)
    drawn_exact hd = let q = plays.fixed.draws t d soon hd deals in rows_exact (low_of m.f t) (m.f + 1) (m.draws t d) q.0 q.1

    pub happened_fair : Honest (at K t) d → Fair (at K t) (m.f + 1) (low_of m.f t) (rows_of m t d) (happened t d)
    happened_fair hd = (played (guide t) (guide_honest t)).fair (rows_of m t d) refl (drawn_exact hd) hd

  module _ (ch : ℕ → ℕ → List (List ℕ)) (is : (t d : ℕ) → real t ≡ true → ch t d ≡ rows_of m t d) (exact : (t d : ℕ) → d < dealers K t → real t ≡ false → Exact2 p (m.f + 1) (width K t) (ch t d)) where
    wide : (P : ℕ → Type 0) (t : ℕ) → P (low_of m.f t) → P (width K t)
    wide P t = subst P (sym (width_is K t))

    there : (t d : ℕ) → d < dealers K t → d < dealers_of m.f t
    there t d h = subst (λ n. d < n) (dealers_are K t) h

    by_night : (t d : ℕ) (P : List (List ℕ) → Dealing → Type 0) → (real t ≡ true → P (rows_of m t d) (happened t d)) → (real t ≡ false → P (ch t d) (plain p (ch t d))) → P (ch t d) ((run ch).deal t d)
    by_night t d P a b = go (real t) refl
      where
        go : (r : Bool) → real t ≡ r → P (ch t d) (cond r (happened t d) (plain p (ch t d)))
        go true e = subst (λ c. P c (happened t d)) (sym (is t d e)) (a e)
        go false e = b e

    pub keeps_run : Keeps K (run ch)
    keeps_run = record {
      kept = λ t d h. by_night t d (λ c e. Kept (at K t) (m.f + 1) (width K t) e)
          (λ r. wide (λ w. Kept (at K t) (m.f + 1) w (happened t d)) t (played t d (real_whole t r).0 (real_whole t r).1 (there t d h) (guide t) (guide_honest t)).kept)
          (λ r. plainly.kept (at K t) (lasting.sound t) (m.f + 1) (width K t) (omega arith) (ch t d) (exact t d h r));
      strict = λ t d h. by_night t d (λ c e. Strict (at K t) (m.f + 1) (width K t) e)
          (λ r. wide (λ w. Strict (at K t) (m.f + 1) w (happened t d)) t (played t d (real_whole t r).0 (real_whole t r).1 (there t d h) (guide t) (guide_honest t)).strict)
          (λ r. plainly.strict (at K t) (lasting.sound t) (m.f + 1) (width K t) (omega arith) (ch t d) (exact t d h r));
      fair = λ t d h o. by_night t d (λ c e. Fair (at K t) (m.f + 1) (width K t) c e)
          (λ r. wide (λ w. Fair (at K t) (m.f + 1) w (rows_of m t d) (happened t d)) t (happened_fair t d (real_whole t r).0 (real_whole t r).1 (there t d h) o))
          (λ r. plainly.fair (at K t) (lasting.sound t) (m.f + 1) (width K t) (omega arith) (ch t d) (exact t d h r));
    }

  -- WHAT IS KEPT of each dealing
  module _ (t i : ℕ) (soon : t < m.many) (whole : m.calls t ≡ 6) (hi : Honest (at K t) i) (d : ℕ) (deals : d < dealers_of m.f t) where
    pub kept_is : get_or (map (decided_at (within m t 5 i)) (range_with_len 0 16)) d None ≡ when (is_accepted (at K t) (happened t d)) (value p (own (happened t d) i).across 0)
    kept_is = kept_at m lies plays.fixed t i soon hi (eves m lies lasting plays.fixed plays.born t i soon hi) few d deals ∙ (played t d soon whole deals i hi).keeps
        ∙ ap₂ (λ q (e : Dealing). when (accepted (play.setting_of (sitting m t d)) q) (value p (own e i).across 0)) (same_posts t d soon whole deals i (guide t) hi (guide_honest t)) (same_overall t d soon whole deals i hi)

    pub kept_last_is : get_or (within m t 6 i).kept d None ≡ when (is_accepted (at K t) (happened t d)) (value p (own (happened t d) i).across 0)
    kept_last_is = ap (λ l. get_or l d None) (kept_last m lies plays.fixed t i soon hi (eves m lies lasting plays.fixed plays.born t i soon hi)) ∙ kept_is

  -- WHAT THE COURTS HOLD
  module _ (ch : ℕ → ℕ → List (List ℕ)) (i : ℕ) (given : (begins m 1 i).value ≡ None → ⊥) where
    abbrev r : Run
    r = run ch

    ends_at : (t : ℕ) (soon : t < m.many) (hi : Honest (at K t) i) → (begins m (suc t) i).value ≡ cond (over_at m t) (renewed (within m t (m.calls t) i)) (begins m t i).value
    ends_at t soon hi = ends m lies lasting plays.fixed t i soon hi (eves m lies lasting plays.fixed plays.born t i soon hi)

    -- in night 0
    module _ (soon : 0 < m.many) (hi : Honest (at K 0) i) where
      kept_0 : (play.at_call (sitting m 0 0) (play_of m 0 0) 5 i).kept ≡ when (is_accepted (at K 0) (happened 0 0)) (value p (own (happened 0 0) i).across 0)
      kept_0 = sym (kept_at m lies plays.fixed 0 i soon hi (eves m lies lasting plays.fixed plays.born 0 i soon hi) few 0 (omega arith)) ∙ kept_is 0 i soon (plays.fixed.first soon) hi 0 (omega arith)

      value_0 : (begins m 1 i).value ≡ Some (held K r 0 i)
      unfolding held gain
      value_0 = go (over_at m 0) (is_accepted (at K 0) (happened 0 0)) (value_small (own (happened 0 0) i).across 0) (first_value m lies lasting plays.fixed few i soon hi ∙ ap (λ o. cond (over_at m 0) o None) kept_0) ∙ ap Some held_0
        where
          v : ℕ
          v = value p (own (happened 0 0) i).across 0

          go : (b a : Bool) → v < p → (begins m 1 i).value ≡ cond b (when a v) None → (begins m 1 i).value ≡ Some ((cond a v 0 + 0) % p)
          go false a l e = absurd (given e)
          go true false l e = absurd (given e)
          go true true l e = e ∙ ap Some (sym (mod-eq_of_lt l) ∙ ap (λ n. n % p) (omega arith))

          held_0 : (cond (is_accepted (at K 0) (happened 0 0)) v 0 + 0) % p ≡ held K r 0 i
          held_0 = ap (λ b. (cond (is_accepted (at K 0) (cond b (happened 0 0) (plain p (ch 0 0)))) (value p (own (cond b (happened 0 0) (plain p (ch 0 0))) i).across 0) 0 + 0) % p) (sym (real_0 (ltb 0 m.many) (lt-ltb 0 m.many soon)))
            where
              real_0 : (b : Bool) → b ≡ true → (b && true) ≡ true
              real_0 b e = rw e

    -- in a later night
    module _ (t : ℕ) (soon : suc t < m.many) (hi : Honest (at K (suc t)) i) where
      later : eqb (suc t) 0 ≡ false
      later = ne_eqb (suc t) 0 (λ e. omega arith)

      deals_all : dealers_of m.f (suc t) ≡ 3 * m.f + 1
      deals_all = ap (λ b. cond b 1 (3 * m.f + 1)) later

      real_if : (b : Bool) → over_at m (suc t) ≡ b → real (suc t) ≡ b
      real_if b e = rw (lt-ltb (suc t) m.many soon, later) e

      module _ (over : over_at m (suc t) ≡ true) where
        all_six : m.calls (suc t) ≡ 6
        all_six = (real_whole (suc t) (real_if true over)).1

        abbrev kept : List (Option ℕ)
        kept = (within m (suc t) 6 i).kept

        term_is : (n : ℕ) → n < 3 * m.f + 1 → or_else 0 (get_or kept n None) ≡ cond (is_accepted (at K (suc t)) (r.deal (suc t) n)) (value p (own (r.deal (suc t) n) i).across 0) 0
        term_is n h = ap (or_else 0) (kept_last_is (suc t) i soon all_six hi n (subst (λ x. n < x) (sym deals_all) h))
            ∙ by (is_accepted (at K (suc t)) (happened (suc t) n)) (value p (own (happened (suc t) n) i).across 0)
            ∙ ap (λ b. cond (is_accepted (at K (suc t)) (cond b (happened (suc t) n) (plain p (ch (suc t) n)))) (value p (own (cond b (happened (suc t) n) (plain p (ch (suc t) n))) i).across 0) 0) (sym (real_if true over))
          where
            by : (b : Bool) (v : ℕ) → or_else 0 (when b v) ≡ cond b v 0
            by true v = refl
            by false v = refl

        gains_are : (n : ℕ) → n ≤ 3 * m.f + 1 → gains kept n ≡ gain (at K (suc t)) (r.deal (suc t)) n i
        unfolding gains gain
        gains_are zero h = refl
        gains_are (suc n) h = ap₂ ◌+◌ (term_is n (omega arith)) (gains_are n (omega arith))

        all_gains : gains kept (3 * m.f + 1) ≡ gain (at K (suc t)) (r.deal (suc t)) (dealers K (suc t)) i
        all_gains = gains_are (3 * m.f + 1) (omega arith)

        renewed_as : (v : ℕ) → (begins m (suc t) i).value ≡ Some v → renewed (within m (suc t) (m.calls (suc t)) i) ≡ Some ((v + point i * gain (at K (suc t)) (r.deal (suc t)) (dealers K (suc t)) i) % p)
        renewed_as v e =
            let s = here m lies lasting plays.fixed (suc t) i soon hi (eves m lies lasting plays.fixed plays.born (suc t) i soon hi) 6 (omega arith) in
            let c = within m (suc t) 6 i in
            ap (λ n. renewed (within m (suc t) n i)) all_six
            ∙ ap (λ n. cond (eqb n 0) (get_or kept 0 None) (option_map (λ v. (v + point c.me * gains kept (members c)) % p) c.value)) s.night
            ∙ ap (λ b. cond b (get_or kept 0 None) (option_map (λ v. (v + point c.me * gains kept (members c)) % p) c.value)) later
            ∙ ap₂ (λ j f. option_map (λ v. (v + point j * gains kept (3 * f + 1)) % p) c.value) s.me s.f
            ∙ ap (option_map (λ v. (v + point i * gains kept (3 * m.f + 1)) % p)) (s.value ∙ e)
            ∙ ap (λ g. Some ((v + point i * g) % p)) all_gains

      value_next : (begins m (suc t) i).value ≡ Some (held K r t i) → (begins m (suc (suc t)) i).value ≡ Some (held K r (suc t) i)
      unfolding held
      value_next e = ends_at (suc t) soon hi ∙ go (over_at m (suc t)) refl
        where
          next : Bool → ℕ
          next b = cond b (held K r t i) ((held K r t i + point i * gain (at K (suc t)) (r.deal (suc t)) (dealers K (suc t)) i) % p)

          drop_as : (b : Bool) → real (suc t) ≡ b → (ltb (suc t) m.many && not (real (suc t))) ≡ not b
          drop_as b q = ap (λ a. a && not (real (suc t))) (lt-ltb (suc t) m.many soon) ∙ ap not q

          go : (b : Bool) → over_at m (suc t) ≡ b → cond b (renewed (within m (suc t) (m.calls (suc t)) i)) (begins m (suc t) i).value ≡ Some (next (ltb (suc t) m.many && not (real (suc t))))
          go true q = renewed_as q (held K r t i) e ∙ ap (λ a. Some (next a)) (sym (drop_as true (real_if true q)))
          go false q = e ∙ ap (λ a. Some (next a)) (sym (drop_as false (real_if false q)))

    pub values_are : (t : ℕ) → t < m.many → Honest (at K t) i → (begins m (suc t) i).value ≡ Some (held K r t i)
    values_are zero soon hi = value_0 soon hi
    values_are (suc t) soon hi = value_next t soon hi (values_are t (omega arith) (honest_before m lies lasting plays.fixed t i hi))

  -- what is drawn, and nothing where nothing counts
  abbrev pub base : (t d : ℕ) → List (List ℕ)
  base t d = cond (real t) (rows_of m t d) (no_rows (m.f + 1) (width K t))

  pub base_is : (t d : ℕ) → real t ≡ true → base t d ≡ rows_of m t d
  base_is t d e = rw e

  pub base_exact : (t d : ℕ) → real t ≡ false → Exact2 p (m.f + 1) (width K t) (base t d)
  base_exact t d e = rw e (no_rows_exact (m.f + 1) (width K t))

  pub real_first : 0 < m.many → real 0 ≡ true
  real_first h = rw (lt-ltb 0 m.many h)
