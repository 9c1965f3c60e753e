-- What holds of every run that keeps the rules: the honest keepers hold values of one polynomial, and the secret stays.
use Rattle.std.proofs.Common.{◌≡◌, ℕ, zero, suc, ◌+◌, ◌*◌, ◌%◌, ◌<◌, ◌≤◌, Bool, true, false, cond, T, List, [], ◌∷◌, length, sym, refl, ap, ◌∙◌, arith}
use Rattle.algebra.specs.Polynomial.{value, value2, Low, set_first}
use Rattle.algebra.specs.Sharing.{point, Share}
use Rattle.rules.specs.Deal.{Group, size, away, Keeper, Sound, Honest, Dealing, Kept, Strict, Fair, is_accepted, own}
use Rattle.nights.specs.Run.{Keepers, at, Lasting, Run, dealers, width, Keeps, gain, held}
use Rattle.nights.specs.Promise.{Misses, Holds}
use Rattle.algebra.proofs.Same.{Same, rest, back, equal, so, mirror, ◌⊞◌, ◌⊠◌}
use Rattle.algebra.proofs.Evaluation.{down, eval, value_is, add, eval_add, length-add}
use Rattle.algebra.proofs.Rows.{value2_is, row, row_is, length-row}
use Rattle.algebra.proofs.Members.{those, length-those, those_all, those-differ}
use Rattle.nights.proofs.One.{had_back_lem}
use Rattle.rules.proofs.Dealt.{honest_if, main}
use Rattle.algebra.proofs.Coefficients.{first_is, exact_first}
use Rattle.rules.proofs.Drawn.{of_share}
use Rattle.rules.proofs.Fairly.{shows, fair_accepted, own_is, passes}

pub width_low : (k : Keepers) (t : ℕ) → width k t ≤ k.f + 1
width_low k zero = omega arith
width_low k (suc t) = omega arith

-- what one dealing gives keeper i
abbrev pub term : Group → Dealing → ℕ → ℕ
term g d i = cond (is_accepted g d) (value g.p (own d i).across 0) 0

pub term_is : (g : Group) (d : Dealing) (i : ℕ) → T (is_accepted g d) → term g d i ≡ value g.p (own d i).across 0
term_is g d i = by (is_accepted g d)
  where
    by : (b : Bool) → T b → cond b (value g.p (own d i).across 0) 0 ≡ value g.p (own d i).across 0
    by true t = refl
    by false t = absurd t

-- what a fair dealing gives
pub fair_term : (g : Group) → Sound g → (low : ℕ) → 1 ≤ g.f + 1 → (rs : List (List ℕ)) (d : Dealing) → Strict g (g.f + 1) low d → Fair g (g.f + 1) low rs d → (i : ℕ) → Keeper g i →
    term g d i ≡ value2 g.p rs 0 (point i)
fair_term g sound low h1 rs d strict fair i h = term_is g d i (fair_accepted g sound (g.f + 1) low h1 rs d fair strict) ∙
    ap (λ (s : Share). value g.p s.across 0) (own_is g sound (g.f + 1) low h1 rs d fair i h) ∙ (of_share g.p rs i).across 0

module _ (g : Group) (sound : Sound g) where
  -- numbers of keepers that lie on a polynomial with so many coefficients
  abbrev On : ℕ → (ℕ → ℕ) → Type 0
  On n v = (cs : List ℕ) × (length cs ≤ n) × ((i : ℕ) → Honest g i → Same g.p (v i) (eval cs (point i)))

  gain_on : (low : ℕ) → low ≤ g.f + 1 → (ds : ℕ → Dealing) (n : ℕ) → ((j : ℕ) → j < n → Kept g (g.f + 1) low (ds j)) → On low (gain g ds n)
  unfolding gain eval
  gain_on low hl ds zero kept = ([], omega arith, λ i h. equal refl)
  gain_on low hl ds (suc n) kept = by (is_accepted g (ds n)) (λ t. t) (gain_on low hl ds n (λ j h. kept j (omega arith)))
    where
      by : (b : Bool) → (T b → T (is_accepted g (ds n))) → On low (gain g ds n) → On low (λ i. cond b (value g.p (own (ds n) i).across 0) 0 + gain g ds n i)
      by false t o = (o.0, o.1, λ i h. so (o.2 i h) (omega arith))
      by true t o =
          let m = main g sound (g.f + 1) low (omega arith) hl (ds n) (kept n (omega arith)) (t tt) in (
            add (row m.0 0) o.0,
            omega (arith, length-add (row m.0 0) o.0, length-row low m.0 0 m.1.each, o.1),
            λ i h. so (back g.p ((m.2 i h).across 0 ∙ value2_is g.p m.0 0 (point i)) ⊞ o.2 i h) (omega (arith, eval_add (row m.0 0) o.0 (point i), row_is m.0 0 (point i))),
          )

  trusted : (cs : List ℕ) (said : ℕ → ℕ) → ((i : ℕ) → Honest g i → value g.p cs (point i) ≡ said i) → Misses g cs said (those (size g) (away g))
  trusted cs said h = (those-differ (size g) (away g), λ i k n. h i (honest_if g i k (λ t. n (those_all (size g) i (away g) k t))), omega (arith, length-those (size g) (away g), sound.few))

module _ (k : Keepers) (lasting : Lasting k) (r : Run) (keeps : Keeps k r) where
  gains : (t : ℕ) → On (at k t) (lasting.sound t) (width k t) (gain (at k t) (r.deal t) (dealers k t))
  gains t = gain_on (at k t) (lasting.sound t) (width k t) (width_low k t) (r.deal t) (dealers k t) (keeps.kept t)

  s : ℕ
  s = value k.p (gains 0).0 0

  abbrev Day : ℕ → (ℕ → ℕ) → Type 0
  Day t v = (cs : List ℕ) × Low (k.f + 1) cs × (value k.p cs 0 ≡ s) × ((i : ℕ) → Honest (at k t) i → v i ≡ value k.p cs (point i))

  day : (t : ℕ) → Day t (held k r t)
  unfolding held s eval
  day zero = ((gains 0).0, (gains 0).1, refl, λ i h. rest ((gains 0).2 i h) ∙ sym (value_is k.p (gains 0).0 (point i)))
  day (suc t) = by (r.dropped (suc t)) (day t) (gains (suc t))
    where
      before : (i : ℕ) → Honest (at k (suc t)) i → Honest (at k t) i
      before i h = (h.0, λ l. h.1 (lasting.on t i l))

      by : (b : Bool) → Day t (held k r t) → On (at k (suc t)) (lasting.sound (suc t)) k.f (gain (at k (suc t)) (r.deal (suc t)) (dealers k (suc t))) →
          Day (suc t) (λ i. cond b (held k r t i) ((held k r t i + point i * gain (at k (suc t)) (r.deal (suc t)) (dealers k (suc t)) i) % k.p))
      by true d o = (d.0, d.1, d.2, λ i h. d.3 i (before i h))
      by false d o = (
        cs,
        omega (arith, length-add d.0 (0 ∷ o.0), d.1, o.1),
        value_is k.p cs 0 ∙ ap (λ n. n % k.p) (omega (arith, cs_is 0)) ∙ sym (value_is k.p d.0 0) ∙ d.2,
        λ i h. rest (so (back k.p (d.3 i (before i h) ∙ value_is k.p d.0 (point i)) ⊞ point i ⊠ o.2 i h) (omega (arith, cs_is (point i)))) ∙ sym (value_is k.p cs (point i)),
      )
        where
          cs : List ℕ
          cs = add d.0 (0 ∷ o.0)

          cs_is : (x : ℕ) → eval cs x ≡ eval d.0 x + x * eval o.0 x
          cs_is x = omega (arith, eval_add d.0 (0 ∷ o.0) x)

  trust : (t : ℕ) (cs : List ℕ) (said : ℕ → ℕ) → ((i : ℕ) → Honest (at k t) i → value k.p cs (point i) ≡ said i) → Misses (at k t) cs said (those (size (at k t)) (away (at k t)))
  trust t = trusted (at k t) (lasting.sound t)

  back_to : (t : ℕ) (said : ℕ → ℕ) → ((i : ℕ) → Honest (at k t) i → said i ≡ held k r t i) → (cs a : List ℕ) → Low (k.f + 1) cs → Misses (at k t) cs said a → value k.p cs 0 ≡ s
  back_to t said h cs a l m = let d = day t in
      had_back_lem (at k t) (lasting.sound t) cs d.0 l d.1 said a (those (size (at k t)) (away (at k t))) m (trust t d.0 said (λ i o. sym (h i o ∙ d.3 i o))) 0 ∙ d.2

  drawn : Honest (at k 0) 0 → s ≡ value2 k.p (r.chance 0 0) 0 0
  unfolding held gain
  drawn h0 = sym (back_to 0 (held k r 0) (λ i h. refl) cs (those (size (at k 0)) (away (at k 0)))
      (omega (arith, (exact_first k.p (k.f + 1) rs 0 (omega (arith, (lasting.sound 0).room)) (omega (arith, fair.chance.count)) fair.chance.each).count)) (trust 0 cs (held k r 0) there)) ∙ is 0
    where
      rs : List (List ℕ)
      rs = r.chance 0 0

      fair : Fair (at k 0) (k.f + 1) (k.f + 1) rs (r.deal 0 0)
      fair = keeps.fair 0 0 (omega arith) h0

      cs : List ℕ
      cs = set_first k.p rs 0

      is : (y : ℕ) → value k.p cs y ≡ value2 k.p rs 0 y
      is y = down k.p cs y (first_is k.p rs 0 y) ∙ sym (value2_is k.p rs 0 y)

      there : (i : ℕ) → Honest (at k 0) i → value k.p cs (point i) ≡ held k r 0 i
      there i h = is (point i) ∙ value2_is k.p rs 0 (point i) ∙
          rest (so (mirror (back k.p (fair_term (at k 0) (lasting.sound 0) (k.f + 1) (omega arith) rs (r.deal 0 0) (keeps.strict 0 0 (omega arith)) fair i h.0 ∙ value2_is k.p rs 0 (point i)))) (omega arith))

  pub holds : Holds k r
  holds = record {
    one = λ t j h a. main (at k t) (lasting.sound t) (k.f + 1) (width k t) (omega arith) (width_low k t) (r.deal t j) (keeps.kept t j h) a;
    fair = λ t j h o. passes (at k t) (lasting.sound t) (k.f + 1) (width k t) (omega arith) (r.chance t j) (r.deal t j) (keeps.strict t j h) (keeps.fair t j h o);
    shows = λ t j h o. shows (at k t) (lasting.sound t) (k.f + 1) (width k t) (omega arith) (r.chance t j) (r.deal t j) (keeps.fair t j h o) (keeps.strict t j h) (keeps.kept t j h);
    secret = s;
    drawn = drawn;
    stays = day;
    found = λ t said h. ((day t).0, those (size (at k t)) (away (at k t)), (day t).1, trust t (day t).0 said (λ i o. sym (h i o ∙ (day t).3 i o)));
    back = back_to;
  }
