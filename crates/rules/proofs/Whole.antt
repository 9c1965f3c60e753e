-- One dealing, played with bytes: what the rules promise holds of the seats.
use Rattle.std.proofs.Common.{◌≡◌, ℕ, zero, suc, ◌+◌, ◌*◌, ◌≤◌, Bool, true, false, not, ◌||◌, T, List, Some, refl, ap, ◌∙◌, subst, arith}
use Rattle.algebra.specs.Prime.{p}
use Rattle.algebra.specs.Counting.{count}
use Rattle.algebra.specs.Polynomial.{value, value2, Exact2}
use Rattle.algebra.specs.Sharing.{point, Of}
use Rattle.algebra.proofs.Lucas.{modulus_prime}
use Rattle.rules.specs.Deal.{Group, Sound, Honest, away, own}
use Rattle.rules.specs.Rounds.{group, read_off}
use Rattle.rules.specs.Seat.{accepted}
use Rattle.rules.specs.Wire.{when}
use Rattle.rules.specs.Play.{Sitting, setting_of, Possible, Play, Plays, after, at_call, overall, Played, One, Passes}
use Rattle.rules.specs.Promise.{OneDealing}
use Rattle.rules.proofs.Dealt.{main}
use Rattle.rules.proofs.Fairly.{passes, fair_shows_lem}
use Rattle.rules.proofs.Sat.{plays_keep_lem}

count_same : (n : ℕ) (s t : ℕ → Bool) → ((i : ℕ) → s i ≡ t i) → count n s ≡ count n t
unfolding count
count_same zero s t e = refl
count_same (suc n) s t e = rw (e n, count_same n s t e)

or_false : (b : Bool) → (b || not true) ≡ b
or_false true = refl
or_false false = refl

-- few enough lie
pub sound_group : (f : ℕ) → f ≤ 5 → (lies : ℕ → Bool) → count (3 * f + 1) lies ≤ f → Sound (record { p = p; f = f; takes = λ i. true; lies = lies })
sound_group f small lies few = record { prime = modulus_prime; room = omega arith; few = omega (arith, count_same (3 * f + 1) (away (record { p = p; f = f; takes = λ i. true; lies = lies })) lies (λ i. or_false (lies i)), few) }

module _ (k : Sitting) (possible : Possible k) (lies : ℕ → Bool) (few : count (3 * k.f + 1) lies ≤ k.f) (m : Play) (plays : Plays k lies m) where
  abbrev g : Group
  g = group (setting_of k) lies

  sound : Sound g
  sound = sound_group k.f possible.few lies few

  played : (h : ℕ) → Honest g h → Played k lies m h
  played h hh = plays_keep_lem k possible lies m plays h hh

  -- all honest keepers read the same dealing
  same_dealing : (h i : ℕ) → Honest g h → Honest g i → overall k m i ≡ overall k m h
  same_dealing h i hh hi = ap (read_off (setting_of k) (λ j. (after k m 5 j).hand)) ((played i hi).same h hh)

  one : (h : ℕ) → Honest g h → T (accepted (setting_of k) (after k m 5 h).posts) → One k lies m h
  one h hh acc =
      let r = main g sound k.high k.low possible.wide possible.tall (overall k m h) (played h hh).kept acc in
      record { rows = r.0; low = r.1; shares = r.2; values = λ i hi. value_of r.0 i hi (r.2 i hi) }
    where
      taken : (i : ℕ) → Honest g i → T (accepted (setting_of k) (after k m 5 i).posts)
      taken i hi = subst (λ q. T (accepted (setting_of k) q)) ((played h hh).same i hi) acc

      kept_so : (b : Bool) (v : ℕ) → T b → when b v ≡ Some v
      kept_so true v t = refl
      kept_so false v t = absurd t

      value_of : (rs : List (List ℕ)) (i : ℕ) → Honest g i → Of p rs i (own (overall k m h) i) → (at_call k m 5 i).kept ≡ Some (value2 p rs 0 (point i))
      value_of rs i hi of = (played i hi).keeps ∙ kept_so _ _ (taken i hi) ∙ ap Some (ap (λ d. value p (own d i).across 0) (same_dealing h i hh hi) ∙ of.across 0)

  pass : (h : ℕ) → Honest g h → (rs : List (List ℕ)) → m.chance ≡ Some rs → Exact2 p k.high k.low rs → Honest g k.dealer → Passes k lies m h rs
  pass h hh rs drawn exact hd =
      let y = played h hh in
      let fair = y.fair rs drawn exact hd in
      let r = passes g sound k.high k.low possible.some rs (overall k m h) y.strict fair in
      record { accepts = r.0; dealt = r.1; hidden = r.2; shows = fair_shows_lem g sound k.high k.low possible.some rs (overall k m h) y.kept y.strict fair }

pub one_dealing_lem : OneDealing
one_dealing_lem k possible lies few m plays h hh = (one k possible lies few m plays h hh, pass k possible lies few m plays h hh)
