-- Euclid's algorithm for an inverse modulo p, with factors that never pass p.
use Rattle.std.proofs.Common.{◌≡◌, ℕ, zero, suc, ◌+◌, ◌-◌, ◌*◌, ◌/◌, ◌%◌, ◌<◌, ◌≤◌, Bool, true, false, not, ◌≢◌, ap, mul-le-mul_right, mod-lt, mod-eq_of_lt, mul-le-mul_left, arith}
use native.Mathlib.Nat.{div-add-mod}
use Rattle.algebra.specs.Prime.{p}
use Rattle.algebra.proofs.Same.{Same, rest, whole, so, ◌⊞◌, ◌⊟◌, ◌⊠◌}
use Rattle.algebra.proofs.Inverse.{stands-alone}
use Rattle.algebra.proofs.Lucas.{modulus_prime}

-- b takes a to c, or to -c
abbrev pub Takes : Bool → (a b c : ℕ) → Type 0
Takes false a b c = Same p (a * b) c
Takes true a b c = Same p (a * b + c) 0

-- what holds at each step
pub record Step (negated : Bool) (a over left before by : ℕ) : Type 0 where
  pub some : 0 < left
  pub less : left < over
  pub one : 1 ≤ by
  pub whole : over * by + left * before ≡ p
  pub here : Takes negated a by left
  pub there : Takes (not negated) a before over

pub start : (a : ℕ) → 0 < a → a < p → Step false a p a 0 1
start a h k = record { some = h; less = k; one = omega arith; whole = omega arith; here = so {a = a * 1} {b = a} (whole p 0) (omega arith); there = so {a = a * 0 + p} {b = 0} (whole p 1) (omega arith) }

module _ (a over left before by : ℕ) where
  q : ℕ
  q = over / left

  r : ℕ
  r = over % left

  pub next_whole : over * by + left * before ≡ p → left * (before + over / left * by) + over % left * by ≡ p
  next_whole e = omega (arith, ap (λ n. n * by) (div-add-mod over left))

  -- the factor never passes p
  pub bound : 0 < left → over * by + left * before ≡ p → before + over / left * by ≤ p
  bound h e = omega (arith, next_whole e, mul-le-mul_right {m = 1} {n = left} (before + over / left * by) h)

  pub turn : (negated : Bool) → left ≢ 1 → Step negated a over left before by → Step (not negated) a left (over % left) by (before + over / left * by)
  turn negated ne s =
      let less : over % left < left = mod-lt over s.some in
      record {
        some = some;
        less = less;
        one = omega (arith, mul-le-mul_right {m = 1} {n = over / left} by quotient, s.one);
        whole = omega (arith, next_whole s.whole);
        here = here negated s.here s.there;
        there = there negated s.here;
      }
    where
      parts : left * (over / left) + over % left ≡ over
      parts = div-add-mod over left

      big : over ≤ p
      big = omega (arith, s.whole, mul-le-mul_left {m = 1} {n = by} over s.one)

      quotient : 1 ≤ over / left
      quotient = at_least (over / left) (omega (arith, parts, s.less, mod-lt over s.some))
        where
          at_least : (n : ℕ) → over ≡ left * n + over % left → 1 ≤ n
          at_least zero e = absurd (omega (arith, s.less, mod-lt over s.some))
          at_least (suc n) e = omega arith

      some : 0 < over % left
      some = positive (over % left) (λ z. stands-alone modulus_prime left (before + over / left * by) (omega (arith, next_whole s.whole, ap (λ n. n * by) z)) (omega (arith, s.some)) (omega (arith, s.less, big)))
        where
          positive : (n : ℕ) → (n ≡ 0 → ⊥) → 0 < n
          positive n h = omega arith

      here : (n : Bool) → Takes n a by left → Takes (not n) a before over → Takes (not n) a (before + over / left * by) (over % left)
      here false u v = so (v ⊞ (over / left) ⊠ u) (omega (arith, parts))
      here true u v = so (v ⊞ (over / left) ⊠ u) (omega (arith, parts))

      there : (n : Bool) → Takes n a by left → Takes (not (not n)) a by left
      there false u = u
      there true u = u

-- the end
one : 1 % p ≡ 1
one = omega arith

pub below : (negated : Bool) (a over before by : ℕ) → Step negated a over 1 before by → by < p
below negated a over before by s = omega (arith, s.whole, s.less, s.one, mul-le-mul_right {m = 2} {n = over} by (omega (arith, s.less)))

pub found : (a over before by : ℕ) → Step false a over 1 before by → (a * by) % p ≡ 1
found a over before by s = omega (arith, rest s.here, one)

pub found_negated : (a over before by : ℕ) → Step true a over 1 before by → (a * ((p - by) % p)) % p ≡ 1
found_negated a over before by s =
    let small = below true a over before by s in
    let inside : p - by < p = omega (arith, s.one) in
    let all : (p - by) % p + by ≡ p = omega (arith, mod-eq_of_lt inside) in
    omega (arith, rest (so {a = a * ((p - by) % p)} {b = 1} (whole p a ⊟ s.here) (omega (arith, ap (λ n. a * n) all))), one)
