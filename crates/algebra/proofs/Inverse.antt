-- A number that nothing between 1 and itself divides is a prime, and modulo a prime what isn't 0 has an inverse.
use mathlib.Core.Path.{◌≡◌, refl, sym, ap, ◌∙◌}
use mathlib.Core.Logic.{◌⊎◌, inl, inr, ⊎_elim, ◌≢◌}
use Prim.Native.Nat.{ℕ, zero, suc, ◌+◌, ◌*◌, ◌/◌, ◌%◌, ◌<◌, ◌≤◌}
use native.Mathlib.Omega.{arith}
use native.Mathlib.Decide.{ℕ_discrete, dec_le}
use native.Mathlib.Nat.{mod-lt, mod_self, mod-eq_of_lt, div-add-mod, mul_comm, mul-le-mul_left, mul-le-mul_right}
use Rattle.algebra.specs.Prime.{Prime}
use Rattle.algebra.proofs.Same.{Same, back, none, vanishes, equal, whole, so, ◌⊞◌, ◌⊟◌, ◌⊠◌, minus, minus_is}

-- nothing between 1 and p divides p
abbrev pub Alone : ℕ → Type 0
Alone p = (a c : ℕ) → p ≡ a * c → 2 ≤ a → a < p → ⊥

-- a number is zero or has an inverse
abbrev pub Inverse : ℕ → ℕ → Type 0
Inverse p a = (b : ℕ) × (Same p a 0 ⊎ Same p (a * b) 1)

module _ {p : ℕ} (two : 2 ≤ p) (alone : Alone p) where
  -- p is a times q and a smaller r, which isn't 0: -q times the inverse of r is that of a
  below : (n a : ℕ) → a ≤ n → 0 < a → a < p → (b : ℕ) × Same p (a * b) 1
  below zero a h l k = absurd (omega arith)
  below (suc n) a h l k = elim (ℕ_discrete a 1) [ yes e ↦ (1, equal (omega arith)) | no e ↦ step e (below n (p % a)) ]
    where
      q : ℕ
      q = p / a

      r : ℕ
      r = p % a

      parts : a * q + r ≡ p
      parts = div-add-mod p a

      step : a ≢ 1 → (r ≤ n → 0 < r → r < p → (b : ℕ) × Same p (r * b) 1) → (b : ℕ) × Same p (a * b) 1
      step e rest =
          let less : r < a = mod-lt p l in
          let some : r ≢ 0 = λ z. alone a q (omega arith) (omega arith) k in
          let i : (b : ℕ) × Same p (r * b) 1 = rest (omega arith) (omega arith) (omega arith) in
          turned i.0 i.1
        where
          turned : (b : ℕ) → Same p (r * b) 1 → (b : ℕ) × Same p (a * b) 1
          turned b s = (q * minus p 0 b, so (whole p (minus p 0 b) ⊟ r ⊠ minus_is two 0 b ⊞ s) (omega (arith, ap (λ n. minus p 0 b * n) parts)))

  invert : (a : ℕ) → Inverse p a
  invert a = elim (ℕ_discrete (a % p) 0) [ yes z ↦ (0, inl (none p z)) | no z ↦ found z ]
    where
      found : a % p ≢ 0 → Inverse p a
      found z =
          let less : a % p < p = mod-lt a (omega arith) in
          let i : (b : ℕ) × Same p (a % p * b) 1 = below p (a % p) (omega arith) (omega arith) less in
          (i.0, inr (so (i.1 ⊟ i.0 ⊠ back p {n = a} refl) (omega arith)))

  euclid : (a b : ℕ) → (a * b) % p ≡ 0 → (a % p ≡ 0) ⊎ (b % p ≡ 0)
  euclid a b e = ⊎_elim
      (λ z. inl (vanishes z))
      (λ u. inr (vanishes (so ((invert a).0 ⊠ none p e ⊟ b ⊠ u) (omega arith))))
      (invert a).1

-- it is enough to look for divisors up to the square root
pub prime : (p : ℕ) → 2 ≤ p → ((q c : ℕ) → p ≡ q * c → 2 ≤ q → q * q ≤ p → ⊥) → Prime p
prime p two small = (two, euclid two alone)
  where
    alone : Alone p
    alone a c e h l = elim (dec_le a c) [
      | yes k ↦ small a c e h (omega (arith, mul-le-mul_left a k))
      | no k ↦
          small c a (e ∙ mul_comm a c)
          (elim (dec_le 2 c) [ yes m ↦ m | no m ↦ absurd (omega (arith, mul-le-mul_left {m = c} {n = 1} a (omega arith))) ])
          (omega (arith, mul-le-mul_right {m = c} {n = a} c (omega arith)))
    ]

pub stands-alone : {p : ℕ} → Prime p → Alone p
stands-alone {p} prime a c e h l = elim (prime.1 a c (ap (λ z. z % p) (sym e) ∙ mod_self p)) [
  | inl z ↦ omega (arith, mod-eq_of_lt l)
  | inr z ↦
      let less : c < p = omega (arith, mul-le-mul_right {m = 2} {n = a} c h) in
      let none : c ≡ 0 = sym (mod-eq_of_lt less) ∙ z in
      omega (arith, ap (λ x. a * x) none)
]

pub inverse : {p : ℕ} → Prime p → (a : ℕ) → Inverse p a
inverse prime a = invert prime.0 (stands-alone prime) a
