-- Congruence modulo p, as an equation of whole numbers with no remainder and no difference in it, so that `omega` multiplies it out.
-- A proof is a combination of known congruences, `so (x ⊠ s ⊞ t ⊟ u)`, and an equation of whole numbers, which is `omega`'s.
use mathlib.Core.Path.{◌≡◌, sym, ap, ◌∙◌}
use mathlib.Core.Logic.{◌⊎◌, inl, inr}
use Prim.Native.Nat.{ℕ, zero, suc, pred, ◌+◌, ◌*◌, ◌/◌, ◌%◌, ◌≤◌}
use native.Mathlib.Omega.{arith}
use native.Mathlib.Nat.{add-mul-mod_self_left, div-add-mod, zero-mod, mod-mod}
use Rattle.algebra.specs.Prime.{Prime}

infixl 60 ◌⊞◌
infixl 60 ◌⊟◌
infixr 70 ◌⊠◌
pub record Same (p a b : ℕ) : Type 0 where
  pub k : ℕ
  pub l : ℕ
  pub is : a + p * k ≡ b + p * l

pub same : (p a b : ℕ) → a % p ≡ b % p → Same p a b
same p a b e = record { k = b / p; l = a / p; is = omega (arith, div-add-mod a p, div-add-mod b p) }

pub rest : {p a b : ℕ} → Same p a b → a % p ≡ b % p
rest {p} {a} {b} s = sym (add-mul-mod_self_left a p s.k) ∙ ap (λ n. n % p) s.is ∙ add-mul-mod_self_left b p s.l

-- a remainder is congruent to what it is the remainder of
pub back : (p : ℕ) {v n : ℕ} → v ≡ n % p → Same p v n
back p {v} {n} e = same p v n (ap (λ m. m % p) e ∙ mod-mod n p)

pub vanishes : {p a : ℕ} → Same p a 0 → a % p ≡ 0
vanishes {p} s = rest s ∙ zero-mod p

pub none : (p : ℕ) {a : ℕ} → a % p ≡ 0 → Same p a 0
none p {a} e = same p a 0 (e ∙ sym (zero-mod p))

pub equal : {p a b : ℕ} → a ≡ b → Same p a b
equal e = record { k = 0; l = 0; is = omega arith }

pub whole : (p n : ℕ) → Same p (p * n) 0
whole p n = record { k = 0; l = n; is = omega arith }

pub ◌⊞◌ : {p a b c d : ℕ} → Same p a b → Same p c d → Same p (a + c) (b + d)
s ⊞ t = record { k = s.k + t.k; l = s.l + t.l; is = omega arith }

pub ◌⊟◌ : {p a b c d : ℕ} → Same p a b → Same p c d → Same p (a + d) (b + c)
s ⊟ t = record { k = s.k + t.l; l = s.l + t.k; is = omega arith }

pub ◌⊠◌ : {p a b : ℕ} (f : ℕ) → Same p a b → Same p (f * a) (f * b)
f ⊠ s = record { k = f * s.k; l = f * s.l; is = omega (arith, ap (λ n. f * n) s.is) }

pub so : {p a b u v : ℕ} → Same p u v → a + v ≡ b + u → Same p a b
so s e = record { k = s.k; l = s.l; is = omega arith }

pub mirror : {p a b : ℕ} → Same p a b → Same p b a
mirror s = record { k = s.l; l = s.k; is = sym s.is }

abbrev pub minus : ℕ → ℕ → ℕ → ℕ
minus p a b = a + pred p * b

pub minus_is : {p : ℕ} → 2 ≤ p → (a b : ℕ) → Same p (minus p a b + b) a
minus_is {p = zero} h a b = absurd (omega arith)
minus_is {p = suc m} h a b = record { k = 0; l = b; is = omega arith }

-- (s - r) (a - b) is zero only where a factor is
pub split : {p : ℕ} → Prime p → (s r a b : ℕ) → Same p (s * a + r * b) (s * b + r * a) → Same p s r ⊎ Same p a b
split {p} prime s r a b h = cases (prime.1 d c (vanishes (so (c ⊠ d_is ⊞ s ⊠ c_is ⊟ r ⊠ c_is ⊞ h) (omega arith))))
  where
    d : ℕ
    d = minus p s r

    c : ℕ
    c = minus p a b

    d_is : Same p (d + r) s
    d_is = minus_is prime.0 s r

    c_is : Same p (c + b) a
    c_is = minus_is prime.0 a b

    cases : (d % p ≡ 0) ⊎ (c % p ≡ 0) → Same p s r ⊎ Same p a b
    cases (inl e) = inl (so (none p e ⊟ d_is) (omega arith))
    cases (inr e) = inr (so (none p e ⊟ c_is) (omega arith))
