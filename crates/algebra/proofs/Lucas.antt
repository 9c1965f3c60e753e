-- 2 ^ 61 - 1 is a prime, by the test of Lucas and Lehmer: the sequence V = 2, 4, 14, 52, .., each four times the last less the one before, is 0 modulo it at 2 ^ 59.
-- A divisor q up to the square root would make V repeat modulo q too soon: the pairs of neighbours are too few (pigeonhole), and the period can be halved until V would be 0 at 0.
use mathlib.Core.Path.{◌≡◌, refl, sym, ap, ◌∙◌}
use Prim.Native.Nat.{ℕ, zero, suc, ◌+◌, ◌-◌, ◌*◌, ◌%◌, ◌/◌, ◌^◌, ◌<◌, ◌≤◌, ◌∣◌}
use mathlib.Core.Logic.{◌⊎◌, inl, inr, ◌≢◌}
use native.Mathlib.Nat.{mul-add, mul-suc, suc-mul, suc-add, mul_left_comm, mul_comm, pow-suc, add-mod_right, mod-mod, mod-lt, zero-mod, mod-mod_of_dvd, dvd-sub, dvd-mul_right_of_dvd, dvd_of_mod-eq-zero, eq-one_of_dvd-one}
use lib.Arith.{digits_lt, digits_div, digits_mod}
use lib.Pow.{pow_pos}
use native.Mathlib.Decide.{ℕ_discrete}
use native.Mathlib.Omega.{arith}
use Rattle.algebra.specs.Prime.{Prime, p}
use Rattle.algebra.proofs.Same.{same, rest, so, ◌⊞◌, ◌⊟◌, ◌⊠◌}
use Rattle.algebra.proofs.Inverse.{prime}

-- remainders of sums, differences and products
plus : (q a b c d : ℕ) → a % q ≡ b % q → c % q ≡ d % q → (a + c) % q ≡ (b + d) % q
plus q a b c d e f = rest (same q a b e ⊞ same q c d f)

minus : (q a b c d : ℕ) → (a + c) % q ≡ (b + d) % q → c % q ≡ d % q → a % q ≡ b % q
minus q a b c d e f = rest (so {a = a} {b = b} (same q (a + c) (b + d) e ⊟ same q c d f) (omega arith))

times : (q a b c : ℕ) → a % q ≡ b % q → (a * c) % q ≡ (b * c) % q
times q a b c e = rest (so {a = a * c} {b = b * c} (c ⊠ same q a b e) (omega arith))

V : ℕ → ℕ
V zero = 2
V (suc zero) = 4
V (suc (suc n)) = 4 * V (suc n) - V n

starts : (V 0 ≡ 2) × (V 1 ≡ 4)
unfolding V
starts = (refl, refl)

rises : (n : ℕ) → V n ≤ V (suc n)
unfolding V
rises zero = omega arith
rises (suc n) = omega (arith, rises n)

-- V, and V from any place on, are such
abbrev Next : (ℕ → ℕ) → Type 0
Next W = (n : ℕ) → W n + W (suc (suc n)) ≡ 4 * W (suc n)

next : Next V
unfolding V
next n = omega (arith, rises n)

sums : (n m a b : ℕ) → a ≡ m + n → b ≡ a + n → V b + V m ≡ V a * V n
sums zero m a b e f =
    let a≡m : a ≡ m = omega arith in
    let b≡m : b ≡ m = omega arith in
    rw starts.0 (omega (arith, ap V a≡m, ap V b≡m))
sums (suc zero) m a b e f =
    let a≡ : a ≡ suc m = omega arith in
    let b≡ : b ≡ suc (suc m) = omega arith in
    rw starts.1 (omega (arith, ap V a≡, ap V b≡, next m))
sums (suc (suc n)) m a b e f =
    let b≡ : b ≡ suc (suc (a + n)) = omega arith in
    omega (
      arith,
      ap V b≡,
      sums (suc n) (suc m) a (suc (a + n)) (omega arith) (omega arith),
      sums n (suc (suc m)) a (a + n) (omega arith) refl,
      next m,
      next (a + n),
      ap (λ z. V a * z) (next n),
      mul-add (V a) (V n) (V (suc (suc n))),
      mul_left_comm (V a) 4 (V (suc n)),
    )

-- two such sequences that agree modulo q at two places on end agree everywhere
module _ (q : ℕ) (W X : ℕ → ℕ) (w : Next W) (x : Next X) where
  abbrev At : ℕ → Type 0
  At n = (W n % q ≡ X n % q) × (W (suc n) % q ≡ X (suc n) % q)

  turn : (a b c a' b' c' : ℕ) → a + c ≡ 4 * b → a' + c' ≡ 4 * b' → a % q ≡ a' % q → b % q ≡ b' % q → c % q ≡ c' % q
  turn a b c a' b' c' e f h k =
      minus q c c' a a' (ap (λ z. z % q) (omega arith) ∙ times q b b' 4 k ∙ ap (λ z. z % q) (omega arith)) h

  back : (n : ℕ) → At n → At 0
  back zero h = h
  back (suc n) h = back n (turn _ _ _ _ _ _ (omega (arith, w n)) (omega (arith, x n)) h.1 h.0, h.0)

  forth : At 0 → (n : ℕ) → At n
  forth h zero = h
  forth h (suc n) = let k : At n = forth h n in (k.1, turn _ _ _ _ _ _ (w n) (x n) k.0 k.1)

  agree : (i : ℕ) → At i → (n : ℕ) → W n % q ≡ X n % q
  agree i h n = (forth (back i h) n).0

parity : (d : ℕ) → (d ≡ d / 2 + d / 2) ⊎ (d ≡ suc (d / 2 + d / 2))
parity d = elim (ℕ_discrete (d % 2) 0) [ yes z ↦ inl (omega arith) | no z ↦ inr (omega arith) ]

module _ (q : ℕ) where
  -- W repeats after d
  abbrev Repeats : (ℕ → ℕ) → ℕ → Type 0
  Repeats W d = (x : ℕ) → W (x + d) % q ≡ W x % q

  -- W turns its sign after h
  abbrev Turns : (ℕ → ℕ) → ℕ → Type 0
  Turns W h = (x : ℕ) → (W (x + h) + W x) % q ≡ 0 % q

  many : (W : ℕ → ℕ) (d : ℕ) → Repeats W d → (t : ℕ) → Repeats W (t * d)
  many W d r zero x = ap (λ z. W z % q) (omega arith)
  many W d r (suc t) x = ap (λ z. W z % q) (omega (arith, suc-mul t d)) ∙ r (x + t * d) ∙ many W d r t x

  odd : (W : ℕ → ℕ) (e h : ℕ) → Repeats W (suc (e + e)) → Turns W h → (W 0 + W 0) % q ≡ 0 % q
  odd W e h r t = plus q (W 0) (W (0 + h)) (W 0) (W 0) same refl ∙ t 0
    where
      twice : Repeats W (h + h)
      twice x =
          minus q (W (x + (h + h))) (W x) (W (x + h)) (W (x + h))
          (ap (λ z. (W z + W (x + h)) % q) (omega arith) ∙ t (x + h) ∙ sym (t x) ∙ ap (λ z. z % q) (omega arith))
          refl

      same : W 0 % q ≡ W (0 + h) % q
      same =
          sym (many W (suc (e + e)) r h 0) ∙
          ap (λ z. W z % q) (omega (arith, mul-suc h (e + e), mul-add h e e, mul-add e h h, mul_comm e h)) ∙
          many W (h + h) twice e (0 + h)

  halve : (k d : ℕ) (W : ℕ → ℕ) → 0 < d → d < 2 ^ suc k → Repeats W d → Turns W (2 ^ k) → (W 0 + W 0) % q ≡ 0 % q
  halve zero d W l m r t = let one : d ≡ suc (0 + 0) = omega arith in odd W 0 1 (rw one at r) t
  halve (suc k) d W l m r t =
      elim (parity d) [
        | inl e ↦
            halve k (d / 2) (λ x. W (x + x)) (omega arith) (omega (arith, pow-suc 2 (suc k)))
            (λ x. ap (λ z. W z % q) (omega arith) ∙ r (x + x))
            (λ x. ap (λ z. (W z + W (x + x)) % q) (omega (arith, pow-suc 2 k)) ∙ t (x + x))
        | inr o ↦ odd W (d / 2) (2 ^ suc k) (rw o at r) t
      ]

-- the pigeonhole
move : ℕ → ℕ → ℕ → ℕ
move v n x = elim (ℕ_discrete x n) [ yes _ ↦ v | no _ ↦ x ]

moved : (v n x : ℕ) → ((x ≡ n) × (move v n x ≡ v)) ⊎ ((x ≢ n) × (move v n x ≡ x))
unfolding move
moved v n x = go (ℕ_discrete x n)
  where
    go : (d : Dec (x ≡ n)) → ((x ≡ n) × (elim d [ yes _ ↦ v | no _ ↦ x ] ≡ v)) ⊎ ((x ≢ n) × (elim d [ yes _ ↦ v | no _ ↦ x ] ≡ x))
    go (yes e) = inl (e, refl)
    go (no e) = inr (e, refl)

pigeon : (n : ℕ) (f : ℕ → ℕ) → ((i : ℕ) → i ≤ n → f i < n) → ((i j : ℕ) → i < j → j ≤ n → f i ≢ f j) → ⊥
pigeon zero f low apart = omega (arith, low 0 (omega arith))
pigeon (suc n) f low apart =
    pigeon n (λ i. move (f (suc n)) n (f i))
    (λ i h. omega (arith, moved (f (suc n)) n (f i), low i (omega arith), low (suc n) (omega arith), apart i (suc n) (omega arith) (omega arith)))
    (λ i j h k. omega (arith, moved (f (suc n)) n (f i), moved (f (suc n)) n (f j), apart i j h (omega arith), apart i (suc n) (omega arith) (omega arith), apart j (suc n) (omega arith) (omega arith)))

-- what the test computes: V at the powers of two, modulo p
step : ℕ → ℕ → ℕ
step p x = (x * x + (p - 2)) % p

unfoldable pub lehmer : ℕ → ℕ → ℕ
unfolding step
lehmer p zero = 4
lehmer p (suc k) = step p (lehmer p k)

residue : (p k : ℕ) → 2 ≤ p → V (2 ^ k) % p ≡ lehmer p k % p
unfolding lehmer
residue p zero h = ap (λ z. z % p) starts.1
residue p (suc k) h =
    let n : ℕ = 2 ^ k in
    let x : ℕ = lehmer p k in
    let ih : V n % p ≡ x % p = residue p k h in
    let square : V (2 ^ suc k) + 2 ≡ V n * V n = omega (arith, sums n 0 n (2 ^ suc k) (omega arith) (omega (arith, pow-suc 2 k)), starts.0) in
    minus p (V (2 ^ suc k)) (x * x + (p - 2)) 2 2
    (ap (λ z. z % p) square ∙ times p (V n) x (V n) ih ∙ ap (λ z. z % p) (mul_comm x (V n)) ∙ times p (V n) x x ih ∙
    sym (add-mod_right (x * x) p) ∙ ap (λ z. z % p) (omega arith))
    refl ∙
    sym (mod-mod (x * x + (p - 2)) p)

module _ (p k : ℕ) (size : suc p ≡ 2 ^ suc (suc k)) (last : lehmer p k ≡ 0) where
  four : suc p ≡ 4 * 2 ^ k
  four = omega (arith, pow-suc 2 k, pow-suc 2 (suc k))

  two : 2 ≤ p
  two = omega (arith, four, pow_pos k)

  module _ (q c : ℕ) (parts : p ≡ q * c) (big : 2 ≤ q) where
    divides : q ∣ p
    divides = ∣ (c, parts) ∣₁

    vanishes : V (2 ^ k) % q ≡ 0 % q
    vanishes = sym (mod-mod_of_dvd q (V (2 ^ k)) divides) ∙ ap (λ z. z % q) (residue p k two ∙ ap (λ z. z % p) last ∙ zero-mod p)

    turns : Turns q V (2 ^ suc k)
    turns x =
        ap (λ z. z % q) (sums (2 ^ k) x (x + 2 ^ k) (x + 2 ^ suc k) refl (omega (arith, pow-suc 2 k)) ∙ mul_comm (V (x + 2 ^ k)) (V (2 ^ k))) ∙
        times q (V (2 ^ k)) 0 (V (x + 2 ^ k)) vanishes ∙ ap (λ z. z % q) (omega arith)

    never : (d : ℕ) → 0 < d → d ≤ p → Repeats q V d → ⊥
    never d l m r =
        let zero-at : 4 % q ≡ 0 = ap (λ z. z % q) (omega (arith, starts.0)) ∙ halve q (suc k) d V l (omega (arith, size)) r turns ∙ zero-mod q in
        let by-four : q ∣ 4 * 2 ^ k - p = dvd-sub q (dvd-mul_right_of_dvd q (dvd_of_mod-eq-zero q zero-at) (2 ^ k)) divides in
        let left : 4 * 2 ^ k - p ≡ 1 = omega (arith, four) in
        omega (arith, eq-one_of_dvd-one (rw left at by-four))

    shifted : (d : ℕ) → Next (λ x. V (x + d))
    shifted d n = simp suc-add (next (n + d))

    no_small : q * q ≤ p → ⊥
    no_small small =
        let pos : 0 < q = omega arith in
        pigeon (q * q) (λ i. V i % q * q + V (suc i) % q)
        (λ i h. digits_lt (mod-lt (V i) pos) (mod-lt (V (suc i)) pos))
        (λ i j h m e.
        let here : V i % q ≡ V j % q = sym (digits_div (V i % q) (mod-lt (V (suc i)) pos)) ∙ ap (λ z. z / q) e ∙ digits_div (V j % q) (mod-lt (V (suc j)) pos) in
        let after : V (suc i) % q ≡ V (suc j) % q = sym (digits_mod (V i % q) (mod-lt (V (suc i)) pos)) ∙ ap (λ z. z % q) e ∙ digits_mod (V j % q) (mod-lt (V (suc j)) pos) in
        never (j - i) (omega arith) (omega arith)
        (agree q (λ x. V (x + (j - i))) V (shifted (j - i)) next i
        (ap (λ z. V z % q) (omega arith) ∙ sym here, ap (λ z. V z % q) (omega arith) ∙ sym after)))

  pub mersenne : Prime p
  mersenne = prime p two no_small

pub modulus_prime : Prime p
unfolding lehmer
modulus_prime = mersenne p 59 refl refl
