-- Powers modulo p by squares.
use Rattle.std.proofs.Common.{◌≡◌, ℕ, zero, suc, ◌+◌, ◌*◌, ◌/◌, ◌%◌, ◌^◌, sym, ap, ◌∙◌, pow-suc, arith, pow-add}
use native.Mathlib.Nat.{pow-zero}
use Rattle.algebra.specs.Prime.{p}
use Rattle.algebra.proofs.Same.{Same, back, equal, so, ◌⊞◌, ◌⊠◌}

pow_same : {x y : ℕ} → Same p x y → (k : ℕ) → Same p (x ^ k) (y ^ k)
pow_same {x} {y} s zero = equal (pow-zero x ∙ sym (pow-zero y))
pow_same {x} {y} s (suc k) = so (x ⊠ pow_same s k ⊞ (y ^ k) ⊠ s) (omega (arith, pow-suc x k, pow-suc y k))

pow_square : (b k : ℕ) → (b * b) ^ k ≡ b ^ k * b ^ k
pow_square b zero = rw (pow-zero (b * b), pow-zero b)
pow_square b (suc k) = rw (pow-suc (b * b) k, pow-suc b k, pow_square b k) (omega arith)

-- the square of b, to the half of n
squared : (b c n : ℕ) → c ≡ (b * b) % p → Same p (c ^ (n / 2)) (b ^ (n / 2 + n / 2))
squared b c n e = so (pow_same (back p e) (n / 2)) (omega (arith, pow_square b (n / 2), pow-add b (n / 2) (n / 2)))

pub even : (t r b c n : ℕ) → n % 2 ≡ 0 → c ≡ (b * b) % p → Same p (r * b ^ n) t → Same p (r * c ^ (n / 2)) t
even t r b c n z e s = let twice : n ≡ n / 2 + n / 2 = omega arith in so (s ⊞ r ⊠ squared b c n e) (omega (arith, ap (λ m. r * b ^ m) twice))

pub odd : (t r q b c n : ℕ) → n % 2 ≡ 1 → q ≡ (r * b) % p → c ≡ (b * b) % p → Same p (r * b ^ n) t → Same p (q * c ^ (n / 2)) t
odd t r q b c n z f e s =
    let twice : n ≡ suc (n / 2 + n / 2) = omega arith in
    so (s ⊞ (r * b) ⊠ squared b c n e ⊞ (c ^ (n / 2)) ⊠ back p f) (omega (arith, ap (λ m. r * b ^ m) twice, ap (λ m. r * m) (pow-suc b (n / 2 + n / 2))))
