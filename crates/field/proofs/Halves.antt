-- The product of two words below p by their halves of 32 bits.
use Rattle.std.proofs.Common.{◌≡◌, ℕ, ◌+◌, ◌*◌, ◌/◌, ◌%◌, ◌<◌, ◌≤◌, sym, ap, ◌∙◌, arith}
use native.Mathlib.Nat.{div-add-mod, mul-add-mod_self_left}
use lib.Bits.{bit_and, and_mask}
use Rattle.std.proofs.lemmas.Nat.{mul-le}
use Rattle.algebra.specs.Prime.{p}

abbrev half : ℕ
half = 4294967296

pub halves : (a b : ℕ) → a * b ≡ half * (half * ((a / half) * (b / half)) + ((a / half) * (b % half) + (a % half) * (b / half))) + (a % half) * (b % half)
halves a b = omega (arith, ap (λ n. n * b) (div-add-mod a half), ap (λ n. (a / half) * n) (div-add-mod b half), ap (λ n. (a % half) * n) (div-add-mod b half))

-- how large the products of the halves are
pub record Small (a b : ℕ) : Type 0 where
  pub hh : (a / half) * (b / half) ≤ 536870911 * 536870911
  pub hl : (a / half) * (b % half) ≤ 536870911 * 4294967295
  pub lh : (a % half) * (b / half) ≤ 4294967295 * 536870911
  pub ll : (a % half) * (b % half) ≤ 4294967295 * 4294967295

pub small : (a b : ℕ) → a < p → b < p → Small a b
small a b h k =
    record {
      hh = mul-le (a / half) (b / half) 536870911 536870911 (omega arith) (omega arith);
      hl = mul-le (a / half) (b % half) 536870911 4294967295 (omega arith) (omega arith);
      lh = mul-le (a % half) (b / half) 4294967295 536870911 (omega arith) (omega arith);
      ll = mul-le (a % half) (b % half) 4294967295 4294967295 (omega arith) (omega arith);
    }

-- what differs by a multiple of p has one remainder
by : (n k s : ℕ) → n ≡ p * k + s → s % p ≡ n % p
by n k s e = sym (ap (λ m. m % p) e ∙ mul-add-mod_self_left p k s)

-- 2 ^ 64 is 8, and 2 ^ 61 is 1
pub folded : (n x m l c : ℕ) → n ≡ half * (half * x + m) + l → x ≤ 536870911 * 536870911 →
    (x * 8 % 18446744073709551616 + m / 536870912 + m % 536870912 * half % 18446744073709551616 + l % 2305843009213693952 + l / 2305843009213693952 + c) % p ≡ (c + n) % p
folded n x m l c e h =
    by (c + n) (8 * x + m / 536870912 + l / 2305843009213693952)
    (x * 8 % 18446744073709551616 + m / 536870912 + m % 536870912 * half % 18446744073709551616 + l % 2305843009213693952 + l / 2305843009213693952 + c)
    (omega arith)

pub low29 : (n : ℕ) → bit_and n 536870911 ≡ n % 536870912
low29 n = and_mask n 29

pub low32 : (n : ℕ) → bit_and n 4294967295 ≡ n % 4294967296
low32 n = and_mask n 32

pub low61 : (n : ℕ) → bit_and n 2305843009213693951 ≡ n % 2305843009213693952
low61 n = and_mask n 61
