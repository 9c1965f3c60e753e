-- A product of many factors modulo p, one factor after another.
use Rattle.std.proofs.Common.{◌≡◌, ℕ, ◌+◌, ◌*◌, ◌%◌, ◌^◌, ap, ◌∙◌, pow-suc, add-one, arith}
use Rattle.algebra.specs.Prime.{p}
use Rattle.algebra.proofs.Same.{back, rest, so, ◌⊠◌}

-- one factor more
pub more : (a b k r s : ℕ) → r ≡ (a * b ^ k) % p → s ≡ (r * b) % p → s ≡ (a * b ^ (k + 1)) % p
more a b k r s e f = f ∙ rest (so (b ⊠ back p e) (omega (arith, ap (λ n. a * n) (ap (λ n. b ^ n) (add-one k) ∙ pow-suc b k))))
