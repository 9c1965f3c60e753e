-- The shares that an honest dealer deals.
use Rattle.std.proofs.Common.{◌≡◌, ℕ, ◌<◌, ◌≤◌, List, sym, ◌∙◌, arith}
use Rattle.algebra.specs.Prime.{Prime}
use Rattle.algebra.specs.Polynomial.{Exact, Exact2, set_first, set_second}
use Rattle.algebra.specs.Sharing.{point, share_of, Of}
use Rattle.rules.specs.Deal.{Group, Lengths}
use Rattle.algebra.proofs.Same.{Same, so, ◌⊞◌, ◌⊟◌}
use Rattle.algebra.proofs.Evaluation.{eval, down}
use Rattle.algebra.proofs.Rows.{eval2, value2_is}
use Rattle.algebra.proofs.Coefficients.{first_is, second_is, exact_first, exact_second, determined}

pub of_share : (p : ℕ) (rs : List (List ℕ)) (i : ℕ) → Of p rs i (share_of p rs i)
of_share p rs i = record {
  across = λ x. down p _ x (second_is p rs x (point i)) ∙ sym (value2_is p rs x (point i));
  down = λ y. down p _ y (first_is p rs (point i) y) ∙ sym (value2_is p rs (point i) y);
}

-- a dealt share is low enough
pub lengths-share : (p high low : ℕ) → 1 ≤ p → 1 ≤ high → (rs : List (List ℕ)) → Exact2 p high low rs → (i : ℕ) → Lengths high low (share_of p rs i)
lengths-share p high low one h1 rs drawn i = (omega (arith, (exact_second p rs (point i) one).count, drawn.count), omega (arith, (exact_first p low rs (point i) one (omega (arith, drawn.count)) drawn.each).count))

-- so two polynomials that are the same where keeper i looks give it the same share
pub share_same : (g : Group) → Prime g.p → (high low : ℕ) → 1 ≤ high → high < g.p → low < g.p → (rs qs : List (List ℕ)) → Exact2 g.p high low rs → Exact2 g.p high low qs →
    (i : ℕ) → ((z : ℕ) → Same g.p (eval2 rs z (point i)) (eval2 qs z (point i)) × Same g.p (eval2 rs (point i) z) (eval2 qs (point i) z)) → share_of g.p rs i ≡ share_of g.p qs i
share_same g prime high low h1 hh hl rs qs r q i s = λ k. record { across = across k; down = down' k }
  where
    p : ℕ
    p = g.p

    one : 1 ≤ p
    one = omega (arith, prime.0)

    second : (ts : List (List ℕ)) → Exact2 p high low ts → Exact p high (set_second p ts (point i))
    second ts t = record { count = (exact_second p ts (point i) one).count ∙ t.count; small = (exact_second p ts (point i) one).small }

    first : (ts : List (List ℕ)) → Exact2 p high low ts → Exact p low (set_first p ts (point i))
    first ts t = exact_first p low ts (point i) one (omega (arith, t.count)) t.each

    across_is : (ts : List (List ℕ)) (z : ℕ) → Same p (eval (set_second p ts (point i)) z) (eval2 ts z (point i))
    across_is ts z = second_is p ts z (point i)

    across : set_second p rs (point i) ≡ set_second p qs (point i)
    across = determined prime high hh _ _ (second rs r) (second qs q) (λ z. so (across_is rs z ⊞ (s z).0 ⊟ across_is qs z) (omega arith))

    down' : set_first p rs (point i) ≡ set_first p qs (point i)
    down' = determined prime low hl _ _ (first rs r) (first qs q) (λ z. so (first_is p rs (point i) z ⊞ (s z).1 ⊟ first_is p qs (point i) z) (omega arith))
