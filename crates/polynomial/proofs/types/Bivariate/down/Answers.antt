use Rattle.std.proofs.Common.{◌≡◌, List, map, rules}
use Rattle.algebra.specs.Polynomial.{set_first}
use Rattle.algebra.specs.Prime.{p}
use Rattle.polynomial.specs.declared.types.Polynomial.{Polynomial}
use Rattle.polynomial.specs.Lists.{coeffs}
use Rattle.polynomial.proofs.Calls.{folded_back}
use Rattle.polynomial.proofs.Rows.{down_start, down_turn}
use Rattle.polynomial.proofs.types.Bivariate.down.Goals as goal

pub returns : goal.returns
returns c =
    let x = c.args.x.value in
    folded_back _ (λ (rows : List Polynomial) (f : Polynomial). coeffs f ≡ set_first p (map coeffs rows) x) (λ rows f h r q is k. (search (rules, down_turn), search rules)) c.rev.result _ _ _ (cc) (down_start x c.zero.result c.zero.ensures.0) c.fold.ensures.ran
