use Rattle.std.proofs.Common.{◌≡◌, List, [], ◌∷◌, ◌++◌, arith, rules}
use Rattle.algebra.specs.Polynomial.{value}
use Rattle.algebra.specs.Prime.{p}
use Rattle.field.specs.declared.element.Element.{Element}
use Rattle.polynomial.specs.Numbers.{numbers}
use Rattle.polynomial.proofs.Calls.{folded_back}
use Rattle.polynomial.proofs.Horner.{start, turn, nothing}
use Rattle.polynomial.proofs.polynomial.horner.Goals as goal

pub returns-in_default : goal.returns-in_default
returns-in_default c = nothing c.args.x c.zero.result c.args.cs.now (omega (arith, c.in_default.ensures)) c.zero.ensures

pub returns : goal.returns
returns c =
    let x = c.args.x in
    let top = c.in-Some.top.now in
    let whole : c.args.cs.now ≡ c.in-Some.rest.now ++ top ∷ [] = search rules in
    rw whole (folded_back _ (λ (cs : List Element) (a : Element). a.value ≡ value p (numbers (cs ++ top ∷ [])) x.value) (λ cs a b e f h k. (turn x e.now a b (cs ++ top ∷ []) h (search rules), search rules)) c.rev.result c.in-Some.rest.now _ _ (cc) (start x top) c.fold.ensures.ran)
