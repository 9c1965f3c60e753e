-- A polynomial's value by Horner's rule, from the highest coefficient down.
use Rattle.std.proofs.Common.{◌≡◌, ◌+◌, ◌*◌, ◌%◌, List, [], ◌∷◌, ◌∙◌, length, sym, ap, mod-eq_of_lt, arith}
use Rattle.std.proofs.lemmas.List.{nil_from_length}
use Rattle.algebra.specs.Polynomial.{value}
use Rattle.algebra.specs.Prime.{p}
use Rattle.field.specs.declared.element.Element.{Element}
use Rattle.polynomial.specs.Numbers.{numbers}

pub start : (x a : Element) → a.value ≡ value p (numbers (a ∷ [])) x.value
unfolding value
start x a = sym (ap (λ m. m % p) (omega arith) ∙ mod-eq_of_lt a.reduced)

pub turn : (x c a b : Element) (cs : List Element) → a.value ≡ value p (numbers cs) x.value → b.value ≡ (c.value + x.value * a.value) % p → b.value ≡ value p (numbers (c ∷ cs)) x.value
unfolding value
turn x c a b cs is s = cc

pub nothing : (x a : Element) (cs : List Element) → length cs ≡ 0 → a.value ≡ 0 → a.value ≡ value p (numbers cs) x.value
unfolding value
nothing x a cs len z = z ∙ sym (ap (λ l. value p (numbers l) x.value) (nil_from_length cs len))
