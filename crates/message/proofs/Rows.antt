-- A row of numbers, read and written place by place.
use Rattle.std.proofs.Common.{◌≡◌, ℕ, zero, suc, ◌+◌, ◌*◌, ◌<◌, true, false, List, [], ◌∷◌, ◌++◌, length, get_or, take, drop, set, ltb, sym, refl, ap, ◌∙◌, add-zero, add-one, arith}
use Rattle.std.specs.Int.{to_be_bytes, w64}
use Rattle.std.proofs.lemmas.List.{take_more_set, map_push, at_drop_more}
use Rattle.std.proofs.lemmas.Bool.Decides.{nat_tests}
use Rattle.algebra.specs.Prime.{p}
use Rattle.field.specs.declared.element.Element.{Element}
use Rattle.polynomial.specs.Numbers.{numbers}
use Rattle.rules.specs.Wire.{be8, row, number8, row_at, small}

-- READING. One more number.
row_at_push : (bs : List ℕ) (i k : ℕ) → row_at bs i (suc k) ≡ row_at bs i k ++ number8 bs (i + 8 * k) ∷ []
unfolding row_at
row_at_push bs i zero = ap (λ j. number8 bs j ∷ []) (sym (add-zero i))
row_at_push bs i (suc k) =
    let there : i + 8 + 8 * k ≡ i + 8 * suc k = omega arith in
    ap (λ l. number8 bs i ∷ l) (row_at_push bs (i + 8) k ∙ ap (λ j. row_at bs (i + 8) k ++ number8 bs j ∷ []) there)

pub read_more : (bs : List ℕ) (i k : ℕ) (e : Element) (cs : List Element) → k < length cs → e.value ≡ number8 bs (i + 8 * k) → numbers (take k cs) ≡ row_at bs i k → numbers (take (k + 1) (set cs k e)) ≡ row_at bs i (k + 1)
read_more bs i k e cs lt same are =
    let e0 = take_more_set cs k e lt in
    let e1 = map_push (λ (c : Element). c.value) (take k cs) e in
    let e2 = row_at_push bs i k in
    cc (add-one k)

-- All of them are small; and no row with one that is not is.
pub small_numbers : (cs : List Element) → small (numbers cs) ≡ true
unfolding small
small_numbers [] = refl
small_numbers (c ∷ cs) = grind (arith, nat_tests, small_numbers cs, c.reduced)

pub too_large : (bs : List ℕ) (i n k : ℕ) → k < n → ltb (number8 bs (i + 8 * k)) p ≡ false → small (row_at bs i n) ≡ false
unfolding small row_at
too_large bs i zero k lt big = absurd (omega arith)
too_large bs i (suc n) zero lt big = grind (arith, nat_tests)
too_large bs i (suc n) (suc k) lt big =
    let there : i + 8 * suc k ≡ i + 8 + 8 * k = omega arith in
    grind (arith, nat_tests, too_large bs (i + 8) n k (omega arith) (rw (← there) big))

-- WRITING. Its bytes, and one more number.
pub be8_bytes : (n : ℕ) → to_be_bytes w64 n ≡ be8 n
unfolding be8
be8_bytes n = refl

pub row_first : (cs : List Element) (i : ℕ) (e : Element) → i < length cs → e ≡ get_or cs i e → row (numbers (drop i cs)) ≡ be8 e.value ++ row (numbers (drop (i + 1) cs))
unfolding row
row_first cs i e h is = at_drop_more (λ es. row (numbers es)) cs i e h ∙ ap (λ (x : Element). be8 x.value ++ row (numbers (drop (i + 1) cs))) (sym is)
