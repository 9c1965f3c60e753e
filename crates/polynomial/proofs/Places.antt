-- What stands at each place of a list of elements, as a number.
use Rattle.std.proofs.Common.{◌≡◌, ℕ, zero, suc, ◌<◌, ◌≤◌, List, [], ◌∷◌, ◌++◌, map, length, get_or, take, drop, replicate, sym, refl, ap, ◌∙◌, arith}
use Rattle.std.proofs.lemmas.List.{get_or-map, get_or_past, length-map, length-take, get_or-take, ext_get_or, take-map}
use Rattle.algebra.specs.Prime.{p}
use Rattle.field.specs.declared.element.Element.{Element}
use Rattle.polynomial.specs.Numbers.{numbers, Clean}

pub length-numbers : (cs : List Element) → length (numbers cs) ≡ length cs
length-numbers cs = length-map cs (λ (e : Element). e.value)

-- what was read at a place
pub number_read : (cs : List Element) (i : ℕ) (e : Element) → i < length cs → e ≡ get_or cs i e → get_or (numbers cs) i 0 ≡ e.value
number_read cs i e h is = get_or-map (λ (c : Element). c.value) cs i e 0 h ∙ ap (λ c. c.value) (sym is)

pub number_past : (cs : List Element) (i : ℕ) → length cs ≤ i → get_or (numbers cs) i 0 ≡ 0
number_past cs i h = get_or_past (numbers cs) i 0 (omega (arith, length-numbers cs))

-- every number is below p
pub number_small : (cs : List Element) (k : ℕ) → get_or (numbers cs) k 0 < p
number_small [] k = omega arith
number_small (c ∷ cs) zero = c.reduced
number_small (c ∷ cs) (suc k) = number_small cs k

-- the front of what a `map` gives
pub map_front : {A : Type 0} (n : ℕ) (h : A → ℕ) (xs : List A) (cs : List Element) → numbers cs ≡ map h xs → numbers (take n cs) ≡ map h (take n xs)
map_front n h xs cs e = sym (take-map (λ (c : Element). c.value) n cs) ∙ ap (take n) e ∙ take-map h n xs

-- with zeros behind it, the front of a list has the same numbers everywhere
pub front_same : (n : ℕ) (cs : List Element) → Clean n cs → (k : ℕ) → get_or (numbers (take n cs)) k 0 ≡ get_or (numbers cs) k 0
front_same zero cs h k = sym (h k (omega arith))
front_same (suc n) [] h k = refl
front_same (suc n) (c ∷ cs) h zero = refl
front_same (suc n) (c ∷ cs) h (suc k) = front_same n cs (λ j le. h (suc j) (omega arith)) k

pub length_front : (n : ℕ) (cs : List Element) → n ≤ length cs → length (numbers (take n cs)) ≡ n
length_front n cs h = omega (arith, length-numbers (take n cs), length-take n cs)

-- the front of a list is known by its places
pub front_is : (n : ℕ) (cs : List Element) (l : List ℕ) → n ≤ length cs → length l ≡ n → ((k : ℕ) → k < n → get_or (numbers cs) k 0 ≡ get_or l k 0) → numbers (take n cs) ≡ l
front_is n cs l h len same =
    ext_get_or 0 (numbers (take n cs)) l (omega (arith, length_front n cs h))
    (λ k lt. let less : k < n = omega (arith, length_front n cs h) in
    ap (λ ns. get_or ns k 0) (sym (take-map (λ (e : Element). e.value) n cs)) ∙ get_or-take n (numbers cs) k 0 less ∙ same k less)

-- zeros behind a list that was copied to the front of zeros
zero_at : (z : Element) → z.value ≡ 0 → (n m k : ℕ) → get_or (numbers (drop n (replicate m z))) k 0 ≡ 0
zero_at z e zero zero k = refl
zero_at z e zero (suc m) zero = e
zero_at z e zero (suc m) (suc k) = zero_at z e zero m k
zero_at z e (suc n) zero k = refl
zero_at z e (suc n) (suc m) k = zero_at z e n m k

clean_after : (xs zs : List Element) → ((k : ℕ) → get_or (numbers zs) k 0 ≡ 0) → Clean (length xs) (xs ++ zs)
clean_after [] zs z k le = z k
clean_after (x ∷ xs) zs z zero le = absurd (omega arith)
clean_after (x ∷ xs) zs z (suc k) le = clean_after xs zs z k (omega arith)

pub copied_clean : (z : Element) → z.value ≡ 0 → (m : ℕ) (xs cs : List Element) → xs ≡ cs → Clean (length cs) (xs ++ drop (length cs) (replicate m z))
copied_clean z e m xs cs is = rw is (clean_after cs _ (zero_at z e (length cs) m))
