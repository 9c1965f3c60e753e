-- Sums and multiples, place by place.
use Rattle.std.proofs.Common.{◌≡◌, ℕ, zero, suc, ◌+◌, ◌*◌, ◌%◌, ◌<◌, ◌≤◌, max, List, [], ◌∷◌, map, length, get_or, take, sym, refl, ap, ◌∙◌, mod-eq_of_lt, mul-zero, arith}
use native.Mathlib.Decide.{dec_le}
use native.Mathlib.Nat.{zero-mod}
use Rattle.algebra.specs.Polynomial.{plus, times}
use Rattle.algebra.specs.Prime.{p}
use Rattle.algebra.proofs.Coefficients.{length-plus}
use Rattle.field.specs.declared.element.Element.{Element}
use Rattle.polynomial.specs.Numbers.{numbers, Clean}
use Rattle.polynomial.proofs.Places.{number_small, number_past, front_same, front_is, length_front, map_front}

pub plus_at : (xs ys : List Element) (k : ℕ) → get_or (plus p (numbers xs) (numbers ys)) k 0 ≡ (get_or (numbers xs) k 0 + get_or (numbers ys) k 0) % p
unfolding plus
plus_at [] ys k = omega (arith, mod-eq_of_lt (number_small ys k))
plus_at (x ∷ xs) [] k = omega (arith, mod-eq_of_lt (number_small (x ∷ xs) k))
plus_at (x ∷ xs) (y ∷ ys) zero = refl
plus_at (x ∷ xs) (y ∷ ys) (suc k) = plus_at xs ys k

pub times_at : (s : ℕ) (cs : List ℕ) (k : ℕ) → get_or (times p s cs) k 0 ≡ (s * get_or cs k 0) % p
unfolding times
times_at s [] k = omega arith
times_at s (c ∷ cs) zero = refl
times_at s (c ∷ cs) (suc k) = times_at s cs k

-- the numbers at a place
abbrev pub at : List Element → ℕ → ℕ
at cs k = get_or (numbers cs) k 0

pub plus_clean : (n m : ℕ) (xs ys cs : List Element) → Clean n xs → Clean m ys → ((k : ℕ) → k < length cs → at cs k ≡ (at xs k + at ys k) % p) → Clean (max n m) cs
plus_clean n m xs ys cs hx hy all k le = go (dec_le (length cs) k)
  where
    go : Dec (length cs ≤ k) → at cs k ≡ 0
    go (yes past) = number_past cs k past
    go (no inside) = omega (arith, all k (omega arith), hx k (omega arith), hy k (omega arith))

pub plus_whole : (n m : ℕ) (xs ys cs : List Element) → n ≤ length xs → m ≤ length ys → max n m ≤ length cs → Clean n xs → Clean m ys → ((k : ℕ) → k < length cs → at cs k ≡ (at xs k + at ys k) % p) →
    numbers (take (max n m) cs) ≡ plus p (numbers (take n xs)) (numbers (take m ys))
plus_whole n m xs ys cs ln lm l hx hy all =
    front_is (max n m) cs (plus p (numbers (take n xs)) (numbers (take m ys))) l
    (omega (arith, length-plus p (numbers (take n xs)) (numbers (take m ys)), length_front n xs ln, length_front m ys lm))
    (λ k lt. all k (omega arith) ∙ ap (λ s. s % p) (omega (arith, front_same n xs hx k, front_same m ys hy k)) ∙ sym (plus_at (take n xs) (take m ys) k))

-- what `map` gives
times_map : (s : ℕ) (xs : List Element) → times p s (numbers xs) ≡ map (λ (c : Element). (s * c.value) % p) xs
unfolding times
times_map s [] = refl
times_map s (x ∷ xs) = ap (λ l. (s * x.value) % p ∷ l) (times_map s xs)

pub times_clean : (n : ℕ) (s : Element) (xs cs : List Element) → Clean n xs → numbers cs ≡ map (λ (c : Element). (s.value * c.value) % p) xs → Clean n cs
times_clean n s xs cs hx e k le = ap (λ l. get_or l k 0) (e ∙ sym (times_map s.value xs)) ∙ times_at s.value (numbers xs) k ∙ ap (λ z. (s.value * z) % p) (hx k le) ∙ rw (mul-zero s.value) (zero-mod p)

pub times_whole : (n : ℕ) (s : Element) (xs cs : List Element) → numbers cs ≡ map (λ (c : Element). (s.value * c.value) % p) xs → numbers (take n cs) ≡ times p s.value (numbers (take n xs))
times_whole n s xs cs e = map_front n (λ (c : Element). (s.value * c.value) % p) xs cs e ∙ sym (times_map s.value (take n xs))
