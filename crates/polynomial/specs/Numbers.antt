-- Lists of elements as lists of numbers.
use Rattle.std.specs.Prelude.{◌≡◌, ℕ, zero, suc, ◌≤◌, List, [], ◌∷◌, map, take, drop, slice_index}
use Rattle.field.specs.declared.element.Element.{Element}

-- the numbers that the elements stand for
abbrev pub numbers : List Element → List ℕ
numbers = map (λ e. e.value)

-- nothing but zeros from n on
abbrev pub Clean : ℕ → List Element → Type 0
Clean n cs = (k : ℕ) → n ≤ k → slice_index (numbers cs) k ≡ 0

-- a list cut into so many rows, each of the given length
unfoldable pub cut : {A : Type 0} → (rows length : ℕ) → List A → List (List A)
cut zero n xs = []
cut (suc k) n xs = take n xs ∷ cut k n (drop n xs)
