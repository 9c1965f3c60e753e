-- Places of a table, as the rules speak of them.
use Rattle.std.proofs.Common.{◌≡◌, ℕ, zero, suc, List, [], ◌∷◌, map, get_or, refl}
use Rattle.std.proofs.lemmas.List.{map-set}

pub row : {A B : Type 0} (f : A → B) (xs : List (List A)) (i : ℕ) → get_or (map (map f) xs) i [] ≡ map f (get_or xs i [])
row f [] i = refl
row f (x ∷ xs) zero = refl
row f (x ∷ xs) (suc i) = row f xs i

-- a place that is written
pub ruleset written = (map-set, row)
