-- What a loop that prints has printed in the end.
use Rattle.std.proofs.Common.{◌≡◌, ℕ, ◌≤◌, List, ◌∷◌, ◌++◌, map, length, take, sym, ap, ◌∙◌}
use Rattle.std.proofs.lemmas.List.{take_all}
use Rattle.std.proofs.lemmas.List.Folds.{flat_map-map}
use Rattle.std.specs.List.{flat_map, join_by}

-- the first piece, and then each of the others after what stands between
pub joined : {X Y : Type 0} (f : Y → List ℕ) (between : List ℕ) (v : X → Y) (x : X) (rest : List X) (i : ℕ) → length rest ≤ i → f (v x) ++ flat_map (λ z. between ++ f (v z)) (take i rest) ≡ join_by f between (map v (x ∷ rest))
joined f between v x rest i all =
    ap (λ l. f (v x) ++ flat_map (λ z. between ++ f (v z)) l) (take_all i rest all) ∙ ap (λ l. f (v x) ++ l) (sym (flat_map-map (λ y. between ++ f y) v rest))
