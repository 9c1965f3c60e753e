-- Polynomials as text.
use Rattle.std.specs.Prelude.{ℕ, List, [], ◌∷◌, ◌++◌, codes}
use Rattle.std.specs.Fmt.{decimal}
use Rattle.std.specs.List.{join_by}
use Rattle.algebra.specs.Sharing.{Pair, Share}

-- the coefficients, the lowest first, with blanks between them, or `-` where there are none
abbrev pub shown : List ℕ → List ℕ
shown [] = codes "-"
shown (c ∷ cs) = join_by decimal (codes " ") (c ∷ cs)

-- in two unknowns: row by row
abbrev pub shown_rows : List (List ℕ) → List ℕ
shown_rows = join_by shown (codes " / ")

-- a share, and what it gives at one point: both sides
abbrev pub sides : (across down : List ℕ) → List ℕ
sides across down = codes "across " ++ across ++ codes ", down " ++ down

abbrev pub shown_pair : Pair → List ℕ
shown_pair a = sides (decimal a.across) (decimal a.down)

abbrev pub shown_share : Share → List ℕ
shown_share x = sides (shown x.across) (shown x.down)
