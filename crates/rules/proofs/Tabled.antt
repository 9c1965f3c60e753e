-- The worked cases, by computation.
use Rattle.std.proofs.Common.{◌≡◌, true, leb, [], ◌∷◌, map, refl}
use Rattle.algebra.specs.Prime.{p}
use Rattle.algebra.specs.Polynomial.{value, set_first, set_second, plus, times}
use Rattle.algebra.specs.Sharing.{share_of}
use Rattle.algebra.specs.Counting.{count}
use Rattle.rules.specs.Rounds.{hand, board, every, any, gather, Follows}
use Rattle.rules.specs.Course.{left, spoken, mails, boards, run}
use Rattle.rules.specs.Cases.{four, F, Case, Row, told, course, outcome, table, SharesOfF, TableHolds}
use Rattle.rules.proofs.Playing.{can_follow_lem}

kept : (c : Case) → Follows four c.lies (course c) (hand four (course c)) (board four (course c))
unfolding course
kept c = (can_follow_lem four c.lies (told c) (share_of p F)).0

shares_of_F : SharesOfF
unfolding value set_first set_second plus times
shares_of_F = (refl, refl)

few : map (λ (r : Row). leb (count 4 r.case.lies) 1) table ≡ true ∷ true ∷ true ∷ true ∷ []
unfolding count table
few = refl

comes : map (λ (r : Row). outcome (course r.case)) table ≡ map (λ (r : Row). r.comes) table
unfolding value set_first set_second plus times count hand board every any gather left spoken mails boards run told course outcome table
comes = refl

pub table_holds_lem : TableHolds
table_holds_lem = (shares_of_F, kept, few, comes)
