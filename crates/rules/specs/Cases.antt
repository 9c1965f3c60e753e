-- Worked cases, as rows of one table: f = 1, keepers 0 to 3, dealer 0, F = 5 + 2x + 3y + xy.
use Rattle.std.specs.Prelude.{◌≡◌, ℕ, zero, suc, Bool, true, false, not, List, [], ◌∷◌, map, ◌==◌, nat_le}
use Rattle.algebra.specs.Counting.{count}
use Rattle.algebra.specs.Prime.{p}
use Rattle.algebra.specs.Polynomial.{value}
use Rattle.algebra.specs.Sharing.{Share, Pair, pair_at, share_of}
use Rattle.rules.specs.Deal.{Dealing, own}
use Rattle.rules.specs.Rounds.{Setting, Letter, Post, Deal, Told, Complaint, Reveal, Fine, Said, Lines, hand, board, free, read_off, Follows}
use Rattle.rules.specs.Course.{run}
use Rattle.rules.specs.Seat.{accepted}

abbrev pub four : Setting
four = record { p = p; f = 1; dealer = 0; high = 2; low = 2 }

abbrev pub F : List (List ℕ)
F = (5 ∷ 3 ∷ []) ∷ (2 ∷ 1 ∷ []) ∷ []

-- who lies, and what they say: to each keeper in rounds 1 and 2, and on the board in rounds 3, 4 and 5
pub record Case : Type 0 where
  pub lies : ℕ → Bool
  pub deals : ℕ → List (Said Letter)
  pub tells : ℕ → List (Said Letter)
  pub complains : List (Said Post)
  pub reveals : List (Said Post)
  pub judges : List (Said Post)

mail : Case → ℕ → ℕ → List (Said Letter)
mail c zero j = []
mail c (suc zero) j = c.deals j
mail c (suc (suc zero)) j = c.tells j
mail c (suc (suc (suc r))) j = []

lines : Case → ℕ → List (Said Post)
lines c zero = []
lines c (suc zero) = []
lines c (suc (suc zero)) = []
lines c (suc (suc (suc zero))) = c.complains
lines c (suc (suc (suc (suc zero)))) = c.reveals
lines c (suc (suc (suc (suc (suc zero))))) = c.judges
lines c (suc (suc (suc (suc (suc (suc r)))))) = []

-- the course of the dealing: the others keep the rules
unfoldable pub told : Case → Lines
unfolding mail lines
told c = record { mail = mail c; board = lines c }

unfoldable pub course : Case → Lines
course c = run four c.lies (told c) (share_of p F)

-- what comes of it: is it accepted; who says that all fits, and who is revealed, from keeper 0 to 3; and the values of the shares that they go on with
pub record Outcome : Type 0 where
  pub accepts : Bool
  pub fine : List Bool
  pub revealed : List Bool
  pub values : List ℕ

abbrev each : {A : Type 0} → (ℕ → A) → List A
each g = g 0 ∷ g 1 ∷ g 2 ∷ g 3 ∷ []

abbrev pub read_it : Lines → Dealing
read_it l = read_off four (hand four l 5) (board four l 5)

unfoldable pub outcome : Lines → Outcome
outcome l = record {
  accepts = accepted four (board four l 5);
  fine = each (λ i. (read_it l).fine i);
  revealed = each (λ i. not (free ((read_it l).reveals i)));
  values = each (λ i. value p (own (read_it l) i).across 0);
}

abbrev by : {W : Type 0} → ℕ → W → Said W
by i w = record { by = i; word = w }

abbrev share : (across down : List ℕ) → Share
share a d = record { across = a; down = d }

abbrev pair : (across down : ℕ) → Pair
pair a d = record { across = a; down = d }

-- A. Nobody lies: keeper 0's across is 8 3 and its down 7 4, keeper 2's value is 14.
case_a : Case
case_a = record { lies = λ i. false; deals = λ j. []; tells = λ j. []; complains = []; reveals = []; judges = [] }

-- what the dealer gives in case B: to keeper 1 an across of 8 3, to the others what they should have
dealt_b : ℕ → Share
dealt_b zero = share_of p F 0
dealt_b (suc zero) = share (8 ∷ 3 ∷ []) (9 ∷ 5 ∷ [])
dealt_b (suc (suc j)) = share_of p F (suc (suc j))

-- B. The dealer lies, and gives keeper 1 an across of 8 3. Keeper 1 disagrees with all others; the complaints clash. The dealer reveals its share, as it must,
case_b : Case
unfolding dealt_b
case_b = record {
  lies = λ i. (i == 0);
  deals = λ j. by 0 (Deal (dealt_b j)) ∷ [];
  tells = λ j. by 0 (Told (pair_at p (share_of p F 0) j)) ∷ [];
  complains = [];
  reveals = by 0 (Reveal 1 (share_of p F 1)) ∷ [];
  judges = by 0 (Fine true) ∷ [];
}

-- or doesn't: then the others aren't fine.
case_b' : Case
unfolding dealt_b
case_b' = record {
  lies = λ i. (i == 0);
  deals = λ j. by 0 (Deal (dealt_b j)) ∷ [];
  tells = λ j. by 0 (Told (pair_at p (share_of p F 0) j)) ∷ [];
  complains = [];
  reveals = [];
  judges = by 0 (Fine true) ∷ [];
}

-- what keeper 3 tells in case C
told_c : ℕ → Pair
told_c zero = pair 23 21
told_c (suc j) = pair_at p (share_of p F 3) (suc j)

-- C. Keeper 3 lies: it tells keeper 0 a wrong number (its across there is 23, its down 20), and complains about it with wrong numbers.
case_c : Case
unfolding told_c
case_c = record {
  lies = λ i. (i == 3);
  deals = λ j. [];
  tells = λ j. by 3 (Told (told_c j)) ∷ [];
  complains = by 3 (Complaint 0 (pair 9 9)) ∷ [];
  reveals = [];
  judges = by 3 (Fine true) ∷ [];
}

pub record Row : Type 0 where
  pub case : Case
  pub comes : Outcome

unfoldable pub table : List Row
unfolding case_a case_b case_b' case_c
table =
    record { case = case_a; comes = record { accepts = true; fine = true ∷ true ∷ true ∷ true ∷ []; revealed = false ∷ false ∷ false ∷ false ∷ []; values = 8 ∷ 11 ∷ 14 ∷ 17 ∷ [] } }
    ∷ record { case = case_b; comes = record { accepts = true; fine = true ∷ false ∷ true ∷ true ∷ []; revealed = false ∷ true ∷ false ∷ false ∷ []; values = 8 ∷ 11 ∷ 14 ∷ 17 ∷ [] } }
    ∷ record { case = case_b'; comes = record { accepts = false; fine = true ∷ false ∷ false ∷ false ∷ []; revealed = false ∷ false ∷ false ∷ false ∷ []; values = 8 ∷ 0 ∷ 14 ∷ 17 ∷ [] } }
    ∷ record { case = case_c; comes = record { accepts = true; fine = true ∷ true ∷ true ∷ true ∷ []; revealed = false ∷ false ∷ false ∷ true ∷ []; values = 8 ∷ 11 ∷ 14 ∷ 17 ∷ [] } }
    ∷ []

-- The shares of F, and the whole table.
abbrev pub SharesOfF : Type 0
SharesOfF = (share_of p F 0 ≡ share (8 ∷ 3 ∷ []) (7 ∷ 4 ∷ [])) × (value p (share_of p F 2).across 0 ≡ 14)

-- In each row at most one keeper lies and the others keep the rules; and what comes of it is what stands there.
abbrev pub TableHolds : Type 0
TableHolds =
    SharesOfF ×
    ((c : Case) → Follows four c.lies (course c) (hand four (course c)) (board four (course c))) ×
    (map (λ (r : Row). nat_le (count 4 r.case.lies) 1) table ≡ true ∷ true ∷ true ∷ true ∷ []) ×
    (map (λ (r : Row). outcome (course r.case)) table ≡ map (λ (r : Row). r.comes) table)
