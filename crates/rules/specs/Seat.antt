-- One keeper's seat in one dealing: which messages it takes and what they change, what it says in each round, and what it keeps in the end.
use Rattle.std.specs.Prelude.{ℕ, ◌+◌, ◌*◌, Bool, false, cond, not, ◌&&◌, ◌||◌, List, Some, None, Option, ◌==◌, nat_le, nat_lt}
use Rattle.std.specs.Option.{option_map}
use Rattle.algebra.specs.Counting.{count}
use Rattle.algebra.specs.Polynomial.{value}
use Rattle.algebra.specs.Sharing as sharing
use Rattle.algebra.specs.Sharing.{pair_at, share_of}
use Rattle.rules.specs.Deal.{or_else}
use Rattle.rules.specs.Rounds as rounds
use Rattle.rules.specs.Rounds.{Setting, keepers, Hand, Posts, nothing_heard, nothing_posted, free, any, told_by, complaint, revealed, said_fine, complained, mine, doubts, wrong, all_fits, heard_it, posted_it}
use Rattle.rules.specs.Message.{Message, Share, Told, Complaint, Reveal, Fine, Finished, Value}
use Rattle.rules.specs.Wire.{parse, when}

-- what doesn't change: the night, the dealing, and whose seat it is
pub record Terms : Type 0 where
  pub night : ℕ
  pub setting : Setting
  pub me : ℕ

-- the round that is called, from 1 to 6 (0 before the first); the polynomial that the keeper drew, if it deals; what it was sent and told; what stands on the board; and the value that it keeps in the end
pub record State : Type 0 where
  pub round : ℕ
  pub chance : Option (List (List ℕ))
  pub hand : Hand
  pub posts : Posts
  pub kept : Option ℕ

-- THE REFUSALS. The lowest number wins: n where the test fails, else what is left.
abbrev pub unless : Bool → ℕ → Option ℕ → Option ℕ
unless ok n rest = cond ok rest (Some n)

-- the message is of this night and of the round that is called
abbrev pub timely : Terms → State → (night round : ℕ) → Bool
timely t st night round = night == t.night && st.round == round

-- Mail. 1: no message that is sent to one keeper; 2: another round or night; 3: not from who may send it, or said already.
abbrev pub mail_refusal : Terms → State → (from : ℕ) → Message → Option ℕ
mail_refusal t st from (Share night dealer x) =
    unless (timely t st night 1) 2 (unless (dealer == t.setting.dealer && (from == t.setting.dealer && (not (from == t.me) && free st.hand.share))) 3 None)
mail_refusal t st from (Told night dealer a) =
    unless (timely t st night 2) 2 (unless (dealer == t.setting.dealer && (not (from == t.me) && free (told_by st.hand from))) 3 None)
mail_refusal t st from (Complaint night dealer by about a) = Some 1
mail_refusal t st from (Reveal night dealer keeper x) = Some 1
mail_refusal t st from (Fine night dealer keeper b) = Some 1
mail_refusal t st from (Finished night dealer keeper) = Some 1
mail_refusal t st from (Value night dealer keeper v) = Some 2

-- The board. 1: no message that stands there, or about no keeper; 2 and 3 as above; 4: a complaint about oneself, a reveal of a keeper that didn't complain.
abbrev pub board_refusal : Terms → State → (who : ℕ) → Message → Option ℕ
board_refusal t st who (Share night dealer x) = Some 1
board_refusal t st who (Told night dealer a) = Some 1
board_refusal t st who (Complaint night dealer by about a) =
    unless (nat_lt about (keepers t.setting)) 1 (unless (timely t st night 3) 2 (unless (dealer == t.setting.dealer && (by == who && free (complaint st.posts by about))) 3 (unless (not (by == about)) 4 None)))
board_refusal t st who (Reveal night dealer keeper x) =
    unless (nat_lt keeper (keepers t.setting)) 1 (unless (timely t st night 4) 2 (unless (dealer == t.setting.dealer && (who == t.setting.dealer && free (revealed st.posts keeper))) 3 (unless (complained t.setting st.posts keeper) 4 None)))
board_refusal t st who (Fine night dealer keeper b) =
    unless (timely t st night 5) 2 (unless (dealer == t.setting.dealer && (keeper == who && free (said_fine st.posts keeper))) 3 None)
board_refusal t st who (Finished night dealer keeper) = Some 2
board_refusal t st who (Value night dealer keeper v) = Some 1

-- WHAT A MESSAGE CHANGES, if it is taken: the place that it is for.
abbrev pub heard_by : State → (from : ℕ) → rounds.Letter → State
heard_by st from w = record { round = st.round; chance = st.chance; hand = heard_it st.hand from w; posts = st.posts; kept = st.kept }

abbrev pub posted_by : State → (who : ℕ) → rounds.Post → State
posted_by st who w = record { round = st.round; chance = st.chance; hand = st.hand; posts = posted_it st.posts who w; kept = st.kept }

abbrev pub mail_noted : State → (from : ℕ) → Message → State
mail_noted st from (Share night dealer x) = heard_by st from (rounds.Deal x)
mail_noted st from (Told night dealer a) = heard_by st from (rounds.Told a)
mail_noted st from (Complaint night dealer by about a) = st
mail_noted st from (Reveal night dealer keeper x) = st
mail_noted st from (Fine night dealer keeper b) = st
mail_noted st from (Finished night dealer keeper) = st
mail_noted st from (Value night dealer keeper v) = st

abbrev pub board_noted : State → (who : ℕ) → Message → State
board_noted st who (Share night dealer x) = st
board_noted st who (Told night dealer a) = st
board_noted st who (Complaint night dealer by about a) = posted_by st who (rounds.Complaint about a)
board_noted st who (Reveal night dealer keeper x) = posted_by st who (rounds.Reveal keeper x)
board_noted st who (Fine night dealer keeper b) = posted_by st who (rounds.Fine b)
board_noted st who (Finished night dealer keeper) = st
board_noted st who (Value night dealer keeper v) = st

-- the new state, or the number with the old one
abbrev pub answer : Option ℕ → (new old : State) → State × Option ℕ
answer None new old = (new, None)
answer (Some k) new old = (old, Some k)

-- who says it is a keeper, else 1
abbrev pub known : Terms → ℕ → Bool
known t i = nat_lt i (keepers t.setting)

abbrev pub mail_taken : Terms → State → (from : ℕ) → Message → State × Option ℕ
mail_taken t st from m = answer (unless (known t from) 1 (mail_refusal t st from m)) (mail_noted st from m) st

abbrev pub board_taken : Terms → State → (who : ℕ) → Message → State × Option ℕ
board_taken t st who m = answer (unless (known t who) 1 (board_refusal t st who m)) (board_noted st who m) st

-- Of bytes: what isn't a message is 1.
abbrev pub read_by : Terms → List ℕ → Option Message
read_by t bs = parse (keepers t.setting) t.setting.high t.setting.low bs

abbrev pub of_read : State → Option Message → (Message → State × Option ℕ) → State × Option ℕ
of_read st None take = (st, Some 1)
of_read st (Some m) take = take m

abbrev pub mail_bytes : Terms → State → (from : ℕ) → List ℕ → State × Option ℕ
mail_bytes t st from bs = of_read st (read_by t bs) (mail_taken t st from)

abbrev pub board_bytes : Terms → State → (who : ℕ) → List ℕ → State × Option ℕ
board_bytes t st who bs = of_read st (read_by t bs) (board_taken t st who)

-- WHAT A KEEPER SAYS in the round that is called. To keeper j: in round 1 the dealer its share, in round 2 everybody what its own share gives at j's point.
abbrev pub mail_to : Terms → State → (j : ℕ) → Option Message
mail_to t st j =
    cond (j == t.me || not (known t j)) None
    (cond (st.round == 1) (cond (t.me == t.setting.dealer) (option_map (λ rs. Share t.night t.setting.dealer (share_of t.setting.p rs j)) st.chance) None)
    (cond (st.round == 2) (Some (Told t.night t.setting.dealer (pair_at t.setting.p (mine t.setting t.me st.hand) j)))
    None))

-- On the board, a line for each k below the number of keepers, or none: in round 3 a complaint about k, in round 4 the dealer's answer to k, in round 5 whether all fits, at k = me.
abbrev pub complaint_to : Terms → State → (k : ℕ) → Option Message
complaint_to t st k = when (doubts t.setting t.me st.hand k) (Complaint t.night t.setting.dealer t.me k (pair_at t.setting.p (mine t.setting t.me st.hand) k))

abbrev pub answer_to : Terms → State → Option (List (List ℕ)) → (k : ℕ) → Option Message
answer_to t st None k = None
answer_to t st (Some rs) k = when (any (keepers t.setting) (wrong t.setting (share_of t.setting.p rs) st.posts k)) (Reveal t.night t.setting.dealer k (share_of t.setting.p rs k))

abbrev pub judgement : Terms → State → Message
judgement t st = Fine t.night t.setting.dealer t.me (all_fits t.setting t.me (mine t.setting t.me st.hand) st.posts)

abbrev pub line_of : Terms → State → (k : ℕ) → Option Message
line_of t st k =
    cond (known t k)
    (cond (st.round == 3) (complaint_to t st k)
    (cond (st.round == 4) (cond (t.me == t.setting.dealer) (answer_to t st st.chance k) None)
    (cond (st.round == 5) (when (k == t.me) (judgement t st))
    None)))
    None

-- THE END. Accepted: enough have said that all fits.
abbrev pub accepted : Setting → Posts → Bool
accepted s q = nat_le (2 * s.f + 1) (count (keepers s) (λ i. or_else false (said_fine q i)))

-- the share that the keeper goes on with, and of it the value at 0; nothing, if the dealing isn't accepted
abbrev pub own_share : Terms → State → sharing.Share
own_share t st = or_else (mine t.setting t.me st.hand) (revealed st.posts t.me)

abbrev pub decided : Terms → State → Option ℕ
decided t st = when (accepted t.setting st.posts) (value t.setting.p (own_share t st).across 0)

-- THE NEXT ROUND IS CALLED. The first gives the dealer its own share; the sixth keeps the value and forgets the rest; after it nothing changes.
abbrev pub own_deal : Terms → State → Option sharing.Share
own_deal t st = cond (t.me == t.setting.dealer) (option_map (λ rs. share_of t.setting.p rs t.me) st.chance) None

abbrev pub called : Terms → State → State
called t st =
    cond (st.round == 0) (record { round = 1; chance = st.chance; hand = record { share = own_deal t st; told = st.hand.told }; posts = st.posts; kept = st.kept })
    (cond (nat_le 5 st.round) (cond (st.round == 5) (record { round = 6; chance = None; hand = nothing_heard; posts = st.posts; kept = decided t st }) st)
    (record { round = st.round + 1; chance = st.chance; hand = st.hand; posts = st.posts; kept = st.kept }))

-- before the first round
abbrev pub seated : Option (List (List ℕ)) → State
seated rs = record { round = 0; chance = rs; hand = nothing_heard; posts = nothing_posted; kept = None }
