-- A court: one keeper through all nights. What it holds, which lines it takes and what they change, and what it says.
use Rattle.std.specs.Prelude.{ℕ, zero, suc, ◌+◌, ◌-◌, ◌*◌, ◌%◌, Bool, true, false, cond, not, ◌&&◌, List, [], ◌∷◌, ◌++◌, map, length, get_or, take, drop, replicate, Some, None, Option, ◌==◌, nat_le, nat_lt, slice_index_or, slice_set}
use Rattle.std.specs.List.{range_with_len}
use Rattle.std.specs.Option.{option_map, option_to_list}
use Rattle.algebra.specs.Prime.{p}
use Rattle.algebra.specs.Counting.{count}
use Rattle.algebra.specs.Sharing.{point, share_of}
use Rattle.rules.specs.Deal.{or_else}
use Rattle.rules.specs.Rounds.{Hand, Posts, nothing_heard, nothing_posted, free}
use Rattle.rules.specs.Message.{Message, Share, Told, Complaint, Reveal, Fine, Finished, Value}
use Rattle.rules.specs.Wire.{parse, small, when}
use Rattle.rules.specs.Play.{collected}
use Rattle.rules.specs.Seat.{Terms, State, unless, mail_taken, board_taken, mail_to, line_of, decided}

-- WHAT A COURT HOLDS. f and me: it is keeper me of 3 f + 1. night: the night that runs, or is next. spent: there is no next one.
-- value: what it keeps since the last night that was over. round: by day 0, in a night from 1 to 6. chance: the polynomial that it drew for tonight.
-- For each dealer: what it was sent and told (hands), what stands on the board (boards), and what it keeps of the dealing in the end (kept). finished: who has said so.
pub record Court : Type 0 where
  pub f : ℕ
  pub me : ℕ
  pub night : ℕ
  pub spent : Bool
  pub value : Option ℕ
  pub round : ℕ
  pub chance : Option (List (List ℕ))
  pub hands : List Hand
  pub boards : List Posts
  pub kept : List (Option ℕ)
  pub finished : List Bool

-- by day: nothing of any dealing
abbrev pub at_day : (f me night : ℕ) → (spent : Bool) → Option ℕ → Court
at_day f me night spent value = record {
  f = f;
  me = me;
  night = night;
  spent = spent;
  value = value;
  round = 0;
  chance = None;
  hands = replicate 16 nothing_heard;
  boards = replicate 16 nothing_posted;
  kept = replicate 16 None;
  finished = replicate 16 false;
}

-- before the secret is dealt
abbrev pub fresh : (f me : ℕ) → Court
fresh f me = at_day f me 0 false None

-- how many keepers there are
abbrev pub members : Court → ℕ
members c = 3 * c.f + 1

-- In night 0 keeper 0 deals the secret; in every later night each keeper deals once, with a coefficient less in y.
abbrev pub low_of : (f night : ℕ) → ℕ
low_of f night = cond (night == 0) (f + 1) f

abbrev pub dealers_of : (f night : ℕ) → ℕ
dealers_of f night = cond (night == 0) 1 (3 * f + 1)

-- the dealing of dealer d, as the court sits in it
abbrev pub terms_at : Court → (d : ℕ) → Terms
terms_at c d = record { night = c.night; setting = record { p = p; f = c.f; dealer = d; high = c.f + 1; low = low_of c.f c.night }; me = c.me }

abbrev pub seat_at : Court → (d : ℕ) → State
seat_at c d = record {
  round = c.round;
  chance = cond (d == c.me) c.chance None;
  hand = slice_index_or c.hands d nothing_heard;
  posts = slice_index_or c.boards d nothing_posted;
  kept = slice_index_or c.kept d None;
}

-- WHAT COMES TO A COURT: mail, and from whom; a line of the board, and who put it there; the numbers that it draws; the call of the next round; the night's end; the call for its value.
pub data Line : Type 0 where
  Mail : (from : ℕ) → List ℕ → Line
  Board : (who : ℕ) → List ℕ → Line
  Chance : List ℕ → Line
  Round : Line
  Over : Line
  Call : Line

-- the court afterwards; or, with the number, the court as it was
abbrev pub outcome : Option ℕ → (new old : Court) → Court × Option ℕ
outcome None new old = (new, None)
outcome (Some k) new old = (old, Some k)

-- MAIL AND BOARD. What is no message is 1. Any other one goes to the dealing that it names; in night 0 to the only one.
abbrev pub dealer_of : Message → ℕ
dealer_of (Share night dealer x) = dealer
dealer_of (Told night dealer a) = dealer
dealer_of (Complaint night dealer by about a) = dealer
dealer_of (Reveal night dealer keeper x) = dealer
dealer_of (Fine night dealer keeper b) = dealer
dealer_of (Finished night dealer keeper) = dealer
dealer_of (Value night dealer keeper v) = dealer

abbrev pub place_of : Court → Message → ℕ
place_of c m = cond (c.night == 0) 0 (dealer_of m)

abbrev pub with_seat : Court → (d : ℕ) → State → Court
with_seat c d st = record {
  f = c.f;
  me = c.me;
  night = c.night;
  spent = c.spent;
  value = c.value;
  round = c.round;
  chance = c.chance;
  hands = slice_set c.hands d st.hand;
  boards = slice_set c.boards d st.posts;
  kept = c.kept;
  finished = c.finished;
}

abbrev pub settled : Court → (d : ℕ) → State × Option ℕ → Court × Option ℕ
settled c d r = outcome r.1 (with_seat c d r.0) c

abbrev pub mail_heard : Court → (from : ℕ) → Message → Court × Option ℕ
mail_heard c from m = settled c (place_of c m) (mail_taken (terms_at c (place_of c m)) (seat_at c (place_of c m)) from m)

-- A finished word: 2 in another round than the sixth, or of another night; 3 by another than the keeper that it names, or a second time.
abbrev pub finished_refusal : Court → (who night keeper : ℕ) → Option ℕ
finished_refusal c who night keeper =
    unless (nat_lt who (members c)) 1 (unless (night == c.night && c.round == 6) 2 (unless (keeper == who && not (slice_index_or c.finished who false)) 3 None))

abbrev pub with_finished : Court → (who : ℕ) → Court
with_finished c who = record {
  f = c.f;
  me = c.me;
  night = c.night;
  spent = c.spent;
  value = c.value;
  round = c.round;
  chance = c.chance;
  hands = c.hands;
  boards = c.boards;
  kept = c.kept;
  finished = slice_set c.finished who true;
}

abbrev pub seat_posted : Court → (who : ℕ) → Message → Court × Option ℕ
seat_posted c who m = settled c (place_of c m) (board_taken (terms_at c (place_of c m)) (seat_at c (place_of c m)) who m)

abbrev pub board_posted : Court → (who : ℕ) → Message → Court × Option ℕ
board_posted c who (Share night dealer x) = seat_posted c who (Share night dealer x)
board_posted c who (Told night dealer a) = seat_posted c who (Told night dealer a)
board_posted c who (Complaint night dealer by about a) = seat_posted c who (Complaint night dealer by about a)
board_posted c who (Reveal night dealer keeper x) = seat_posted c who (Reveal night dealer keeper x)
board_posted c who (Fine night dealer keeper b) = seat_posted c who (Fine night dealer keeper b)
board_posted c who (Finished night dealer keeper) = outcome (finished_refusal c who night keeper) (with_finished c who) c
board_posted c who (Value night dealer keeper v) = seat_posted c who (Value night dealer keeper v)

abbrev pub of_read : Court → Option Message → (Message → Court × Option ℕ) → Court × Option ℕ
of_read c None take = (c, Some 1)
of_read c (Some m) take = take m

abbrev pub read_by : Court → List ℕ → Option Message
read_by c bs = parse (members c) (c.f + 1) (low_of c.f c.night) bs

-- CHANCE: for each power of x the coefficients in y, row by row. 1: another count, or a number not below p; 2: not by day; 3: who deals nothing tonight, or a second time; 7: there is no next night.
unfoldable pub rows_from : (low high : ℕ) → List ℕ → List (List ℕ)
rows_from low zero ns = []
rows_from low (suc high) ns = take low ns ∷ rows_from low high (drop low ns)

abbrev pub drawn_rows : Court → List ℕ → List (List ℕ)
drawn_rows c ns = rows_from (low_of c.f c.night) (c.f + 1) ns

abbrev pub chance_refusal : Court → List ℕ → Option ℕ
chance_refusal c ns =
    unless (length ns == (c.f + 1) * low_of c.f c.night && small ns) 1 (unless (c.round == 0) 2 (unless (nat_lt c.me (dealers_of c.f c.night) && free c.chance) 3 (unless (not c.spent) 7 None)))

abbrev pub with_chance : Court → List (List ℕ) → Court
with_chance c rs = record {
  f = c.f;
  me = c.me;
  night = c.night;
  spent = c.spent;
  value = c.value;
  round = c.round;
  chance = Some rs;
  hands = c.hands;
  boards = c.boards;
  kept = c.kept;
  finished = c.finished;
}

-- THE NEXT ROUND IS CALLED. 2: after the sixth; 7: there is no next night. The first gives a dealer its own share; the sixth keeps the value of each accepted dealing and forgets all else that was drawn, sent or told.
abbrev pub round_refusal : Court → Option ℕ
round_refusal c = unless (nat_lt c.round 6) 2 (unless (not c.spent) 7 None)

abbrev pub own_hand : Court → Hand
own_hand c = record { share = option_map (λ rs. share_of p rs c.me) c.chance; told = replicate 16 None }

abbrev pub decided_at : Court → (d : ℕ) → Option ℕ
decided_at c d = cond (nat_lt d (members c)) (decided (terms_at c d) (seat_at c d)) None

abbrev pub advanced : Court → (round : ℕ) → Option (List (List ℕ)) → List Hand → List (Option ℕ) → Court
advanced c round chance hands kept = record {
  f = c.f;
  me = c.me;
  night = c.night;
  spent = c.spent;
  value = c.value;
  round = round;
  chance = chance;
  hands = hands;
  boards = c.boards;
  kept = kept;
  finished = c.finished;
}

abbrev pub called : Court → Court
called c =
    cond (c.round == 0) (advanced c 1 c.chance (slice_set c.hands c.me (own_hand c)) c.kept)
    (cond (c.round == 5) (advanced c 6 None (replicate 16 nothing_heard) (map (decided_at c) (range_with_len 0 16)))
    (advanced c (c.round + 1) c.chance c.hands c.kept))

-- THE NIGHT'S END. 2: by day. The night is over if its dealings are decided and 2 f + 1 have said finished; else it is dropped, and the value stays. All else is forgotten.
abbrev pub is_over : Court → Bool
is_over c = c.round == 6 && nat_le (2 * c.f + 1) (count (members c) (λ i. get_or c.finished i false))

-- what the accepted dealings of the first n dealers give
unfoldable pub gains : List (Option ℕ) → ℕ → ℕ
gains kept zero = 0
gains kept (suc n) = or_else 0 (slice_index_or kept n None) + gains kept n

-- In night 0 the value of the secret's dealing; later the dealings' values are added, times the keeper's point.
abbrev pub renewed : Court → Option ℕ
renewed c = cond (c.night == 0) (slice_index_or c.kept 0 None) (option_map (λ v. (v + point c.me * gains c.kept (members c)) % p) c.value)

abbrev pub over_refusal : Court → Option ℕ
over_refusal c = unless (nat_lt 0 c.round) 2 None

-- a night 0 that gives no value is to be repeated; the night after the last number is none
abbrev pub next_night : Court → Option ℕ → Court
next_night c None = cond (c.night == 0) (fresh c.f c.me) (at_day c.f c.me (cond (c.night == 4294967295) c.night (c.night + 1)) (c.night == 4294967295) None)
next_night c (Some v) = at_day c.f c.me (cond (c.night == 4294967295) c.night (c.night + 1)) (c.night == 4294967295) (Some v)

abbrev pub ended : Court → Court
ended c = next_night c (cond (is_over c) (renewed c) c.value)

-- THE CALL FOR ITS VALUE changes nothing. 2: in a night; 5: it has none.
abbrev pub call_refusal : Court → Option ℕ
call_refusal c = unless (c.round == 0) 2 (unless (not (free c.value)) 5 None)

-- WHAT A COURT MAKES OF A LINE: the court afterwards, and the number if the line is turned away.
abbrev pub taken : Court → Line → Court × Option ℕ
taken c (Mail from bs) = of_read c (read_by c bs) (mail_heard c from)
taken c (Board who bs) = of_read c (read_by c bs) (board_posted c who)
taken c (Chance ns) = outcome (chance_refusal c ns) (with_chance c (drawn_rows c ns)) c
taken c Round = outcome (round_refusal c) (called c) c
taken c Over = outcome (over_refusal c) (ended c) c
taken c Call = outcome (call_refusal c) c c

-- WHAT A COURT SAYS when a round was called: to keeper j, about each dealing in turn;
abbrev pub letter_to : Court → (j d : ℕ) → Option Message
letter_to c j d = mail_to (terms_at c d) (seat_at c d) j

abbrev pub letters_to : Court → (j : ℕ) → List Message
letters_to c j = collected (dealers_of c.f c.night) (letter_to c j)

-- on the board, about each dealing in turn, and in round 6 that it has finished;
abbrev pub post_at : Court → (d k : ℕ) → Option Message
post_at c d k = line_of (terms_at c d) (seat_at c d) k

unfoldable pub posts_up_to : Court → ℕ → List Message
posts_up_to c zero = []
posts_up_to c (suc d) = posts_up_to c d ++ collected (members c) (post_at c d)

abbrev pub finished_word : Court → Option Message
finished_word c = when (c.round == 6) (Finished c.night 0 c.me)

abbrev pub posts_of : Court → List Message
posts_of c = posts_up_to c (dealers_of c.f c.night) ++ option_to_list (finished_word c)

-- and when its value is called for: the value, with the night that it is of.
abbrev pub last_night : Court → ℕ
last_night c = cond c.spent c.night (c.night - 1)

abbrev pub value_word : Court → Option Message
value_word c = option_map (λ v. Value (last_night c) 0 c.me v) c.value
