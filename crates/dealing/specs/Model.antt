-- What the program holds, as the rules speak of it.
use Rattle.std.specs.Prelude.{◌≡◌, ℕ, map, Some, None, Option, Ok, Err, Result}
use Rattle.std.specs.Option.{option_map}
use Rattle.algebra.specs.Prime.{p}
use Rattle.polynomial.specs.Lists.{held, said, rows_of}
use Rattle.field.specs.declared.element.Element.{Element}
use Rattle.rules.specs.Message.{Message}
use Rattle.rules.specs.Rounds as rounds
use Rattle.rules.specs.Seat as rules
use Rattle.dealing.specs.declared.types.Round.{Round}
use Rattle.dealing.specs.declared.types.Round.TheVariants.{Before, Deal, Tell, Complain, Reveal, Judge, Decided}
use Rattle.dealing.specs.declared.types.Refusal.{Refusal}
use Rattle.dealing.specs.declared.types.Refusal.TheVariants.{Malformed, Untimely, Unentitled, Improper}
use Rattle.dealing.specs.declared.types.Terms.{Terms}
use Rattle.dealing.specs.declared.types.Hand.{Hand}
use Rattle.dealing.specs.declared.types.Board.{Board}
use Rattle.dealing.specs.declared.types.Seat.{Seat}

-- the numbers of rounds
abbrev pub round_of : Round → ℕ
round_of Before = 0
round_of Deal = 1
round_of Tell = 2
round_of Complain = 3
round_of Reveal = 4
round_of Judge = 5
round_of Decided = 6

-- the numbers of refusals
abbrev pub number_of : Refusal → ℕ
number_of Malformed = 1
number_of Untimely = 2
number_of Unentitled = 3
number_of Improper = 4

abbrev pub setting_of : Terms → rounds.Setting
setting_of t = record { p = p; f = t.f; dealer = t.dealer; high = t.shape.high; low = t.shape.low }

abbrev pub terms_of : Terms → rules.Terms
terms_of t = record { night = t.night; setting = setting_of t; me = t.me }

abbrev pub hand_of : Hand → rounds.Hand
hand_of h = record { share = option_map held h.share; told = map (option_map said) h.told }

abbrev pub posts_of : Board → rounds.Posts
posts_of b = record { complaints = map (map (option_map said)) b.complaints; reveals = map (option_map held) b.reveals; fines = b.fines }

abbrev pub number : Element → ℕ
number e = e.value

abbrev pub state_of : Seat → rules.State
state_of s = record { round = round_of s.round; chance = option_map rows_of s.chance; hand = hand_of s.hand; posts = posts_of s.board; kept = option_map number s.kept }

-- the number of the refusal, if a message is turned away
abbrev pub refusal_of : Result (Unit {0}) Refusal → Option ℕ
refusal_of (Ok _) = None
refusal_of (Err why) = Some (number_of why)

-- What comes of a message: the state that the rules give; or, refused with the number that they give, the seat as it was.
abbrev pub Answered : (before : Seat) → (ruled : rules.State × Option ℕ) → (after : Seat) → Result (Unit {0}) Refusal → Type 0
Answered before ruled after (Ok _) = (state_of after ≡ ruled.0) × (ruled.1 ≡ None) × (after.terms ≡ before.terms)
Answered before ruled after (Err why) = (after ≡ before) × (ruled.1 ≡ Some (number_of why))

-- the same of a message by a keeper: what comes of mail, and of a line of the board
abbrev pub Heard : (before : Seat) → (from : ℕ) → Message → (after : Seat) → Result (Unit {0}) Refusal → Type 0
Heard before from m after result = Answered before (rules.answer (rules.mail_refusal (terms_of before.terms) (state_of before) from m) (rules.mail_noted (state_of before) from m) (state_of before)) after result

abbrev pub Posted : (before : Seat) → (who : ℕ) → Message → (after : Seat) → Result (Unit {0}) Refusal → Type 0
Posted before who m after result = Answered before (rules.answer (rules.board_refusal (terms_of before.terms) (state_of before) who m) (rules.board_noted (state_of before) who m) (state_of before)) after result
