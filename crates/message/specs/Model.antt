-- The program's messages as the rules speak of them.
use Rattle.std.specs.Prelude.{◌≡◌, ◌≢◌, ℕ, Bool, true, false, Some, None, Option, Result, MatchResult}
use Rattle.polynomial.specs.Lists.{held, said}
use Rattle.rules.specs.Message as rules
use Rattle.message.specs.declared.kind.Kind.{Kind}
use Rattle.message.specs.declared.kind.Kind.TheVariants as kind
use Rattle.message.specs.declared.types.Body.{Body}
use Rattle.message.specs.declared.types.Body.TheVariants as body
use Rattle.message.specs.declared.types.Head.{Head}
use Rattle.message.specs.declared.types.Malformed.{Malformed}
use Rattle.message.specs.declared.types.Message.{Message}

-- a body under a head
abbrev pub with_head : Head → Body → rules.Message
with_head h (body.Share x) = rules.Share h.night h.dealer (held x)
with_head h (body.Told a) = rules.Told h.night h.dealer (said a)
with_head h (body.Complaint by about a) = rules.Complaint h.night h.dealer by about (said a)
with_head h (body.Reveal keeper x) = rules.Reveal h.night h.dealer keeper (held x)
with_head h (body.Fine keeper b) = rules.Fine h.night h.dealer keeper b
with_head h (body.Finished keeper) = rules.Finished h.night h.dealer keeper
with_head h (body.Value keeper v) = rules.Value h.night h.dealer keeper v.value

abbrev pub message_of : Message → rules.Message
message_of m = with_head m.head m.body

-- KINDS. That of a body, and the byte that stands for a kind.
abbrev pub kind_of : Body → Kind
kind_of (body.Share _) = kind.Share
kind_of (body.Told _) = kind.Told
kind_of (body.Complaint _ _ _) = kind.Complaint
kind_of (body.Reveal _ _) = kind.Reveal
kind_of (body.Fine _ _) = kind.Fine
kind_of (body.Finished _) = kind.Finished
kind_of (body.Value _ _) = kind.Value

abbrev pub byte_of : Kind → ℕ
byte_of kind.Share = 1
byte_of kind.Told = 2
byte_of kind.Complaint = 3
byte_of kind.Reveal = 4
byte_of kind.Fine = 5
byte_of kind.Finished = 6
byte_of kind.Value = 7

-- the kind that has this byte, or none has it
abbrev pub HasByte : ℕ → Result Kind Malformed → Type 0
HasByte byte r = MatchResult r (λ k. byte_of k ≡ byte) (λ _. (k : Kind) → byte_of k ≢ byte)

-- READING. What was read stands for x, which passes a test; or nothing was read, and it doesn't.
abbrev pub Gives : {T X : Type 0} → (T → X) → Result T Malformed → (test : Bool) → X → Type 0
Gives view r test x = MatchResult r (λ t. (view t ≡ x) × (test ≡ true)) (λ _. test ≡ false)

-- what was read is, under this head, the message that the rules read, or nothing where they read none
abbrev pub Reads : Head → Result Body Malformed → Option rules.Message → Type 0
Reads h r o = MatchResult r (λ b. o ≡ Some (with_head h b)) (λ _. o ≡ None)
