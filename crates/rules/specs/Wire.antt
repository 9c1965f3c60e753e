-- The bytes of messages, high byte first.
use Rattle.std.specs.Prelude.{◌≡◌, ℕ, zero, suc, ◌+◌, ◌*◌, ◌/◌, ◌%◌, ◌^◌, ◌<◌, Bool, true, cond, ◌&&◌, List, [], ◌∷◌, ◌++◌, length, Some, None, Option, ◌==◌, nat_le, nat_lt, slice_index}
use Rattle.algebra.specs.Prime.{p}
use Rattle.algebra.specs.Polynomial.{Exact}
use Rattle.algebra.specs.Sharing as sharing
use Rattle.rules.specs.Message.{Message, Share, Told, Complaint, Reveal, Fine, Finished, Value}

-- WRITING. Four bytes, and eight.
unfoldable pub be4 : ℕ → List ℕ
be4 x = (x / 16777216 % 256) ∷ (x / 65536 % 256) ∷ (x / 256 % 256) ∷ (x % 256) ∷ []

unfoldable pub be8 : ℕ → List ℕ
be8 x = (x / 72057594037927936 % 256) ∷ (x / 281474976710656 % 256) ∷ (x / 1099511627776 % 256) ∷ (x / 4294967296 % 256) ∷ (x / 16777216 % 256) ∷ (x / 65536 % 256) ∷ (x / 256 % 256) ∷ (x % 256) ∷ []

-- numbers of eight bytes, one after the other
unfoldable pub row : List ℕ → List ℕ
row [] = []
row (x ∷ xs) = be8 x ++ row xs

-- what every message begins with
abbrev pub head : (kind night dealer : ℕ) → List ℕ
head kind night dealer = kind ∷ be4 night ++ (dealer ∷ [])

-- 1 or 0
abbrev pub flag : Bool → ℕ
flag b = cond b 1 0

abbrev pub wire : Message → List ℕ
wire (Share night dealer x) = head 1 night dealer ++ (row x.across ++ row x.down)
wire (Told night dealer a) = head 2 night dealer ++ (be8 a.across ++ be8 a.down)
wire (Complaint night dealer by about a) = head 3 night dealer ++ (by ∷ about ∷ (be8 a.across ++ be8 a.down))
wire (Reveal night dealer keeper x) = head 4 night dealer ++ (keeper ∷ (row x.across ++ row x.down))
wire (Fine night dealer keeper b) = head 5 night dealer ++ (keeper ∷ flag b ∷ [])
wire (Finished night dealer keeper) = head 6 night dealer ++ (keeper ∷ [])
wire (Value night dealer keeper v) = head 7 night dealer ++ (keeper ∷ be8 v)

-- what can be sent among n keepers, in a dealing with shares of high and low coefficients
abbrev pub Fit : (high low : ℕ) → sharing.Share → Type 0
Fit high low x = Exact p high x.across × Exact p low x.down

abbrev pub InRange : (n high low : ℕ) → Message → Type 0
InRange n high low (Share night dealer x) = (night < 2 ^ 32) × (dealer < n) × Fit high low x
InRange n high low (Told night dealer a) = (night < 2 ^ 32) × (dealer < n) × (a.across < p) × (a.down < p)
InRange n high low (Complaint night dealer by about a) = (night < 2 ^ 32) × (dealer < n) × (by < n) × (about < n) × (a.across < p) × (a.down < p)
InRange n high low (Reveal night dealer keeper x) = (night < 2 ^ 32) × (dealer < n) × (keeper < n) × Fit high low x
InRange n high low (Fine night dealer keeper b) = (night < 2 ^ 32) × (dealer < n) × (keeper < n)
InRange n high low (Finished night dealer keeper) = (night < 2 ^ 32) × (dealer < n) × (dealer ≡ 0) × (keeper < n)
InRange n high low (Value night dealer keeper v) = (night < 2 ^ 32) × (dealer < n) × (dealer ≡ 0) × (keeper < n) × (v < p)

-- READING. The numbers that stand at a place.
unfoldable pub number4 : List ℕ → ℕ → ℕ
number4 bs i = slice_index bs i * 16777216 + slice_index bs (i + 1) * 65536 + slice_index bs (i + 2) * 256 + slice_index bs (i + 3)

unfoldable pub number8 : List ℕ → ℕ → ℕ
number8 bs i =
    slice_index bs i * 72057594037927936 + slice_index bs (i + 1) * 281474976710656 + slice_index bs (i + 2) * 1099511627776 + slice_index bs (i + 3) * 4294967296 +
    slice_index bs (i + 4) * 16777216 + slice_index bs (i + 5) * 65536 + slice_index bs (i + 6) * 256 + slice_index bs (i + 7)

unfoldable pub row_at : List ℕ → (place count : ℕ) → List ℕ
row_at bs i zero = []
row_at bs i (suc k) = number8 bs i ∷ row_at bs (i + 8) k

-- each below p
unfoldable pub small : List ℕ → Bool
small [] = true
small (x ∷ xs) = nat_lt x p && small xs

abbrev pub when : {A : Type 0} → Bool → A → Option A
when b a = cond b (Some a) None

-- a share, and a pair, that stand at a place
abbrev pub share_at : (high low : ℕ) → List ℕ → ℕ → sharing.Share
share_at high low bs i = record { across = row_at bs i high; down = row_at bs (i + 8 * high) low }

abbrev pub pair_from : List ℕ → ℕ → sharing.Pair
pair_from bs i = record { across = number8 bs i; down = number8 bs (i + 8) }

abbrev pub small_share : sharing.Share → Bool
small_share x = small x.across && small x.down

abbrev pub small_pair : sharing.Pair → Bool
small_pair a = nat_lt a.across p && nat_lt a.down p

-- a message of each kind, if the bytes have its length and what they say is in range
abbrev pub read_share : (high low : ℕ) → List ℕ → (night dealer : ℕ) → Option Message
read_share high low bs night dealer = when (length bs == 6 + 8 * (high + low) && small_share (share_at high low bs 6)) (Share night dealer (share_at high low bs 6))

abbrev pub read_told : List ℕ → (night dealer : ℕ) → Option Message
read_told bs night dealer = when (length bs == 22 && small_pair (pair_from bs 6)) (Told night dealer (pair_from bs 6))

abbrev pub read_complaint : (n : ℕ) → List ℕ → (night dealer : ℕ) → Option Message
read_complaint n bs night dealer =
    when (length bs == 24 && (nat_lt (slice_index bs 6) n && (nat_lt (slice_index bs 7) n && small_pair (pair_from bs 8)))) (Complaint night dealer (slice_index bs 6) (slice_index bs 7) (pair_from bs 8))

abbrev pub read_reveal : (n high low : ℕ) → List ℕ → (night dealer : ℕ) → Option Message
read_reveal n high low bs night dealer =
    when (length bs == 7 + 8 * (high + low) && (nat_lt (slice_index bs 6) n && small_share (share_at high low bs 7))) (Reveal night dealer (slice_index bs 6) (share_at high low bs 7))

abbrev pub read_fine : (n : ℕ) → List ℕ → (night dealer : ℕ) → Option Message
read_fine n bs night dealer = when (length bs == 8 && (nat_lt (slice_index bs 6) n && nat_lt (slice_index bs 7) 2)) (Fine night dealer (slice_index bs 6) (slice_index bs 7 == 1))

abbrev pub read_finished : (n : ℕ) → List ℕ → (night dealer : ℕ) → Option Message
read_finished n bs night dealer = when (length bs == 7 && (dealer == 0 && nat_lt (slice_index bs 6) n)) (Finished night dealer (slice_index bs 6))

abbrev pub read_value : (n : ℕ) → List ℕ → (night dealer : ℕ) → Option Message
read_value n bs night dealer =
    when (length bs == 15 && (dealer == 0 && (nat_lt (slice_index bs 6) n && nat_lt (number8 bs 7) p))) (Value night dealer (slice_index bs 6) (number8 bs 7))

-- the message that bytes are, by their first byte
abbrev pub by_kind : (n high low : ℕ) → List ℕ → (kind night dealer : ℕ) → Option Message
by_kind n high low bs kind night dealer =
    cond (kind == 1) (read_share high low bs night dealer)
    (cond (kind == 2) (read_told bs night dealer)
    (cond (kind == 3) (read_complaint n bs night dealer)
    (cond (kind == 4) (read_reveal n high low bs night dealer)
    (cond (kind == 5) (read_fine n bs night dealer)
    (cond (kind == 6) (read_finished n bs night dealer)
    (cond (kind == 7) (read_value n bs night dealer)
    None))))))

unfoldable pub parse : (n high low : ℕ) → List ℕ → Option Message
parse n high low bs = cond (nat_le 6 (length bs) && nat_lt (slice_index bs 5) n) (by_kind n high low bs (slice_index bs 0) (number4 bs 1) (slice_index bs 5)) None

-- Bytes are read as a message if and only if they are its bytes and it is in range.
abbrev pub Bytes : List ℕ → Type 0
Bytes bs = (i : ℕ) → slice_index bs i < 256

abbrev pub ReadsWhatIsWritten : Type 0
ReadsWhatIsWritten =
    (n high low : ℕ) → n < 256 → (bs : List ℕ) → Bytes bs → (m : Message) →
    (parse n high low bs ≡ Some m → (bs ≡ wire m) × InRange n high low m) × ((bs ≡ wire m) × InRange n high low m → parse n high low bs ≡ Some m)
