-- The messages, one kind for each first byte. Each names a night and a dealer.
use Rattle.std.specs.Prelude.{ℕ, Bool}
use Rattle.algebra.specs.Sharing as sharing

pub data Message : Type 0 where
  -- to one keeper: its share of the dealing
  Share : (night dealer : ℕ) → sharing.Share → Message
  -- to one keeper: what the sender's share gives at that keeper's point
  Told : (night dealer : ℕ) → sharing.Pair → Message
  -- on the board: by whom, about whom, and what by's own share gives at about's point
  Complaint : (night dealer by about : ℕ) → sharing.Pair → Message
  -- on the board: a keeper's share
  Reveal : (night dealer keeper : ℕ) → sharing.Share → Message
  -- on the board: whether all fits for a keeper
  Fine : (night dealer keeper : ℕ) → Bool → Message
  -- on the board: a keeper is done with the night's dealings
  Finished : (night dealer keeper : ℕ) → Message
  -- to whoever opens the secret: a keeper's value
  Value : (night dealer keeper value : ℕ) → Message
