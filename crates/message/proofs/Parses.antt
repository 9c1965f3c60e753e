-- What it means that bytes are parsed, or are not.
use Rattle.std.proofs.Common.{◌≡◌, ◌≢◌, ℕ, ◌<◌, ◌≤◌, List, length, get_or, Some, None, Result, MatchResult, Fits, w8, arith}
use Rattle.std.proofs.lemmas.Result.{MatchResult-weaker}
use Rattle.std.proofs.lemmas.Bool.Decides.{nat_tests}
use Rattle.rules.specs.Message as rules
use Rattle.rules.specs.Wire.{parse, by_kind, wire, InRange, number4}
use Rattle.rules.proofs.Reading.{reads_what_is_written_lem}
use Rattle.message.specs.declared.kind.Kind.{Kind}
use Rattle.message.specs.declared.kind.Kind.TheVariants as kind
use Rattle.message.specs.declared.types.Malformed.{Malformed}
use Rattle.message.specs.declared.types.Message.{Message}
use Rattle.message.specs.Model.{byte_of, message_of}

module _ (n high low : ℕ) (bs : List ℕ) where
  pub no_kind : (byte night dealer : ℕ) → ((k : Kind) → byte_of k ≢ byte) → by_kind n high low bs byte night dealer ≡ None
  no_kind byte night dealer other =
      grind (arith, nat_tests, other kind.Share, other kind.Told, other kind.Complaint, other kind.Reveal, other kind.Fine, other kind.Finished, other kind.Value)

  pub too_short : length bs < 6 → parse n high low bs ≡ None
  unfolding parse
  too_short h = grind (arith, nat_tests)

  pub no_dealer : n ≤ get_or bs 5 0 → parse n high low bs ≡ None
  unfolding parse
  no_dealer h = grind (arith, nat_tests)

  pub whole : 6 ≤ length bs → get_or bs 5 0 < n → parse n high low bs ≡ by_kind n high low bs (get_or bs 0 0) (number4 bs 1) (get_or bs 5 0)
  unfolding parse
  whole h lt = grind (arith, nat_tests)

  module _ (few : Fits w8 n) (b : (i : ℕ) → Fits w8 (get_or bs i 0)) where
    as_written : (m : rules.Message) → (parse n high low bs ≡ Some m → (bs ≡ wire m) × InRange n high low m) × ((bs ≡ wire m) × InRange n high low m → parse n high low bs ≡ Some m)
    as_written = reads_what_is_written_lem n high low few.fits bs (λ i. (b i).fits)

    no_message : parse n high low bs ≡ None → (m : rules.Message) → InRange n high low m → bs ≢ wire m
    no_message none m w is = let some = (as_written m).1 (is, w) in cc

    abbrev pub Parsed : Result Message Malformed → Type 0
    Parsed r = MatchResult r (λ m. parse n high low bs ≡ Some (message_of m)) (λ _. parse n high low bs ≡ None)

    -- what was parsed is what was written
    pub both : (r : Result Message Malformed) → Parsed r → record {
      parses : Parsed r;
      written : MatchResult r (λ m. (bs ≡ wire (message_of m)) × InRange n high low (message_of m)) (λ _. (m : rules.Message) → InRange n high low m → bs ≢ wire m);
    }
    both r h = record {
      parses = h;
      written = MatchResult-weaker r h (λ m. (as_written (message_of m)).0) (λ _. no_message);
    }
