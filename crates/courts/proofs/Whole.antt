-- The theorem.
use Rattle.std.proofs.Common.{◌≡◌, ℕ, ◌+◌, ◌%◌, ◌<◌, ◌≤◌, Bool, List, subst}
use mathlib.Core.List.{Memᴰ}
use Rattle.algebra.specs.Prime.{p}
use Rattle.algebra.specs.Polynomial.{value2}
use Rattle.rules.proofs.Whole.{sound_group}
use Rattle.nights.specs.Run.{Keepers, Lasting, Spied}
use Rattle.nights.proofs.Forever.{who, by}
use Rattle.courts.specs.Court.{dealers_of}
use Rattle.courts.specs.Nights.{Nights, Plays}
use Rattle.courts.specs.Promise.{polynomial, Deals, Given, Stays, OneDay, Seen, Moved, Liars, Theorem}
use Rattle.courts.proofs.Held.{deals_so, stays_so}
use Rattle.courts.proofs.Other.{n, plays_n, seen_n, moved_n, secret_n}

abbrev keepers : ℕ → (ℕ → ℕ → Bool) → Keepers
keepers f lies = record { p = p; f = f; lies = lies }

pub lasting_of : (f : ℕ) → f ≤ 5 → (lies : ℕ → ℕ → Bool) → Liars f lies → Lasting (keepers f lies)
lasting_of f few lies liars = record { sound = λ t. sound_group f few (lies t) (liars.few t); on = liars.on }

module _ (m : Nights) (lies : ℕ → ℕ → Bool) where
  abbrev Holds : ℕ → Type 0
  Holds f = f ≤ 5 → Liars f lies → Plays m lies → ((t d : ℕ) → t < m.many → m.calls t ≡ 6 → d < dealers_of f t → Deals m lies t d) × (0 < m.many → Given m lies → Stays m lies)

  holds : Holds m.f
  holds few liars plays = let l = lasting_of m.f few lies liars in (deals_so m lies l plays few liars.few, stays_so m lies l plays few)

  module _ (day night : ℕ → List ℕ) (out : Memᴰ 0 (night 0) → ⊥) where
    abbrev Hidden : ℕ → Type 0
    Hidden f = (few : f ≤ 5) (liars : Liars f lies) (spied : Spied (keepers f lies) day night) → 0 < m.many → Plays m lies → OneDay m lies day → (δ : ℕ) →
        (x : Nights) × Plays x lies × (value2 p (polynomial x 0 0) 0 0 ≡ (value2 p (polynomial m 0 0) 0 0 + δ) % p) × Seen lies day night m x ×
        Moved lies (who (keepers f lies) (lasting_of f few lies liars) day night spied out) (by (keepers f lies) (lasting_of f few lies liars) day night spied out δ) m x

    hidden : Hidden m.f
    hidden few liars spied some plays one-day δ = let l = lasting_of m.f few lies liars in (
      n m lies l plays few liars.few day night spied out δ,
      plays_n m lies l plays few liars.few day night spied out δ,
      secret_n m lies l plays few liars.few day night spied out δ some,
      seen_n m lies l plays few liars.few day night spied out δ one-day,
      moved_n m lies l plays few liars.few day night spied out δ,
    )

pub theorem : Theorem
theorem f few lies liars = (
  λ m e plays. subst (Holds m lies) e (holds m lies) few liars plays,
  λ day night spied out. (
    who (keepers f lies) (lasting_of f few lies liars) day night spied out,
    by (keepers f lies) (lasting_of f few lies liars) day night spied out,
    λ m e some plays one-day δ. subst (Hidden m lies day night out) e (hidden m lies day night out) few liars spied some plays one-day δ,
  ),
)
