-- The rules can be kept, whatever is drawn: by a run in which nobody lies.
use Rattle.std.proofs.Common.{ℕ, ◌+◌, ◌≤◌, true, List, Some, None, refl, ap, arith}
use Rattle.algebra.specs.Polynomial.{Exact2}
use Rattle.algebra.specs.Sharing.{pair_at, share_of}
use Rattle.rules.specs.Deal.{Group, Sound, Dealing, Kept, Strict, Fair}
use Rattle.nights.specs.Run.{at}
use Rattle.nights.specs.Promise.{CanBeKept}
use Rattle.rules.proofs.Slots.{never}
use Rattle.rules.proofs.Fairly.{shares-agree, lows, fits}

-- the dealing in which everybody does as told
pub plain : (p : ℕ) → List (List ℕ) → Dealing
plain p rs = record { dealt = share_of p rs; told = λ i j. Some (pair_at p (share_of p rs i) j); complaints = λ i j. None; reveals = λ i. None; fine = λ i. true }

module _ (g : Group) (sound : Sound g) (high low : ℕ) (h1 : 1 ≤ high) (rs : List (List ℕ)) (drawn : Exact2 g.p high low rs) where
  pub fair : Fair g high low rs (plain g.p rs)
  unfolding plain
  fair = record { chance = drawn; deals = λ i h. refl; reveals = λ k h s e. never e; answers = λ a ha b hb x e. never e }

  pub kept : Kept g high low (plain g.p rs)
  unfolding plain
  kept = record {
    shares = λ i h. (lows g sound high low h1 rs (plain g.p rs) fair i, shares-agree g rs i i);
    tells = λ i j h k n. refl;
    complains = λ i j h k q. absurd (q.1 (ap Some (shares-agree g rs j i)));
    says_fine = λ i h _. fits g sound high low h1 rs (plain g.p rs) fair i h.0 refl;
  }

  pub strict : Strict g high low (plain g.p rs)
  unfolding plain
  strict = record { only_then = λ i j h k x e. never e; fines_if = λ i h _. refl }

pub can_be_kept_lem : CanBeKept
can_be_kept_lem k lasting chance drawn dropped = (
  record { chance = chance; deal = λ t j. plain k.p (chance t j); dropped = dropped },
  record {
    kept = λ t j h. kept (at k t) (lasting.sound t) (k.f + 1) _ (omega arith) (chance t j) (drawn t j h);
    strict = λ t j h. strict (at k t) (lasting.sound t) (k.f + 1) _ (omega arith) (chance t j) (drawn t j h);
    fair = λ t j h o. fair (at k t) (lasting.sound t) (k.f + 1) _ (omega arith) (chance t j) (drawn t j h);
  },
  refl,
  refl,
)
