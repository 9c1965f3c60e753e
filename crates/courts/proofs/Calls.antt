-- A court through the rounds of a night.
use Rattle.std.proofs.Common.{◌≡◌, ℕ, zero, suc, ◌+◌, ◌<◌, ◌≤◌, Bool, true, false, cond, not, eqb, ltb, List, map, length, get_or, set, replicate, None, Option, sym, refl, ap, ◌∙◌, subst, true≢false, arith, get_or-set_other, get_or-set_same, lt-ltb, eq-eqb, ne_eqb}
use mathlib.Core.Bool.{false≢true}
use native.Mathlib.Decide.{ℕ_discrete}
use Rattle.std.specs.List.{range_with_len}
use Rattle.std.specs.Option.{option_map}
use Rattle.algebra.specs.Prime.{p}
use Rattle.algebra.specs.Sharing.{share_of}
use Rattle.rules.specs.Rounds.{Hand, nothing_heard, nothing_posted}
use Rattle.rules.specs.Seat as seat
use Rattle.rules.specs.Seat.{Terms, State, unless}
use Rattle.courts.specs.Court.{Court, Round, Over, terms_at, seat_at, outcome, advanced, own_hand, decided_at, ended}
use Rattle.courts.specs.Nights.{step}

-- the first five calls
pub call_early : (c : Court) → c.spent ≡ false → c.round < 5 → step c Round ≡ advanced c (c.round + 1) c.chance (cond (eqb c.round 0) (set c.hands c.me (own_hand c)) c.hands) c.kept
call_early c e h = by c.spent e c.round h
  where
    by : (b : Bool) → b ≡ false → (r : ℕ) → r < 5 →
        (outcome (unless (ltb r 6) 2 (unless (not b) 7 None)) (cond (eqb r 0) (advanced c 1 c.chance (set c.hands c.me (own_hand c)) c.kept)
        (cond (eqb r 5) (advanced c 6 None (replicate 16 nothing_heard) (map (decided_at c) (range_with_len 0 16))) (advanced c (r + 1) c.chance c.hands c.kept))) c).0
        ≡ advanced c (r + 1) c.chance (cond (eqb r 0) (set c.hands c.me (own_hand c)) c.hands) c.kept
    by true q r h = absurd (true≢false q)
    by false q zero h = refl
    by false q (suc zero) h = refl
    by false q (suc (suc zero)) h = refl
    by false q (suc (suc (suc zero))) h = refl
    by false q (suc (suc (suc (suc zero)))) h = refl
    by false q (suc (suc (suc (suc (suc r))))) h = absurd (omega arith)

-- the sixth
pub call_last : (c : Court) → c.spent ≡ false → c.round ≡ 5 → step c Round ≡ advanced c 6 None (replicate 16 nothing_heard) (map (decided_at c) (range_with_len 0 16))
call_last c e h = by c.spent e c.round h
  where
    by : (b : Bool) → b ≡ false → (r : ℕ) → r ≡ 5 →
        (outcome (unless (ltb r 6) 2 (unless (not b) 7 None)) (cond (eqb r 0) (advanced c 1 c.chance (set c.hands c.me (own_hand c)) c.kept)
        (cond (eqb r 5) (advanced c 6 None (replicate 16 nothing_heard) (map (decided_at c) (range_with_len 0 16))) (advanced c (r + 1) c.chance c.hands c.kept))) c).0
        ≡ advanced c 6 None (replicate 16 nothing_heard) (map (decided_at c) (range_with_len 0 16))
    by true q r h = absurd (true≢false q)
    by false q zero h = absurd (omega arith)
    by false q (suc zero) h = absurd (omega arith)
    by false q (suc (suc zero)) h = absurd (omega arith)
    by false q (suc (suc (suc zero))) h = absurd (omega arith)
    by false q (suc (suc (suc (suc zero)))) h = absurd (omega arith)
    by false q (suc (suc (suc (suc (suc zero))))) h = refl
    by false q (suc (suc (suc (suc (suc (suc r)))))) h = absurd (omega arith)

-- the night's end
pub end_is : (c : Court) → 1 ≤ c.round → step c Over ≡ ended c
end_is c h = ap (λ b. (outcome (unless b 2 None) (ended c) c).0) (lt-ltb 0 c.round h)

-- a seat when one of the first five rounds is called
module _ (c : Court) (d : ℕ) (e : c.spent ≡ false) (early : c.round < 5) (hl : d < length c.hands) (none : c.round ≡ 0 → get_or c.hands d nothing_heard ≡ nothing_heard) where
  abbrev own : Hand
  own = record { share = seat.own_deal (terms_at c d) (seat_at c d); told = (get_or c.hands d nothing_heard).told }

  first_hand : c.round ≡ 0 → get_or (set c.hands c.me (own_hand c)) d nothing_heard ≡ own
  first_hand z = go (ℕ_discrete d c.me)
    where
      there : (b : Bool) → b ≡ true → (a : Bool) → a ≡ true → cond b (option_map (λ rs. share_of p rs c.me) (cond a c.chance None)) None ≡ option_map (λ rs. share_of p rs c.me) c.chance
      there true q true r = refl
      there true q false r = absurd (false≢true r)
      there false q a r = absurd (false≢true q)

      else : (b : Bool) → b ≡ false → (o : Option (List (List ℕ))) → cond b (option_map (λ rs. share_of p rs c.me) o) None ≡ None
      else true q o = absurd (true≢false q)
      else false q o = refl

      go : Dec (d ≡ c.me) → get_or (set c.hands c.me (own_hand c)) d nothing_heard ≡ own
      go (yes q) = subst (λ k. get_or (set c.hands c.me (own_hand c)) k nothing_heard ≡ own_hand c) (sym q) (get_or-set_same c.hands c.me (own_hand c) nothing_heard (subst (λ k. k < length c.hands) q hl)) ∙
          (λ y. record { share = sym (there (eqb c.me d) (eq-eqb c.me d (sym q)) (eqb d c.me) (eq-eqb d c.me q)) y; told = sym (ap (λ (h : Hand). h.told) (none z)) y })
      go (no n) = get_or-set_other c.hands c.me d (own_hand c) nothing_heard n ∙ none z ∙
          (λ y. record { share = sym (else (eqb c.me d) (ne_eqb c.me d (λ q. n (sym q))) (cond (eqb d c.me) c.chance None)) y; told = sym (ap (λ (h : Hand). h.told) (none z)) y })

  pub call_seat : seat_at (step c Round) d ≡ seat.called (terms_at c d) (seat_at c d)
  call_seat = ap (λ k. seat_at k d) (call_early c e early) ∙ by c.round early first_hand
    where
      at : ℕ → Hand → State
      at r h = record { round = r; chance = cond (eqb d c.me) c.chance None; hand = h; posts = get_or c.boards d nothing_posted; kept = get_or c.kept d None }

      by : (r : ℕ) → r < 5 → (r ≡ 0 → get_or (set c.hands c.me (own_hand c)) d nothing_heard ≡ own) →
          at (r + 1) (get_or (cond (eqb r 0) (set c.hands c.me (own_hand c)) c.hands) d nothing_heard) ≡ seat.called (terms_at c d) (at r (get_or c.hands d nothing_heard))
      by zero h f = ap (at 1) (f refl)
      by (suc zero) h f = refl
      by (suc (suc zero)) h f = refl
      by (suc (suc (suc zero))) h f = refl
      by (suc (suc (suc (suc zero)))) h f = refl
      by (suc (suc (suc (suc (suc r))))) h f = absurd (omega arith)
