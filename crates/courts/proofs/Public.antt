-- All courts that keep the rules see the same: who has finished, and whether a night is over.
use Rattle.std.proofs.Common.{◌≡◌, ℕ, zero, suc, ◌+◌, ◌*◌, ◌<◌, ◌≤◌, Bool, true, false, cond, not, ◌&&◌, T, eqb, ltb, leb, List, [], ◌∷◌, get_or, set, replicate, Some, None, Option, sym, refl, ap, ◌∙◌, subst, ap₂, arith}
use mathlib.Core.List.{foldl}
use native.Mathlib.Decide.{ℕ_discrete}
use Rattle.algebra.specs.Counting.{count}
use Rattle.rules.specs.Deal.{Group, size, away, Sound, Honest}
use Rattle.rules.specs.Rounds.{Said}
use Rattle.rules.specs.Message.{Message, Share, Told, Complaint, Reveal, Fine, Finished, Value}
use Rattle.rules.specs.Wire.{parse}
use Rattle.rules.specs.Seat.{unless}
use Rattle.rules.specs.Play as play
use Rattle.rules.specs.Play.{board_of}
use Rattle.rules.proofs.Dealt.{honest_if}
use Rattle.nights.specs.Run.{Lasting, at}
use Rattle.courts.specs.Court.{Court, at_day, Chance, low_of, outcome, of_read, read_by, mail_heard, board_posted, with_finished, finished_refusal, is_over}
use Rattle.courts.specs.Nights.{Nights, Called, keepers_of, step, comes, fed, during, begins, within, called}
use Rattle.courts.proofs.Routing.{line_same}
use Rattle.courts.proofs.Calls.{call_early, call_last}
use Rattle.courts.proofs.Sits.{sits, sits_call, start_is}
use Rattle.courts.proofs.Eves.{Here, here}

-- who has finished, after one line of the board in round r of night t
abbrev pub ended : Option ℕ → (new old : List Bool) → List Bool
ended None new old = new
ended (Some k) new old = old

abbrev pub marked : (f t r : ℕ) → List Bool → (who : ℕ) → Option Message → List Bool
marked f t r fs who None = fs
marked f t r fs who (Some (Share night dealer x)) = fs
marked f t r fs who (Some (Told night dealer a)) = fs
marked f t r fs who (Some (Complaint night dealer by about a)) = fs
marked f t r fs who (Some (Reveal night dealer keeper x)) = fs
marked f t r fs who (Some (Fine night dealer keeper b)) = fs
marked f t r fs who (Some (Finished night dealer keeper)) =
    ended (unless (ltb who (3 * f + 1)) 1 (unless (eqb night t && eqb r 6) 2 (unless (eqb keeper who && not (get_or fs who false)) 3 None))) (set fs who true) fs
marked f t r fs who (Some (Value night dealer keeper v)) = fs

abbrev pub mark : (f t r : ℕ) → List Bool → Said (List ℕ) → List Bool
mark f t r fs w = marked f t r fs w.by (parse (3 * f + 1) (f + 1) (low_of f t) w.word)

same_outcome : (c : Court) (o : Option ℕ) (new : Court) → new.finished ≡ c.finished → (outcome o new c).0.finished ≡ c.finished
same_outcome c None new e = e
same_outcome c (Some k) new e = refl

mail-finished : (c : Court) (from : ℕ) (o : Option Message) → (of_read c o (mail_heard c from)).0.finished ≡ c.finished
mail-finished c from None = refl
mail-finished c from (Some m) = same_outcome c _ _ refl

board-finished : (c : Court) (who : ℕ) (o : Option Message) → (of_read c o (board_posted c who)).0.finished ≡ marked c.f c.night c.round c.finished who o
board-finished c who None = refl
board-finished c who (Some (Share night dealer x)) = same_outcome c _ _ refl
board-finished c who (Some (Told night dealer a)) = same_outcome c _ _ refl
board-finished c who (Some (Complaint night dealer by about a)) = same_outcome c _ _ refl
board-finished c who (Some (Reveal night dealer keeper x)) = same_outcome c _ _ refl
board-finished c who (Some (Fine night dealer keeper b)) = same_outcome c _ _ refl
board-finished c who (Some (Finished night dealer keeper)) = by (finished_refusal c who night keeper)
  where
    by : (o : Option ℕ) → (outcome o (with_finished c who) c).0.finished ≡ ended o (set c.finished who true) c.finished
    by None = refl
    by (Some k) = refl
board-finished c who (Some (Value night dealer keeper v)) = same_outcome c _ _ refl

fed_finished : (c : Court) (ls : List play.Line) → (fed c ls).finished ≡ foldl (mark c.f c.night c.round) c.finished (board_of ls)
unfolding fed board_of
fed_finished c [] = refl
fed_finished c (play.Mail from bs ∷ ls) = let e = (line_same c (play.Mail from bs)).frame in
    fed_finished (step c (comes (play.Mail from bs))) ls ∙ ap (λ k. foldl (mark k.f k.night k.round) (step c (comes (play.Mail from bs))).finished (board_of ls)) e ∙
    ap (λ fs. foldl (mark c.f c.night c.round) fs (board_of ls)) (mail-finished c from (read_by c bs))
fed_finished c (play.Board who bs ∷ ls) = let e = (line_same c (play.Board who bs)).frame in
    fed_finished (step c (comes (play.Board who bs))) ls ∙ ap (λ k. foldl (mark k.f k.night k.round) (step c (comes (play.Board who bs))).finished (board_of ls)) e ∙
    ap (λ fs. foldl (mark c.f c.night c.round) fs (board_of ls)) (board-finished c who (read_by c bs))

-- an honest keeper
one_less : (n : ℕ) (test : ℕ → Bool) → count n test < n → (h : ℕ) × (h < n) × (T (test h) → ⊥)
unfolding count
one_less zero test l = absurd (omega arith)
one_less (suc n) test l = by (test n) refl (λ k. one_less n test k)
  where
    by : (b : Bool) → test n ≡ b → (count n test < n → (h : ℕ) × (h < n) × (T (test h) → ⊥)) → (h : ℕ) × (h < suc n) × (T (test h) → ⊥)
    by false e r = (n, omega arith, λ q. subst T e q)
    by true e r = let z : ◌≡◌ {A = ℕ} (cond (test n) 1 0) 1 = ap (λ b. cond b 1 0) e in let k = r (omega (arith, z)) in (k.0, omega (arith, k.1), k.2)

pub some_honest : (g : Group) → Sound g → (h : ℕ) × Honest g h
some_honest g sound = let k = one_less (size g) (away g) (omega (arith, sound.few)) in (k.0, honest_if g k.0 k.1 k.2)

-- WHO HAS FINISHED, by the board
unfoldable pub finished_at : Nights → (t r : ℕ) → List Bool
finished_at m t zero = foldl (mark m.f t 0) (replicate 16 false) (m.board t 0)
finished_at m t (suc r) = foldl (mark m.f t (suc r)) (finished_at m t r) (m.board t (suc r))

pub finished_same : (m n : Nights) → m.f ≡ n.f → m.board ≡ n.board → (t r : ℕ) → finished_at m t r ≡ finished_at n t r
unfolding finished_at
finished_same m n f b t zero = ap₂ (λ g l. foldl (mark g t 0) (replicate 16 false) (l t 0)) f b
finished_same m n f b t (suc r) = ap₂ (λ g l. foldl (mark g t (suc r)) (finished_at m t r) (l t (suc r))) f b ∙ ap (λ fs. foldl (mark n.f t (suc r)) fs (n.board t (suc r))) (finished_same m n f b t r)

-- and whether the night is over
abbrev pub over_at : Nights → ℕ → Bool
over_at m t = eqb (m.calls t) 6 && leb (2 * m.f + 1) (count (3 * m.f + 1) (λ i. get_or (finished_at m t (m.calls t)) i false))

module _ (m : Nights) (lies : ℕ → ℕ → Bool) (lasting : Lasting (keepers_of m lies)) (plays : Called m lies) (t i : ℕ) (soon : t < m.many) (hi : Honest (at (keepers_of m lies) t) i) (eve : begins m t i ≡ at_day m.f i t false (begins m t i).value) where
  call_finished : (r : ℕ) → suc r ≤ 6 → (called m t r i).finished ≡ (within m t r i).finished
  call_finished r h = elim (ℕ_discrete r 5) [
    | yes e ↦ subst (λ k. (called m t k i).finished ≡ (within m t k i).finished) (sym e) (let s = sits m lies plays t i soon hi eve 5 (omega arith) in ap (λ (c : Court). c.finished) (call_last (within m t 5 i) s.spent s.round))
    | no n ↦ let s = sits m lies plays t i soon hi eve r (omega arith) in ap (λ (c : Court). c.finished) (call_early (within m t r i) s.spent (omega (arith, s.round)))
  ]

  pub call_here : (r : ℕ) → suc r ≤ 6 → Here m t (suc r) i (called m t r i)
  call_here r h = elim (ℕ_discrete r 5) [
    | yes e ↦ subst (λ k. Here m t (suc k) i (called m t k i)) (sym e) (let s = sits m lies plays t i soon hi eve 5 (omega arith) in let q = call_last (within m t 5 i) s.spent s.round in
        record { f = ap (λ (c : Court). c.f) q ∙ s.f; me = ap (λ (c : Court). c.me) q ∙ s.me; night = ap (λ (c : Court). c.night) q ∙ s.night; value = ap (λ (c : Court). c.value) q ∙ s.value; round = ap (λ (c : Court). c.round) q })
    | no n ↦ let s = sits_call m t r i (within m t r i) (omega arith) (sits m lies plays t i soon hi eve r (omega arith)) in record { f = s.f; me = s.me; night = s.night; value = s.value; round = s.round }
  ]

  pub finished_is : (r : ℕ) → r ≤ m.calls t → (within m t r i).finished ≡ finished_at m t r
  unfolding during finished_at
  finished_is zero h = let c0 = step (begins m t i) (Chance (m.draws t i)) in let e = start_is m lies plays t i soon hi eve in
      fed_finished c0 (m.lines t 0 i) ∙ ap (λ (c : Court). foldl (mark c.f c.night c.round) c.finished (board_of (m.lines t 0 i))) e ∙
      ap (foldl (mark m.f t 0) (replicate 16 false)) (plays.sees t 0 i soon (omega arith) hi)
  finished_is (suc r) h = let six : suc r ≤ 6 = omega (arith, (plays.rounds t soon).1) in let s = call_here r six in
      fed_finished (called m t r i) (m.lines t (suc r) i) ∙ ap₂ (λ f n. foldl (mark f n (called m t r i).round) (called m t r i).finished (board_of (m.lines t (suc r) i))) s.f s.night ∙
      ap (λ n. foldl (mark m.f t n) (called m t r i).finished (board_of (m.lines t (suc r) i))) s.round ∙
      ap₂ (foldl (mark m.f t (suc r))) (call_finished r six ∙ finished_is r (omega arith)) (plays.sees t (suc r) i soon h hi)

  pub over_is : is_over (within m t (m.calls t) i) ≡ over_at m t
  over_is = let s = here m lies lasting plays t i soon hi eve (m.calls t) (plays.rounds t soon).1 in
      ap₂ (λ n f. eqb n 6 && leb (2 * f + 1) (count (3 * f + 1) (λ i'. get_or (within m t (m.calls t) i).finished i' false))) s.round s.f ∙
      ap (λ fs. eqb (m.calls t) 6 && leb (2 * m.f + 1) (count (3 * m.f + 1) (λ i'. get_or fs i' false))) (finished_is (m.calls t) (omega arith))
