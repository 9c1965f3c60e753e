-- What each place holds after its round: the first word that it takes of what came in the round.
use Rattle.std.proofs.Common.{◌≡◌, ℕ, zero, suc, ◌<◌, ◌≤◌, Bool, true, false, cond, not, ◌&&◌, eqb, ltb, List, [], length, get_or, set, replicate, Some, None, Option, sym, refl, ap, ◌∙◌, ap₂, arith, length-set, get_or-set_other, ltb-true, eq-eqb, ne_eqb, eqb-true}
use native.Mathlib.Decide.{ℕ_discrete}
use lib.ListN.{get_or-replicate}
use Rattle.std.proofs.lemmas.Bool.{and_parts, and_from, and_left, both_ways}
use Rattle.algebra.specs.Sharing.{Share, Pair}
use Rattle.rules.specs.Rounds.{Setting, keepers, Letter, Post, Deal, Told, Complaint, Reveal, Fine, Hand, Posts, Lines, hand, board, heard, posted, told_by, complaint, revealed, said_fine, complained, nothing_heard, words_by}
use Rattle.rules.proofs.Slots.{or, or_none, first, folded, steady, placed, put_here, row, either, alone, off, off_left, blank, blank2}

-- what a word offers to each place
abbrev pub offer_deal : Setting → ℕ → Letter → Option Share
offer_deal s from (Deal x) = cond (eqb from s.dealer && true) (Some x) None
offer_deal s from (Told x) = None

abbrev pub offer_told : Setting → ℕ → ℕ → Letter → Option Pair
offer_told s i from (Deal x) = None
offer_told s i from (Told x) = cond (ltb from (keepers s) && eqb from i) (Some x) None

abbrev pub offer_complaint : Setting → (i j : ℕ) → ℕ → Post → Option Pair
offer_complaint s i j from (Complaint a x) = cond ((ltb from (keepers s) && (ltb a (keepers s) && not (eqb from a))) && (eqb from i && eqb a j)) (Some x) None
offer_complaint s i j from (Reveal k x) = None
offer_complaint s i j from (Fine b) = None

abbrev pub offer_reveal : Setting → Posts → ℕ → ℕ → Post → Option Share
offer_reveal s q i from (Complaint a x) = None
offer_reveal s q i from (Reveal k x) = cond ((eqb from s.dealer && (ltb k (keepers s) && complained s q k)) && eqb k i) (Some x) None
offer_reveal s q i from (Fine b) = None

abbrev pub offer_fine : Setting → ℕ → ℕ → Post → Option Bool
offer_fine s i from (Complaint a x) = None
offer_fine s i from (Reveal k x) = None
offer_fine s i from (Fine b) = cond (ltb from (keepers s) && eqb from i) (Some b) None

record Sized (q : Posts) : Type 0 where
  rows : length q.complaints ≡ 16
  each : (a : ℕ) → a < 16 → length (get_or q.complaints a []) ≡ 16
  shown : length q.reveals ≡ 16
  said : length q.fines ≡ 16

module _ (s : Setting) (run : Lines) (fit : keepers s ≤ 16) where
  -- places stand still in other rounds
  share_step : (r : ℕ) → eqb r 1 ≡ false → (h : Hand) (from : ℕ) (w : Letter) → (heard s r h (record { by = from; word = w })).share ≡ h.share
  share_step r e h from (Deal x) = rw e
  share_step r e h from (Told x) = either (λ (t : Hand). t.share ≡ h.share) _ refl refl

  told_step : (r : ℕ) → eqb r 2 ≡ false → (h : Hand) (from : ℕ) (w : Letter) → (heard s r h (record { by = from; word = w })).told ≡ h.told
  told_step r e h from (Deal x) = either (λ (t : Hand). t.told ≡ h.told) _ refl refl
  told_step r e h from (Told x) = rw e

  complaints_step : (r : ℕ) → eqb r 3 ≡ false → (q : Posts) (from : ℕ) (w : Post) → (posted s r q (record { by = from; word = w })).complaints ≡ q.complaints
  complaints_step r e q from (Complaint a x) = rw e
  complaints_step r e q from (Reveal k x) = either (λ (t : Posts). t.complaints ≡ q.complaints) _ refl refl
  complaints_step r e q from (Fine b) = either (λ (t : Posts). t.complaints ≡ q.complaints) _ refl refl

  reveals_step : (r : ℕ) → eqb r 4 ≡ false → (q : Posts) (from : ℕ) (w : Post) → (posted s r q (record { by = from; word = w })).reveals ≡ q.reveals
  reveals_step r e q from (Complaint a x) = either (λ (t : Posts). t.reveals ≡ q.reveals) _ refl refl
  reveals_step r e q from (Reveal k x) = rw e
  reveals_step r e q from (Fine b) = either (λ (t : Posts). t.reveals ≡ q.reveals) _ refl refl

  fines_step : (r : ℕ) → eqb r 5 ≡ false → (q : Posts) (from : ℕ) (w : Post) → (posted s r q (record { by = from; word = w })).fines ≡ q.fines
  fines_step r e q from (Complaint a x) = either (λ (t : Posts). t.fines ≡ q.fines) _ refl refl
  fines_step r e q from (Reveal k x) = either (λ (t : Posts). t.fines ≡ q.fines) _ refl refl
  fines_step r e q from (Fine b) = rw e

  pub share-stays : (r j : ℕ) → (suc r ≡ 1 → ⊥) → (hand s run (suc r) j).share ≡ (hand s run r j).share
  unfolding hand
  share-stays r j n = steady (λ h. h.share ≡ (hand s run r j).share) (heard s (suc r)) (λ h m e. share_step (suc r) (ne_eqb (suc r) 1 n) h m.by m.word ∙ e) (hand s run r j) (run.mail (suc r) j) refl

  pub told-stays : (r j : ℕ) → (suc r ≡ 2 → ⊥) → (hand s run (suc r) j).told ≡ (hand s run r j).told
  unfolding hand
  told-stays r j n = steady (λ h. h.told ≡ (hand s run r j).told) (heard s (suc r)) (λ h m e. told_step (suc r) (ne_eqb (suc r) 2 n) h m.by m.word ∙ e) (hand s run r j) (run.mail (suc r) j) refl

  pub complaints_stay : (r : ℕ) → (suc r ≡ 3 → ⊥) → (board s run (suc r)).complaints ≡ (board s run r).complaints
  unfolding board
  complaints_stay r n = steady (λ q. q.complaints ≡ (board s run r).complaints) (posted s (suc r)) (λ q m e. complaints_step (suc r) (ne_eqb (suc r) 3 n) q m.by m.word ∙ e) (board s run r) (run.board (suc r)) refl

  pub reveals_stay : (r : ℕ) → (suc r ≡ 4 → ⊥) → (board s run (suc r)).reveals ≡ (board s run r).reveals
  unfolding board
  reveals_stay r n = steady (λ q. q.reveals ≡ (board s run r).reveals) (posted s (suc r)) (λ q m e. reveals_step (suc r) (ne_eqb (suc r) 4 n) q m.by m.word ∙ e) (board s run r) (run.board (suc r)) refl

  fines_stay : (r : ℕ) → (suc r ≡ 5 → ⊥) → (board s run (suc r)).fines ≡ (board s run r).fines
  unfolding board
  fines_stay r n = steady (λ q. q.fines ≡ (board s run r).fines) (posted s (suc r)) (λ q m e. fines_step (suc r) (ne_eqb (suc r) 5 n) q m.by m.word ∙ e) (board s run r) (run.board (suc r)) refl

  -- 16 places stay 16
  Long : Hand → Type 0
  Long h = length h.told ≡ 16

  long : (r : ℕ) (h : Hand) (from : ℕ) (w : Letter) → Long h → Long (heard s r h (record { by = from; word = w }))
  unfolding Long
  long r h from (Deal x) e = either Long _ e e
  long r h from (Told x) e = either Long _ (length-set h.told from (Some x) ∙ e) e

  sized : (r : ℕ) (q : Posts) (from : ℕ) (w : Post) → Sized q → Sized (posted s r q (record { by = from; word = w }))
  sized r q from (Complaint a x) z = either Sized _ (record { rows = length-set q.complaints from _ ∙ z.rows; each = each; shown = z.shown; said = z.said }) z
    where
      each : (b : ℕ) → b < 16 → length (get_or (set q.complaints from (set (get_or q.complaints from []) a (Some x))) b []) ≡ 16
      each b l = elim (ℕ_discrete from b) [
        | yes e ↦ ap length (put_here q.complaints from b (set (get_or q.complaints from []) a (Some x)) [] e (omega (arith, z.rows))) ∙ length-set (get_or q.complaints from []) a (Some x) ∙ z.each from (omega arith)
        | no n ↦ ap length (get_or-set_other q.complaints from b (set (get_or q.complaints from []) a (Some x)) [] (λ e. n (sym e))) ∙ z.each b l
      ]
  sized r q from (Reveal k x) z = either Sized _ (record { rows = z.rows; each = z.each; shown = length-set q.reveals k (Some x) ∙ z.shown; said = z.said }) z
  sized r q from (Fine b) z = either Sized _ (record { rows = z.rows; each = z.each; shown = z.shown; said = length-set q.fines from (Some b) ∙ z.said }) z

  long_hand : (r j : ℕ) → Long (hand s run r j)
  unfolding hand Long
  long_hand zero j = refl
  long_hand (suc r) j = steady Long (heard s (suc r)) (λ h m e. long (suc r) h m.by m.word e) (hand s run r j) (run.mail (suc r) j) (long_hand r j)

  sized-board : (r : ℕ) → Sized (board s run r)
  unfolding board
  sized-board zero = record { rows = refl; each = λ a h. ap length (get_or-replicate 16 a (replicate 16 None) [] h); shown = refl; said = refl }
  sized-board (suc r) = steady Sized (posted s (suc r)) (λ q m z. sized (suc r) q m.by m.word z) (board s run r) (run.board (suc r)) (sized-board r)

  -- each place in its round
  deal_keeps : (h : Hand) (from : ℕ) (w : Letter) → (heard s 1 h (record { by = from; word = w })).share ≡ or h.share (offer_deal s from w)
  deal_keeps h from (Deal x) = placed (λ (t : Hand). t.share) h _ (eqb from s.dealer) true h.share x (λ _ _. (refl, refl)) (λ o t. absurd (let z : ◌≡◌ {A = ℕ} 0 1 = cc in omega arith))
  deal_keeps h from (Told x) = sym (or_none _)

  told_keeps : (i : ℕ) (h : Hand) (from : ℕ) (w : Letter) → Long h → told_by (heard s 2 h (record { by = from; word = w })) i ≡ or (told_by h i) (offer_told s i from w)
  unfolding Long
  told_keeps i h from (Deal x) l = sym (or_none _)
  told_keeps i h from (Told x) l = row (λ (t : Hand). t.told) h _ from i (ltb from (keepers s)) x refl (λ o. omega (arith, ltb-true from (keepers s) o, fit))

  complaint_keeps : (i j : ℕ) (q : Posts) (from : ℕ) (w : Post) → Sized q → complaint (posted s 3 q (record { by = from; word = w })) i j ≡ or (complaint q i j) (offer_complaint s i j from w)
  complaint_keeps i j q from (Complaint a x) z = placed (λ t. complaint t i j) q _ (ltb from (keepers s) && (ltb a (keepers s) && not (eqb from a))) (eqb from i && eqb a j) (complaint q from a) x
      (λ o h. let t = and_parts (eqb from i) (eqb a j) h in let e = eqb-true from i t.0 in let k = eqb-true a j t.1 in
      (there o e ∙ put_here line a j (Some x) None k (small o), ap₂ (complaint q) e k))
      (λ o h. elim (ℕ_discrete from i) [
        | yes e ↦ there o e ∙ get_or-set_other line a j (Some x) None (λ k. both_ways _ h (and_from (eqb from i) (eqb a j) (eq-eqb from i e) (eq-eqb a j (sym k)))) ∙ ap (λ k. complaint q k j) e
        | no n ↦ ap (λ (l : List (Option Pair)). get_or l j None) (get_or-set_other q.complaints from i (set line a (Some x)) [] (λ e. n (sym e)))
      ])
    where
      line : List (Option Pair)
      line = get_or q.complaints from []

      Ok : Type 0
      Ok = (ltb from (keepers s) && (ltb a (keepers s) && not (eqb from a))) ≡ true

      from_small : Ok → from < 16
      from_small o = omega (arith, ltb-true from (keepers s) (and_parts (ltb from (keepers s)) _ o).0, fit)

      small : Ok → a < length line
      small o = omega (arith, ltb-true a (keepers s) (and_parts (ltb a (keepers s)) _ (and_parts (ltb from (keepers s)) _ o).1).0, fit, z.each from (from_small o))

      there : Ok → from ≡ i → get_or (get_or (set q.complaints from (set line a (Some x))) i []) j None ≡ get_or (set line a (Some x)) j None
      there o e = ap (λ (l : List (Option Pair)). get_or l j None) (put_here q.complaints from i (set line a (Some x)) [] e (omega (arith, from_small o, z.rows)))
  complaint_keeps i j q from (Reveal k x) z = sym (or_none _)
  complaint_keeps i j q from (Fine b) z = sym (or_none _)

  reveal_keeps : (c q : Posts) (i : ℕ) (from : ℕ) (w : Post) → Sized q → q.complaints ≡ c.complaints → revealed (posted s 4 q (record { by = from; word = w })) i ≡ or (revealed q i) (offer_reveal s c i from w)
  reveal_keeps c q i from (Complaint a x) z e = sym (or_none _)
  reveal_keeps c q i from (Reveal k x) z e =
      row (λ (t : Posts). t.reveals) q _ k i (eqb from s.dealer && (ltb k (keepers s) && complained s q k)) x refl
      (λ o. omega (arith, ltb-true k (keepers s) (and_parts (ltb k (keepers s)) _ (and_parts (eqb from s.dealer) _ o).1).0, fit, z.shown))
      ∙ ap (λ (l : List (List (Option Pair))). or (revealed q i) (offer_reveal s (record { complaints = l; reveals = c.reveals; fines = c.fines }) i from (Reveal k x))) e
  reveal_keeps c q i from (Fine b) z e = sym (or_none _)

  fine_keeps : (i : ℕ) (q : Posts) (from : ℕ) (w : Post) → Sized q → said_fine (posted s 5 q (record { by = from; word = w })) i ≡ or (said_fine q i) (offer_fine s i from w)
  fine_keeps i q from (Complaint a x) z = sym (or_none _)
  fine_keeps i q from (Reveal k x) z = sym (or_none _)
  fine_keeps i q from (Fine b) z = row (λ (t : Posts). t.fines) q _ from i (ltb from (keepers s)) b refl (λ o. omega (arith, ltb-true from (keepers s) o, fit, z.said))

  -- WHAT EACH PLACE HOLDS AFTER ITS ROUND: the first that it takes of the words of the one keeper that can write there
  pub share_is : (j : ℕ) → (hand s run 1 j).share ≡ first (offer_deal s s.dealer) (words_by s.dealer (run.mail 1 j))
  unfolding hand
  share_is j = (folded (λ _. Unit {0}) (λ (h : Hand). h.share) (heard s 1) (λ m. offer_deal s m.by m.word) (λ h m _. (tt, deal_keeps h m.by m.word)) nothing_heard (run.mail 1 j) tt).1
      ∙ alone (offer_deal s) s.dealer others (run.mail 1 j)
    where
      others : (k : ℕ) (w : Letter) → (k ≡ s.dealer → ⊥) → offer_deal s k w ≡ None
      others k (Deal x) n = off_left (eqb k s.dealer) true x (ne_eqb k s.dealer n)
      others k (Told x) n = refl

  pub told_is : (i j : ℕ) → told_by (hand s run 2 j) i ≡ first (offer_told s i i) (words_by i (run.mail 2 j))
  unfolding hand
  told_is i j = (folded Long (λ h. told_by h i) (heard s 2) (λ m. offer_told s i m.by m.word) (λ h m l. (long 2 h m.by m.word l, told_keeps i h m.by m.word l))
      (hand s run 1 j) (run.mail 2 j) (long_hand 1 j)).1
      ∙ ap₂ or (ap (λ (l : List (Option Pair)). get_or l i None) (told-stays 0 j (λ e. omega arith)) ∙ blank 16 i None) (alone (offer_told s i) i others (run.mail 2 j))
    where
      others : (k : ℕ) (w : Letter) → (k ≡ i → ⊥) → offer_told s i k w ≡ None
      others k (Deal x) n = refl
      others k (Told x) n = off (ltb k (keepers s)) (eqb k i) x (ne_eqb k i n)

  pub complaint_is : (i j : ℕ) → complaint (board s run 3) i j ≡ first (offer_complaint s i j i) (words_by i (run.board 3))
  unfolding board
  complaint_is i j = (folded Sized (λ q. complaint q i j) (posted s 3) (λ m. offer_complaint s i j m.by m.word) (λ q m z. (sized 3 q m.by m.word z, complaint_keeps i j q m.by m.word z))
      (board s run 2) (run.board 3) (sized-board 2)).1
      ∙ ap₂ or (ap (λ (l : List (List (Option Pair))). get_or (get_or l i []) j None) (complaints_stay 1 (λ e. omega arith) ∙ complaints_stay 0 (λ e. omega arith)) ∙ blank2 16 16 i j)
      (alone (offer_complaint s i j) i others (run.board 3))
    where
      others : (k : ℕ) (w : Post) → (k ≡ i → ⊥) → offer_complaint s i j k w ≡ None
      others k (Complaint a x) n = off _ (eqb k i && eqb a j) x (and_left (eqb k i) (eqb a j) (ne_eqb k i n))
      others k (Reveal a x) n = refl
      others k (Fine b) n = refl

  pub reveal_is : (i : ℕ) → revealed (board s run 4) i ≡ first (offer_reveal s (board s run 3) i s.dealer) (words_by s.dealer (run.board 4))
  unfolding board
  reveal_is i = (folded (λ q. Sized q × (q.complaints ≡ (board s run 3).complaints)) (λ q. revealed q i) (posted s 4) (λ m. offer_reveal s (board s run 3) i m.by m.word)
      (λ q m z. ((sized 4 q m.by m.word z.0, complaints_step 4 refl q m.by m.word ∙ z.1), reveal_keeps (board s run 3) q i m.by m.word z.0 z.1))
      (board s run 3) (run.board 4) (sized-board 3, refl)).1
      ∙ ap₂ or (ap (λ (l : List (Option Share)). get_or l i None) (reveals_stay 2 (λ e. omega arith) ∙ reveals_stay 1 (λ e. omega arith) ∙ reveals_stay 0 (λ e. omega arith)) ∙ blank 16 i None)
      (alone (offer_reveal s (board s run 3) i) s.dealer others (run.board 4))
    where
      others : (k : ℕ) (w : Post) → (k ≡ s.dealer → ⊥) → offer_reveal s (board s run 3) i k w ≡ None
      others k (Complaint a x) n = refl
      others k (Reveal a x) n = off_left _ (eqb a i) x (and_left (eqb k s.dealer) _ (ne_eqb k s.dealer n))
      others k (Fine b) n = refl

  pub fine_is : (i : ℕ) → said_fine (board s run 5) i ≡ first (offer_fine s i i) (words_by i (run.board 5))
  unfolding board
  fine_is i = (folded Sized (λ q. said_fine q i) (posted s 5) (λ m. offer_fine s i m.by m.word) (λ q m z. (sized 5 q m.by m.word z, fine_keeps i q m.by m.word z))
      (board s run 4) (run.board 5) (sized-board 4)).1
      ∙ ap₂ or (ap (λ (l : List (Option Bool)). get_or l i None) (fines_stay 3 (λ e. omega arith) ∙ fines_stay 2 (λ e. omega arith) ∙ fines_stay 1 (λ e. omega arith) ∙ fines_stay 0 (λ e. omega arith)) ∙ blank 16 i None)
      (alone (offer_fine s i) i others (run.board 5))
    where
      others : (k : ℕ) (w : Post) → (k ≡ i → ⊥) → offer_fine s i k w ≡ None
      others k (Complaint a x) n = refl
      others k (Reveal a x) n = refl
      others k (Fine b) n = off (ltb k (keepers s)) (eqb k i) b (ne_eqb k i n)
