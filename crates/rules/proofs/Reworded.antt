-- One dealing, message by message, with other numbers drawn: the same lines but for honest keepers' private words, and the spied see no difference.
use Rattle.std.proofs.Common.{◌≡◌, ℕ, zero, suc, ◌+◌, ◌<◌, ◌≤◌, Bool, true, false, cond, not, ◌&&◌, T, eqb, ltb, ◌⊎◌, List, [], ◌∷◌, Some, None, Decides, Option, sym, refl, ap, ◌∙◌, subst, inl, inr, ⊎_elim, arith, ltb-true, lt-ltb}
use mathlib.Core.List.{foldl, Memᴰ}
use Rattle.std.proofs.lemmas.Bool.Decides.{Decides-eqb, Decides-and, Decides-not}
use Rattle.algebra.specs.Polynomial.{Low2, plus2}
use Rattle.algebra.specs.Sharing.{Pair, swap, pair_at, share_of}
use Rattle.rules.specs.Deal.{Group, size, Sound, Keeper, Honest, Dealing, Doubts, Kept, Strict, Fair, SeenDeal, or_else}
use Rattle.rules.specs.Rounds.{Setting, keepers, group, Letter, Deal, Told, Complaint, Reveal, Fine, Lines, hand, board, posted, told_by, complaint, revealed, checked, mine, doubts, complaints_of, any, wrong, answers_of, all_fits, words_by, Follows, Quiet, Deals, read_off}
use Rattle.rules.specs.Promise.{Unseen}
use Rattle.rules.proofs.Dealt.{found}
use Rattle.rules.proofs.Fairly.{honesty, fits, hidden}
use Rattle.rules.proofs.Unseen.{hides_dealing_lem}
use Rattle.rules.proofs.Slots.{first, same_some}
use Rattle.rules.proofs.Places.{offer_told, told_is}
use Rattle.rules.proofs.Keeping.{decides_doubts, decides_wrong, decides_fit, judged, before, hand5, share1, hears-told, keeps_rules_lem, deals_fairly_lem}
use Rattle.rules.proofs.Retouch.{to_each, to_each_one, to_each_none, to_each_same, retouch, words_retouch, retouch_same, gather_same, same_test}

-- the private word of keeper i to keeper j in round r, if another polynomial is dealt
abbrev pub reword : Setting → (ℕ → Bool) → List (List ℕ) → (r j i : ℕ) → Option Letter
reword s lies ts r j i = cond (eqb r 1 && eqb i s.dealer) (Some (Deal (share_of s.p ts j)))
    (cond (eqb r 2 && (ltb i (keepers s) && (not (lies i) && not (eqb i j)))) (Some (Told (pair_at s.p (share_of s.p ts i) j))) None)

abbrev pub reworded : Setting → (ℕ → Bool) → List (List ℕ) → Lines → Lines
reworded s lies ts lines = record { mail = λ r j. retouch (λ i w. or_else w (reword s lies ts r j i)) (lines.mail r j); board = lines.board }

-- who says nothing says nothing then
pub quiet-reworded : (s : Setting) (lies : ℕ → Bool) (ts : List (List ℕ)) (lines : Lines) → Quiet s lies lines → Quiet s lies (reworded s lies ts lines)
quiet-reworded s lies ts lines hush = record {
  mail = λ r i j hi a b. words_retouch _ i (lines.mail r j) ∙ ap (to_each (λ w. or_else w (reword s lies ts r j i))) (hush.mail r i j hi a b) ∙ to_each_none (λ w. or_else w (reword s lies ts r j i));
  board = hush.board;
}

-- the messages with another polynomial keep the rules, and to the spied they are the same
pub record Alike (s : Setting) (lies : ℕ → Bool) (ts : List (List ℕ)) (spied : List ℕ) (lines to : Lines) : Type 0 where
  pub follows : Follows s lies to (hand s to) (board s to)
  pub deals : Deals s lies to (board s to) ts
  pub mails : (r j : ℕ) → Memᴰ j spied → to.mail r j ≡ lines.mail r j
  pub said : (r i j : ℕ) → Keeper (group s lies) j → Memᴰ i spied → words_by i (to.mail r j) ≡ words_by i (lines.mail r j)

-- two fair dealings with the same board reveal the same
module _ (g : Group) (high low : ℕ) (all : (i : ℕ) → i < size g → Keeper g i) where
  abbrev Wrong : List (List ℕ) → (ℕ → ℕ → Option Pair) → ℕ → Type 0
  Wrong rs c k = (b : ℕ) × (b < size g) × ((y : Pair) × (c k b ≡ Some y) × (y ≡ pair_at g.p (share_of g.p rs k) b → ⊥))

  cross : (rs ts : List (List ℕ)) (d e : Dealing) → Fair g high low rs d → Fair g high low ts e → d.reveals ≡ e.reveals → (k : ℕ) → Keeper g k → Wrong rs d.complaints k →
      Wrong ts e.complaints k × (share_of g.p rs k ≡ share_of g.p ts k)
  cross rs ts d e fd fe v k hk w = ⊎_elim
      (λ n. absurd (w.2.2 (fd.answers k hk w.0 (all w.0 w.1) w.2.0 w.2.1 n.0)))
      (λ x. let r = fe.reveals k hk x.0 (sym (ap (λ f. f k) v) ∙ x.1) in let c = r.1 in ((c.0, c.2.0, (c.1, c.3, c.4)), sym (fd.reveals k hk x.0 x.1).0 ∙ r.0))
      (found (d.dealt k) (d.reveals k))

module _ (s : Setting) (lies : ℕ → Bool) (lines : Lines) (fit : keepers s ≤ 16) (sound : Sound (group s lies)) (h1 : 1 ≤ s.high) (hh : s.high ≤ s.f + 1) (hl : s.low ≤ s.f + 1)
    (follows : Follows s lies lines (hand s lines) (board s lines)) (rs : List (List ℕ)) (deals : Deals s lies lines (board s lines) rs)
    (spied : List ℕ) (inside : (i : ℕ) → Memᴰ i spied → Keeper (group s lies) i) (liars : (i : ℕ) → Keeper (group s lies) i → T (lies i) → Memᴰ i spied) (out : Memᴰ s.dealer spied → ⊥)
    (qs : List (List ℕ)) (small : Low2 s.high s.low qs) (unseen : (i : ℕ) → Memᴰ i spied → Unseen (group s lies) qs i) where
  abbrev pub g : Group
  g = group s lies

  abbrev pub p : ℕ
  p = s.p

  abbrev pub ts : List (List ℕ)
  ts = plus2 p rs qs

  abbrev pub d : Dealing
  d = read_off s (hand s lines 5) (board s lines 5)

  everyone : (i : ℕ) → i < keepers s → Keeper g i
  everyone i h = (h, tt)

  one : 1 ≤ s.p
  one = omega (arith, sound.room)

  kept : Kept g s.high s.low d
  kept = (keeps_rules_lem s lies lines fit follows).0

  strict : Strict g s.high s.low d
  strict = (keeps_rules_lem s lies lines fit follows).1

  fair : Fair g s.high s.low rs d
  fair = deals_fairly_lem s lies lines rs fit one h1 deals

  other : (e : Dealing) × Kept g s.high s.low e × Strict g s.high s.low e × Fair g s.high s.low ts e × SeenDeal g spied d e
  other = hides_dealing_lem g sound s.high s.low h1 hh hl rs d kept strict fair spied inside liars qs small unseen

  e : Dealing
  e = other.0

  kept_e : Kept g s.high s.low e
  unfolding e
  kept_e = other.1

  strict_e : Strict g s.high s.low e
  unfolding e
  strict_e = other.2

  fair_e : Fair g s.high s.low ts e
  unfolding e
  fair_e = other.3

  seen : SeenDeal g spied d e
  unfolding e
  seen = other.4

  -- WHO SAYS SOMETHING ELSE
  abbrev new : (r j i : ℕ) → Option Letter
  new = reword s lies ts

  abbrev pub to : Lines
  to = reworded s lies ts lines

  decides_T : (b : Bool) → Decides b (T b)
  decides_T true = (λ _. tt, λ _. refl)
  decides_T false = (λ e. absurd (let z : T true = tt in subst T (sym e) z), λ t. absurd t)

  by_dealer : (r i : ℕ) → Decides (eqb r 1 && eqb i s.dealer) ((r ≡ 1) × (i ≡ s.dealer))
  by_dealer r i = Decides-and (eqb r 1) (eqb i s.dealer) (Decides-eqb r 1) (Decides-eqb i s.dealer)

  by_honest : (r j i : ℕ) → Decides (eqb r 2 && (ltb i (keepers s) && (not (lies i) && not (eqb i j)))) ((r ≡ 2) × ((i < keepers s) × ((T (lies i) → ⊥) × (i ≡ j → ⊥))))
  by_honest r j i = Decides-and (eqb r 2) _ (Decides-eqb r 2) (Decides-and (ltb i (keepers s)) _ (ltb-true i (keepers s), lt-ltb i (keepers s))
      (Decides-and (not (lies i)) (not (eqb i j)) (Decides-not (lies i) (decides_T (lies i))) (Decides-not (eqb i j) (Decides-eqb i j))))

  new_deal : (j : ℕ) → new 1 j s.dealer ≡ Some (Deal (share_of p ts j))
  new_deal j = ap (λ b. cond b (Some (Deal (share_of p ts j))) None) ((by_dealer 1 s.dealer).1 (refl, refl))

  new_told : (j i : ℕ) → Honest g i → (i ≡ j → ⊥) → new 2 j i ≡ Some (Told (pair_at p (share_of p ts i) j))
  new_told j i h n = ap (λ b. cond b (Some (Told (pair_at p (share_of p ts i) j))) None) ((by_honest 2 j i).1 (refl, (h.0.0, (h.1, n))))

  new_cases : (r j i : ℕ) → (new r j i ≡ None) ⊎ (((r ≡ 1) × (i ≡ s.dealer)) ⊎ ((r ≡ 2) × ((i < keepers s) × ((T (lies i) → ⊥) × (i ≡ j → ⊥)))))
  new_cases r j i = go _ _ (by_dealer r i).0 (by_honest r j i).0
    where
      go : (b c : Bool) {P Q : Type 0} → (b ≡ true → P) → (c ≡ true → Q) → (cond b (Some (Deal (share_of p ts j))) (cond c (Some (Told (pair_at p (share_of p ts i) j))) None) ≡ None) ⊎ (P ⊎ Q)
      go true c f g = inr (inl (f refl))
      go false true f g = inr (inr (g refl))
      go false false f g = inl refl

  gives : (j : ℕ) → Keeper g j → words_by s.dealer (to.mail 1 j) ≡ Deal (share_of p ts j) ∷ []
  gives j h = words_retouch _ s.dealer (lines.mail 1 j) ∙ ap (to_each (λ w. or_else w (new 1 j s.dealer))) (deals.gives j h) ∙ to_each_one (λ w. or_else w (new 1 j s.dealer)) (Deal (share_of p rs j)) ∙
      ap (λ o. or_else (Deal (share_of p rs j)) o ∷ []) (new_deal j)

  told_new : (i j : ℕ) → Honest g i → Keeper g j → (i ≡ j → ⊥) → words_by i (to.mail 2 j) ≡ Told (pair_at p (share_of p ts i) j) ∷ []
  told_new i j hi hj n = words_retouch _ i (lines.mail 2 j) ∙ ap (to_each (λ w. or_else w (new 2 j i))) (follows.tells i j hi hj n) ∙ to_each_one (λ w. or_else w (new 2 j i)) _ ∙
      ap (λ o. or_else (Told (pair_at p (mine s i (hand s lines 1 i)) j)) o ∷ []) (new_told j i hi n)

  -- liars say the same
  liar_words : (r i j : ℕ) → T (lies i) → (i ≡ s.dealer → ⊥) → words_by i (to.mail r j) ≡ words_by i (lines.mail r j)
  liar_words r i j l n = words_retouch _ i (lines.mail r j) ∙ ⊎_elim (λ q. to_each_same _ (λ w. ap (or_else w) q) _) (⊎_elim (λ q. absurd (n q.1)) (λ q. absurd (q.1.1.0 l))) (new_cases r j i)

  pub board_same : (r : ℕ) → board s to r ≡ board s lines r
  unfolding board
  board_same zero = refl
  board_same (suc r) = ap (λ q. foldl (posted s (suc r)) q (lines.board (suc r))) (board_same r)

  pub reveals_as : (k : ℕ) → Keeper g k → (any (keepers s) (wrong s (share_of p rs) (board s lines 3) k) ≡ any (keepers s) (wrong s (share_of p ts) (board s lines 3) k)) ×
      (any (keepers s) (wrong s (share_of p rs) (board s lines 3) k) ≡ true → share_of p rs k ≡ share_of p ts k)
  reveals_as k hk = (same_test _ _ (decides_wrong s (board s lines 3) (share_of p rs) k) (decides_wrong s (board s lines 3) (share_of p ts) k) (λ w. back (go w).0) (λ w. turn (come w).0), λ t. (go ((decides_wrong s (board s lines 3) (share_of p rs) k).0 t)).1)
    where
      c3 : (b : ℕ) → d.complaints k b ≡ complaint (board s lines 3) k b
      c3 = before s lies lines fit k

      ce : (b : ℕ) → e.complaints k b ≡ complaint (board s lines 3) k b
      ce b = sym (ap (λ c. c k b) seen.complaints) ∙ c3 b

      go : Wrong g s.high s.low everyone rs (complaint (board s lines 3)) k → Wrong g s.high s.low everyone ts e.complaints k × (share_of p rs k ≡ share_of p ts k)
      go w = cross g s.high s.low everyone rs ts d e fair fair_e seen.reveals k hk (w.0, w.1, (w.2.0, c3 w.0 ∙ w.2.1, w.2.2))

      come : Wrong g s.high s.low everyone ts (complaint (board s lines 3)) k → Wrong g s.high s.low everyone rs d.complaints k × (share_of p ts k ≡ share_of p rs k)
      come w = cross g s.high s.low everyone ts rs e d fair_e fair (sym seen.reveals) k hk (w.0, w.1, (w.2.0, ce w.0 ∙ w.2.1, w.2.2))

      back : Wrong g s.high s.low everyone ts e.complaints k → Wrong g s.high s.low everyone ts (complaint (board s lines 3)) k
      back w = (w.0, w.1, (w.2.0, sym (ce w.0) ∙ w.2.1, w.2.2))

      turn : Wrong g s.high s.low everyone rs d.complaints k → Wrong g s.high s.low everyone rs (complaint (board s lines 3)) k
      turn w = (w.0, w.1, (w.2.0, sym (c3 w.0) ∙ w.2.1, w.2.2))

  deals_new : Deals s lies to (board s to) ts
  deals_new = record {
    chance = fair_e.chance;
    gives = gives;
    answers = deals.answers ∙ gather_same (keepers s) _ _ _ _ (λ k h. (reveals_as k (h, tt)).0) (λ k h t. ap (Reveal k) ((reveals_as k (h, tt)).1 t)) ∙ ap (answers_of s (share_of p ts)) (sym (board_same 3));
  }

  abbrev pub d' : Dealing
  d' = read_off s (hand s to 5) (board s to 5)

  pub fair_new : Fair g s.high s.low ts d'
  fair_new = deals_fairly_lem s lies to ts fit one h1 deals_new

  -- WHAT IS HEARD is what is heard in the other dealing
  same_dealt : (i : ℕ) → Keeper g i → d'.dealt i ≡ e.dealt i
  same_dealt i h = fair_new.deals i h ∙ sym (fair_e.deals i h)

  same_told : (i j : ℕ) → Keeper g i → Keeper g j → (i ≡ j → ⊥) → d'.told i j ≡ e.told i j
  same_told i j hi hj n = ⊎_elim
      (λ l. ap (λ h. told_by h i) (hand5 s lies to fit j) ∙ told_is s to fit i j ∙ ap (first (offer_told s i i)) (liar l) ∙ sym (told_is s lines fit i j) ∙ sym (ap (λ h. told_by h i) (hand5 s lies lines fit j)) ∙ seen.told i j hi hj (inl (liars i hi l)))
      (λ o. hears-told s lies to fit i j _ hi (told_new i j o hj n) ∙ sym (kept_e.tells i j o hj n ∙ ap (λ x. Some (pair_at p x j)) (fair_e.deals i hi)))
      (honesty g i hi)
    where
      liar : T (lies i) → words_by i (to.mail 2 j) ≡ words_by i (lines.mail 2 j)
      liar l = liar_words 2 i j l (λ q. out (subst (λ k. Memᴰ k spied) q (liars i hi l)))

  pub doubts_as : (i j : ℕ) → Honest g i → Keeper g j → (doubts s i (hand s lines 5 i) j ≡ doubts s i (hand s to 5 i) j) × (doubts s i (hand s lines 5 i) j ≡ true → pair_at p (d.dealt i) j ≡ pair_at p (d'.dealt i) j)
  doubts_as i j hi hj = (
    same_test _ _ (decides_doubts s i (hand s lines 5 i) j) (decides_doubts s i (hand s to 5 i) j) (λ q. from_e (go q).1) (λ q. (come (to_e q)).1),
    λ t. (go ((decides_doubts s i (hand s lines 5 i) j).0 t)).0 ∙ ap (λ x. pair_at p x j) (sym (same_dealt i hi.0)),
  )
    where
      go : Doubts g d i j → (pair_at p (d.dealt i) j ≡ pair_at p (e.dealt i) j) × Doubts g e i j
      go q = strict_e.only_then i j hi hj _ (sym (ap (λ c. c i j) seen.complaints) ∙ kept.complains i j hi hj q)

      come : Doubts g e i j → (pair_at p (e.dealt i) j ≡ pair_at p (d.dealt i) j) × Doubts g d i j
      come q = strict.only_then i j hi hj _ (ap (λ c. c i j) seen.complaints ∙ kept_e.complains i j hi hj q)

      wants : Some (swap (pair_at p (d'.dealt i) j)) ≡ Some (swap (pair_at p (e.dealt i) j))
      wants = ap (λ x. Some (swap (pair_at p x j))) (same_dealt i hi.0)

      heard : (i ≡ j → ⊥) → d'.told j i ≡ e.told j i
      heard n = same_told j i hj hi.0 (λ q. n (sym q))

      from_e : Doubts g e i j → Doubts g d' i j
      from_e q = (q.0, λ w. q.1 (sym (heard q.0) ∙ w ∙ wants))

      to_e : Doubts g d' i j → Doubts g e i j
      to_e q = (q.0, λ w. q.1 (heard q.0 ∙ w ∙ sym wants))

  pub content : (i : ℕ) → Honest g i → all_fits s i (mine s i (hand s lines 4 i)) (board s lines 4) ≡ all_fits s i (mine s i (hand s to 4 i)) (board s to 4)
  content i hi = judged s lies lines fit i ∙ (decides_fit s lies lines fit i).1 (fits g sound s.high s.low h1 rs d fair i hi.0 none) ∙
      sym (judged s lies to fit i ∙ (decides_fit s lies to fit i).1 (fits g sound s.high s.low h1 ts d' fair_new i hi.0 (ap (λ q. revealed q i) (board_same 5) ∙ none)))
    where
      none : d.reveals i ≡ None
      none = hidden g sound s.high s.low h1 rs d fair strict i hi

  follows_new : Follows s lies to (hand s to) (board s to)
  follows_new = record {
    tells = λ i j hi hj n. told_new i j hi hj n ∙ ap (λ x. Told (pair_at p x j) ∷ []) (sym (fair_new.deals i hi.0) ∙ ap (checked s i) (share1 s lies to fit i));
    complains = λ i hi. follows.complains i hi ∙ ap (complaints_of s i) (sym (hand5 s lies lines fit i)) ∙
        gather_same (keepers s) _ _ _ _ (λ j h. (doubts_as i j hi (h, tt)).0) (λ j h t. ap (Complaint j) ((doubts_as i j hi (h, tt)).1 t)) ∙ ap (complaints_of s i) (hand5 s lies to fit i);
    judges = λ i hi. follows.judges i hi ∙ ap (λ b. Fine b ∷ []) (content i hi);
  }

  -- WHAT THE SPIED SEE
  pub same_share : (j : ℕ) → Keeper g j → Memᴰ j spied → share_of p ts j ≡ share_of p rs j
  same_share j hj k = sym (fair_e.deals j hj) ∙ sym (seen.dealt j k) ∙ fair.deals j hj

  pub same_pair : (i j : ℕ) → Keeper g j → Memᴰ i spied ⊎ Memᴰ j spied → Honest g i → (i ≡ j → ⊥) → pair_at p (share_of p ts i) j ≡ pair_at p (d.dealt i) j
  same_pair i j hj m hi n = same_some (ap (λ x. Some (pair_at p x j)) (sym (fair_e.deals i hi.0)) ∙ sym (kept_e.tells i j hi hj n) ∙ sym (seen.told i j hi.0 hj m) ∙ kept.tells i j hi hj n)

  pub same_words : (r i j : ℕ) → Keeper g j → Memᴰ i spied ⊎ Memᴰ j spied → words_by i (to.mail r j) ≡ words_by i (lines.mail r j)
  same_words r i j hj m = ⊎_elim
      (λ q. words_retouch _ i (lines.mail r j) ∙ to_each_same _ (λ w. ap (or_else w) q) _)
      (⊎_elim
      (λ q. subst (λ k. words_by i (to.mail k j) ≡ words_by i (lines.mail k j)) (sym q.0) (subst (λ k. words_by k (to.mail 1 j) ≡ words_by k (lines.mail 1 j)) (sym q.1)
      (gives j hj ∙ ap (λ x. Deal x ∷ []) (same_share j hj (⊎_elim (λ k. absurd (out (subst (λ w. Memᴰ w spied) q.1 k))) (λ k. k) m)) ∙ sym (deals.gives j hj))))
      (λ q. let hi : Honest g i = ((q.1.0, tt), q.1.1.0) in let n = q.1.1.1 in
      subst (λ k. words_by i (to.mail k j) ≡ words_by i (lines.mail k j)) (sym q.0) (told_new i j hi hj n ∙ ap (λ x. Told x ∷ []) (same_pair i j hj m hi n ∙ ap (λ o. pair_at p (checked s i o) j) (share1 s lies lines fit i)) ∙ sym (follows.tells i j hi hj n))))
      (new_cases r j i)

  pub alike : Alike s lies ts spied lines to
  alike = record {
    follows = follows_new;
    deals = deals_new;
    mails = λ r j m. retouch_same _ (lines.mail r j) (λ i. sym (words_retouch _ i (lines.mail r j)) ∙ same_words r i j (inside j m) (inr m));
    said = λ r i j hj m. same_words r i j hj (inl m);
  }
