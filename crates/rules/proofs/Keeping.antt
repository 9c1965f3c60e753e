-- A run keeps the rules of a dealing.
use Rattle.std.proofs.Common.{◌≡◌, ℕ, zero, suc, ◌+◌, ◌<◌, ◌≤◌, Bool, true, false, cond, not, ◌&&◌, eqb, ltb, List, [], ◌∷◌, length, get_or, replicate, Some, None, Decides, Option, sym, refl, ap, ◌∙◌, subst, ap₂, mul-zero, arith, lt-ltb, eq-eqb, ne_eqb}
use native.Mathlib.Nat.{zero-mod}
use lib.ListN.{length-replicate}
use Rattle.std.proofs.lemmas.Bool.{and_from, and_right, false≢true, not_from_false}
use Rattle.std.proofs.lemmas.Bool.Decides.{Decides-eqb, Decides-and, Decides-not, Decides-like, Decides-below_and, Decides-below_or}
use Rattle.algebra.specs.Polynomial.{value}
use Rattle.algebra.specs.Sharing.{point, Share, Pair, swap, pair_at, Agree, share_of}
use Rattle.rules.specs.Deal.{Group, Honest, Lengths, Keeper, Dealing, Doubts, Fits, Kept, Strict, Fair, or_else}
use Rattle.rules.specs.Rounds.{Setting, keepers, group, Told, Complaint, Reveal, Hand, Posts, Lines, free, every, any, hand, board, told_by, complaint, revealed, complained, same, lengths, zeros, checked, mine, fits, doubts, complaints_of, differs, wrong, shows, settles, all_fits, words_by, Follows, Deals, read_off}
use Rattle.rules.specs.Promise.{KeepsRules, DealsFairly}
use Rattle.rules.proofs.Dealt.{pairs}
use Rattle.rules.proofs.Drawn.{lengths-share}
use Rattle.rules.proofs.Fairly.{shares-agree}
use Rattle.rules.proofs.Slots.{first, first_one, gathered, on, off, only, only_if, never, same_some}
use Rattle.rules.proofs.Places.{offer_deal, offer_told, offer_complaint, offer_reveal, offer_fine, share-stays, told-stays, complaints_stay, reveals_stay, share_is, told_is, complaint_is, reveal_is, fine_is}

-- THE TESTS
pub decides_same : (a b : Pair) → Decides (same a b) (a ≡ b)
decides_same a b = Decides-like (same a b) (λ e i. record { across = e.0 i; down = e.1 i }) (λ e. (ap (λ (x : Pair). x.across) e, ap (λ (x : Pair). x.down) e))
    (Decides-and (eqb a.across b.across) (eqb a.down b.down) (Decides-eqb a.across b.across) (Decides-eqb a.down b.down))

pub decides_lengths : (s : Setting) (x : Share) → Decides (lengths s x) (Lengths s.high s.low x)
decides_lengths s x = Decides-and (eqb (length x.across) s.high) (eqb (length x.down) s.low) (Decides-eqb _ _) (Decides-eqb _ _)

pub decides_fits : (o : Option Pair) (b : Pair) → Decides (fits o b) (o ≡ Some b)
decides_fits None b = (λ e. cc, λ e. never e)
decides_fits (Some a) b = Decides-like (same a b) (ap Some) (λ e. cc) (decides_same a b)

pub decides_differs : (o : Option Pair) (b : Pair) → Decides (differs o b) ((y : Pair) × (o ≡ Some y) × (y ≡ b → ⊥))
decides_differs None b = (λ e. absurd (false≢true e), λ h. never h.1)
decides_differs (Some a) b = Decides-like _ (λ n. (a, refl, n)) (λ h e. h.2 (sym (same_some h.1) ∙ e)) (Decides-not (same a b) (decides_same a b))

pub decides_free : {A : Type 0} (o : Option A) → Decides (free o) (o ≡ None)
decides_free None = (λ _. refl, λ _. refl)
decides_free (Some x) = (λ e. cc, λ e. never (sym e))

pub decides_every : (n : ℕ) (t : ℕ → Bool) (P : ℕ → Type 0) → ((k : ℕ) → Decides (t k) (P k)) → Decides (every n t) ((k : ℕ) → k < n → P k)
unfolding every
decides_every n t P each = Decides-below_and t P (λ m. every m t) each refl (λ _. refl) n

pub decides_any : (n : ℕ) (t : ℕ → Bool) (P : ℕ → Type 0) → ((k : ℕ) → Decides (t k) (P k)) → Decides (any n t) ((k : ℕ) × (k < n) × P k)
unfolding any
decides_any n t P each = Decides-below_or t P (λ m. any m t) each refl (λ _. refl) n

pub decides_shows : (s : Setting) (me : ℕ) (x : Share) (k : ℕ) (o : Option Share) → Decides (shows s me x k o) ((y : Share) → o ≡ Some y → Lengths s.high s.low y × Agree s.p me x k y)
decides_shows s me x k None = (λ _ y e. never e, λ _. refl)
decides_shows s me x k (Some y) = Decides-like _ (λ h z e. subst (λ z. Lengths s.high s.low z × Agree s.p me x k z) (same_some e) h) (λ h. h y refl)
    (Decides-and (lengths s y) (same (pair_at s.p x k) (swap (pair_at s.p y me))) (decides_lengths s y) (decides_same _ _))

pub decides_settles : (o u : Option Pair) (r t : Option Share) → Decides (settles o u r t) ((x y : Pair) → o ≡ Some x → u ≡ Some y → r ≡ None → t ≡ None → x ≡ swap y)
decides_settles None u r t = (λ _ x y e. never e, λ _. refl)
decides_settles (Some x) None r t = (λ _ x y e f. never f, λ _. refl)
decides_settles (Some x) (Some y) (Some r) t = (λ _ x y e f g. never (sym g), λ _. refl)
decides_settles (Some x) (Some y) None (Some t) = (λ _ x y e f g h. never (sym h), λ _. refl)
decides_settles (Some x) (Some y) None None = Decides-like _ (λ h a b e f _ _. sym (same_some e) ∙ h ∙ ap swap (same_some f)) (λ h. h x y refl refl refl refl) (decides_same x (swap y))

pub decides_wrong : (s : Setting) (q : Posts) (shares : ℕ → Share) (k : ℕ) → Decides (any (keepers s) (wrong s shares q k)) ((b : ℕ) × (b < keepers s) × ((y : Pair) × (complaint q k b ≡ Some y) × (y ≡ pair_at s.p (shares k) b → ⊥)))
decides_wrong s q shares k = decides_any (keepers s) _ _ (λ b. decides_differs (complaint q k b) (pair_at s.p (shares k) b))

-- WHAT A KEEPER GOES ON WITH
value-zeros : (p n x : ℕ) → value p (replicate n 0) x ≡ 0
unfolding value
value-zeros p zero x = refl
value-zeros p (suc n) x = rw (value-zeros p n x) (rw (mul-zero x) (zero-mod p))

Good : Setting → ℕ → Share → Type 0
Good s me x = Lengths s.high s.low x × Agree s.p me x me x

zeros_good : (s : Setting) (me : ℕ) → Good s me (zeros s)
unfolding Good
zeros_good s me = (
  (length-replicate s.high 0, length-replicate s.low 0),
  λ k. record { across = (value-zeros s.p s.high (point me) ∙ sym (value-zeros s.p s.low (point me))) k; down = (value-zeros s.p s.low (point me) ∙ sym (value-zeros s.p s.high (point me))) k },
)

checked_good : (s : Setting) (me : ℕ) (o : Option Share) → Good s me (checked s me o)
unfolding Good
checked_good s me None = zeros_good s me
checked_good s me (Some x) = by _ (Decides-and (lengths s x) (same (pair_at s.p x me) (swap (pair_at s.p x me))) (decides_lengths s x) (decides_same _ _))
  where
    by : (b : Bool) → Decides b (Lengths s.high s.low x × Agree s.p me x me x) → Good s me (cond b x (zeros s))
    by true h = h.0 refl
    by false h = zeros_good s me

checked_keeps : (s : Setting) (me : ℕ) (x : Share) → Lengths s.high s.low x → Agree s.p me x me x → checked s me (Some x) ≡ x
checked_keeps s me x l a = ap (λ b. cond b x (zeros s)) (and_from (lengths s x) _ ((decides_lengths s x).1 l) ((decides_same _ _).1 a))

pub decides_doubts : (s : Setting) (me : ℕ) (h : Hand) (j : ℕ) → Decides (doubts s me h j) ((me ≡ j → ⊥) × (told_by h j ≡ Some (swap (pair_at s.p (mine s me h) j)) → ⊥))
decides_doubts s me h j = Decides-and (not (eqb me j)) _ (Decides-not (eqb me j) (Decides-eqb me j)) (Decides-not _ (decides_fits (told_by h j) _))

module _ (s : Setting) (lies : ℕ → Bool) (run : Lines) (fit : keepers s ≤ 16) where
  abbrev g : Group
  g = group s lies

  abbrev d : Dealing
  d = read_off s (hand s run 5) (board s run 5)

  -- hands stay as they are after round 2, complaints after round 3, reveals after round 4
  late : (r j : ℕ) → hand s run (r + 3) j ≡ hand s run (r + 2) j
  late r j = (λ k. record { share = e k; told = t k })
    where
      e : (hand s run (r + 3) j).share ≡ (hand s run (r + 2) j).share
      e = subst (λ n. (hand s run n j).share ≡ (hand s run (r + 2) j).share) (omega arith) (share-stays s run fit (r + 2) j (λ e. omega arith))

      t : (hand s run (r + 3) j).told ≡ (hand s run (r + 2) j).told
      t = subst (λ n. (hand s run n j).told ≡ (hand s run (r + 2) j).told) (omega arith) (told-stays s run fit (r + 2) j (λ e. omega arith))

  pub hand5 : (j : ℕ) → hand s run 5 j ≡ hand s run 2 j
  hand5 j = late 2 j ∙ late 1 j ∙ late 0 j

  complaints5 : (board s run 5).complaints ≡ (board s run 3).complaints
  complaints5 = complaints_stay s run fit 4 (λ e. omega arith) ∙ complaints_stay s run fit 3 (λ e. omega arith)

  pub share1 : (i : ℕ) → (hand s run 5 i).share ≡ (hand s run 1 i).share
  share1 i = ap (λ (h : Hand). h.share) (hand5 i) ∙ share-stays s run fit 1 i (λ e. omega arith)

  -- what one told another, if it said that alone
  pub hears-told : (i j : ℕ) (x : Pair) → Keeper g i → words_by i (run.mail 2 j) ≡ Told x ∷ [] → d.told i j ≡ Some x
  hears-told i j x hi e = ap (λ h. told_by h i) (hand5 j) ∙ told_is s run fit i j ∙ ap (first (offer_told s i i)) e ∙ first_one (offer_told s i i) _ ∙ on (ltb i (keepers s)) (eqb i i) _ (lt-ltb i (keepers s) hi.0) (eq-eqb i i refl)

  pub decides_fit : (i : ℕ) → Decides (all_fits s i (d.dealt i) (board s run 5)) (Fits g s.high s.low d i)
  decides_fit i = Decides-like _ (λ h. record { hidden = h.0; shown = λ k l. h.1.0 k l.0; settled = λ a ha b hb. h.1.1 a ha.0 b hb.0 }) (λ f. (f.hidden, (λ k l. f.shown k (l, tt), λ a ha b hb. f.settled a (ha, tt) b (hb, tt))))
      (Decides-and _ _ (decides_free (revealed (board s run 5) i)) (Decides-and _ _
      (decides_every (keepers s) _ _ (λ k. decides_shows s i (mine s i (hand s run 5 i)) k (revealed (board s run 5) k)))
      (decides_every (keepers s) _ _ (λ a. decides_every (keepers s) _ _ (λ b. decides_settles (complaint (board s run 5) a b) (complaint (board s run 5) b a) (revealed (board s run 5) a) (revealed (board s run 5) b))))))

  -- what is judged after round 4 is the same at the end
  pub judged : (i : ℕ) → all_fits s i (mine s i (hand s run 4 i)) (board s run 4) ≡ all_fits s i (d.dealt i) (board s run 5)
  judged i = ap (λ h. all_fits s i (mine s i h) (board s run 4)) (sym (late 2 i))
      ∙ ap₂ (λ (c : List (List (Option Pair))) (r : List (Option Share)). all_fits s i (mine s i (hand s run 5 i)) (record { complaints = c; reveals = r; fines = [] }))
      (sym (complaints_stay s run fit 4 (λ e. omega arith))) (sym (reveals_stay s run fit 4 (λ e. omega arith)))

  pub before : (a b : ℕ) → d.complaints a b ≡ complaint (board s run 3) a b
  before a b = ap (λ (l : List (List (Option Pair))). get_or (get_or l a []) b None) complaints5

  module _ (one : 1 ≤ s.p) (h1 : 1 ≤ s.high) (rs : List (List ℕ)) (deals : Deals s lies run (board s run) rs) where
    abbrev shares : ℕ → Share
    shares = share_of s.p rs

    gets : (i : ℕ) → Keeper g i → d.dealt i ≡ shares i
    gets i hi = ap (checked s i) (share1 i ∙ share_is s run fit i ∙ ap (first (offer_deal s s.dealer)) (deals.gives i hi) ∙ first_one (offer_deal s s.dealer) _
        ∙ on (eqb s.dealer s.dealer) true (shares i) (eq-eqb s.dealer s.dealer refl) refl)
        ∙ checked_keeps s i (shares i) (lengths-share s.p s.high s.low one h1 rs deals.chance i) (shares-agree g rs i i)

    shown : (k : ℕ) → k < keepers s → d.reveals k ≡ cond (any (keepers s) (wrong s shares (board s run 3) k)) (offer_reveal s (board s run 3) k s.dealer (Reveal k (shares k))) None
    shown k hk = ap (λ (l : List (Option Share)). get_or l k None) (reveals_stay s run fit 4 (λ e. omega arith)) ∙ reveal_is s run fit k ∙ ap (first (offer_reveal s (board s run 3) k s.dealer)) deals.answers
        ∙ gathered (offer_reveal s (board s run 3) k s.dealer) _ (λ i. Reveal i (shares i)) k (keepers s) hk (λ i n. off _ (eqb i k) (shares i) (ne_eqb i k n))

    fair : Fair g s.high s.low rs d
    fair = record {
      chance = deals.chance;
      deals = gets;
      reveals = λ k hk x e.
          let h = only_if _ (sym (shown k hk.0) ∙ e) in
          let w = (decides_wrong s (board s run 3) shares k).0 h.0 in
          ((only _ h.1).1, (w.0, w.2.0, (w.1, tt), before k w.0 ∙ w.2.1, w.2.2));
      answers = λ a ha b hb x e none. elim (pairs x (pair_at s.p (shares a) b)) [
        | yes q ↦ q
        | no n ↦ never (sym none ∙ shown a ha.0 ∙ ap (λ t. cond t (offer_reveal s (board s run 3) a s.dealer (Reveal a (shares a))) None) ((decides_wrong s (board s run 3) shares a).1 (b, hb.0, (x, sym (before a b) ∙ e, n)))
            ∙ on (eqb s.dealer s.dealer && (ltb a (keepers s) && complained s (board s run 3) a)) (eqb a a) (shares a)
            (and_from (eqb s.dealer s.dealer) _ (eq-eqb s.dealer s.dealer refl) (and_from (ltb a (keepers s)) _ (lt-ltb a (keepers s) ha.0) (did a b hb.0 x (sym (before a b) ∙ e))))
            (eq-eqb a a refl))
      ];
    }
      where
        did : (a b : ℕ) → b < keepers s → (x : Pair) → complaint (board s run 3) a b ≡ Some x → complained s (board s run 3) a ≡ true
        did a b hb x e = (decides_any (keepers s) (λ b. not (free (complaint (board s run 3) a b))) (λ b. not (free (complaint (board s run 3) a b)) ≡ true) (λ _. (λ q. q, λ q. q))).1 (b, hb, ap (λ o. not (free o)) e)

  module _ (follows : Follows s lies run (hand s run) (board s run)) where
    tells : (i j : ℕ) → Honest g i → Keeper g j → (i ≡ j → ⊥) → d.told i j ≡ Some (pair_at g.p (d.dealt i) j)
    tells i j hi hj ne = hears-told i j _ hi.0 (follows.tells i j hi hj ne) ∙ ap (λ o. Some (pair_at s.p (checked s i o) j)) (sym (share1 i))

    -- what stands there of an honest keeper's complaint
    abbrev at : ℕ → ℕ → Pair
    at i j = pair_at s.p (mine s i (hand s run 5 i)) j

    stands : (i j : ℕ) → Honest g i → j < keepers s → d.complaints i j ≡ cond (doubts s i (hand s run 5 i) j) (offer_complaint s i j i (Complaint j (at i j))) None
    stands i j hi hj =
        ap (λ (l : List (List (Option Pair))). get_or (get_or l i []) j None) complaints5 ∙ complaint_is s run fit i j
        ∙ ap (first (offer_complaint s i j i)) (follows.complains i hi ∙ ap (complaints_of s i) (sym (hand5 i)))
        ∙ gathered (offer_complaint s i j i) (doubts s i (hand s run 5 i)) (λ k. Complaint k (at i k)) j (keepers s) hj (λ k n. off _ (eqb i i && eqb k j) (at i k) (and_right (eqb i i) (eqb k j) (ne_eqb k j n)))

    complains : (i j : ℕ) → Honest g i → Keeper g j → Doubts g d i j → d.complaints i j ≡ Some (pair_at g.p (d.dealt i) j)
    complains i j hi hj doubt = stands i j hi hj.0 ∙ ap (λ b. cond b (offer_complaint s i j i (Complaint j (at i j))) None)
        ((decides_doubts s i (hand s run 5 i) j).1 doubt)
        ∙ on (ltb i (keepers s) && (ltb j (keepers s) && not (eqb i j))) (eqb i i && eqb j j) (at i j)
        (and_from (ltb i (keepers s)) _ (lt-ltb i (keepers s) hi.0.0) (and_from (ltb j (keepers s)) _ (lt-ltb j (keepers s) hj.0) other))
        (and_from (eqb i i) (eqb j j) (eq-eqb i i refl) (eq-eqb j j refl))
      where
        other : not (eqb i j) ≡ true
        other = not_from_false (eqb i j) (ne_eqb i j doubt.0)

    only_then : (i j : ℕ) → Honest g i → Keeper g j → (x : Pair) → d.complaints i j ≡ Some x → (x ≡ pair_at g.p (d.dealt i) j) × Doubts g d i j
    only_then i j hi hj x e = let h = only_if (doubts s i (hand s run 5 i) j) (sym (stands i j hi hj.0) ∙ e) in ((only _ h.1).1, (decides_doubts s i (hand s run 5 i) j).0 h.0)

    judges : (i : ℕ) → Honest g i → d.fine i ≡ all_fits s i (d.dealt i) (board s run 5)
    judges i hi = ap (or_else false) (fine_is s run fit i ∙ ap (first (offer_fine s i i)) (follows.judges i hi) ∙ first_one (offer_fine s i i) _ ∙ on (ltb i (keepers s)) (eqb i i) _ (lt-ltb i (keepers s) hi.0.0) (eq-eqb i i refl))
        ∙ judged i

    good : (i : ℕ) → Lengths s.high s.low (d.dealt i) × Agree g.p i (d.dealt i) i (d.dealt i)
    unfolding Good
    good i = checked_good s i (hand s run 5 i).share

    keeps : Kept g s.high s.low d
    keeps = record {
      shares = λ i hi. good i;
      tells = tells;
      complains = complains;
      says_fine = λ i hi e. (decides_fit i).0 (sym (judges i hi) ∙ e);
    }

    keeps_strict : Strict g s.high s.low d
    keeps_strict = record { only_then = only_then; fines_if = λ i hi f. judges i hi ∙ (decides_fit i).1 f }

pub keeps_rules_lem : KeepsRules
keeps_rules_lem s lies run fit follows = (keeps s lies run fit follows, keeps_strict s lies run fit follows)

pub deals_fairly_lem : DealsFairly
deals_fairly_lem s lies run rs fit one h1 deals = fair s lies run fit one h1 rs deals
