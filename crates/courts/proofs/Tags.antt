-- What a court says, taken apart by the dealings that it names.
use Rattle.std.proofs.Common.{◌≡◌, ℕ, zero, suc, ◌<◌, ◌≤◌, Bool, true, false, cond, not, ◌||◌, eqb, List, [], ◌∷◌, ◌++◌, map, get_or, Some, None, Option, sym, refl, ap, ◌∙◌, ap₂, append-nil, arith, eq-eqb, ne_eqb}
use mathlib.Core.List.{map-append}
use native.Mathlib.Decide.{ℕ_discrete}
use Rattle.std.specs.Option.{option_map, option_to_list}
use Rattle.algebra.specs.Sharing.{pair_at, share_of}
use Rattle.rules.specs.Rounds.{Said, words_by, mine, doubts, any, keepers, wrong}
use Rattle.rules.specs.Message.{Message, Share, Told, Complaint, Reveal, Fine, Finished, Value}
use Rattle.rules.specs.Wire.{wire, be4}
use Rattle.rules.specs.Seat.{Terms, State, known, mail_to, line_of, complaint_to, answer_to, judgement}
use Rattle.rules.specs.Play as play
use Rattle.rules.specs.Play.{collected, mail_of, board_of}
use Rattle.courts.specs.Court.{Court, dealer_of, members, post_at, posts_up_to}
use Rattle.courts.proofs.Routing.{Names, when-names, none_names, cond-names, tagged}
use Rattle.courts.proofs.Sits.{keep}

-- bytes that name a dealing
unfoldable pub of_tag : ℕ → List (List ℕ) → List (List ℕ)
of_tag d [] = []
of_tag d (b ∷ bs) = cond (eqb (get_or b 5 0) d) (b ∷ of_tag d bs) (of_tag d bs)

pub of_tag_append : (d : ℕ) (l k : List (List ℕ)) → of_tag d (l ++ k) ≡ of_tag d l ++ of_tag d k
unfolding of_tag
of_tag_append d [] k = refl
of_tag_append d (b ∷ l) k = go (eqb (get_or b 5 0) d) (of_tag_append d l k)
  where
    go : (t : Bool) → of_tag d (l ++ k) ≡ of_tag d l ++ of_tag d k → cond t (b ∷ of_tag d (l ++ k)) (of_tag d (l ++ k)) ≡ cond t (b ∷ of_tag d l) (of_tag d l) ++ of_tag d k
    go true e = ap (λ r. b ∷ r) e
    go false e = e

-- the words of one keeper that name a dealing
pub mail-tagged : (d : ℕ) (ls : List play.Line) → mail_of (tagged d ls) ≡ keep d (mail_of ls)
unfolding mail_of tagged keep
mail-tagged d [] = refl
mail-tagged d (play.Mail from bs ∷ ls) = go (eqb (get_or bs 5 0) d) (mail-tagged d ls)
  where
    go : (t : Bool) → mail_of (tagged d ls) ≡ keep d (mail_of ls) → mail_of (cond t (play.Mail from bs ∷ tagged d ls) (tagged d ls)) ≡ cond t (record { by = from; word = bs } ∷ keep d (mail_of ls)) (keep d (mail_of ls))
    go true e = ap (λ r. record { by = from; word = bs } ∷ r) e
    go false e = e
mail-tagged d (play.Board who bs ∷ ls) = go (eqb (get_or bs 5 0) d) (mail-tagged d ls)
  where
    go : (t : Bool) → mail_of (tagged d ls) ≡ keep d (mail_of ls) → mail_of (cond t (play.Board who bs ∷ tagged d ls) (tagged d ls)) ≡ keep d (mail_of ls)
    go true e = e
    go false e = e

pub board-tagged : (d : ℕ) (ls : List play.Line) → board_of (tagged d ls) ≡ keep d (board_of ls)
unfolding board_of tagged keep
board-tagged d [] = refl
board-tagged d (play.Board who bs ∷ ls) = go (eqb (get_or bs 5 0) d) (board-tagged d ls)
  where
    go : (t : Bool) → board_of (tagged d ls) ≡ keep d (board_of ls) → board_of (cond t (play.Board who bs ∷ tagged d ls) (tagged d ls)) ≡ cond t (record { by = who; word = bs } ∷ keep d (board_of ls)) (keep d (board_of ls))
    go true e = ap (λ r. record { by = who; word = bs } ∷ r) e
    go false e = e
board-tagged d (play.Mail from bs ∷ ls) = go (eqb (get_or bs 5 0) d) (board-tagged d ls)
  where
    go : (t : Bool) → board_of (tagged d ls) ≡ keep d (board_of ls) → board_of (cond t (play.Mail from bs ∷ tagged d ls) (tagged d ls)) ≡ keep d (board_of ls)
    go true e = e
    go false e = e

pub words_keep : (i d : ℕ) (ws : List (Said (List ℕ))) → words_by i (keep d ws) ≡ of_tag d (words_by i ws)
unfolding words_by keep of_tag
words_keep i d [] = refl
words_keep i d (w ∷ ws) = go (eqb (get_or w.word 5 0) d) (eqb w.by i) refl (words_keep i d ws)
  where
    go : (t b : Bool) → eqb (get_or w.word 5 0) d ≡ t → words_by i (keep d ws) ≡ of_tag d (words_by i ws) →
        words_by i (cond t (w ∷ keep d ws) (keep d ws)) ≡ of_tag d (cond (eqb w.by i) (w.word ∷ words_by i ws) (words_by i ws))
    go true b q e = inner (eqb w.by i)
      where
        inner : (a : Bool) → cond a (w.word ∷ words_by i (keep d ws)) (words_by i (keep d ws)) ≡ of_tag d (cond a (w.word ∷ words_by i ws) (words_by i ws))
        inner true = rw q (ap (λ r. w.word ∷ r) e)
        inner false = e
    go false b q e = inner (eqb w.by i)
      where
        inner : (a : Bool) → words_by i (keep d ws) ≡ of_tag d (cond a (w.word ∷ words_by i ws) (words_by i ws))
        inner true = rw q e
        inner false = e

-- MESSAGES name their dealing in the sixth byte.
pub wire_tag : (m : Message) → get_or (wire m) 5 0 ≡ dealer_of m
unfolding be4
wire_tag (Share night dealer x) = refl
wire_tag (Told night dealer a) = refl
wire_tag (Complaint night dealer by about a) = refl
wire_tag (Reveal night dealer keeper x) = refl
wire_tag (Fine night dealer keeper b) = refl
wire_tag (Finished night dealer keeper) = refl
wire_tag (Value night dealer keeper v) = refl

-- what may be said about dealing e, if it is about d
pub one_tag : (d e : ℕ) (o : Option Message) → Names e o → of_tag d (map wire (option_to_list o)) ≡ cond (eqb e d) (map wire (option_to_list o)) []
unfolding of_tag
one_tag d e None h = both (eqb e d)
  where
    both : (b : Bool) → ◌≡◌ {A = List (List ℕ)} [] (cond b [] [])
    both true = refl
    both false = refl
one_tag d e (Some m) h = rw (wire_tag m ∙ h m refl) refl

same_cond : (b : Bool) (l k : List (List ℕ)) → cond b l [] ++ cond b k [] ≡ cond b (l ++ k) []
same_cond true l k = refl
same_cond false l k = refl

-- all about one dealing
pub all_tag : (d e n : ℕ) (g : ℕ → Option Message) → ((k : ℕ) → Names e (g k)) → of_tag d (map wire (collected n g)) ≡ cond (eqb e d) (map wire (collected n g)) []
unfolding collected of_tag
all_tag d e zero g h = one_tag d e None (none_names e)
all_tag d e (suc n) g h = ap (of_tag d) (map-append wire (collected n g) (option_to_list (g n))) ∙ of_tag_append d (map wire (collected n g)) (map wire (option_to_list (g n)))
    ∙ ap₂ ◌++◌ (all_tag d e n g h) (one_tag d e (g n) (h n)) ∙ same_cond (eqb e d) _ _ ∙ ap (λ l. cond (eqb e d) l []) (sym (map-append wire (collected n g) (option_to_list (g n))))

-- one after the other, each about its own dealing
pub none_tag : (d n : ℕ) (g : ℕ → Option Message) → ((e : ℕ) → Names e (g e)) → n ≤ d → of_tag d (map wire (collected n g)) ≡ []
unfolding collected of_tag
none_tag d zero g h l = refl
none_tag d (suc n) g h l = ap (of_tag d) (map-append wire (collected n g) (option_to_list (g n))) ∙ of_tag_append d (map wire (collected n g)) (map wire (option_to_list (g n)))
    ∙ ap₂ ◌++◌ (none_tag d n g h (omega arith)) (one_tag d n (g n) (h n) ∙ ap (λ b. cond b (map wire (option_to_list (g n))) []) (ne_eqb n d (λ e. omega arith)))

pub each_tag : (d n : ℕ) (g : ℕ → Option Message) → ((e : ℕ) → Names e (g e)) → d < n → of_tag d (map wire (collected n g)) ≡ map wire (option_to_list (g d))
unfolding collected
each_tag d zero g h l = absurd (omega arith)
each_tag d (suc n) g h l = ap (of_tag d) (map-append wire (collected n g) (option_to_list (g n))) ∙ of_tag_append d (map wire (collected n g)) (map wire (option_to_list (g n)))
    ∙ ap (λ k. of_tag d (map wire (collected n g)) ++ k) (one_tag d n (g n) (h n)) ∙ go (ℕ_discrete n d) (each_tag d n g h)
  where
    go : Dec (n ≡ d) → (d < n → of_tag d (map wire (collected n g)) ≡ map wire (option_to_list (g d))) → of_tag d (map wire (collected n g)) ++ cond (eqb n d) (map wire (option_to_list (g n))) [] ≡ map wire (option_to_list (g d))
    go (yes e) r = ap₂ ◌++◌ (none_tag d n g h (omega arith)) (ap (λ b. cond b (map wire (option_to_list (g n))) []) (eq-eqb n d e)) ∙ ap (λ k. map wire (option_to_list (g k))) e
    go (no ne) r = ap₂ ◌++◌ (r (omega arith)) (ap (λ b. cond b (map wire (option_to_list (g n))) []) (ne_eqb n d ne)) ∙ append-nil (map wire (option_to_list (g d)))

-- the same of what stands on the board
module _ (c : Court) (h : (e k : ℕ) → Names e (post_at c e k)) where
  posts_none : (d n : ℕ) → n ≤ d → of_tag d (map wire (posts_up_to c n)) ≡ []
  unfolding posts_up_to of_tag
  posts_none d zero l = refl
  posts_none d (suc n) l = ap (of_tag d) (map-append wire (posts_up_to c n) (collected (members c) (post_at c n))) ∙ of_tag_append d (map wire (posts_up_to c n)) (map wire (collected (members c) (post_at c n)))
      ∙ ap₂ ◌++◌ (posts_none d n (omega arith)) (all_tag d n (members c) (post_at c n) (h n) ∙ ap (λ b. cond b (map wire (collected (members c) (post_at c n))) []) (ne_eqb n d (λ e. omega arith)))

  pub posts_tag : (d n : ℕ) → d < n → of_tag d (map wire (posts_up_to c n)) ≡ map wire (collected (members c) (post_at c d))
  unfolding posts_up_to
  posts_tag d zero l = absurd (omega arith)
  posts_tag d (suc n) l = ap (of_tag d) (map-append wire (posts_up_to c n) (collected (members c) (post_at c n))) ∙ of_tag_append d (map wire (posts_up_to c n)) (map wire (collected (members c) (post_at c n)))
      ∙ ap (λ k. of_tag d (map wire (posts_up_to c n)) ++ k) (all_tag d n (members c) (post_at c n) (h n)) ∙ go (ℕ_discrete n d) (posts_tag d n)
    where
      go : Dec (n ≡ d) → (d < n → of_tag d (map wire (posts_up_to c n)) ≡ map wire (collected (members c) (post_at c d))) →
          of_tag d (map wire (posts_up_to c n)) ++ cond (eqb n d) (map wire (collected (members c) (post_at c n))) [] ≡ map wire (collected (members c) (post_at c d))
      go (yes e) r = ap₂ ◌++◌ (posts_none d n (omega arith)) (ap (λ b. cond b (map wire (collected (members c) (post_at c n))) []) (eq-eqb n d e)) ∙ ap (λ k. map wire (collected (members c) (post_at c k))) e
      go (no ne) r = ap₂ ◌++◌ (r (omega arith)) (ap (λ b. cond b (map wire (collected (members c) (post_at c n))) []) (ne_eqb n d ne)) ∙ append-nil (map wire (collected (members c) (post_at c d)))

-- WHAT A SEAT SAYS is about its dealing.
some_names : (x : Message) (d : ℕ) → dealer_of x ≡ d → Names d (Some x)
some_names x d e m q = let z : x ≡ m = cc in ap dealer_of (sym z) ∙ e

module _ (t : Terms) (st : State) where
  abbrev d : ℕ
  d = t.setting.dealer

  share-names : (j : ℕ) (o : Option (List (List ℕ))) → Names d (option_map (λ rs. Share t.night d (share_of t.setting.p rs j)) o)
  share-names j None = none_names d
  share-names j (Some rs) = some_names (Share t.night d (share_of t.setting.p rs j)) d refl

  pub mail-names : (j : ℕ) → Names d (mail_to t st j)
  mail-names j = cond-names (eqb j t.me || not (known t j)) None _ d (none_names d)
      (cond-names (eqb st.round 1) _ _ d (cond-names (eqb t.me d) _ None d (share-names j st.chance) (none_names d))
      (cond-names (eqb st.round 2) _ None d (some_names (Told t.night d (pair_at t.setting.p (mine t.setting t.me st.hand) j)) d refl) (none_names d)))

  answer-names : (o : Option (List (List ℕ))) (k : ℕ) → Names d (answer_to t st o k)
  answer-names None k = none_names d
  answer-names (Some rs) k = when-names (any (keepers t.setting) (wrong t.setting (share_of t.setting.p rs) st.posts k)) (Reveal t.night d k (share_of t.setting.p rs k)) d refl

  pub line_names : (k : ℕ) → Names d (line_of t st k)
  line_names k = cond-names (known t k) _ None d
      (cond-names (eqb st.round 3) (complaint_to t st k) _ d (when-names (doubts t.setting t.me st.hand k) (Complaint t.night d t.me k (pair_at t.setting.p (mine t.setting t.me st.hand) k)) d refl)
      (cond-names (eqb st.round 4) _ _ d (cond-names (eqb t.me d) _ None d (answer-names st.chance k) (none_names d))
      (cond-names (eqb st.round 5) _ None d (when-names (eqb k t.me) (judgement t st) d refl) (none_names d))))
      (none_names d)
