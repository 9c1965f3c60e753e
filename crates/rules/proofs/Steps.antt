-- What a seat makes of a line: the words that the line is, if it is any, are heard or posted.
use Rattle.std.proofs.Common.{◌≡◌, ℕ, Bool, true, false, cond, not, ◌&&◌, eqb, List, [], ◌∷◌, ◌++◌, Some, None, Option, sym, refl, ap, ◌∙◌, subst, eq-eqb, ne_eqb}
use mathlib.Core.List.{foldl}
use native.Mathlib.Decide.{ℕ_discrete}
use Rattle.rules.specs.Rounds as rounds
use Rattle.rules.specs.Rounds.{Setting, Said, Letter, Post, Hand, Posts, heard, posted, heard_it, posted_it, free, complaint, revealed, said_fine, complained, told_by}
use Rattle.rules.specs.Message.{Message, Share, Told, Complaint, Reveal, Fine, Finished, Value}
use Rattle.rules.specs.Seat.{Terms, State, unless, answer, known, mail_taken, board_taken, mail_bytes, board_bytes, of_read, read_by, posted_by}
use Rattle.rules.specs.Play.{Line, Mail, Board, taken, mail_of, board_of}

-- the letter that a message is, and the word that a line of the board is; or nothing
abbrev pub about : Terms → (night dealer : ℕ) → Bool
about t night dealer = eqb night t.night && eqb dealer t.setting.dealer

abbrev one : {W : Type 0} → Bool → ℕ → W → List (Said W)
one b i w = cond b (record { by = i; word = w } ∷ []) []

unfoldable pub letter : Terms → ℕ → Option Message → List (Said Letter)
letter t from None = []
letter t from (Some (Share night dealer x)) = one (known t from && (about t night dealer && not (eqb from t.me))) from (rounds.Deal x)
letter t from (Some (Told night dealer a)) = one (known t from && (about t night dealer && not (eqb from t.me))) from (rounds.Told a)
letter t from (Some (Complaint night dealer by about a)) = []
letter t from (Some (Reveal night dealer keeper x)) = []
letter t from (Some (Fine night dealer keeper b)) = []
letter t from (Some (Finished night dealer keeper)) = []
letter t from (Some (Value night dealer keeper v)) = []

unfoldable pub word : Terms → ℕ → Option Message → List (Said Post)
word t who None = []
word t who (Some (Share night dealer x)) = []
word t who (Some (Told night dealer a)) = []
word t who (Some (Complaint night dealer by on a)) = one (known t who && (known t on && (about t night dealer && eqb by who))) who (rounds.Complaint on a)
word t who (Some (Reveal night dealer keeper x)) = one (known t who && (known t keeper && about t night dealer)) who (rounds.Reveal keeper x)
word t who (Some (Fine night dealer keeper b)) = one (known t who && (about t night dealer && eqb keeper who)) who (rounds.Fine b)
word t who (Some (Finished night dealer keeper)) = []
word t who (Some (Value night dealer keeper v)) = []

abbrev pub with_hand : State → Hand → State
with_hand st h = record { round = st.round; chance = st.chance; hand = h; posts = st.posts; kept = st.kept }

abbrev pub with_posts : State → Posts → State
with_posts st q = record { round = st.round; chance = st.chance; hand = st.hand; posts = q; kept = st.kept }

-- the tests in the order of the refusals, and in the order of the rules
deal_tests : (k n r d fd me fr : Bool) (new old : State) →
    (answer (unless k 1 (unless (n && r) 2 (unless (d && (fd && (not me && fr))) 3 None))) new old).0 ≡ cond (k && ((n && d) && not me)) (cond ((r && fd) && fr) new old) old
deal_tests false n r d fd me fr new old = refl
deal_tests true false r d fd me fr new old = refl
deal_tests true true false false fd me fr new old = refl
deal_tests true true false true fd true fr new old = refl
deal_tests true true false true fd false fr new old = refl
deal_tests true true true false fd me fr new old = refl
deal_tests true true true true false true fr new old = refl
deal_tests true true true true false false fr new old = refl
deal_tests true true true true true true fr new old = refl
deal_tests true true true true true false false new old = refl
deal_tests true true true true true false true new old = refl

told_tests : (k n r d me fr : Bool) (new old : State) →
    (answer (unless k 1 (unless (n && r) 2 (unless (d && (not me && fr)) 3 None))) new old).0 ≡ cond (k && ((n && d) && not me)) (cond ((r && k) && fr) new old) old
told_tests false n r d me fr new old = refl
told_tests true false r d me fr new old = refl
told_tests true true false false me fr new old = refl
told_tests true true false true true fr new old = refl
told_tests true true false true false fr new old = refl
told_tests true true true false me fr new old = refl
told_tests true true true true true fr new old = refl
told_tests true true true true false false new old = refl
told_tests true true true true false true new old = refl

complaint_tests : (k o n r d fr same : Bool) (new old : State) →
    (answer (unless k 1 (unless o 1 (unless (n && r) 2 (unless (d && (true && fr)) 3 (unless (not same) 4 None))))) new old).0 ≡ cond (k && (o && ((n && d) && true))) (cond ((r && (k && (o && not same))) && fr) new old) old
complaint_tests false o n r d fr same new old = refl
complaint_tests true false n r d fr same new old = refl
complaint_tests true true false r d fr same new old = refl
complaint_tests true true true false false fr same new old = refl
complaint_tests true true true false true fr same new old = refl
complaint_tests true true true true false fr same new old = refl
complaint_tests true true true true true false true new old = refl
complaint_tests true true true true true false false new old = refl
complaint_tests true true true true true true true new old = refl
complaint_tests true true true true true true false new old = refl

complaint_other : (k o n r d fr same : Bool) (new old mid : State) →
    (answer (unless k 1 (unless o 1 (unless (n && r) 2 (unless (d && (false && fr)) 3 (unless (not same) 4 None))))) new old).0 ≡ cond (k && (o && ((n && d) && false))) mid old
complaint_other false o n r d fr same new old mid = refl
complaint_other true false n r d fr same new old mid = refl
complaint_other true true false r d fr same new old mid = refl
complaint_other true true true false false fr same new old mid = refl
complaint_other true true true false true fr same new old mid = refl
complaint_other true true true true false fr same new old mid = refl
complaint_other true true true true true fr same new old mid = refl

reveal_tests : (k o n r d w fr c : Bool) (new old : State) →
    (answer (unless k 1 (unless o 1 (unless (n && r) 2 (unless (d && (w && fr)) 3 (unless c 4 None))))) new old).0 ≡ cond (k && (o && (n && d))) (cond ((r && (w && (o && c))) && fr) new old) old
reveal_tests false o n r d w fr c new old = refl
reveal_tests true false n r d w fr c new old = refl
reveal_tests true true false r d w fr c new old = refl
reveal_tests true true true false false w fr c new old = refl
reveal_tests true true true false true w fr c new old = refl
reveal_tests true true true true false w fr c new old = refl
reveal_tests true true true true true false fr c new old = refl
reveal_tests true true true true true true false true new old = refl
reveal_tests true true true true true true false false new old = refl
reveal_tests true true true true true true true true new old = refl
reveal_tests true true true true true true true false new old = refl

fine_tests : (k n r d fr : Bool) (new old : State) →
    (answer (unless k 1 (unless (n && r) 2 (unless (d && (true && fr)) 3 None))) new old).0 ≡ cond (k && ((n && d) && true)) (cond ((r && k) && fr) new old) old
fine_tests false n r d fr new old = refl
fine_tests true false r d fr new old = refl
fine_tests true true false false fr new old = refl
fine_tests true true false true fr new old = refl
fine_tests true true true false fr new old = refl
fine_tests true true true true false new old = refl
fine_tests true true true true true new old = refl

fine_other : (k n r d fr : Bool) (new old mid : State) →
    (answer (unless k 1 (unless (n && r) 2 (unless (d && (false && fr)) 3 None))) new old).0 ≡ cond (k && ((n && d) && false)) mid old
fine_other false n r d fr new old mid = refl
fine_other true false r d fr new old mid = refl
fine_other true true false false fr new old mid = refl
fine_other true true false true fr new old mid = refl
fine_other true true true false fr new old mid = refl
fine_other true true true true fr new old mid = refl

-- a word that may be none
hand_one : (st : State) (f : Hand → Said Letter → Hand) (b : Bool) (i : ℕ) (w : Letter) →
    with_hand st (foldl f st.hand (one b i w)) ≡ cond b (with_hand st (f st.hand (record { by = i; word = w }))) st
hand_one st f true i w = refl
hand_one st f false i w = refl

posts_one : (st : State) (f : Posts → Said Post → Posts) (b : Bool) (i : ℕ) (w : Post) →
    with_posts st (foldl f st.posts (one b i w)) ≡ cond b (with_posts st (f st.posts (record { by = i; word = w }))) st
posts_one st f true i w = refl
posts_one st f false i w = refl

hand-cond : (st : State) (b : Bool) (h : Hand) → with_hand st (cond b h st.hand) ≡ cond b (with_hand st h) st
hand-cond st true h = refl
hand-cond st false h = refl

posts-cond : (st : State) (b : Bool) (q : Posts) → with_posts st (cond b q st.posts) ≡ cond b (with_posts st q) st
posts-cond st true q = refl
posts-cond st false q = refl

refused : (b : Bool) (k : ℕ) (st : State) → (answer (unless b 1 (Some k)) st st).0 ≡ st
refused true k st = refl
refused false k st = refl

-- MAIL
mail_step : (t : Terms) (st : State) (from : ℕ) (m : Message) → (mail_taken t st from m).0 ≡ with_hand st (foldl (heard t.setting st.round) st.hand (letter t from (Some m)))
unfolding letter
mail_step t st from (Share night dealer x) =
    deal_tests (known t from) (eqb night t.night) (eqb st.round 1) (eqb dealer t.setting.dealer) (eqb from t.setting.dealer) (eqb from t.me) (free st.hand.share) _ st
    ∙ ap (λ (n : State). cond (known t from && (about t night dealer && not (eqb from t.me))) n st) (sym (hand-cond st _ (heard_it st.hand from (rounds.Deal x))))
    ∙ sym (hand_one st (heard t.setting st.round) _ from (rounds.Deal x))
mail_step t st from (Told night dealer a) =
    told_tests (known t from) (eqb night t.night) (eqb st.round 2) (eqb dealer t.setting.dealer) (eqb from t.me) (free (told_by st.hand from)) _ st
    ∙ ap (λ (n : State). cond (known t from && (about t night dealer && not (eqb from t.me))) n st) (sym (hand-cond st _ (heard_it st.hand from (rounds.Told a))))
    ∙ sym (hand_one st (heard t.setting st.round) _ from (rounds.Told a))
mail_step t st from (Complaint night dealer by about a) = refused (known t from) 1 st
mail_step t st from (Reveal night dealer keeper x) = refused (known t from) 1 st
mail_step t st from (Fine night dealer keeper b) = refused (known t from) 1 st
mail_step t st from (Finished night dealer keeper) = refused (known t from) 1 st
mail_step t st from (Value night dealer keeper v) = refused (known t from) 2 st

-- THE BOARD
board_step : (t : Terms) (st : State) (who : ℕ) (m : Message) → (board_taken t st who m).0 ≡ with_posts st (foldl (posted t.setting st.round) st.posts (word t who (Some m)))
unfolding word
board_step t st who (Share night dealer x) = refused (known t who) 1 st
board_step t st who (Told night dealer a) = refused (known t who) 1 st
board_step t st who (Complaint night dealer by on a) = go (ℕ_discrete by who)
  where
    b : Bool
    b = known t who && (known t on && (about t night dealer && eqb by who))

    ends : with_posts st (foldl (posted t.setting st.round) st.posts (one b who (rounds.Complaint on a))) ≡ cond b (cond ((eqb st.round 3 && (known t who && (known t on && not (eqb who on)))) && free (complaint st.posts who on)) (posted_by st who (rounds.Complaint on a)) st) st
    ends = posts_one st (posted t.setting st.round) b who (rounds.Complaint on a) ∙ ap (λ (n : State). cond b n st) (posts-cond st _ (posted_it st.posts who (rounds.Complaint on a)))

    go : Dec (by ≡ who) → (board_taken t st who (Complaint night dealer by on a)).0 ≡ with_posts st (foldl (posted t.setting st.round) st.posts (one b who (rounds.Complaint on a)))
    go (yes e) = subst (λ (i : ℕ). (answer (unless (known t who) 1 (unless (known t on) 1 (unless (eqb night t.night && eqb st.round 3) 2 (unless (eqb dealer t.setting.dealer && (eqb by who && free (complaint st.posts i on))) 3 (unless (not (eqb i on)) 4 None))))) (posted_by st who (rounds.Complaint on a)) st).0 ≡ cond b (cond ((eqb st.round 3 && (known t who && (known t on && not (eqb who on)))) && free (complaint st.posts who on)) (posted_by st who (rounds.Complaint on a)) st) st) (sym e)
        (rw (eq-eqb by who e) (complaint_tests (known t who) (known t on) (eqb night t.night) (eqb st.round 3) (eqb dealer t.setting.dealer) (free (complaint st.posts who on)) (eqb who on) _ st))
        ∙ sym ends
    go (no ne) = rw (ne_eqb by who ne) (complaint_other (known t who) (known t on) (eqb night t.night) (eqb st.round 3) (eqb dealer t.setting.dealer) (free (complaint st.posts by on)) (eqb by on) _ st _) ∙ sym ends
board_step t st who (Reveal night dealer keeper x) =
    reveal_tests (known t who) (known t keeper) (eqb night t.night) (eqb st.round 4) (eqb dealer t.setting.dealer) (eqb who t.setting.dealer) (free (revealed st.posts keeper)) (complained t.setting st.posts keeper) _ st
    ∙ ap (λ (n : State). cond (known t who && (known t keeper && about t night dealer)) n st) (sym (posts-cond st _ (posted_it st.posts who (rounds.Reveal keeper x))))
    ∙ sym (posts_one st (posted t.setting st.round) _ who (rounds.Reveal keeper x))
board_step t st who (Fine night dealer keeper f) = go (ℕ_discrete keeper who)
  where
    b : Bool
    b = known t who && (about t night dealer && eqb keeper who)

    new : State
    new = cond b (cond ((eqb st.round 5 && known t who) && free (said_fine st.posts who)) (posted_by st who (rounds.Fine f)) st) st

    ends : with_posts st (foldl (posted t.setting st.round) st.posts (one b who (rounds.Fine f))) ≡ new
    ends = posts_one st (posted t.setting st.round) b who (rounds.Fine f) ∙ ap (λ (n : State). cond b n st) (posts-cond st _ (posted_it st.posts who (rounds.Fine f)))

    go : Dec (keeper ≡ who) → (board_taken t st who (Fine night dealer keeper f)).0 ≡ with_posts st (foldl (posted t.setting st.round) st.posts (one b who (rounds.Fine f)))
    go (yes e) = subst (λ (i : ℕ). (answer (unless (known t who) 1 (unless (eqb night t.night && eqb st.round 5) 2 (unless (eqb dealer t.setting.dealer && (eqb keeper who && free (said_fine st.posts i))) 3 None))) (posted_by st who (rounds.Fine f)) st).0 ≡ new) (sym e)
        (rw (eq-eqb keeper who e) (fine_tests (known t who) (eqb night t.night) (eqb st.round 5) (eqb dealer t.setting.dealer) (free (said_fine st.posts who)) _ st))
        ∙ sym ends
    go (no ne) = rw (ne_eqb keeper who ne) (fine_other (known t who) (eqb night t.night) (eqb st.round 5) (eqb dealer t.setting.dealer) (free (said_fine st.posts keeper)) _ st _) ∙ sym ends
board_step t st who (Finished night dealer keeper) = refused (known t who) 2 st
board_step t st who (Value night dealer keeper v) = refused (known t who) 1 st

-- OF BYTES
mail_bytes_lem : (t : Terms) (st : State) (from : ℕ) (bs : List ℕ) → (mail_bytes t st from bs).0 ≡ with_hand st (foldl (heard t.setting st.round) st.hand (letter t from (read_by t bs)))
unfolding letter
mail_bytes_lem t st from bs = by (read_by t bs)
  where
    by : (o : Option Message) → (of_read st o (mail_taken t st from)).0 ≡ with_hand st (foldl (heard t.setting st.round) st.hand (letter t from o))
    by None = refl
    by (Some m) = mail_step t st from m

board_bytes_lem : (t : Terms) (st : State) (who : ℕ) (bs : List ℕ) → (board_bytes t st who bs).0 ≡ with_posts st (foldl (posted t.setting st.round) st.posts (word t who (read_by t bs)))
unfolding word
board_bytes_lem t st who bs = by (read_by t bs)
  where
    by : (o : Option Message) → (of_read st o (board_taken t st who)).0 ≡ with_posts st (foldl (posted t.setting st.round) st.posts (word t who o))
    by None = refl
    by (Some m) = board_step t st who m

-- the letters that a keeper's mail is, and the words that the board is
unfoldable pub letters : Terms → List (Said (List ℕ)) → List (Said Letter)
letters t [] = []
letters t (m ∷ ms) = letter t m.by (read_by t m.word) ++ letters t ms

unfoldable pub words : Terms → List (Said (List ℕ)) → List (Said Post)
words t [] = []
words t (m ∷ ms) = word t m.by (read_by t m.word) ++ words t ms

pub foldl_append : {A B : Type 0} (f : B → A → B) (b : B) (l k : List A) → foldl f b (l ++ k) ≡ foldl f (foldl f b l) k
foldl_append f b [] k = refl
foldl_append f b (a ∷ l) k = foldl_append f (f b a) l k

-- the seat after some lines
pub after_lines : (t : Terms) (st : State) (ls : List Line) → foldl (taken t) st ls ≡
    record { round = st.round; chance = st.chance; hand = foldl (heard t.setting st.round) st.hand (letters t (mail_of ls)); posts = foldl (posted t.setting st.round) st.posts (words t (board_of ls)); kept = st.kept }
unfolding letters words mail_of board_of
after_lines t st [] = refl
after_lines t st (Mail from bs ∷ ls) =
    ap (λ s. foldl (taken t) s ls) (mail_bytes_lem t st from bs) ∙ after_lines t (with_hand st (foldl (heard t.setting st.round) st.hand (letter t from (read_by t bs)))) ls ∙
    ap (λ (h : Hand). record { round = st.round; chance = st.chance; hand = h; posts = foldl (posted t.setting st.round) st.posts (words t (board_of ls)); kept = st.kept })
    (sym (foldl_append (heard t.setting st.round) st.hand (letter t from (read_by t bs)) (letters t (mail_of ls))))
after_lines t st (Board who bs ∷ ls) =
    ap (λ s. foldl (taken t) s ls) (board_bytes_lem t st who bs) ∙ after_lines t (with_posts st (foldl (posted t.setting st.round) st.posts (word t who (read_by t bs)))) ls ∙
    ap (λ (q : Posts). record { round = st.round; chance = st.chance; hand = foldl (heard t.setting st.round) st.hand (letters t (mail_of ls)); posts = q; kept = st.kept })
    (sym (foldl_append (posted t.setting st.round) st.posts (word t who (read_by t bs)) (words t (board_of ls))))

-- before the first round nothing is heard or posted
pub still : (s : Setting) (h : Hand) (ws : List (Said Letter)) → foldl (heard s 0) h ws ≡ h
still s h [] = refl
still s h (w ∷ ws) = ap (λ g. foldl (heard s 0) g ws) (same w.word) ∙ still s h ws
  where
    same : (x : Letter) → heard s 0 h (record { by = w.by; word = x }) ≡ h
    same (rounds.Deal x) = refl
    same (rounds.Told x) = refl

pub still-posts : (s : Setting) (q : Posts) (ws : List (Said Post)) → foldl (posted s 0) q ws ≡ q
still-posts s q [] = refl
still-posts s q (w ∷ ws) = ap (λ g. foldl (posted s 0) g ws) (same w.word) ∙ still-posts s q ws
  where
    same : (x : Post) → posted s 0 q (record { by = w.by; word = x }) ≡ q
    same (rounds.Complaint a x) = refl
    same (rounds.Reveal a x) = refl
    same (rounds.Fine b) = refl

pub silent_lines : (t : Terms) (st : State) (ls : List Line) → st.round ≡ 0 → foldl (taken t) st ls ≡ st
silent_lines t st ls e = after_lines t st ls ∙ (λ z. record {
  round = st.round;
  chance = st.chance;
  hand = (ap (λ r. foldl (heard t.setting r) st.hand (letters t (mail_of ls))) e ∙ still t.setting st.hand (letters t (mail_of ls))) z;
  posts = (ap (λ r. foldl (posted t.setting r) st.posts (words t (board_of ls))) e ∙ still-posts t.setting st.posts (words t (board_of ls))) z;
  kept = st.kept;
})
