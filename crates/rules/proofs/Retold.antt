-- One dealing, played with bytes, with other numbers drawn: the same lines but for honest keepers' private words, and the spied see no difference.
use Rattle.std.proofs.Common.{◌≡◌, ℕ, zero, suc, ◌+◌, ◌*◌, ◌<◌, ◌≤◌, Bool, true, false, cond, not, ◌&&◌, ◌||◌, T, eqb, ltb, ◌⊎◌, List, [], ◌∷◌, ◌++◌, map, Some, None, Option, sym, refl, ap, ◌∙◌, subst, ap₂, inl, inr, ⊎_elim, true≢false, arith, ltb-true, lt-ltb, eq-eqb, ne_eqb, eqb-true}
use mathlib.Core.Path.{fun_ext}
use mathlib.Core.Bool.{false≢true}
use mathlib.Core.List.Memᴰ
use mathlib.Core.List.{foldl, Memᴰ}
use native.Mathlib.Decide.{ℕ_discrete}
use Rattle.std.specs.Option.{option_map, option_to_list}
use Rattle.algebra.specs.Prime.{p}
use Rattle.algebra.specs.Counting.{count}
use Rattle.algebra.specs.Polynomial.{Exact2, Low2, plus2}
use Rattle.algebra.specs.Sharing as sharing
use Rattle.algebra.specs.Sharing.{pair_at, share_of}
use Rattle.algebra.proofs.Coefficients.{exact_plus2}
use Rattle.algebra.proofs.Stated.{shares}
use Rattle.rules.specs.Deal.{Group, Sound, Keeper, Honest, or_else}
use Rattle.rules.specs.Rounds as rounds
use Rattle.rules.specs.Rounds.{Setting, keepers, group, Said, Letter, Post, Hand, Posts, Lines, hand, board, posted, mine, doubts, any, wrong, all_fits, words_by, read_off}
use Rattle.rules.specs.Message.{Message, Share, Told, Complaint, Reveal, Fine, Finished, Value}
use Rattle.rules.specs.Wire.{wire, when, Fit, InRange}
use Rattle.rules.specs.Seat.{Terms, State, known, read_by, called, mail_to, line_of}
use Rattle.rules.specs.Play.{Line, Mail, Board, Sitting, setting_of, terms_of, Possible, Play, Plays, at_call, sends, posts, collected, mail_of, board_of}
use Rattle.rules.specs.Promise.{Unseen, HidesBytes}
use Rattle.rules.proofs.Steps.{about, letter, letters, words}
use Rattle.rules.proofs.Reading.{parse-wire}
use Rattle.rules.proofs.Retouch.{to_each, to_each_none, to_each_same, retouch, words_retouch, retouch_same}
use Rattle.rules.proofs.Reworded.{reword, reworded}
use Rattle.rules.proofs.Reworded as reworded
use Rattle.rules.proofs.Sat as sat
use Rattle.rules.proofs.Sat.{value_small}
use Rattle.rules.proofs.Whole.{sound_group}
use Rattle.rules.proofs.Keeping.{hand5, share1}

-- the bytes that keeper i sends keeper j in round r, if another polynomial is dealt
abbrev pub new_word : Sitting → (ℕ → Bool) → List (List ℕ) → (r j i : ℕ) → Option (List ℕ)
new_word k lies ts r j i = cond (eqb r 1 && eqb i k.dealer) (Some (wire (Share k.night k.dealer (share_of p ts j))))
    (cond (eqb r 2 && (ltb i (3 * k.f + 1) && (not (lies i) && not (eqb i j)))) (Some (wire (Told k.night k.dealer (pair_at p (share_of p ts i) j)))) None)

abbrev pub resay : Sitting → (ℕ → Bool) → List (List ℕ) → (r j i : ℕ) → List ℕ → List ℕ
resay k lies ts r j i bs = or_else bs (new_word k lies ts r j i)

-- mail changed in its places
abbrev pub reline : (ℕ → List ℕ → List ℕ) → Line → Line
reline f (Mail from bs) = Mail from (f from bs)
reline f (Board who bs) = Board who bs

pub mail-reline : (f : ℕ → List ℕ → List ℕ) (ls : List Line) → mail_of (map (reline f) ls) ≡ retouch f (mail_of ls)
unfolding mail_of retouch
mail-reline f [] = refl
mail-reline f (Mail from bs ∷ ls) = ap (λ l. record { by = from; word = f from bs } ∷ l) (mail-reline f ls)
mail-reline f (Board who bs ∷ ls) = mail-reline f ls

pub board-reline : (f : ℕ → List ℕ → List ℕ) (ls : List Line) → board_of (map (reline f) ls) ≡ board_of ls
unfolding board_of
board-reline f [] = refl
board-reline f (Mail from bs ∷ ls) = board-reline f ls
board-reline f (Board who bs ∷ ls) = ap (λ l. record { by = who; word = bs } ∷ l) (board-reline f ls)

-- where no mail is changed, nothing is
pub reline_same : (f : ℕ → List ℕ → List ℕ) (ls : List Line) → retouch f (mail_of ls) ≡ mail_of ls → map (reline f) ls ≡ ls
unfolding retouch mail_of
reline_same f [] e = refl
reline_same f (Board who bs ∷ ls) e = ap (λ l. Board who bs ∷ l) (reline_same f ls e)
reline_same f (Mail from bs ∷ ls) e = ap₂ (λ w l. Mail from w ∷ l) (ap (λ (x : Said (List ℕ)). x.word) (head e)) (reline_same f ls (rest e))
  where
    head : {x y : Said (List ℕ)} {xs ys : List (Said (List ℕ))} → x ∷ xs ≡ y ∷ ys → x ≡ y
    head e = cc

    rest : {x y : Said (List ℕ)} {xs ys : List (Said (List ℕ))} → x ∷ xs ≡ y ∷ ys → xs ≡ ys
    rest e = cc

abbrev pub retold : Sitting → (ℕ → Bool) → List (List ℕ) → Play → Play
retold k lies ts m = record { chance = Some ts; lines = λ r j. map (reline (resay k lies ts r j)) (m.lines r j); board = m.board }

retouch_append : {W : Type 0} (f : ℕ → W → W) (l k : List (Said W)) → retouch f (l ++ k) ≡ retouch f l ++ retouch f k
unfolding retouch
retouch_append f [] k = refl
retouch_append f (m ∷ l) k = ap (λ r. record { by = m.by; word = f m.by m.word } ∷ r) (retouch_append f l k)

-- words that are changed before they are read, and after
module _ (t : Terms) (f : ℕ → List ℕ → List ℕ) (g : ℕ → Letter → Letter) where
  read_retouched : (ms : List (Said (List ℕ))) → ((i : ℕ) (w : List ℕ) → Memᴰ w (words_by i ms) → letter t i (read_by t (f i w)) ≡ retouch g (letter t i (read_by t w))) → letters t (retouch f ms) ≡ retouch g (letters t ms)
  unfolding retouch letters words_by
  read_retouched [] h = refl
  read_retouched (m ∷ ms) h = ap₂ ◌++◌ (h m.by m.word (there (eqb m.by m.by) (eq-eqb m.by m.by refl))) (read_retouched ms (λ i w q. h i w (later i w (eqb m.by i) q)))
      ∙ sym (retouch_append g (letter t m.by (read_by t m.word)) (letters t ms))
    where
      there : (b : Bool) → b ≡ true → Memᴰ m.word (cond b (m.word ∷ words_by m.by ms) (words_by m.by ms))
      there true e = Memᴰ.head refl
      there false e = absurd (false≢true e)

      later : (i : ℕ) (w : List ℕ) (b : Bool) → Memᴰ w (words_by i ms) → Memᴰ w (cond b (m.word ∷ words_by i ms) (words_by i ms))
      later i w true q = Memᴰ.tail q
      later i w false q = q

-- the words of one letter are its sender's
one_retouched : (g : ℕ → Letter → Letter) (b : Bool) (i : ℕ) (w : Letter) → retouch g (cond b (record { by = i; word = w } ∷ []) []) ≡ cond b (record { by = i; word = g i w } ∷ []) []
unfolding retouch
one_retouched g true i w = refl
one_retouched g false i w = refl

letter_kept : (t : Terms) (g : ℕ → Letter → Letter) (i : ℕ) → ((w : Letter) → g i w ≡ w) → (o : Option Message) → retouch g (letter t i o) ≡ letter t i o
unfolding letter retouch
letter_kept t g i h None = refl
letter_kept t g i h (Some (Share night dealer x)) = one_retouched g _ i (rounds.Deal x) ∙ ap (λ w. cond (known t i && (about t night dealer && not (eqb i t.me))) (record { by = i; word = w } ∷ []) []) (h (rounds.Deal x))
letter_kept t g i h (Some (Told night dealer a)) = one_retouched g _ i (rounds.Told a) ∙ ap (λ w. cond (known t i && (about t night dealer && not (eqb i t.me))) (record { by = i; word = w } ∷ []) []) (h (rounds.Told a))
letter_kept t g i h (Some (Complaint night dealer by about a)) = refl
letter_kept t g i h (Some (Reveal night dealer keeper x)) = refl
letter_kept t g i h (Some (Fine night dealer keeper b)) = refl
letter_kept t g i h (Some (Finished night dealer keeper)) = refl
letter_kept t g i h (Some (Value night dealer keeper v)) = refl

-- WHAT A KEEPER SAYS in each round of any play
module _ (k : Sitting) (x : Play) (i j : ℕ) where
  abbrev gap : Bool
  gap = eqb j i || not (known (terms_of k i) j)

  first_mail : mail_to (terms_of k i) (at_call k x 0 i) j ≡ cond gap None (cond (eqb i k.dealer) (option_map (λ rs. Share k.night k.dealer (share_of p rs j)) (cond (eqb i k.dealer) x.chance None)) None)
  first_mail = ap (λ st. mail_to (terms_of k i) (called (terms_of k i) st) j) (sat.after0 k x i)

  second-mail : mail_to (terms_of k i) (at_call k x 1 i) j ≡ cond gap None (Some (Told k.night k.dealer (pair_at p (mine (setting_of k) i (hand (setting_of k) (sat.said k x) 1 i)) j)))
  second-mail = ap (λ st. mail_to (terms_of k i) (called (terms_of k i) st) j) (sat.after1 k x i)

  no_mail : (st : State) → ((st.round ≡ 1) ⊎ (st.round ≡ 2) → ⊥) → mail_to (terms_of k i) st j ≡ None
  no_mail st n = ap₂ (λ a b. cond gap None (cond a (cond (eqb i k.dealer) (option_map (λ rs. Share k.night k.dealer (share_of p rs j)) st.chance) None) (cond b (Some (Told k.night k.dealer (pair_at p (mine (setting_of k) i st.hand) j))) None)))
      (ne_eqb st.round 1 (λ e. n (inl e))) (ne_eqb st.round 2 (λ e. n (inr e))) ∙ both gap
    where
      both : (b : Bool) → ◌≡◌ {A = Option Message} (cond b None None) None
      both true = refl
      both false = refl

  round_at : (r : ℕ) → 2 ≤ r → 3 ≤ (at_call k x r i).round
  round_at zero h = absurd (omega arith)
  round_at (suc zero) h = absurd (omega arith)
  round_at (suc (suc zero)) h = let e : (at_call k x 2 i).round ≡ 3 = ap (λ st. (called (terms_of k i) st).round) (sat.after2 k x i) in omega arith
  round_at (suc (suc (suc zero))) h = let e : (at_call k x 3 i).round ≡ 4 = ap (λ st. (called (terms_of k i) st).round) (sat.after3 k x i) in omega arith
  round_at (suc (suc (suc (suc zero)))) h = let e : (at_call k x 4 i).round ≡ 5 = ap (λ st. (called (terms_of k i) st).round) (sat.after4 k x i) in omega arith
  round_at (suc (suc (suc (suc (suc r))))) h = let e : r + 5 ≡ suc (suc (suc (suc (suc r)))) = omega arith in let q = ap (λ n. (at_call k x n i).round) e in omega (arith, sat.late_call k x r i)

  later-mail : (r : ℕ) → 2 ≤ r → mail_to (terms_of k i) (at_call k x r i) j ≡ None
  later-mail r h = no_mail (at_call k x r i) (λ q. ⊎_elim (λ e. omega (arith, round_at r h)) (λ e. omega (arith, round_at r h)) q)

module _ (k : Sitting) (possible : Possible k) (lies : ℕ → Bool) (few : count (3 * k.f + 1) lies ≤ k.f) (m : Play) (plays : Plays k lies m)
    (rs : List (List ℕ)) (drawn : m.chance ≡ Some rs) (exact : Exact2 p k.high k.low rs) (hd : Honest (group (setting_of k) lies) k.dealer)
    (spied : List ℕ) (inside : (i : ℕ) → Memᴰ i spied → Keeper (group (setting_of k) lies) i) (liars : (i : ℕ) → Keeper (group (setting_of k) lies) i → T (lies i) → Memᴰ i spied) (out : Memᴰ k.dealer spied → ⊥)
    (qs : List (List ℕ)) (small : Low2 k.high k.low qs) (unseen : (i : ℕ) → Memᴰ i spied → Unseen (group (setting_of k) lies) qs i) where
  abbrev s : Setting
  s = setting_of k

  abbrev g : Group
  g = group s lies

  abbrev t : ℕ → Terms
  t i = terms_of k i

  abbrev ts : List (List ℕ)
  ts = plus2 p rs qs

  abbrev pub other : Play
  other = retold k lies ts m

  abbrev L : Lines
  L = sat.said k m

  abbrev new : (r j i : ℕ) → Option (List ℕ)
  new = new_word k lies ts

  abbrev say : (r j : ℕ) → ℕ → Letter → Letter
  say r j i w = or_else w (reword s lies ts r j i)

  sound : Sound g
  sound = sound_group k.f possible.few lies few

  fit : keepers s ≤ 16
  fit = omega (arith, possible.few)

  exact_ts : Exact2 p k.high k.low ts
  exact_ts = exact_plus2 p k.high k.low rs qs (omega arith) exact small

  fits : (rows : List (List ℕ)) → Exact2 p k.high k.low rows → (i : ℕ) → Fit k.high k.low (share_of p rows i)
  fits rows e i = (shares p rows).exact k.high k.low (omega arith) possible.some e (i + 1)

  dealt : List (List ℕ) → ℕ → Message
  dealt rows j = Share k.night k.dealer (share_of p rows j)

  told : sharing.Pair → Message
  told a = Told k.night k.dealer a

  -- who says something else, and when
  told_by_lem : (j i : ℕ) → Bool
  told_by_lem j i = ltb i (3 * k.f + 1) && (not (lies i) && not (eqb i j))

  is_told : (j i : ℕ) → Honest g i → (i ≡ j → ⊥) → told_by_lem j i ≡ true
  unfolding told_by_lem
  is_told j i hi n = rw (lt-ltb i (3 * k.f + 1) hi.0.0, ne_eqb i j n) (by (lies i) hi.1)
    where
      by : (b : Bool) → (T b → ⊥) → (not b && true) ≡ true
      by true h = absurd (h tt)
      by false h = refl

  told_if : (j i : ℕ) → told_by_lem j i ≡ true → Honest g i × (i ≡ j → ⊥)
  unfolding told_by_lem
  told_if j i e = by (ltb i (3 * k.f + 1)) (lies i) (eqb i j) (ltb-true i (3 * k.f + 1)) (λ q. eq-eqb i j q) e
    where
      by : (a b c : Bool) → (a ≡ true → i < 3 * k.f + 1) → (i ≡ j → c ≡ true) → (a && (not b && not c)) ≡ true → (((i < 3 * k.f + 1) × T true) × (T b → ⊥)) × (i ≡ j → ⊥)
      by true false false f h e = (((f refl, tt), λ z. z), λ q. false≢true (h q))
      by true false true f h e = absurd (false≢true e)
      by true true c f h e = absurd (false≢true e)
      by false b c f h e = absurd (false≢true e)

  new_1 : (j : ℕ) → new 1 j k.dealer ≡ Some (wire (dealt ts j))
  unfolding dealt
  new_1 j = rw (eq-eqb k.dealer k.dealer refl)

  new_2 : (j i : ℕ) → Honest g i → (i ≡ j → ⊥) → new 2 j i ≡ Some (wire (told (pair_at p (share_of p ts i) j)))
  unfolding told told_by_lem
  new_2 j i hi n = ap (λ b. cond b (Some (wire (told (pair_at p (share_of p ts i) j)))) None) (is_told j i hi n)

  say_1 : (j : ℕ) → reword s lies ts 1 j k.dealer ≡ Some (rounds.Deal (share_of p ts j))
  say_1 j = rw (eq-eqb k.dealer k.dealer refl)

  say_2 : (j i : ℕ) → Honest g i → (i ≡ j → ⊥) → reword s lies ts 2 j i ≡ Some (rounds.Told (pair_at p (share_of p ts i) j))
  unfolding told_by_lem
  say_2 j i hi n = ap (λ b. cond b (Some (rounds.Told (pair_at p (share_of p ts i) j))) None) (is_told j i hi n)

  abbrev Cases : (r j i : ℕ) → Type 0
  Cases r j i = ((new r j i ≡ None) × (reword s lies ts r j i ≡ None)) ⊎ (((r ≡ 1) × (i ≡ k.dealer)) ⊎ ((r ≡ 2) × (Honest g i × (i ≡ j → ⊥))))

  cases : (r j i : ℕ) → Cases r j i
  unfolding told_by_lem
  cases r j i = go (eqb r 1) (eqb i k.dealer) (eqb r 2) (told_by_lem j i) (eqb-true r 1) (eqb-true i k.dealer) (eqb-true r 2) (told_if j i)
    where
      go : (a b c d : Bool) → (a ≡ true → r ≡ 1) → (b ≡ true → i ≡ k.dealer) → (c ≡ true → r ≡ 2) → (d ≡ true → Honest g i × (i ≡ j → ⊥)) →
          ((cond (a && b) (Some (wire (Share k.night k.dealer (share_of p ts j)))) (cond (c && d) (Some (wire (Told k.night k.dealer (pair_at p (share_of p ts i) j)))) None) ≡ None) ×
          (cond (a && b) (Some (rounds.Deal (share_of p ts j))) (cond (c && d) (Some (rounds.Told (pair_at p (share_of p ts i) j))) None) ≡ None)) ⊎ (((r ≡ 1) × (i ≡ k.dealer)) ⊎ ((r ≡ 2) × (Honest g i × (i ≡ j → ⊥))))
      go true true c d f g h l = inr (inl (f refl, g refl))
      go true false true true f g h l = inr (inr (h refl, l refl))
      go true false true false f g h l = inl (refl, refl)
      go true false false d f g h l = inl (refl, refl)
      go false b true true f g h l = inr (inr (h refl, l refl))
      go false b true false f g h l = inl (refl, refl)
      go false b false d f g h l = inl (refl, refl)

  -- what was said in the play as it was
  gap_of : (i j : ℕ) → Bool
  gap_of i j = eqb j i || not (known (t i) j)

  dealer_mail : (x : Play) (rows : List (List ℕ)) → x.chance ≡ Some rows → (j : ℕ) → mail_to (t k.dealer) (at_call k x 0 k.dealer) j ≡ cond (gap_of k.dealer j) None (Some (dealt rows j))
  unfolding gap_of dealt
  dealer_mail x rows e j = first_mail k x k.dealer j ∙ rw (eq-eqb k.dealer k.dealer refl, e) refl

  only : (b : Bool) (w : List ℕ) (M : Message) → Memᴰ w (map wire (option_to_list (cond b None (Some M)))) → w ≡ wire M
  only true w M q = elim q [ ]
  only false w M q = Memᴰ.eq_of_singleton q

  was_1 : (j : ℕ) (w : List ℕ) → Memᴰ w (words_by k.dealer (mail_of (m.lines 1 j))) → w ≡ wire (dealt rs j)
  was_1 j w q = only (gap_of k.dealer j) w (dealt rs j) (subst (λ l. Memᴰ w l) (plays.mails 0 k.dealer j hd ∙ ap (λ o. map wire (option_to_list o)) (dealer_mail m rs drawn j)) q)

  abbrev was : (i j : ℕ) → sharing.Pair
  was i j = pair_at p (mine s i (hand s L 1 i)) j

  was_2 : (i j : ℕ) → Honest g i → (w : List ℕ) → Memᴰ w (words_by i (mail_of (m.lines 2 j))) → w ≡ wire (told (was i j))
  unfolding told gap_of
  was_2 i j hi w q = only (gap_of i j) w (told (was i j)) (subst (λ l. Memᴰ w l) (plays.mails 1 i j hi ∙ ap (λ o. map wire (option_to_list o)) (second-mail k m i j)) q)

  reads : (j : ℕ) (M : Message) → InRange (3 * k.f + 1) k.high k.low M → read_by (t j) (wire M) ≡ Some M
  reads j M r = parse-wire (3 * k.f + 1) k.high k.low (omega (arith, possible.few)) M r

  dealt_range : (rows : List (List ℕ)) → Exact2 p k.high k.low rows → (j : ℕ) → InRange (3 * k.f + 1) k.high k.low (dealt rows j)
  unfolding dealt
  dealt_range rows e j = (possible.timed, possible.deals, fits rows e j)

  told_range : (x : sharing.Share) (j : ℕ) → InRange (3 * k.f + 1) k.high k.low (told (pair_at p x j))
  unfolding told
  told_range x j = (possible.timed, possible.deals, value_small _ _, value_small _ _)

  -- read before or after it is changed, it is the same
  abbrev Reads : (j r i : ℕ) (w : List ℕ) → Type 0
  Reads j r i w = letter (t j) i (read_by (t j) (resay k lies ts r j i w)) ≡ retouch (say r j) (letter (t j) i (read_by (t j) w))

  reads_1 : (j : ℕ) → Reads j 1 k.dealer (wire (dealt rs j))
  unfolding letter dealt
  reads_1 j =
      ap (λ o. letter (t j) k.dealer (read_by (t j) (or_else (wire (dealt rs j)) o))) (new_1 j) ∙ ap (letter (t j) k.dealer) (reads j (dealt ts j) (dealt_range ts exact_ts j))
      ∙ sym (ap (λ o. retouch (say 1 j) (letter (t j) k.dealer o)) (reads j (dealt rs j) (dealt_range rs exact j)) ∙ one_retouched (say 1 j) b k.dealer (rounds.Deal (share_of p rs j))
      ∙ ap (λ o. cond b (record { by = k.dealer; word = or_else (rounds.Deal (share_of p rs j)) o } ∷ []) []) (say_1 j))
    where
      b : Bool
      b = known (t j) k.dealer && (about (t j) k.night k.dealer && not (eqb k.dealer j))

  reads_2 : (j i : ℕ) → Honest g i → (i ≡ j → ⊥) → Reads j 2 i (wire (told (was i j)))
  unfolding letter told
  reads_2 j i hi n =
      ap (λ o. letter (t j) i (read_by (t j) (or_else (wire (told (was i j))) o))) (new_2 j i hi n) ∙ ap (letter (t j) i) (reads j (told (pair_at p (share_of p ts i) j)) (told_range (share_of p ts i) j))
      ∙ sym (ap (λ o. retouch (say 2 j) (letter (t j) i o)) (reads j (told (was i j)) (told_range (mine s i (hand s L 1 i)) j)) ∙ one_retouched (say 2 j) b i (rounds.Told (was i j))
      ∙ ap (λ o. cond b (record { by = i; word = or_else (rounds.Told (was i j)) o } ∷ []) []) (say_2 j i hi n))
    where
      b : Bool
      b = known (t j) i && (about (t j) k.night k.dealer && not (eqb i j))

  reads_so : (r j i : ℕ) (w : List ℕ) → Memᴰ w (words_by i (mail_of (m.lines r j))) → Reads j r i w
  reads_so r j i w q = ⊎_elim
      (λ e. ap (λ o. letter (t j) i (read_by (t j) (or_else w o))) e.0 ∙ sym (letter_kept (t j) (say r j) i (λ v. ap (or_else v) e.1) (read_by (t j) w)))
      (⊎_elim
      (λ e. subst (λ r'. Memᴰ w (words_by i (mail_of (m.lines r' j))) → Reads j r' i w) (sym e.0) (subst (λ i'. Memᴰ w (words_by i' (mail_of (m.lines 1 j))) → Reads j 1 i' w) (sym e.1)
      (λ q'. subst (Reads j 1 k.dealer) (sym (was_1 j w q')) (reads_1 j))) q)
      (λ e. subst (λ r'. Memᴰ w (words_by i (mail_of (m.lines r' j))) → Reads j r' i w) (sym e.0) (λ q'. subst (Reads j 2 i) (sym (was_2 i j e.1.0 w q')) (reads_2 j i e.1.0 e.1.1)) q))
      (cases r j i)

  heard_so : (r j : ℕ) → letters (t j) (mail_of (other.lines r j)) ≡ retouch (say r j) (letters (t j) (mail_of (m.lines r j)))
  heard_so r j = ap (letters (t j)) (mail-reline (resay k lies ts r j) (m.lines r j)) ∙ read_retouched (t j) (resay k lies ts r j) (say r j) (mail_of (m.lines r j)) (reads_so r j)

  -- THE WORDS are those of the dealing with other numbers
  own_so : (j : ℕ) (b : Bool) (o : Option (List (List ℕ))) → o ≡ Some rs → sat.own_of k other j b (Some ts) ≡ retouch (say 1 j) (sat.own_of k m j b o)
  unfolding sat.own_of retouch
  own_so j false o e = refl
  own_so j true None e = absurd (let z : ◌≡◌ {A = ℕ} 0 1 = cc in omega arith)
  own_so j true (Some q) e = ap (λ w. record { by = k.dealer; word = w } ∷ []) (sym (ap (or_else (rounds.Deal (share_of p q j))) (say_1 j)))

  mail_so : (r j : ℕ) → sat.mails k other r j ≡ retouch (say r j) (sat.mails k m r j)
  unfolding sat.mails retouch
  mail_so zero j = refl
  mail_so (suc zero) j = ap₂ ◌++◌ (own_so j (eqb j k.dealer) m.chance drawn) (heard_so 1 j) ∙ sym (retouch_append (say 1 j) (sat.own_of k m j (eqb j k.dealer) m.chance) (letters (t j) (mail_of (m.lines 1 j))))
  mail_so (suc (suc r)) j = heard_so (suc (suc r)) j

  said_so : sat.said k other ≡ reworded s lies ts L
  unfolding sat.said
  said_so z = record { mail = fun_ext (λ r. fun_ext (λ j. mail_so r j)) z; board = λ r. words (t 0) (m.board r) }

  -- what keeps the rules, and what is seen, of words
  abbrev F : rounds.Follows s lies L (hand s L) (board s L)
  F = sat.follows k m lies possible plays

  abbrev D : rounds.Deals s lies L (board s L) rs
  D = sat.deals k m lies possible plays rs drawn exact hd

  abbrev to : Lines
  to = reworded s lies ts L

  dealt_so : (i : ℕ) → Keeper g i → mine s i (hand s (sat.said k other) 1 i) ≡ share_of p ts i
  dealt_so i hi = ap (λ l. mine s i (hand s l 1 i)) said_so ∙ ap (rounds.checked s i) (sym (share1 s lies to fit i))
      ∙ (reworded.fair_new s lies L fit sound possible.some possible.wide possible.tall F rs D spied inside liars out qs small unseen).deals i hi

  doubts_so : (i j : ℕ) → Honest g i → Keeper g j → (doubts s i (hand s L 2 i) j ≡ doubts s i (hand s (sat.said k other) 2 i) j) ×
      (doubts s i (hand s L 2 i) j ≡ true → pair_at p (mine s i (hand s L 2 i)) j ≡ pair_at p (mine s i (hand s (sat.said k other) 2 i)) j)
  doubts_so i j hi hj =
      let r = reworded.doubts_as s lies L fit sound possible.some possible.wide possible.tall F rs D spied inside liars out qs small unseen i j hi hj in
      let a = hand5 s lies L fit i in let b = hand5 s lies to fit i ∙ ap (λ l. hand s l 2 i) (sym said_so) in (
        ap (λ h. doubts s i h j) (sym a) ∙ r.0 ∙ ap (λ h. doubts s i h j) b,
        λ e. ap (λ h. pair_at p (mine s i h) j) (sym a) ∙ r.1 (ap (λ h. doubts s i h j) a ∙ e) ∙ ap (λ h. pair_at p (mine s i h) j) b,
      )

  -- the board is what it was
  pub seen_so : (r i : ℕ) → sat.seen k other r i ≡ sat.seen k m r i
  unfolding sat.seen
  seen_so zero i = ap (λ l. foldl (posted s 0) rounds.nothing_posted (words (t i) l)) (board-reline (resay k lies ts 0 i) (m.lines 0 i))
  seen_so (suc r) i = ap₂ (λ q l. foldl (posted s (suc r)) q (words (t i) l)) (seen_so r i) (board-reline (resay k lies ts (suc r) i) (m.lines (suc r) i))

  -- WHAT IS SAID keeps the rules. To one keeper:
  mails_0 : (i j : ℕ) → Honest g i → to_each (resay k lies ts 1 j i) (map wire (option_to_list (mail_to (t i) (at_call k m 0 i) j))) ≡ map wire (option_to_list (mail_to (t i) (at_call k other 0 i) j))
  unfolding to_each
  mails_0 i j hi = go (ℕ_discrete i k.dealer)
    where
      both : (b : Bool) → to_each (resay k lies ts 1 j k.dealer) (map wire (option_to_list (cond b None (Some (dealt rs j))))) ≡ map wire (option_to_list (cond b None (Some (dealt ts j))))
      both true = refl
      both false = ap (λ o. or_else (wire (dealt rs j)) o ∷ []) (new_1 j)

      none : (x : Play) → (i ≡ k.dealer → ⊥) → mail_to (t i) (at_call k x 0 i) j ≡ None
      none x n = first_mail k x i j ∙ rw (ne_eqb i k.dealer n) (gone (eqb j i || not (known (t i) j)))
        where
          gone : (b : Bool) → ◌≡◌ {A = Option Message} (cond b None None) None
          gone true = refl
          gone false = refl

      go : Dec (i ≡ k.dealer) → to_each (resay k lies ts 1 j i) (map wire (option_to_list (mail_to (t i) (at_call k m 0 i) j))) ≡ map wire (option_to_list (mail_to (t i) (at_call k other 0 i) j))
      go (yes e) = subst (λ i'. to_each (resay k lies ts 1 j i') (map wire (option_to_list (mail_to (t i') (at_call k m 0 i') j))) ≡ map wire (option_to_list (mail_to (t i') (at_call k other 0 i') j))) (sym e)
          (ap (λ o. to_each (resay k lies ts 1 j k.dealer) (map wire (option_to_list o))) (dealer_mail m rs drawn j) ∙ both (gap_of k.dealer j) ∙ ap (λ o. map wire (option_to_list o)) (sym (dealer_mail other ts refl j)))
      go (no n) = ap (λ o. to_each (resay k lies ts 1 j i) (map wire (option_to_list o))) (none m n) ∙ ap (λ o. map wire (option_to_list o)) (sym (none other n))

  mails_1 : (i j : ℕ) → Honest g i → to_each (resay k lies ts 2 j i) (map wire (option_to_list (mail_to (t i) (at_call k m 1 i) j))) ≡ map wire (option_to_list (mail_to (t i) (at_call k other 1 i) j))
  unfolding to_each told gap_of
  mails_1 i j hi = ap (λ o. to_each (resay k lies ts 2 j i) (map wire (option_to_list o))) (second-mail k m i j) ∙ both (eqb j i) (not (known (t i) j)) (λ e. eq-eqb j i (sym e))
      ∙ ap (λ o. map wire (option_to_list o)) (sym (second-mail k other i j ∙ ap (λ x. cond (gap_of i j) None (Some (told (pair_at p x j)))) (dealt_so i hi.0)))
    where
      both : (a b : Bool) → (i ≡ j → a ≡ true) → to_each (resay k lies ts 2 j i) (map wire (option_to_list (cond (a || b) None (Some (told (was i j)))))) ≡ map wire (option_to_list (cond (a || b) None (Some (told (pair_at p (share_of p ts i) j)))))
      both true b h = refl
      both false true h = refl
      both false false h = ap (λ o. or_else (wire (told (was i j))) o ∷ []) (new_2 j i hi (λ e. false≢true (h e)))

  pub mails_so : (r i j : ℕ) → Honest g i → words_by i (mail_of (other.lines (suc r) j)) ≡ sends k other r i j
  unfolding to_each
  mails_so r i j hi = ap (words_by i) (mail-reline (resay k lies ts (suc r) j) (m.lines (suc r) j)) ∙ words_retouch (resay k lies ts (suc r) j) i (mail_of (m.lines (suc r) j)) ∙ ap (to_each (resay k lies ts (suc r) j i)) (plays.mails r i j hi) ∙ go r
    where
      go : (r : ℕ) → to_each (resay k lies ts (suc r) j i) (map wire (option_to_list (mail_to (t i) (at_call k m r i) j))) ≡ map wire (option_to_list (mail_to (t i) (at_call k other r i) j))
      go zero = mails_0 i j hi
      go (suc zero) = mails_1 i j hi
      go (suc (suc r)) = ap (λ o. to_each (resay k lies ts (suc (suc (suc r))) j i) (map wire (option_to_list o))) (later-mail k m i j (suc (suc r)) (omega arith)) ∙ ap (λ o. map wire (option_to_list o)) (sym (later-mail k other i j (suc (suc r)) (omega arith)))

  -- and on the board the same.
  when_so : (a b : Bool) (x y : Message) → a ≡ b → (a ≡ true → x ≡ y) → when a x ≡ when b y
  when_so true true x y e h = ap Some (h refl)
  when_so true false x y e h = absurd (true≢false e)
  when_so false true x y e h = absurd (false≢true e)
  when_so false false x y e h = refl

  abbrev line : Play → (r i n : ℕ) → Option Message
  line x r i n = line_of (t i) (at_call k x r i) n

  complaint_so : (i n : ℕ) → Honest g i → Keeper g n → line m 2 i n ≡ line other 2 i n
  complaint_so i n hi hn = ap (λ st. line_of (t i) (called (t i) st) n) (sat.after2 k m i)
      ∙ ap (λ o. cond (known (t i) n) o None) (let r = doubts_so i n hi hn in when_so _ _ _ _ r.0 (λ e. ap (Complaint k.night k.dealer i n) (r.1 e)))
      ∙ sym (ap (λ st. line_of (t i) (called (t i) st) n) (sat.after2 k other i))

  answer_so : (i n : ℕ) → Honest g i → Keeper g n → line m 3 i n ≡ line other 3 i n
  unfolding sat.seen
  answer_so i n hi hn = ap (λ st. line_of (t i) (called (t i) st) n) (sat.after3 k m i) ∙ go (ℕ_discrete i k.dealer) ∙ sym (ap (λ st. line_of (t i) (called (t i) st) n) (sat.after3 k other i))
    where
      R : List (List ℕ) → Posts → Option Message
      R rows q = when (any (keepers s) (wrong s (share_of p rows) q n)) (Reveal k.night k.dealer n (share_of p rows n))

      the_same : R rs (board s L 3) ≡ R ts (board s L 3)
      the_same = let r = reworded.reveals_as s lies L fit sound possible.some possible.wide possible.tall F rs D spied inside liars out qs small unseen n hn in when_so _ _ _ _ r.0 (λ e. ap (Reveal k.night k.dealer n) (r.1 e))

      go : Dec (i ≡ k.dealer) → line_of (t i) (called (t i) (sat.stands k m 3 i)) n ≡ line_of (t i) (called (t i) (sat.stands k other 3 i)) n
      go (yes e) = rw (eq-eqb i k.dealer e, drawn) (ap (λ o. cond (known (t i) n) o None) (ap (R rs) (sat.seen_same k m lies possible plays 3 i hi) ∙ the_same ∙ ap (R ts) (sym (seen_so 3 i ∙ sat.seen_same k m lies possible plays 3 i hi))))
      go (no ne) = rw (ne_eqb i k.dealer ne) refl

  judged_so : (i n : ℕ) → Honest g i → line m 4 i n ≡ line other 4 i n
  judged_so i n hi = ap (λ st. line_of (t i) (called (t i) st) n) (sat.after4 k m i)
      ∙ ap (λ b. cond (known (t i) n) (when (eqb n i) (Fine k.night k.dealer i b)) None) the_same
      ∙ sym (ap (λ st. line_of (t i) (called (t i) st) n) (sat.after4 k other i))
    where
      the_same : all_fits s i (mine s i (hand s L 4 i)) (sat.seen k m 4 i) ≡ all_fits s i (mine s i (hand s (sat.said k other) 4 i)) (sat.seen k other 4 i)
      the_same = ap (all_fits s i (mine s i (hand s L 4 i))) (sat.seen_same k m lies possible plays 4 i hi)
          ∙ reworded.content s lies L fit sound possible.some possible.wide possible.tall F rs D spied inside liars out qs small unseen i hi
          ∙ ap₂ (λ l q. all_fits s i (mine s i (hand s l 4 i)) q) (sym said_so) (reworded.board_same s lies L fit sound possible.some possible.wide possible.tall F rs D spied inside liars out qs small unseen 4 ∙ sym (seen_so 4 i ∙ sat.seen_same k m lies possible plays 4 i hi))

  no_line : (i n : ℕ) (st : State) → st.round ≡ 6 → line_of (t i) st n ≡ None
  no_line i n st e = rw e (both (known (t i) n))
    where
      both : (b : Bool) → ◌≡◌ {A = Option Message} (cond b None None) None
      both true = refl
      both false = refl

  line_so : (r i n : ℕ) → Honest g i → Keeper g n → line m r i n ≡ line other r i n
  line_so zero i n hi hn = ap (λ st. line_of (t i) (called (t i) st) n) (sat.after0 k m i) ∙ sym (ap (λ st. line_of (t i) (called (t i) st) n) (sat.after0 k other i))
  line_so (suc zero) i n hi hn = ap (λ st. line_of (t i) (called (t i) st) n) (sat.after1 k m i) ∙ sym (ap (λ st. line_of (t i) (called (t i) st) n) (sat.after1 k other i))
  line_so (suc (suc zero)) i n hi hn = complaint_so i n hi hn
  line_so (suc (suc (suc zero))) i n hi hn = answer_so i n hi hn
  line_so (suc (suc (suc (suc zero)))) i n hi hn = judged_so i n hi
  line_so (suc (suc (suc (suc (suc r))))) i n hi hn = let e : r + 5 ≡ suc (suc (suc (suc (suc r)))) = omega arith in
      subst (λ a. line m a i n ≡ line other a i n) e (no_line i n (at_call k m (r + 5) i) (sat.late_call k m r i) ∙ sym (no_line i n (at_call k other (r + 5) i) (sat.late_call k other r i)))

  collected_so : (n : ℕ) (a b : ℕ → Option Message) → ((e : ℕ) → e < n → a e ≡ b e) → collected n a ≡ collected n b
  unfolding collected
  collected_so zero a b h = refl
  collected_so (suc n) a b h = ap₂ ◌++◌ (collected_so n a b (λ e l. h e (omega arith))) (ap option_to_list (h n (omega arith)))

  pub posts_so : (r i : ℕ) → Honest g i → posts k m r i ≡ posts k other r i
  posts_so r i hi = ap (map wire) (collected_so (3 * k.f + 1) (line m r i) (line other r i) (λ n h. line_so r i n hi (h, tt)))

  -- THE SPIED
  known_if : (i j : ℕ) → gap_of i j ≡ false → j < 3 * k.f + 1
  unfolding gap_of
  known_if i j e = by (eqb j i) (ltb j (3 * k.f + 1)) (ltb-true j (3 * k.f + 1)) e
    where
      by : (a b : Bool) → (b ≡ true → j < 3 * k.f + 1) → (a || not b) ≡ false → j < 3 * k.f + 1
      by true b h e = absurd (true≢false e)
      by false true h e = h refl
      by false false h e = absurd (true≢false e)

  -- what one says that is spied out, or to one that is, is the same
  pub words_so : (r i j : ℕ) → Memᴰ i spied ⊎ Memᴰ j spied → to_each (resay k lies ts r j i) (words_by i (mail_of (m.lines r j))) ≡ words_by i (mail_of (m.lines r j))
  unfolding to_each dealt gap_of told
  words_so r i j q = ⊎_elim
      (λ e. to_each_same (resay k lies ts r j i) (λ w. ap (or_else w) e.0) (words_by i (mail_of (m.lines r j))))
      (⊎_elim
      (λ e. subst (λ r'. to_each (resay k lies ts r' j i) (words_by i (mail_of (m.lines r' j))) ≡ words_by i (mail_of (m.lines r' j))) (sym e.0) (subst (λ i'. to_each (resay k lies ts 1 j i') (words_by i' (mail_of (m.lines 1 j))) ≡ words_by i' (mail_of (m.lines 1 j))) (sym e.1)
      (ap (to_each (resay k lies ts 1 j k.dealer)) first ∙ deals (gap_of k.dealer j) (⊎_elim (λ z. absurd (out (subst (λ w. Memᴰ w spied) e.1 z))) (λ z. z) q) ∙ sym first)))
      (λ e. let hi = e.1.0 in subst (λ r'. to_each (resay k lies ts r' j i) (words_by i (mail_of (m.lines r' j))) ≡ words_by i (mail_of (m.lines r' j))) (sym e.0)
      (ap (to_each (resay k lies ts 2 j i)) (second hi) ∙ tells hi e.1.1 (gap_of i j) (known_if i j) ∙ sym (second hi))))
      (cases r j i)
    where
      first : words_by k.dealer (mail_of (m.lines 1 j)) ≡ map wire (option_to_list (cond (gap_of k.dealer j) None (Some (dealt rs j))))
      first = plays.mails 0 k.dealer j hd ∙ ap (λ o. map wire (option_to_list o)) (dealer_mail m rs drawn j)

      deals : (b : Bool) → Memᴰ j spied → to_each (resay k lies ts 1 j k.dealer) (map wire (option_to_list (cond b None (Some (dealt rs j))))) ≡ map wire (option_to_list (cond b None (Some (dealt rs j))))
      deals true z = refl
      deals false z = ap (λ o. or_else (wire (dealt rs j)) o ∷ []) (new_1 j) ∙ ap (λ x. wire (Share k.night k.dealer x) ∷ []) (reworded.same_share s lies L fit sound possible.some possible.wide possible.tall F rs D spied inside liars out qs small unseen j (inside j z) z)

      second : Honest g i → words_by i (mail_of (m.lines 2 j)) ≡ map wire (option_to_list (cond (gap_of i j) None (Some (told (was i j)))))
      second hi = plays.mails 1 i j hi ∙ ap (λ o. map wire (option_to_list o)) (second-mail k m i j)

      tells : Honest g i → (i ≡ j → ⊥) → (b : Bool) → (b ≡ false → j < 3 * k.f + 1) → to_each (resay k lies ts 2 j i) (map wire (option_to_list (cond b None (Some (told (was i j)))))) ≡ map wire (option_to_list (cond b None (Some (told (was i j)))))
      tells hi n true h = refl
      tells hi n false h = ap (λ o. or_else (wire (told (was i j))) o ∷ []) (new_2 j i hi n) ∙ ap (λ x. wire (told x) ∷ []) (reworded.same_pair s lies L fit sound possible.some possible.wide possible.tall F rs D spied inside liars out qs small unseen i j (h refl, tt) q hi n ∙ ap (λ o. pair_at p (rounds.checked s i o) j) (share1 s lies L fit i))

  pub plays_so : Plays k lies other
  plays_so = record {
    sees = λ r i h. board-reline (resay k lies ts r i) (m.lines r i) ∙ plays.sees r i h;
    mails = mails_so;
    lines = λ r i h. plays.lines r i h ∙ posts_so r i h;
    silent = λ i j h. (ap (words_by i) (mail-reline (resay k lies ts 0 j) (m.lines 0 j)) ∙ words_retouch (resay k lies ts 0 j) i (mail_of (m.lines 0 j)) ∙ ap (to_each (resay k lies ts 0 j i)) (plays.silent i j h).0 ∙ to_each_none (resay k lies ts 0 j i), (plays.silent i j h).1);
  }

  pub lines_so : (r j : ℕ) → Memᴰ j spied → other.lines r j ≡ m.lines r j
  lines_so r j q = reline_same (resay k lies ts r j) (m.lines r j) (retouch_same (resay k lies ts r j) (mail_of (m.lines r j)) (λ i. words_so r i j (inr q)))

  pub said_kept : (r i j : ℕ) → Memᴰ i spied → words_by i (mail_of (other.lines r j)) ≡ words_by i (mail_of (m.lines r j))
  said_kept r i j q = ap (words_by i) (mail-reline (resay k lies ts r j) (m.lines r j)) ∙ words_retouch (resay k lies ts r j) i (mail_of (m.lines r j)) ∙ words_so r i j (inl q)

pub hides_bytes_lem : HidesBytes
hides_bytes_lem k possible lies few m plays rs drawn exact hd spied inside liars out qs small unseen = (
  other k possible lies few m plays rs drawn exact hd spied inside liars out qs small unseen,
  plays_so k possible lies few m plays rs drawn exact hd spied inside liars out qs small unseen,
  refl,
  refl,
  lines_so k possible lies few m plays rs drawn exact hd spied inside liars out qs small unseen,
  said_kept k possible lies few m plays rs drawn exact hd spied inside liars out qs small unseen,
)
