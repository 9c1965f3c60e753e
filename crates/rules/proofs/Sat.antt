-- A dealing that is played with bytes is one of words: what is read off the seats keeps the rules.
use Rattle.std.proofs.Common.{◌≡◌, ℕ, zero, suc, ◌+◌, ◌*◌, ◌<◌, ◌≤◌, Bool, true, false, cond, eqb, List, [], ◌∷◌, ◌++◌, map, Some, None, Option, sym, refl, ap, ◌∙◌, subst, ap₂, append_assoc, append-nil, mod-lt, arith, lt-ltb, eq-eqb, ne_eqb}
use mathlib.Core.Path.{fun_ext}
use mathlib.Core.List.{foldl, map-append}
use native.Mathlib.Decide.{ℕ_discrete}
use Rattle.std.specs.Option.{option_map, option_to_list}
use Rattle.algebra.specs.Prime.{p}
use Rattle.algebra.specs.Polynomial.{value, Exact2}
use Rattle.algebra.specs.Sharing.{Pair, pair_at, share_of}
use Rattle.algebra.proofs.Evaluation.{eval, value_is}
use Rattle.algebra.proofs.Stated.{shares}
use Rattle.rules.specs.Deal.{Keeper, Honest, Kept, Strict, Fair, own, or_else}
use Rattle.rules.specs.Rounds as rounds
use Rattle.rules.specs.Rounds.{Setting, keepers, group, Said, Letter, Post, Hand, Posts, Lines, nothing_heard, nothing_posted, heard, posted, hand, board, free, mine, doubts, any, wrong, gather, complaints_of, answers_of, all_fits, tells_to, words_by, Follows, Deals, read_off, revealed}
use Rattle.rules.specs.Message.{Message, Share, Told, Complaint, Reveal, Fine, Finished, Value}
use Rattle.rules.specs.Wire.{wire, when, Fit, InRange}
use Rattle.rules.specs.Seat.{Terms, State, read_by, called, mail_to, line_of, accepted}
use Rattle.rules.specs.Play.{Sitting, setting_of, terms_of, Possible, Play, Plays, after, at_call, collected, taken, mail_of, board_of, overall}
use Rattle.rules.specs.Promise.{PlaysKeep}
use Rattle.rules.proofs.Keeping.{keeps_rules_lem, deals_fairly_lem}
use Rattle.rules.proofs.Playing.{words_append}
use Rattle.rules.proofs.Reading.{parse-wire}
use Rattle.rules.proofs.Steps.{letter, word, letters, words, after_lines, foldl_append, still, still-posts}

-- WORDS BY ONE KEEPER
letter_by : Terms → ℕ → List (List ℕ) → List Letter
letter_by t i [] = []
letter_by t i (bs ∷ bss) = words_by i (letter t i (read_by t bs)) ++ letter_by t i bss

word_by : Terms → ℕ → List (List ℕ) → List Post
word_by t i [] = []
word_by t i (bs ∷ bss) = words_by i (word t i (read_by t bs)) ++ word_by t i bss

nothing_else : {W : Type 0} (i j : ℕ) (b : Bool) (w : W) → (j ≡ i → ⊥) → words_by i (cond b (record { by = j; word = w } ∷ []) []) ≡ []
unfolding words_by
nothing_else i j true w n = rw (ne_eqb j i n)
nothing_else i j false w n = refl

letter_else : (t : Terms) (i j : ℕ) (o : Option Message) → (j ≡ i → ⊥) → words_by i (letter t j o) ≡ []
unfolding letter words_by
letter_else t i j None n = refl
letter_else t i j (Some (Share night dealer x)) n = nothing_else i j _ _ n
letter_else t i j (Some (Told night dealer a)) n = nothing_else i j _ _ n
letter_else t i j (Some (Complaint night dealer by about a)) n = refl
letter_else t i j (Some (Reveal night dealer keeper x)) n = refl
letter_else t i j (Some (Fine night dealer keeper b)) n = refl
letter_else t i j (Some (Finished night dealer keeper)) n = refl
letter_else t i j (Some (Value night dealer keeper v)) n = refl

word_else : (t : Terms) (i j : ℕ) (o : Option Message) → (j ≡ i → ⊥) → words_by i (word t j o) ≡ []
unfolding word words_by
word_else t i j None n = refl
word_else t i j (Some (Share night dealer x)) n = refl
word_else t i j (Some (Told night dealer a)) n = refl
word_else t i j (Some (Complaint night dealer by about a)) n = nothing_else i j _ _ n
word_else t i j (Some (Reveal night dealer keeper x)) n = nothing_else i j _ _ n
word_else t i j (Some (Fine night dealer keeper b)) n = nothing_else i j _ _ n
word_else t i j (Some (Finished night dealer keeper)) n = refl
word_else t i j (Some (Value night dealer keeper v)) n = refl

letters_by : (t : Terms) (i : ℕ) (ms : List (Said (List ℕ))) → words_by i (letters t ms) ≡ letter_by t i (words_by i ms)
unfolding letters letter_by words_by
letters_by t i [] = refl
letters_by t i (m ∷ ms) = words_append i (letter t m.by (read_by t m.word)) (letters t ms) ∙ go (ℕ_discrete m.by i) (letters_by t i ms)
  where
    go : Dec (m.by ≡ i) → words_by i (letters t ms) ≡ letter_by t i (words_by i ms) → words_by i (letter t m.by (read_by t m.word)) ++ words_by i (letters t ms) ≡ letter_by t i (cond (eqb m.by i) (m.word ∷ words_by i ms) (words_by i ms))
    go (yes e) r = rw (eq-eqb m.by i e) (ap₂ ◌++◌ (ap (λ j. words_by i (letter t j (read_by t m.word))) e) r)
    go (no n) r = rw (ne_eqb m.by i n) (ap₂ ◌++◌ (letter_else t i m.by (read_by t m.word) n) r)

words_by_lem : (t : Terms) (i : ℕ) (ms : List (Said (List ℕ))) → words_by i (words t ms) ≡ word_by t i (words_by i ms)
unfolding words word_by words_by
words_by_lem t i [] = refl
words_by_lem t i (m ∷ ms) = words_append i (word t m.by (read_by t m.word)) (words t ms) ∙ go (ℕ_discrete m.by i) (words_by_lem t i ms)
  where
    go : Dec (m.by ≡ i) → words_by i (words t ms) ≡ word_by t i (words_by i ms) → words_by i (word t m.by (read_by t m.word)) ++ words_by i (words t ms) ≡ word_by t i (cond (eqb m.by i) (m.word ∷ words_by i ms) (words_by i ms))
    go (yes e) r = rw (eq-eqb m.by i e) (ap₂ ◌++◌ (ap (λ j. words_by i (word t j (read_by t m.word))) e) r)
    go (no n) r = rw (ne_eqb m.by i n) (ap₂ ◌++◌ (word_else t i m.by (read_by t m.word) n) r)

-- what a seat says line by line
word_by_append : (t : Terms) (i : ℕ) (l k : List (List ℕ)) → word_by t i (l ++ k) ≡ word_by t i l ++ word_by t i k
unfolding word_by
word_by_append t i [] k = refl
word_by_append t i (bs ∷ l) k = ap (λ ws. words_by i (word t i (read_by t bs)) ++ ws) (word_by_append t i l k) ∙ sym (append_assoc (words_by i (word t i (read_by t bs))) (word_by t i l) (word_by t i k))

gathered_lines : (t : Terms) (i n : ℕ) (line : ℕ → Option Message) (test : ℕ → Bool) (M : ℕ → Message) (w : ℕ → Post) →
    ((k : ℕ) → k < n → line k ≡ when (test k) (M k)) → ((k : ℕ) → k < n → word_by t i (wire (M k) ∷ []) ≡ w k ∷ []) →
    word_by t i (map wire (collected n line)) ≡ gather n test w
unfolding collected gather word_by
gathered_lines t i zero line test M w is reads = refl
gathered_lines t i (suc n) line test M w is reads =
    ap (word_by t i) (map-append wire (collected n line) (option_to_list (line n)))
    ∙ word_by_append t i (map wire (collected n line)) (map wire (option_to_list (line n)))
    ∙ ap₂ ◌++◌ (gathered_lines t i n line test M w (λ k h. is k (omega arith)) (λ k h. reads k (omega arith))) (ap (λ o. word_by t i (map wire (option_to_list o))) (is n (omega arith)) ∙ last (test n))
  where
    last : (b : Bool) → word_by t i (map wire (option_to_list (when b (M n)))) ≡ cond b (w n ∷ []) []
    last true = reads n (omega arith)
    last false = refl

gather_none : {A : Type 0} (n i : ℕ) (w : ℕ → A) → n ≤ i → gather n (λ k. eqb k i) w ≡ []
unfolding gather
gather_none zero i w h = refl
gather_none (suc n) i w h = ap₂ ◌++◌ (gather_none n i w (omega arith)) (ap (λ b. cond b (w n ∷ []) []) (ne_eqb n i (λ e. omega arith)))

gather_one : {A : Type 0} (n i : ℕ) (w : ℕ → A) → i < n → gather n (λ k. eqb k i) w ≡ w i ∷ []
unfolding gather
gather_one zero i w h = absurd (omega arith)
gather_one (suc n) i w h = go (ℕ_discrete n i) (gather_one n i w)
  where
    go : Dec (n ≡ i) → (i < n → gather n (λ k. eqb k i) w ≡ w i ∷ []) → gather n (λ k. eqb k i) w ++ cond (eqb n i) (w n ∷ []) [] ≡ w i ∷ []
    go (yes e) r = ap₂ ◌++◌ (gather_none n i w (omega arith)) (ap (λ b. cond b (w n ∷ []) []) (eq-eqb n i e)) ∙ ap (λ k. w k ∷ []) e
    go (no ne) r = ap₂ ◌++◌ (r (omega arith)) (ap (λ b. cond b (w n ∷ []) []) (ne_eqb n i ne)) ∙ append-nil (w i ∷ [])

pub value_small : (cs : List ℕ) (x : ℕ) → value p cs x < p
value_small cs x = rw (value_is p cs x) (mod-lt (eval cs x) (omega arith))

-- THE STATES
module _ (k : Sitting) (m : Play) where
  abbrev pub s : Setting
  s = setting_of k

  abbrev pub t : ℕ → Terms
  t i = terms_of k i

  abbrev pub chance : ℕ → Option (List (List ℕ))
  chance i = cond (eqb i k.dealer) m.chance None

  -- what a dealer gives itself counts as its first letter
  unfoldable pub own_of : ℕ → Bool → Option (List (List ℕ)) → List (Said Letter)
  own_of i false o = []
  own_of i true None = []
  own_of i true (Some rs) = record { by = k.dealer; word = rounds.Deal (share_of p rs i) } ∷ []

  unfoldable pub mails : ℕ → ℕ → List (Said Letter)
  mails zero j = []
  mails (suc zero) j = own_of j (eqb j k.dealer) m.chance ++ letters (t j) (mail_of (m.lines 1 j))
  mails (suc (suc r)) j = letters (t j) (mail_of (m.lines (suc (suc r)) j))

  unfoldable pub said : Lines
  said = record { mail = mails; board = λ r. words (t 0) (m.board r) }

  -- what keeper i makes of the board that it sees
  unfoldable pub seen : ℕ → ℕ → Posts
  seen zero i = foldl (posted s 0) nothing_posted (words (t i) (board_of (m.lines 0 i)))
  seen (suc r) i = foldl (posted s (suc r)) (seen r i) (words (t i) (board_of (m.lines (suc r) i)))

  abbrev pub stands : ℕ → ℕ → State
  stands r i = record { round = r; chance = chance i; hand = hand s said r i; posts = seen r i; kept = None }

  own_first : (i : ℕ) (b : Bool) (o : Option (List (List ℕ))) → foldl (heard s 1) nothing_heard (own_of i b o) ≡ record { share = cond b (option_map (λ rs. share_of p rs i) (cond b o None)) None; told = nothing_heard.told }
  unfolding own_of
  own_first i false o = refl
  own_first i true None = refl
  own_first i true (Some rs) = rw (eq-eqb k.dealer k.dealer refl)

  pub after0 : (i : ℕ) → after k m 0 i ≡ stands 0 i
  unfolding after seen hand
  after0 i = after_lines (t i) _ (m.lines 0 i) ∙ ap (λ (h : Hand). record { round = 0; chance = chance i; hand = h; posts = seen 0 i; kept = None }) (still s nothing_heard (letters (t i) (mail_of (m.lines 0 i))))

  pub after1 : (i : ℕ) → after k m 1 i ≡ stands 1 i
  unfolding after seen hand said mails
  after1 i =
      ap (λ st. foldl (taken (t i)) (called (t i) st) (m.lines 1 i)) (after0 i) ∙ after_lines (t i) (called (t i) (stands 0 i)) (m.lines 1 i) ∙
      ap (λ (h : Hand). record { round = 1; chance = chance i; hand = h; posts = seen 1 i; kept = None })
      (ap (λ h. foldl (heard s 1) h (letters (t i) (mail_of (m.lines 1 i)))) (sym (own_first i (eqb i k.dealer) m.chance)) ∙ sym (foldl_append (heard s 1) nothing_heard (own_of i (eqb i k.dealer) m.chance) (letters (t i) (mail_of (m.lines 1 i)))))

  pub after2 : (i : ℕ) → after k m 2 i ≡ stands 2 i
  unfolding after seen hand said mails
  after2 i = ap (λ st. foldl (taken (t i)) (called (t i) st) (m.lines 2 i)) (after1 i) ∙ after_lines (t i) (called (t i) (stands 1 i)) (m.lines 2 i)

  pub after3 : (i : ℕ) → after k m 3 i ≡ stands 3 i
  unfolding after seen hand said mails
  after3 i = ap (λ st. foldl (taken (t i)) (called (t i) st) (m.lines 3 i)) (after2 i) ∙ after_lines (t i) (called (t i) (stands 2 i)) (m.lines 3 i)

  pub after4 : (i : ℕ) → after k m 4 i ≡ stands 4 i
  unfolding after seen hand said mails
  after4 i = ap (λ st. foldl (taken (t i)) (called (t i) st) (m.lines 4 i)) (after3 i) ∙ after_lines (t i) (called (t i) (stands 3 i)) (m.lines 4 i)

  pub after5 : (i : ℕ) → after k m 5 i ≡ stands 5 i
  unfolding after seen hand said mails
  after5 i = ap (λ st. foldl (taken (t i)) (called (t i) st) (m.lines 5 i)) (after4 i) ∙ after_lines (t i) (called (t i) (stands 4 i)) (m.lines 5 i)

  -- no line changes the round; after the sixth call it stays
  late_round : (x : Terms) (st : State) (n : ℕ) → st.round ≡ n → 5 ≤ n → n ≤ 6 → (called x st).round ≡ 6
  late_round x st n e a b = go n e a b
    where
      go : (n : ℕ) → st.round ≡ n → 5 ≤ n → n ≤ 6 → (called x st).round ≡ 6
      go n e a b = elim (ℕ_discrete n 5) [ yes q ↦ rw (e ∙ q) refl | no q ↦ let z : n ≡ 6 = omega arith in rw (e ∙ z) refl ]

  pub late_call : (r i : ℕ) → (at_call k m (r + 5) i).round ≡ 6
  unfolding after
  late_call zero i = late_round (t i) (after k m 5 i) 5 (ap (λ (st : State). st.round) (after5 i)) (omega arith) (omega arith)
  late_call (suc r) i = let e : suc r + 5 ≡ suc (r + 5) = omega arith in ap (λ n. (at_call k m n i).round) e ∙
      late_round (t i) (after k m (suc (r + 5)) i) 6 (ap (λ (st : State). st.round) (after_lines (t i) (at_call k m (r + 5) i) (m.lines (suc (r + 5)) i)) ∙ late_call r i) (omega arith) (omega arith)

  -- everybody makes the same of the board
  same_word : (i j who : ℕ) (o : Option Message) → word (t i) who o ≡ word (t j) who o
  unfolding word
  same_word i j who None = refl
  same_word i j who (Some (Share night dealer x)) = refl
  same_word i j who (Some (Told night dealer a)) = refl
  same_word i j who (Some (Complaint night dealer by about a)) = refl
  same_word i j who (Some (Reveal night dealer keeper x)) = refl
  same_word i j who (Some (Fine night dealer keeper b)) = refl
  same_word i j who (Some (Finished night dealer keeper)) = refl
  same_word i j who (Some (Value night dealer keeper v)) = refl

  same_words : (i j : ℕ) (ms : List (Said (List ℕ))) → words (t i) ms ≡ words (t j) ms
  unfolding words
  same_words i j [] = refl
  same_words i j (w ∷ ms) = ap₂ ◌++◌ (same_word i j w.by (read_by (t i) w.word)) (same_words i j ms)

  module _ (lies : ℕ → Bool) (possible : Possible k) (plays : Plays k lies m) where
    pub seen_same : (r i : ℕ) → Honest (group s lies) i → seen r i ≡ board s said r
    unfolding seen board said
    seen_same zero i h = still-posts s nothing_posted (words (t i) (board_of (m.lines 0 i)))
    seen_same (suc r) i h = ap₂ (foldl (posted s (suc r))) (seen_same r i h) (ap (words (t i)) (plays.sees (suc r) i h) ∙ same_words i 0 (m.board (suc r)))

    small_n : 3 * k.f + 1 < 256
    small_n = omega (arith, possible.few)

    -- an honest keeper's message is read as what it is
    pub reads : (i : ℕ) (M : Message) → InRange (3 * k.f + 1) k.high k.low M → read_by (t i) (wire M) ≡ Some M
    reads i M r = parse-wire (3 * k.f + 1) k.high k.low small_n M r

    tells : (i j : ℕ) → Honest (group s lies) i → Keeper (group s lies) j → (i ≡ j → ⊥) → words_by i (mails 2 j) ≡ tells_to s i (hand s said 1 i) j ∷ []
    unfolding mails letter_by letter words_by
    tells i j hi hj ne =
        letters_by (t j) i (mail_of (m.lines 2 j)) ∙ ap (letter_by (t j) i) (plays.mails 1 i j hi ∙ ap (λ st. map wire (option_to_list (mail_to (t i) (called (t i) st) j))) (after1 i) ∙ ap (λ o. map wire (option_to_list o)) sent)
        ∙ append-nil _ ∙ ap (λ o. words_by i (letter (t j) i o)) (reads j M in_range) ∙ heard_so
      where
        a : Pair
        a = pair_at p (mine s i (hand s said 1 i)) j

        M : Message
        M = Told k.night k.dealer a

        sent : mail_to (t i) (called (t i) (stands 1 i)) j ≡ Some M
        sent = rw (ne_eqb j i (λ e. ne (sym e)), lt-ltb j (3 * k.f + 1) hj.0)

        in_range : InRange (3 * k.f + 1) k.high k.low M
        in_range = (possible.timed, possible.deals, value_small _ _, value_small _ _)

        heard_so : words_by i (letter (t j) i (Some M)) ≡ rounds.Told a ∷ []
        heard_so = rw (lt-ltb i (3 * k.f + 1) hi.0.0, eq-eqb k.night k.night refl, eq-eqb k.dealer k.dealer refl, ne_eqb i j ne) (rw (eq-eqb i i refl))

    -- the lines of an honest keeper, read as words
    complains : (i : ℕ) → Honest (group s lies) i → words_by i (words (t 0) (m.board 3)) ≡ complaints_of s i (hand s said 2 i)
    unfolding word_by word words_by
    complains i hi =
        words_by_lem (t 0) i (m.board 3) ∙ ap (word_by (t 0) i) (plays.lines 2 i hi ∙ ap (λ st. map wire (collected (3 * k.f + 1) (line_of (t i) (called (t i) st)))) (after2 i))
        ∙ gathered_lines (t 0) i (3 * k.f + 1) (line_of (t i) (called (t i) (stands 2 i))) (doubts s i (hand s said 2 i)) M (λ j. rounds.Complaint j (a j)) is read
      where
        a : ℕ → Pair
        a j = pair_at p (mine s i (hand s said 2 i)) j

        M : ℕ → Message
        M j = Complaint k.night k.dealer i j (a j)

        is : (j : ℕ) → j < 3 * k.f + 1 → line_of (t i) (called (t i) (stands 2 i)) j ≡ when (doubts s i (hand s said 2 i) j) (M j)
        is j h = ap (λ b. cond b (when (doubts s i (hand s said 2 i) j) (M j)) None) (lt-ltb j (3 * k.f + 1) h)

        read : (j : ℕ) → j < 3 * k.f + 1 → word_by (t 0) i (wire (M j) ∷ []) ≡ rounds.Complaint j (a j) ∷ []
        read j h = append-nil _ ∙ ap (λ o. words_by i (word (t 0) i o)) (reads 0 (M j) (possible.timed, possible.deals, hi.0.0, h, value_small _ _, value_small _ _))
            ∙ rw (lt-ltb i (3 * k.f + 1) hi.0.0, lt-ltb j (3 * k.f + 1) h, eq-eqb k.night k.night refl, eq-eqb k.dealer k.dealer refl) (rw (eq-eqb i i refl) (rw (eq-eqb i i refl)))

    judges : (i : ℕ) → Honest (group s lies) i → words_by i (words (t 0) (m.board 5)) ≡ rounds.Fine (all_fits s i (mine s i (hand s said 4 i)) (board s said 4)) ∷ []
    unfolding word_by word words_by
    judges i hi =
        words_by_lem (t 0) i (m.board 5) ∙ ap (word_by (t 0) i) (plays.lines 4 i hi ∙ ap (λ st. map wire (collected (3 * k.f + 1) (line_of (t i) (called (t i) st)))) (after4 i))
        ∙ gathered_lines (t 0) i (3 * k.f + 1) (line_of (t i) (called (t i) (stands 4 i))) (λ j. eqb j i) (λ j. M) (λ j. rounds.Fine b) is read
        ∙ gather_one (3 * k.f + 1) i (λ j. rounds.Fine b) hi.0.0
        ∙ ap (λ q. rounds.Fine (all_fits s i (mine s i (hand s said 4 i)) q) ∷ []) (seen_same 4 i hi)
      where
        b : Bool
        b = all_fits s i (mine s i (hand s said 4 i)) (seen 4 i)

        M : Message
        M = Fine k.night k.dealer i b

        is : (j : ℕ) → j < 3 * k.f + 1 → line_of (t i) (called (t i) (stands 4 i)) j ≡ when (eqb j i) M
        is j h = ap (λ c. cond c (when (eqb j i) M) None) (lt-ltb j (3 * k.f + 1) h)

        read : (j : ℕ) → j < 3 * k.f + 1 → word_by (t 0) i (wire M ∷ []) ≡ rounds.Fine b ∷ []
        read j h = append-nil _ ∙ ap (λ o. words_by i (word (t 0) i o)) (reads 0 M (possible.timed, possible.deals, hi.0.0))
            ∙ rw (lt-ltb i (3 * k.f + 1) hi.0.0, eq-eqb k.night k.night refl, eq-eqb k.dealer k.dealer refl) (rw (eq-eqb i i refl) (rw (eq-eqb i i refl)))

    pub follows : Follows s lies said (hand s said) (board s said)
    unfolding said
    follows = record { tells = tells; complains = complains; judges = judges }

    -- AN HONEST DEALER
    module _ (rs : List (List ℕ)) (drawn : m.chance ≡ Some rs) (exact : Exact2 p k.high k.low rs) (hd : Honest (group s lies) k.dealer) where
      pub share-fits : (i : ℕ) → Fit k.high k.low (share_of p rs i)
      share-fits i = (shares p rs).exact k.high k.low (omega arith) possible.some exact (i + 1)

      gives : (j : ℕ) → Keeper (group s lies) j → words_by k.dealer (mails 1 j) ≡ rounds.Deal (share_of p rs j) ∷ []
      unfolding mails letter_by letter words_by own_of
      gives j hj = words_append k.dealer (own_of j (eqb j k.dealer) m.chance) (letters (t j) (mail_of (m.lines 1 j)))
          ∙ ap (λ ws. words_by k.dealer (own_of j (eqb j k.dealer) m.chance) ++ ws) (letters_by (t j) k.dealer (mail_of (m.lines 1 j)) ∙ ap (letter_by (t j) k.dealer) (plays.mails 0 k.dealer j hd ∙ ap (λ st. map wire (option_to_list (mail_to (t k.dealer) (called (t k.dealer) st) j))) (after0 k.dealer)))
          ∙ go (ℕ_discrete j k.dealer)
        where
          M : Message
          M = Share k.night k.dealer (share_of p rs j)

          go : Dec (j ≡ k.dealer) → words_by k.dealer (own_of j (eqb j k.dealer) m.chance) ++ letter_by (t j) k.dealer (map wire (option_to_list (mail_to (t k.dealer) (called (t k.dealer) (stands 0 k.dealer)) j))) ≡ rounds.Deal (share_of p rs j) ∷ []
          go (yes e) = rw (eq-eqb j k.dealer e, drawn) (rw (eq-eqb k.dealer k.dealer refl))
          go (no ne) = rw (ne_eqb j k.dealer ne, lt-ltb j (3 * k.f + 1) hj.0, eq-eqb k.dealer k.dealer refl, drawn)
              (append-nil _ ∙ ap (λ o. words_by k.dealer (letter (t j) k.dealer o)) (reads j M (possible.timed, possible.deals, share-fits j))
              ∙ rw (lt-ltb k.dealer (3 * k.f + 1) hd.0.0, eq-eqb k.night k.night refl, eq-eqb k.dealer k.dealer refl, ne_eqb k.dealer j (λ e. ne (sym e))) (rw (eq-eqb k.dealer k.dealer refl)))

      answers : words_by k.dealer (words (t 0) (m.board 4)) ≡ answers_of s (share_of p rs) (board s said 3)
      unfolding word_by word words_by
      answers =
          words_by_lem (t 0) k.dealer (m.board 4) ∙ ap (word_by (t 0) k.dealer) (plays.lines 3 k.dealer hd ∙ ap (λ st. map wire (collected (3 * k.f + 1) (line_of (t k.dealer) (called (t k.dealer) st)))) (after3 k.dealer))
          ∙ gathered_lines (t 0) k.dealer (3 * k.f + 1) (line_of (t k.dealer) (called (t k.dealer) (stands 3 k.dealer))) (λ j. any (keepers s) (wrong s (share_of p rs) (seen 3 k.dealer) j)) M (λ j. rounds.Reveal j (share_of p rs j)) is read
          ∙ ap (answers_of s (share_of p rs)) (seen_same 3 k.dealer hd)
        where
          M : ℕ → Message
          M j = Reveal k.night k.dealer j (share_of p rs j)

          is : (j : ℕ) → j < 3 * k.f + 1 → line_of (t k.dealer) (called (t k.dealer) (stands 3 k.dealer)) j ≡ when (any (keepers s) (wrong s (share_of p rs) (seen 3 k.dealer) j)) (M j)
          is j h = rw (lt-ltb j (3 * k.f + 1) h, eq-eqb k.dealer k.dealer refl, drawn)

          read : (j : ℕ) → j < 3 * k.f + 1 → word_by (t 0) k.dealer (wire (M j) ∷ []) ≡ rounds.Reveal j (share_of p rs j) ∷ []
          read j h = append-nil _ ∙ ap (λ o. words_by k.dealer (word (t 0) k.dealer o)) (reads 0 (M j) (possible.timed, possible.deals, h, share-fits j))
              ∙ rw (lt-ltb k.dealer (3 * k.f + 1) hd.0.0, lt-ltb j (3 * k.f + 1) h, eq-eqb k.night k.night refl, eq-eqb k.dealer k.dealer refl) (rw (eq-eqb k.dealer k.dealer refl))

      pub deals : Deals s lies said (board s said) rs
      unfolding said
      deals = record { chance = exact; gives = gives; answers = answers }

    -- WHAT IS READ OFF THE SEATS
    as_read : (h : ℕ) → Honest (group s lies) h → overall k m h ≡ read_off s (hand s said 5) (board s said 5)
    as_read h hh = ap₂ (read_off s) (fun_ext (λ i. ap (λ (st : State). st.hand) (after5 i))) (ap (λ (st : State). st.posts) (after5 h) ∙ seen_same 5 h hh)

    kept_by : (h : ℕ) → (at_call k m 5 h).kept ≡ when (accepted s (after k m 5 h).posts) (value p (own (overall k m h) h).across 0)
    kept_by h = ap (λ st. (called (t h) st).kept) (after5 h) ∙ sym (ap (λ (st : State). when (accepted s st.posts) (value p (own (read_off s (λ i. (after k m 5 i).hand) st.posts) h).across 0)) (after5 h) ∙
        ap (λ (x : Hand). when (accepted s (seen 5 h)) (value p (or_else (mine s h x) (revealed (seen 5 h) h)).across 0)) (ap (λ (st : State). st.hand) (after5 h)))

pub plays_keep_lem : PlaysKeep
plays_keep_lem k possible lies m plays h hh =
    let e = as_read k m lies possible plays h hh in
    let r = keeps_rules_lem (setting_of k) lies (said k m) (omega (arith, possible.few)) (follows k m lies possible plays) in
    record {
      kept = subst (Kept (group (setting_of k) lies) k.high k.low) (sym e) r.0;
      strict = subst (Strict (group (setting_of k) lies) k.high k.low) (sym e) r.1;
      fair = λ rs drawn exact hd. subst (Fair (group (setting_of k) lies) k.high k.low rs) (sym e)
          (deals_fairly_lem (setting_of k) lies (said k m) rs (omega (arith, possible.few)) (omega arith) possible.some (deals k m lies possible plays rs drawn exact hd));
      keeps = kept_by k m lies possible plays h;
      same = λ j hj. ap (λ (st : State). st.posts) (after5 k m h) ∙ seen_same k m lies possible plays 5 h hh ∙ sym (ap (λ (st : State). st.posts) (after5 k m j) ∙ seen_same k m lies possible plays 5 j hj);
    }
