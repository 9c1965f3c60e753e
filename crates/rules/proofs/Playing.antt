-- There are runs in which honest keepers follow the rules, whatever the liars say.
use Rattle.std.proofs.Common.{◌≡◌, ℕ, zero, suc, ◌<◌, ◌≤◌, Bool, true, false, cond, not, T, eqb, List, [], ◌∷◌, ◌++◌, sym, refl, ap, ◌∙◌, subst, ap₂, true≢false, append-nil, arith, eq-eqb, ne_eqb}
use mathlib.Core.Bool.{false≢true}
use native.Mathlib.Decide.{ℕ_discrete}
use Rattle.algebra.specs.Sharing.{Share}
use Rattle.rules.specs.Deal.{Honest}
use Rattle.rules.specs.Rounds.{Setting, keepers, group, Deal, Said, Lines, hand, board, tells_to, answers_of, words_by, Follows, Quiet}
use Rattle.rules.specs.Course.{left, by, spoken, hand1, posts3, mails, boards, run}
use Rattle.rules.specs.Promise.{CanFollow}

pub words_append : {W : Type 0} (i : ℕ) (l k : List (Said W)) → words_by i (l ++ k) ≡ words_by i l ++ words_by i k
unfolding words_by
words_append i [] k = refl
words_append i (m ∷ l) k = go (eqb m.by i) (words_append i l k)
  where
    go : (b : Bool) → words_by i (l ++ k) ≡ words_by i l ++ words_by i k → cond b (m.word ∷ words_by i (l ++ k)) (words_by i (l ++ k)) ≡ cond b (m.word ∷ words_by i l) (words_by i l) ++ words_by i k
    go true e = ap (λ ws. m.word ∷ ws) e
    go false e = e

pub words_own : {W : Type 0} (i : ℕ) (ws : List W) → words_by i (by i ws) ≡ ws
unfolding words_by
words_own i [] = refl
words_own i (w ∷ ws) = rw (eq-eqb i i refl) (ap (λ l. w ∷ l) (words_own i ws))

words_other : {W : Type 0} (i k : ℕ) (ws : List W) → (k ≡ i → ⊥) → words_by i (by k ws) ≡ []
unfolding words_by
words_other i k [] n = refl
words_other i k (w ∷ ws) n = rw (ne_eqb k i n) (words_other i k ws n)

apart : (lies : ℕ → Bool) (k i : ℕ) (b : Bool) → lies k ≡ b → lies i ≡ not b → k ≡ i → ⊥
apart lies k i true p q e = true≢false (sym p ∙ ap lies e ∙ q)
apart lies k i false p q e = false≢true (sym p ∙ ap lies e ∙ q)

left_liar : {W : Type 0} (lies : ℕ → Bool) (i : ℕ) → lies i ≡ true → (said : List (Said W)) → words_by i (left lies said) ≡ words_by i said
unfolding words_by left
left_liar lies i l [] = refl
left_liar lies i l (m ∷ ms) = go (lies m.by) refl (left_liar lies i l ms)
  where
    go : (b : Bool) → lies m.by ≡ b → words_by i (left lies ms) ≡ words_by i ms → words_by i (cond b (m ∷ left lies ms) (left lies ms)) ≡ cond (eqb m.by i) (m.word ∷ words_by i ms) (words_by i ms)
    go true e r = ap (λ ws. cond (eqb m.by i) (m.word ∷ ws) ws) r
    go false e r = rw (ne_eqb m.by i (apart lies m.by i false e l)) r

left_honest : {W : Type 0} (lies : ℕ → Bool) (i : ℕ) → lies i ≡ false → (said : List (Said W)) → words_by i (left lies said) ≡ []
unfolding words_by left
left_honest lies i l [] = refl
left_honest lies i l (m ∷ ms) = go (lies m.by) refl (left_honest lies i l ms)
  where
    go : (b : Bool) → lies m.by ≡ b → words_by i (left lies ms) ≡ [] → words_by i (cond b (m ∷ left lies ms) (left lies ms)) ≡ []
    go true e r = rw (ne_eqb m.by i (apart lies m.by i true e l)) r
    go false e r = r

module _ {W : Type 0} (lies : ℕ → Bool) (w : ℕ → List W) (said : List (Said W)) where
  -- others say nothing for i
  others : (n i : ℕ) → (lies n ≡ false → n ≡ i → ⊥) → words_by i (cond (lies n) [] (by n (w n))) ≡ []
  unfolding words_by
  others n i h = go (lies n) h
    where
      go : (b : Bool) → (b ≡ false → n ≡ i → ⊥) → words_by i (cond b [] (by n (w n))) ≡ []
      go true h = refl
      go false h = words_other i n (w n) (h refl)

  pub spoken_liar : (i n : ℕ) → lies i ≡ true → words_by i (spoken lies n w said) ≡ words_by i said
  unfolding spoken
  spoken_liar i zero l = left_liar lies i l said
  spoken_liar i (suc n) l = words_append i (cond (lies n) [] (by n (w n))) (spoken lies n w said) ∙ ap₂ ◌++◌ (others n i (λ e. apart lies n i false e l)) (spoken_liar i n l)

  pub spoken-later : (i n : ℕ) → lies i ≡ false → n ≤ i → words_by i (spoken lies n w said) ≡ []
  unfolding spoken
  spoken-later i zero l h = left_honest lies i l said
  spoken-later i (suc n) l h = words_append i (cond (lies n) [] (by n (w n))) (spoken lies n w said) ∙ ap₂ ◌++◌ (others n i (λ _ e. omega arith)) (spoken-later i n l (omega arith))

  pub spoken_honest : (i n : ℕ) → lies i ≡ false → i < n → words_by i (spoken lies n w said) ≡ w i
  unfolding spoken
  spoken_honest i zero l h = absurd (omega arith)
  spoken_honest i (suc n) l h = words_append i (cond (lies n) [] (by n (w n))) (spoken lies n w said) ∙ go (ℕ_discrete n i) (spoken_honest i n l)
    where
      go : Dec (n ≡ i) → (i < n → words_by i (spoken lies n w said) ≡ w i) → words_by i (cond (lies n) [] (by n (w n))) ++ words_by i (spoken lies n w said) ≡ w i
      go (yes e) r = ap₂ ◌++◌ (subst (λ k. words_by i (cond (lies k) [] (by k (w k))) ≡ w i) (sym e) (ap (λ b. words_by i (cond b [] (by i (w i)))) l ∙ words_own i (w i))) (spoken-later i n l (omega arith)) ∙ append-nil (w i)
      go (no ne) r = ap₂ ◌++◌ (others n i (λ _ e. ne e)) (r (omega arith))

-- THE RUN
module _ (s : Setting) (lies : ℕ → Bool) (said : Lines) (shares : ℕ → Share) where
  abbrev n : ℕ
  n = keepers s

  honest : (i : ℕ) → Honest (group s lies) i → lies i ≡ false
  honest i h = go (lies i) h.1
    where
      go : (b : Bool) → (T b → ⊥) → b ≡ false
      go true t = absurd (t tt)
      go false t = refl

  quiet-mail : (r i j : ℕ) → Honest (group s lies) i → ((r ≡ 1) × (i ≡ s.dealer) → ⊥) → ((r ≡ 2) × (i ≡ j → ⊥) → ⊥) → words_by i ((mails s lies said shares) r j) ≡ []
  unfolding mails
  quiet-mail zero i j h a b = spoken_honest lies _ (said.mail 0 j) i n (honest i h) h.0.0
  quiet-mail (suc zero) i j h a b = spoken_honest lies _ (said.mail 1 j) i n (honest i h) h.0.0 ∙ ap (λ c. cond c (Deal (shares j) ∷ []) []) (ne_eqb i s.dealer (λ e. a (refl, e)))
  quiet-mail (suc (suc zero)) i j h a b = spoken_honest lies _ (said.mail 2 j) i n (honest i h) h.0.0 ∙
      elim (ℕ_discrete i j) [ yes e ↦ ap (λ c. cond c [] (tells_to s i ((hand1 s lies said shares) i) j ∷ [])) (eq-eqb i j e) | no e ↦ absurd (b (refl, e)) ]
  quiet-mail (suc (suc (suc r))) i j h a b = spoken_honest lies _ (said.mail (suc (suc (suc r))) j) i n (honest i h) h.0.0

  quiet-board : (r i : ℕ) → Honest (group s lies) i → (r ≡ 3 → ⊥) → ((r ≡ 4) × (i ≡ s.dealer) → ⊥) → (r ≡ 5 → ⊥) → words_by i ((boards s lies said shares) r) ≡ []
  unfolding boards
  quiet-board zero i h a b c = spoken_honest lies _ (said.board 0) i n (honest i h) h.0.0
  quiet-board (suc zero) i h a b c = spoken_honest lies _ (said.board 1) i n (honest i h) h.0.0
  quiet-board (suc (suc zero)) i h a b c = spoken_honest lies _ (said.board 2) i n (honest i h) h.0.0
  quiet-board (suc (suc (suc zero))) i h a b c = absurd (a refl)
  quiet-board (suc (suc (suc (suc zero)))) i h a b c = spoken_honest lies _ (said.board 4) i n (honest i h) h.0.0 ∙ ap (λ c. cond c (answers_of s shares (posts3 s lies said shares)) []) (ne_eqb i s.dealer (λ e. b (refl, e)))
  quiet-board (suc (suc (suc (suc (suc zero))))) i h a b c = absurd (c refl)
  quiet-board (suc (suc (suc (suc (suc (suc r)))))) i h a b c = spoken_honest lies _ (said.board (suc (suc (suc (suc (suc (suc r))))))) i n (honest i h) h.0.0

  follows : Follows s lies (run s lies said shares) (hand s (run s lies said shares)) (board s (run s lies said shares))
  unfolding run mails boards hand board
  follows = record {
    tells = λ i j hi hj ne. spoken_honest lies _ (said.mail 2 j) i n (honest i hi) hi.0.0 ∙ ap (λ c. cond c [] (tells_to s i ((hand1 s lies said shares) i) j ∷ [])) (ne_eqb i j ne);
    complains = λ i hi. spoken_honest lies _ (said.board 3) i n (honest i hi) hi.0.0;
    judges = λ i hi. spoken_honest lies _ (said.board 5) i n (honest i hi) hi.0.0;
  }

  quietly : Quiet s lies (run s lies said shares)
  unfolding run
  quietly = record { mail = quiet-mail; board = quiet-board }

  dealer : Honest (group s lies) s.dealer → ((j : ℕ) → words_by s.dealer ((run s lies said shares).mail 1 j) ≡ Deal (shares j) ∷ []) × (words_by s.dealer ((run s lies said shares).board 4) ≡ answers_of s shares (board s (run s lies said shares) 3))
  unfolding run mails boards board
  dealer h = (
    λ j. spoken_honest lies _ (said.mail 1 j) s.dealer n (honest s.dealer h) h.0.0 ∙ ap (λ b. cond b (Deal (shares j) ∷ []) []) (eq-eqb s.dealer s.dealer refl),
    spoken_honest lies _ (said.board 4) s.dealer n (honest s.dealer h) h.0.0 ∙ ap (λ b. cond b (answers_of s shares (posts3 s lies said shares)) []) (eq-eqb s.dealer s.dealer refl),
  )

  liar_mail : (r i : ℕ) → lies i ≡ true → (j : ℕ) → words_by i ((mails s lies said shares) r j) ≡ words_by i (said.mail r j)
  unfolding mails
  liar_mail zero i l j = spoken_liar lies _ (said.mail 0 j) i n l
  liar_mail (suc zero) i l j = spoken_liar lies _ (said.mail 1 j) i n l
  liar_mail (suc (suc zero)) i l j = spoken_liar lies _ (said.mail 2 j) i n l
  liar_mail (suc (suc (suc r))) i l j = spoken_liar lies _ (said.mail (suc (suc (suc r))) j) i n l

  liar_board : (r i : ℕ) → lies i ≡ true → words_by i ((boards s lies said shares) r) ≡ words_by i (said.board r)
  unfolding boards
  liar_board zero i l = spoken_liar lies _ (said.board 0) i n l
  liar_board (suc zero) i l = spoken_liar lies _ (said.board 1) i n l
  liar_board (suc (suc zero)) i l = spoken_liar lies _ (said.board 2) i n l
  liar_board (suc (suc (suc zero))) i l = spoken_liar lies _ (said.board 3) i n l
  liar_board (suc (suc (suc (suc zero)))) i l = spoken_liar lies _ (said.board 4) i n l
  liar_board (suc (suc (suc (suc (suc zero))))) i l = spoken_liar lies _ (said.board 5) i n l
  liar_board (suc (suc (suc (suc (suc (suc r)))))) i l = spoken_liar lies _ (said.board (suc (suc (suc (suc (suc (suc r))))))) i n l

pub can_follow_lem : CanFollow
unfolding run
can_follow_lem s lies said shares = (follows s lies said shares, quietly s lies said shares, dealer s lies said shares, λ r i l. (liar_mail s lies said shares r i l, liar_board s lies said shares r i l))
