-- The course of a dealing in which those that keep the rules say what the rules ask for, and liars say what they like.
use Rattle.std.specs.Prelude.{ℕ, zero, suc, Bool, cond, List, [], ◌∷◌, ◌++◌, ◌==◌}
use mathlib.Core.List.{foldl}
use Rattle.algebra.specs.Sharing.{Share}
use Rattle.rules.specs.Rounds.{Setting, keepers, Letter, Post, Deal, Fine, Said, Hand, Posts, Lines, nothing_heard, nothing_posted, heard, posted, mine, tells_to, complaints_of, answers_of, all_fits}

-- the words of liars
unfoldable pub left : {W : Type 0} → (ℕ → Bool) → List (Said W) → List (Said W)
left lies [] = []
left lies (m ∷ ms) = cond (lies m.by) (m ∷ left lies ms) (left lies ms)

abbrev pub by : {W : Type 0} → ℕ → List W → List (Said W)
by i [] = []
by i (w ∷ ws) = record { by = i; word = w } ∷ by i ws

-- the words of honest keepers, and then those of liars
unfoldable pub spoken : {W : Type 0} → (ℕ → Bool) → ℕ → (ℕ → List W) → List (Said W) → List (Said W)
spoken lies zero w said = left lies said
spoken lies (suc n) w said = cond (lies n) [] (by n (w n)) ++ spoken lies n w said

-- said: what everybody would like to say, of which liars' words count; shares: what an honest dealer deals
module _ (s : Setting) (lies : ℕ → Bool) (said : Lines) (shares : ℕ → Share) where
  abbrev pub n : ℕ
  n = keepers s

  -- where honest keepers say nothing
  abbrev pub quiet : {W : Type 0} → List (Said W) → List (Said W)
  quiet = spoken lies n (λ i. [])

  -- round by round, what comes, and what is held and seen after it
  abbrev pub mail1 : ℕ → List (Said Letter)
  mail1 j = spoken lies n (λ i. cond (i == s.dealer) (Deal (shares j) ∷ []) []) (said.mail 1 j)

  abbrev pub hand1 : ℕ → Hand
  hand1 i = foldl (heard s 1) nothing_heard (mail1 i)

  abbrev pub mail2 : ℕ → List (Said Letter)
  mail2 j = spoken lies n (λ i. cond (i == j) [] (tells_to s i (hand1 i) j ∷ [])) (said.mail 2 j)

  abbrev pub hand2 : ℕ → Hand
  hand2 i = foldl (heard s 2) (hand1 i) (mail2 i)

  abbrev pub board3 : List (Said Post)
  board3 = spoken lies n (λ i. complaints_of s i (hand2 i)) (said.board 3)

  abbrev pub posts3 : Posts
  posts3 = foldl (posted s 3) (foldl (posted s 2) (foldl (posted s 1) nothing_posted (quiet (said.board 1))) (quiet (said.board 2))) board3

  abbrev pub board4 : List (Said Post)
  board4 = spoken lies n (λ i. cond (i == s.dealer) (answers_of s shares posts3) []) (said.board 4)

  abbrev pub board5 : List (Said Post)
  board5 = spoken lies n (λ i. Fine (all_fits s i (mine s i (foldl (heard s 4) (foldl (heard s 3) (hand2 i) (quiet (said.mail 3 i))) (quiet (said.mail 4 i)))) (foldl (posted s 4) posts3 board4)) ∷ []) (said.board 5)

  unfoldable pub mails : ℕ → ℕ → List (Said Letter)
  mails zero j = quiet (said.mail 0 j)
  mails (suc zero) j = mail1 j
  mails (suc (suc zero)) j = mail2 j
  mails (suc (suc (suc r))) j = quiet (said.mail (suc (suc (suc r))) j)

  unfoldable pub boards : ℕ → List (Said Post)
  boards zero = quiet (said.board 0)
  boards (suc zero) = quiet (said.board 1)
  boards (suc (suc zero)) = quiet (said.board 2)
  boards (suc (suc (suc zero))) = board3
  boards (suc (suc (suc (suc zero)))) = board4
  boards (suc (suc (suc (suc (suc zero))))) = board5
  boards (suc (suc (suc (suc (suc (suc r)))))) = quiet (said.board (suc (suc (suc (suc (suc (suc r)))))))

  unfoldable pub run : Lines
  run = record { mail = mails; board = boards }
