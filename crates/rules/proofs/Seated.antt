-- There are plays in which those that keep the rules run their seats, whatever liars send.
use Rattle.std.proofs.Common.{◌≡◌, ℕ, zero, suc, ◌+◌, ◌*◌, Bool, true, false, cond, T, eqb, List, [], ◌∷◌, map, None, Option, sym, refl, ap, ◌∙◌}
use mathlib.Core.List.{foldl}
use Rattle.std.specs.Option.{option_to_list}
use Rattle.rules.specs.Deal.{Honest}
use Rattle.rules.specs.Rounds.{Said, group, words_by}
use Rattle.rules.specs.Course.{spoken}
use Rattle.rules.specs.Wire.{wire}
use Rattle.rules.specs.Seat.{State, mail_to, line_of, called, seated}
use Rattle.rules.specs.Play.{Line, Mail, Board, taken, mail_of, board_of, Sitting, setting_of, terms_of, Play, Plays, after, collected}
use Rattle.rules.specs.Promise.{CanPlay}
use Rattle.rules.proofs.Playing.{spoken_honest, spoken_liar}

-- mail first, and then the board
unfoldable pub lines_of : (mail board : List (Said (List ℕ))) → List Line
lines_of [] [] = []
lines_of [] (b ∷ bs) = Board b.by b.word ∷ lines_of [] bs
lines_of (m ∷ ms) bs = Mail m.by m.word ∷ lines_of ms bs

pub mail_back : (ms bs : List (Said (List ℕ))) → mail_of (lines_of ms bs) ≡ ms
unfolding lines_of mail_of
mail_back [] [] = refl
mail_back [] (b ∷ bs) = mail_back [] bs
mail_back (m ∷ ms) bs = ap (λ l. m ∷ l) (mail_back ms bs)

pub board_back : (ms bs : List (Said (List ℕ))) → board_of (lines_of ms bs) ≡ bs
unfolding lines_of board_of
board_back [] [] = refl
board_back [] (b ∷ bs) = ap (λ l. b ∷ l) (board_back [] bs)
board_back (m ∷ ms) bs = board_back ms bs

module _ (k : Sitting) (lies : ℕ → Bool) (chance : Option (List (List ℕ))) (mail : ℕ → ℕ → List (Said (List ℕ))) (lines : ℕ → List (Said (List ℕ))) where
  abbrev n : ℕ
  n = 3 * k.f + 1

  -- what comes in a round, by the states in which it is called
  mail_at : (ℕ → State) → ℕ → ℕ → List (Said (List ℕ))
  mail_at st r j = spoken lies n (λ i. map wire (option_to_list (mail_to (terms_of k i) (st i) j))) (mail r j)

  board_at : (ℕ → State) → ℕ → List (Said (List ℕ))
  board_at st r = spoken lies n (λ i. map wire (collected n (line_of (terms_of k i) (st i)))) (lines r)

  mail0 : ℕ → List (Said (List ℕ))
  mail0 j = spoken lies n (λ i. []) (mail 0 j)

  board0 : List (Said (List ℕ))
  board0 = spoken lies n (λ i. []) (lines 0)

  state : ℕ → ℕ → State
  state zero i = foldl (taken (terms_of k i)) (seated (cond (eqb i k.dealer) chance None)) (lines_of (mail0 i) board0)
  state (suc r) i = foldl (taken (terms_of k i)) (called (terms_of k i) (state r i)) (lines_of (mail_at (λ j. called (terms_of k j) (state r j)) (suc r) i) (board_at (λ j. called (terms_of k j) (state r j)) (suc r)))

  mails : ℕ → ℕ → List (Said (List ℕ))
  mails zero j = mail0 j
  mails (suc r) j = mail_at (λ i. called (terms_of k i) (state r i)) (suc r) j

  boards : ℕ → List (Said (List ℕ))
  boards zero = board0
  boards (suc r) = board_at (λ i. called (terms_of k i) (state r i)) (suc r)

  play : Play
  play = record { chance = chance; lines = λ r j. lines_of (mails r j) (boards r); board = boards }

  as_played : (r i : ℕ) → after k play r i ≡ state r i
  unfolding after state play mails boards
  as_played zero i = refl
  as_played (suc r) i = ap (λ st. foldl (taken (terms_of k i)) (called (terms_of k i) st) (lines_of (mails (suc r) i) (boards (suc r)))) (as_played r i)

  honest : (i : ℕ) → Honest (group (setting_of k) lies) i → lies i ≡ false
  honest i h = go (lies i) h.1
    where
      go : (b : Bool) → (T b → ⊥) → b ≡ false
      go true t = absurd (t tt)
      go false t = refl

  plays : Plays k lies play
  unfolding play mails boards mail_at board_at mail0 board0
  plays = record {
    sees = λ r i h. board_back (mails r i) (boards r);
    mails = λ r i j h. ap (words_by i) (mail_back (mails (suc r) j) (boards (suc r))) ∙ spoken_honest lies _ (mail (suc r) j) i n (honest i h) h.0.0
        ∙ ap (λ st. map wire (option_to_list (mail_to (terms_of k i) (called (terms_of k i) st) j))) (sym (as_played r i));
    lines = λ r i h. spoken_honest lies _ (lines (suc r)) i n (honest i h) h.0.0 ∙ ap (λ st. map wire (collected n (line_of (terms_of k i) (called (terms_of k i) st)))) (sym (as_played r i));
    silent = λ i j h. (ap (words_by i) (mail_back (mails 0 j) (boards 0)) ∙ spoken_honest lies _ (mail 0 j) i n (honest i h) h.0.0, spoken_honest lies _ (lines 0) i n (honest i h) h.0.0);
  }

  by_liars : (r i : ℕ) → lies i ≡ true → ((j : ℕ) → words_by i (mail_of (play.lines r j)) ≡ words_by i (mail r j)) × (words_by i (play.board r) ≡ words_by i (lines r))
  unfolding play mails boards mail_at board_at mail0 board0
  by_liars zero i l = (λ j. ap (words_by i) (mail_back (mails 0 j) (boards 0)) ∙ spoken_liar lies _ (mail 0 j) i n l, spoken_liar lies _ (lines 0) i n l)
  by_liars (suc r) i l = (λ j. ap (words_by i) (mail_back (mails (suc r) j) (boards (suc r))) ∙ spoken_liar lies _ (mail (suc r) j) i n l, spoken_liar lies _ (lines (suc r)) i n l)

  result : (m : Play) × Plays k lies m × (m.chance ≡ chance) × ((r i : ℕ) → lies i ≡ true → ((j : ℕ) → words_by i (mail_of (m.lines r j)) ≡ words_by i (mail r j)) × (words_by i (m.board r) ≡ words_by i (lines r)))
  unfolding play
  result = (play, plays, refl, by_liars)

pub can_play_lem : CanPlay
can_play_lem = result
