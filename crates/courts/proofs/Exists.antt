-- There are runs in which those that keep the rules run their courts, whatever is drawn and whatever liars send.
use Rattle.std.proofs.Common.{◌≡◌, ℕ, zero, suc, ◌+◌, ◌-◌, ◌*◌, ◌<◌, ◌≤◌, Bool, true, false, cond, ◌&&◌, T, eqb, List, [], ◌++◌, map, length, None, Some, sym, refl, ap, ◌∙◌, subst, append-nil, arith, eq-eqb, ne_eqb}
use Rattle.rules.specs.Deal.{Honest}
use Rattle.rules.specs.Rounds.{Said, words_by}
use Rattle.rules.specs.Course.{spoken}
use Rattle.rules.specs.Wire.{wire, small}
use Rattle.rules.specs.Play as play
use Rattle.rules.specs.Play.{mail_of}
use Rattle.rules.proofs.Playing.{spoken_honest, spoken_liar}
use Rattle.rules.proofs.Seated.{lines_of, mail_back, board_back}
use Rattle.nights.specs.Run.{Lasting, at}
use Rattle.courts.specs.Court.{Court, Chance, Round, Over, fresh, low_of, dealers_of, letters_to, posts_of}
use Rattle.courts.specs.Promise.{Liars, CanPlay}
use Rattle.courts.proofs.Sits.{sitting, play_of}
use Rattle.courts.proofs.Public.{over_at}
use Rattle.courts.proofs.First.{first_value}
use Rattle.courts.proofs.Held.{deals_so, keeps_is}
use Rattle.courts.proofs.Whole.{lasting_of}
use Rattle.courts.proofs.Timely.{over_timely}
use Rattle.courts.specs.Nights.{Nights, Called, Born, Plays, keepers_of, step, fed, during, begins, within, called, sends, posts}

-- what is left of a night: the courts, and what was said too late
record Eve : Type 0 where
  courts : ℕ → Court
  letters : ℕ → ℕ → List (List ℕ)
  words : ℕ → List (List ℕ)

honest_false : (b : Bool) → (T b → ⊥) → b ≡ false
honest_false true h = absurd (h tt)
honest_false false h = refl

module _ (f many : ℕ) (lies : ℕ → ℕ → Bool) (draws : ℕ → ℕ → List ℕ) (calls : ℕ → ℕ) (late : ℕ → ℕ → Bool) (mail : (t r j : ℕ) → List (Said (List ℕ))) (lines : (t r : ℕ) → List (Said (List ℕ))) where
  abbrev n : ℕ
  n = 3 * f + 1

  -- in the last round some come too late
  behind : (t r i : ℕ) → Bool
  behind t r i = eqb (suc r) (calls t) && late t i

  mail_at : (t r : ℕ) → (ℕ → Court) → ℕ → List (Said (List ℕ))
  mail_at t r c j = spoken (lies t) n (λ i. cond (behind t r i) [] (map wire (letters_to (c i) j))) (mail t (suc r) j)

  board_at : (t r : ℕ) → (ℕ → Court) → List (Said (List ℕ))
  board_at t r c = spoken (lies t) n (λ i. cond (behind t r i) [] (map wire (posts_of (c i)))) (lines t (suc r))

  mail0 : Eve → (t j : ℕ) → List (Said (List ℕ))
  mail0 e t j = spoken (lies t) n (λ i. e.letters i j) (mail t 0 j)

  board0 : Eve → (t : ℕ) → List (Said (List ℕ))
  board0 e t = spoken (lies t) n (λ i. e.words i) (lines t 0)

  state : Eve → (t r i : ℕ) → Court
  state e t zero i = fed (step (e.courts i) (Chance (draws t i))) (lines_of (mail0 e t i) (board0 e t))
  state e t (suc r) i = fed (step (state e t r i) Round) (lines_of (mail_at t r (λ j. step (state e t r j) Round) i) (board_at t r (λ j. step (state e t r j) Round)))

  eve : ℕ → Eve
  eve zero = record { courts = fresh f; letters = λ i j. []; words = λ i. [] }
  eve (suc t) = record {
    courts = λ i. step (state (eve t) t (calls t) i) Over;
    letters = λ i j. cond (late t i) (map wire (letters_to (step (state (eve t) t (calls t - 1) i) Round) j)) [];
    words = λ i. cond (late t i) (map wire (posts_of (step (state (eve t) t (calls t - 1) i) Round))) [];
  }

  mails : (t r j : ℕ) → List (Said (List ℕ))
  mails t zero j = mail0 (eve t) t j
  mails t (suc r) j = mail_at t r (λ i. step (state (eve t) t r i) Round) j

  boards : (t r : ℕ) → List (Said (List ℕ))
  boards t zero = board0 (eve t) t
  boards t (suc r) = board_at t r (λ i. step (state (eve t) t r i) Round)

  run : Nights
  run = record { f = f; many = many; draws = draws; calls = calls; lines = λ t r j. lines_of (mails t r j) (boards t r); board = boards }

  as_within : (t i : ℕ) → begins run t i ≡ (eve t).courts i → (r : ℕ) → within run t r i ≡ state (eve t) t r i
  unfolding during run mails boards state
  as_within t i e zero = ap (λ c. fed (step c (Chance (draws t i))) (lines_of (mail0 (eve t) t i) (board0 (eve t) t))) e
  as_within t i e (suc r) = ap (λ c. fed (step c Round) (lines_of (mails t (suc r) i) (boards t (suc r)))) (as_within t i e r)

  as_begins : (t i : ℕ) → begins run t i ≡ (eve t).courts i
  unfolding begins eve run
  as_begins zero i = refl
  as_begins (suc t) i = ap (λ c. step c Over) (as_within t i (as_begins t i) (calls t))

  as_called : (t r i : ℕ) → called run t r i ≡ step (state (eve t) t r i) Round
  as_called t r i = ap (λ c. step c Round) (as_within t i (as_begins t i) r)

  module _ (t i : ℕ) (hi : Honest (at (keepers_of run lies) t) i) where
    no_lie : lies t i ≡ false
    no_lie = honest_false (lies t i) hi.1

    inside : i < n
    unfolding run
    inside = hi.0.0

    mail_by : (r j : ℕ) → words_by i (mail_of (run.lines t (suc r) j)) ≡ cond (behind t r i) [] (sends run t r i j)
    unfolding run mails boards mail_at
    mail_by r j = ap (words_by i) (mail_back (mails t (suc r) j) (boards t (suc r))) ∙ spoken_honest (lies t) _ (mail t (suc r) j) i n no_lie inside ∙ ap (λ c. cond (behind t r i) [] (map wire (letters_to c j))) (sym (as_called t r i))

    board_by : (r : ℕ) → words_by i (run.board t (suc r)) ≡ cond (behind t r i) [] (posts run t r i)
    unfolding run boards board_at
    board_by r = spoken_honest (lies t) _ (lines t (suc r)) i n no_lie inside ∙ ap (λ c. cond (behind t r i) [] (map wire (posts_of c))) (sym (as_called t r i))

    mail_by_0 : (j : ℕ) → words_by i (mail_of (run.lines t 0 j)) ≡ (eve t).letters i j
    unfolding run mails boards mail0
    mail_by_0 j = ap (words_by i) (mail_back (mails t 0 j) (boards t 0)) ∙ spoken_honest (lies t) _ (mail t 0 j) i n no_lie inside

    board_by_0 : words_by i (run.board t 0) ≡ (eve t).words i
    unfolding run boards board0
    board_by_0 = spoken_honest (lies t) _ (lines t 0) i n no_lie inside

    early : (r : ℕ) → suc r < calls t → behind t r i ≡ false
    unfolding behind
    early r h = ap (λ b. b && late t i) (ne_eqb (suc r) (calls t) (λ e. omega arith))

    last : (r : ℕ) → suc r ≡ calls t → behind t r i ≡ late t i
    unfolding behind
    last r e = ap (λ b. b && late t i) (eq-eqb (suc r) (calls t) e)

  by_liars : (t r i : ℕ) → lies t i ≡ true → ((j : ℕ) → words_by i (mail_of (run.lines t r j)) ≡ words_by i (mail t r j)) × (words_by i (run.board t r) ≡ words_by i (lines t r))
  unfolding run mails boards mail_at board_at mail0 board0
  by_liars t zero i l = (λ j. ap (words_by i) (mail_back (mails t 0 j) (boards t 0)) ∙ spoken_liar (lies t) _ (mail t 0 j) i n l, spoken_liar (lies t) _ (lines t 0) i n l)
  by_liars t (suc r) i l = (λ j. ap (words_by i) (mail_back (mails t (suc r) j) (boards t (suc r))) ∙ spoken_liar (lies t) _ (mail t (suc r) j) i n l, spoken_liar (lies t) _ (lines t (suc r)) i n l)

  module _ (limit : many ≤ 4294967296) (rounds : (t : ℕ) → t < many → (1 ≤ calls t) × (calls t ≤ 6)) (first : 0 < many → calls 0 ≡ 6)
      (exact : (t i : ℕ) → t < many → Honest (at (keepers_of run lies) t) i → i < dealers_of f t → (length (draws t i) ≡ (f + 1) * low_of f t) × (small (draws t i) ≡ true)) where
    fixed_run : Called run lies
    unfolding run
    fixed_run = record { few = limit; rounds = rounds; first = first; draws = exact; sees = λ t r i s h hi. board_back (mails t r i) (boards t r) }

    either : (b : Bool) (l : List (List ℕ)) → cond b [] l ++ cond b l [] ≡ l
    either true l = refl
    either false l = append-nil l

    one_less : (t r : ℕ) → suc r ≡ calls t → calls t - 1 ≡ r
    one_less t r e = omega arith

    plays_run : Born run lies → Plays run lies
    unfolding run eve
    plays_run born = record {
      fixed = fixed_run;
      born = born;
      mails = λ t r i j s h hi. mail_by t i hi r j ∙ ap (λ b. cond b [] (sends run t r i j)) (early t i hi r h);
      lines = λ t r i s h hi. board_by t i hi r ∙ ap (λ b. cond b [] (posts run t r i)) (early t i hi r h);
      late_mails = λ t r i j s h hi. (
        cond (late t i) (sends run t r i j) [],
        ap (λ l. l ++ cond (late t i) (sends run t r i j) []) (mail_by t i hi r j ∙ ap (λ b. cond b [] (sends run t r i j)) (last t i hi r h)) ∙ either (late t i) (sends run t r i j),
        λ s' hi'. mail_by_0 (suc t) i hi' j ∙ ap (λ a. cond (late t i) (map wire (letters_to (step (state (eve t) t a i) Round) j)) []) (one_less t r h) ∙ ap (λ c. cond (late t i) (map wire (letters_to c j)) []) (sym (as_called t r i)),
      );
      late_lines = λ t r i s h hi. (
        cond (late t i) (posts run t r i) [],
        ap (λ l. l ++ cond (late t i) (posts run t r i) []) (board_by t i hi r ∙ ap (λ b. cond b [] (posts run t r i)) (last t i hi r h)) ∙ either (late t i) (posts run t r i),
        λ s' hi'. board_by_0 (suc t) i hi' ∙ ap (λ a. cond (late t i) (map wire (posts_of (step (state (eve t) t a i) Round))) []) (one_less t r h) ∙ ap (λ c. cond (late t i) (map wire (posts_of c)) []) (sym (as_called t r i)),
      );
      silent = λ i j s hi. (mail_by_0 0 i hi j, board_by_0 0 i hi);
    }

    -- THE FIRST NIGHT ALONE
    module _ (some : 0 < many) (few : f ≤ 5) (liars : Liars f lies) (h0 : lies 0 0 ≡ false) (prompt : (i : ℕ) → late 0 i ≡ false) where
      one : Nights
      one = record { f = f; many = 1; draws = draws; calls = calls; lines = run.lines; board = run.board }

      lasting : Lasting (keepers_of one lies)
      unfolding one
      lasting = lasting_of f few lies liars

      honest_one : (t i : ℕ) → Honest (at (keepers_of one lies) t) i → Honest (at (keepers_of run lies) t) i
      unfolding one run
      honest_one t i h = h

      same_begins : (i : ℕ) → begins one 1 i ≡ begins run 1 i
      unfolding one run begins
      same_begins i = refl

      same_sends : (r i j : ℕ) → sends one 0 r i j ≡ sends run 0 r i j
      unfolding one run begins
      same_sends r i j = refl

      same_posts : (r i : ℕ) → posts one 0 r i ≡ posts run 0 r i
      unfolding one run begins
      same_posts r i = refl

      zero_only : (P : ℕ → Type 0) → P 0 → (t : ℕ) → t < 1 → P t
      zero_only P h zero l = h
      zero_only P h (suc t) l = absurd (omega arith)

      fixed_one : Called one lies
      unfolding one run
      fixed_one = record {
        few = omega arith;
        rounds = zero_only (λ t. (1 ≤ calls t) × (calls t ≤ 6)) (rounds 0 some);
        first = λ _. first some;
        draws = λ t i s hi d. exact t i (omega (arith, s, some)) (honest_one t i hi) d;
        sees = λ t r i s h hi. fixed_run.sees t r i (omega (arith, s, some)) h (honest_one t i hi);
      }

      born_one : Born one lies
      unfolding one
      born_one h = absurd (omega arith)

      in_time : (i r : ℕ) → behind 0 r i ≡ false
      unfolding behind
      in_time i r = rw (prompt i) (no (eqb (suc r) (calls 0)))
        where
          no : (b : Bool) → (b && false) ≡ false
          no true = refl
          no false = refl

      mail_one : (r i j : ℕ) → Honest (at (keepers_of one lies) 0) i → words_by i (mail_of (one.lines 0 (suc r) j)) ≡ sends one 0 r i j
      unfolding one
      mail_one r i j hi = mail_by 0 i (honest_one 0 i hi) r j ∙ ap (λ b. cond b [] (sends run 0 r i j)) (in_time i r) ∙ sym (same_sends r i j)

      board_one : (r i : ℕ) → Honest (at (keepers_of one lies) 0) i → words_by i (one.board 0 (suc r)) ≡ posts one 0 r i
      unfolding one
      board_one r i hi = board_by 0 i (honest_one 0 i hi) r ∙ ap (λ b. cond b [] (posts run 0 r i)) (in_time i r) ∙ sym (same_posts r i)

      plays_one : Plays one lies
      unfolding one eve
      plays_one = record {
        fixed = fixed_one;
        born = born_one;
        mails = λ t r i j s. zero_only (λ t. suc r < calls t → Honest (at (keepers_of one lies) t) i → words_by i (mail_of (one.lines t (suc r) j)) ≡ sends one t r i j) (λ _ hi. mail_one r i j hi) t s;
        lines = λ t r i s. zero_only (λ t. suc r < calls t → Honest (at (keepers_of one lies) t) i → words_by i (one.board t (suc r)) ≡ posts one t r i) (λ _ hi. board_one r i hi) t s;
        late_mails = λ t r i j s. zero_only (λ t. suc r ≡ calls t → Honest (at (keepers_of one lies) t) i →
            (l : List (List ℕ)) × (words_by i (mail_of (one.lines t (suc r) j)) ++ l ≡ sends one t r i j) × (suc t < 1 → Honest (at (keepers_of one lies) (suc t)) i → words_by i (mail_of (one.lines (suc t) 0 j)) ≡ l))
            (λ _ hi. ([], append-nil _ ∙ mail_one r i j hi, λ z. absurd (omega arith))) t s;
        late_lines = λ t r i s. zero_only (λ t. suc r ≡ calls t → Honest (at (keepers_of one lies) t) i →
            (l : List (List ℕ)) × (words_by i (one.board t (suc r)) ++ l ≡ posts one t r i) × (suc t < 1 → Honest (at (keepers_of one lies) (suc t)) i → words_by i (one.board (suc t) 0) ≡ l))
            (λ _ hi. ([], append-nil _ ∙ board_one r i hi, λ z. absurd (omega arith))) t s;
        silent = λ i j s hi. (mail_by_0 0 i (honest_one 0 i hi) j, board_by_0 0 i (honest_one 0 i hi));
      }

      soon : 0 < one.many
      unfolding one
      soon = omega arith

      whole : one.calls 0 ≡ 6
      unfolding one
      whole = first some

      over_one : over_at one 0 ≡ true
      unfolding one
      over_one = over_timely one lies lasting fixed_one born_one few liars.few 0 soon whole (λ i hi. board_one 5 i hi)

      -- so each court has a value after it
      value_one : (i : ℕ) → Honest (at (keepers_of one lies) 0) i → (v : ℕ) × ((begins one 1 i).value ≡ Some v)
      unfolding one
      value_one i hi =
          let deals : 0 < dealers_of f 0 = omega arith in
          let hd : Honest (at (keepers_of one lies) 0) 0 = ((omega arith, tt), λ q. subst T h0 q) in
          let d = deals_so one lies lasting plays_one few liars.few 0 0 soon whole deals in
          let o = d.one i hi (d.fair hd i hi).0 in (
            _,
            first_value one lies lasting fixed_one few i soon hi ∙ ap (λ b. cond b (play.at_call (sitting one 0 0) (play_of one 0 0) 5 i).kept None) over_one
                ∙ sym (keeps_is one lies lasting plays_one few liars.few 0 0 soon whole deals i hi) ∙ (o.2 i hi).1,
          )

      born_run : Born run lies
      unfolding one run
      born_run more i hi e = let v = value_one i hi in let z : Some v.0 ≡ None = sym v.1 ∙ ap (λ (c : Court). c.value) (same_begins i) ∙ e in absurd (let q : ⊥ = cc in q)

pub can_play_lem : CanPlay
unfolding run
can_play_lem f many few limit lies liars draws exact calls rounds six late mail lines =
    let exact' = λ (t i : ℕ) (s : t < many) (hi : Honest (at (keepers_of (run f many lies draws calls late mail lines) lies) t) i) (d : i < dealers_of f t). exact t i s d (honest_false (lies t i) hi.1) in (
      run f many lies draws calls late mail lines,
      refl,
      refl,
      refl,
      refl,
      plays_run f many lies draws calls late mail lines limit rounds (λ _. six) exact',
      λ h0 prompt more. born_run f many lies draws calls late mail lines limit rounds (λ _. six) exact' (omega arith) few liars h0 prompt more,
      by_liars f many lies draws calls late mail lines,
    )
