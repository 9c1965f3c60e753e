-- Lines of one dealing changed in their places, among those of all dealings.
use Rattle.std.proofs.Common.{◌≡◌, ℕ, zero, suc, ◌+◌, ◌*◌, ◌<◌, ◌≤◌, Bool, true, false, cond, not, ◌&&◌, eqb, ltb, ◌≢◌, List, [], ◌∷◌, ◌++◌, map, get_or, Some, None, Option, sym, refl, ap, ◌∙◌, ap₂, arith, eq-eqb, ne_eqb, eqb-true}
use mathlib.Core.List.{map-append}
use native.Mathlib.Decide.{ℕ_discrete}
use Rattle.algebra.specs.Prime.{p}
use Rattle.algebra.specs.Sharing.{pair_at, share_of}
use Rattle.rules.specs.Deal.{or_else}
use Rattle.std.specs.Option.{option_to_list}
use Rattle.rules.specs.Message.{Message, Share, Told}
use Rattle.rules.specs.Wire.{wire}
use Rattle.rules.specs.Play as play
use Rattle.rules.specs.Play.{collected}
use Rattle.rules.proofs.Retouch.{to_each}
use Rattle.rules.proofs.Retold.{resay, reline}
use Rattle.courts.specs.Court.{Court, members, post_at, posts_up_to}
use Rattle.courts.proofs.Routing.{Names, tagged}
use Rattle.courts.proofs.Tags.{of_tag, wire_tag}

-- only words about dealing w
abbrev pub turn : ℕ → (ℕ → List ℕ → List ℕ) → ℕ → List ℕ → List ℕ
turn w f i bs = cond (eqb (get_or bs 5 0) w) (f i bs) bs

pub turn_there : (w : ℕ) (f : ℕ → List ℕ → List ℕ) (i : ℕ) (bs : List ℕ) → get_or bs 5 0 ≡ w → turn w f i bs ≡ f i bs
turn_there w f i bs e = ap (λ b. cond b (f i bs) bs) (eq-eqb (get_or bs 5 0) w e)

pub turn_else : (w : ℕ) (f : ℕ → List ℕ → List ℕ) (i : ℕ) (bs : List ℕ) → get_or bs 5 0 ≢ w → turn w f i bs ≡ bs
turn_else w f i bs n = ap (λ b. cond b (f i bs) bs) (ne_eqb (get_or bs 5 0) w n)

-- nothing is said anew after the second round
pub say-later : (k : play.Sitting) (lies : ℕ → Bool) (ts : List (List ℕ)) (r j i : ℕ) → 3 ≤ r → (bs : List ℕ) → resay k lies ts r j i bs ≡ bs
say-later k lies ts r j i h bs = rw (ne_eqb r 1 (λ q. omega arith), ne_eqb r 2 (λ q. omega arith))

-- what is said anew names the same dealing
pub resay-names : (k : play.Sitting) (lies : ℕ → Bool) (ts : List (List ℕ)) (r j i : ℕ) (bs : List ℕ) → get_or bs 5 0 ≡ k.dealer → get_or (resay k lies ts r j i bs) 5 0 ≡ k.dealer
resay-names k lies ts r j i bs e = by (eqb r 1 && eqb i k.dealer) (eqb r 2 && (ltb i (3 * k.f + 1) && (not (lies i) && not (eqb i j))))
  where
    by : (a b : Bool) → get_or (or_else bs (cond a (Some (wire (Share k.night k.dealer (share_of p ts j)))) (cond b (Some (wire (Told k.night k.dealer (pair_at p (share_of p ts i) j)))) None))) 5 0 ≡ k.dealer
    by true b = wire_tag (Share k.night k.dealer (share_of p ts j))
    by false true = wire_tag (Told k.night k.dealer (pair_at p (share_of p ts i) j))
    by false false = e

module _ (w : ℕ) (f : ℕ → List ℕ → List ℕ) (names : (i : ℕ) (bs : List ℕ) → get_or bs 5 0 ≡ w → get_or (f i bs) 5 0 ≡ w) where
  -- a word names what it named before
  turn_names : (i : ℕ) (bs : List ℕ) → get_or (turn w f i bs) 5 0 ≡ get_or bs 5 0
  turn_names i bs = elim (ℕ_discrete (get_or bs 5 0) w) [
    | yes e ↦ ap (λ l. get_or l 5 0) (turn_there w f i bs e) ∙ names i bs e ∙ sym e
    | no n ↦ ap (λ l. get_or l 5 0) (turn_else w f i bs n)
  ]

  pub tagged_there : (ls : List play.Line) → tagged w (map (reline (turn w f)) ls) ≡ map (reline f) (tagged w ls)
  unfolding tagged
  tagged_there [] = refl
  tagged_there (play.Mail from bs ∷ ls) = ap (λ n. cond (eqb n w) (play.Mail from (turn w f from bs) ∷ tagged w (map (reline (turn w f)) ls)) (tagged w (map (reline (turn w f)) ls))) (turn_names from bs)
      ∙ go (eqb (get_or bs 5 0) w) (eqb-true (get_or bs 5 0) w) (tagged_there ls)
    where
      go : (b : Bool) → (b ≡ true → get_or bs 5 0 ≡ w) → tagged w (map (reline (turn w f)) ls) ≡ map (reline f) (tagged w ls) →
          cond b (play.Mail from (turn w f from bs) ∷ tagged w (map (reline (turn w f)) ls)) (tagged w (map (reline (turn w f)) ls)) ≡ map (reline f) (cond b (play.Mail from bs ∷ tagged w ls) (tagged w ls))
      go true h e = ap₂ (λ x l. play.Mail from x ∷ l) (turn_there w f from bs (h refl)) e
      go false h e = e
  tagged_there (play.Board who bs ∷ ls) = go (eqb (get_or bs 5 0) w) (tagged_there ls)
    where
      go : (b : Bool) → tagged w (map (reline (turn w f)) ls) ≡ map (reline f) (tagged w ls) →
          cond b (play.Board who bs ∷ tagged w (map (reline (turn w f)) ls)) (tagged w (map (reline (turn w f)) ls)) ≡ map (reline f) (cond b (play.Board who bs ∷ tagged w ls) (tagged w ls))
      go true e = ap (λ l. play.Board who bs ∷ l) e
      go false e = e

  pub tagged_else : (d : ℕ) → d ≢ w → (ls : List play.Line) → tagged d (map (reline (turn w f)) ls) ≡ tagged d ls
  unfolding tagged
  tagged_else d n [] = refl
  tagged_else d n (play.Mail from bs ∷ ls) = ap (λ a. cond (eqb a d) (play.Mail from (turn w f from bs) ∷ tagged d (map (reline (turn w f)) ls)) (tagged d (map (reline (turn w f)) ls))) (turn_names from bs)
      ∙ go (eqb (get_or bs 5 0) d) (eqb-true (get_or bs 5 0) d) (tagged_else d n ls)
    where
      go : (b : Bool) → (b ≡ true → get_or bs 5 0 ≡ d) → tagged d (map (reline (turn w f)) ls) ≡ tagged d ls →
          cond b (play.Mail from (turn w f from bs) ∷ tagged d (map (reline (turn w f)) ls)) (tagged d (map (reline (turn w f)) ls)) ≡ cond b (play.Mail from bs ∷ tagged d ls) (tagged d ls)
      go true h e = ap₂ (λ x l. play.Mail from x ∷ l) (turn_else w f from bs (λ q. n (sym (h refl) ∙ q))) e
      go false h e = e
  tagged_else d n (play.Board who bs ∷ ls) = go (eqb (get_or bs 5 0) d) (tagged_else d n ls)
    where
      go : (b : Bool) → tagged d (map (reline (turn w f)) ls) ≡ tagged d ls →
          cond b (play.Board who bs ∷ tagged d (map (reline (turn w f)) ls)) (tagged d (map (reline (turn w f)) ls)) ≡ cond b (play.Board who bs ∷ tagged d ls) (tagged d ls)
      go true e = ap (λ l. play.Board who bs ∷ l) e
      go false e = e

-- words that stay if those about the dealing do
pub turn_same : (w : ℕ) (f : ℕ → List ℕ → List ℕ) (i : ℕ) (ws : List (List ℕ)) → to_each (f i) (of_tag w ws) ≡ of_tag w ws → to_each (turn w f i) ws ≡ ws
unfolding to_each of_tag
turn_same w f i [] e = refl
turn_same w f i (b ∷ ws) e = go (eqb (get_or b 5 0) w) e (turn_same w f i ws)
  where
    rest : {x y : List ℕ} {xs ys : List (List ℕ)} → x ∷ xs ≡ y ∷ ys → xs ≡ ys
    rest e = cc

    head : {x y : List ℕ} {xs ys : List (List ℕ)} → x ∷ xs ≡ y ∷ ys → x ≡ y
    head e = cc

    go : (t : Bool) → to_each (f i) (cond t (b ∷ of_tag w ws) (of_tag w ws)) ≡ cond t (b ∷ of_tag w ws) (of_tag w ws) → (to_each (f i) (of_tag w ws) ≡ of_tag w ws → to_each (turn w f i) ws ≡ ws) →
        cond t (f i b) b ∷ to_each (turn w f i) ws ≡ b ∷ ws
    go true e r = ap₂ ◌∷◌ (head e) (r (rest e))
    go false e r = ap (λ l. b ∷ l) (r e)

-- WHAT A COURT SAYS, said anew
to_each_append : {W : Type 0} (f : W → W) (l k : List W) → to_each f (l ++ k) ≡ to_each f l ++ to_each f k
unfolding to_each
to_each_append f [] k = refl
to_each_append f (w ∷ l) k = ap (λ r. f w ∷ r) (to_each_append f l k)

pub turn_all : (w : ℕ) (f : ℕ → List ℕ → List ℕ) (i : ℕ) (o : Option Message) → Names w o → to_each (turn w f i) (map wire (option_to_list o)) ≡ to_each (f i) (map wire (option_to_list o))
unfolding to_each
turn_all w f i None h = refl
turn_all w f i (Some m) h = ap (λ b. b ∷ []) (turn_there w f i (wire m) (wire_tag m ∙ h m refl))

pub turn_none : (w : ℕ) (f : ℕ → List ℕ → List ℕ) (i d : ℕ) (o : Option Message) → Names d o → d ≢ w → to_each (turn w f i) (map wire (option_to_list o)) ≡ map wire (option_to_list o)
unfolding to_each
turn_none w f i d None h n = refl
turn_none w f i d (Some m) h n = ap (λ b. b ∷ []) (turn_else w f i (wire m) (λ e. n (sym (wire_tag m ∙ h m refl) ∙ e)))

pub collected_anew : (f : List ℕ → List ℕ) (n : ℕ) (g h : ℕ → Option Message) → ((d : ℕ) → d < n → to_each f (map wire (option_to_list (g d))) ≡ map wire (option_to_list (h d))) → to_each f (map wire (collected n g)) ≡ map wire (collected n h)
unfolding collected to_each
collected_anew f zero g h e = refl
collected_anew f (suc n) g h e = ap (to_each f) (map-append wire (collected n g) (option_to_list (g n))) ∙ to_each_append f (map wire (collected n g)) (map wire (option_to_list (g n)))
    ∙ ap₂ ◌++◌ (collected_anew f n g h (λ d l. e d (omega arith))) (e n (omega arith)) ∙ sym (map-append wire (collected n h) (option_to_list (h n)))

pub collected_same : (n : ℕ) (g h : ℕ → Option Message) → ((d : ℕ) → d < n → g d ≡ h d) → collected n g ≡ collected n h
unfolding collected
collected_same zero g h e = refl
collected_same (suc n) g h e = ap₂ ◌++◌ (collected_same n g h (λ d l. e d (omega arith))) (ap option_to_list (e n (omega arith)))

pub posts_same : (a b : Court) (n : ℕ) → ((d : ℕ) → d < n → map wire (collected (members a) (post_at a d)) ≡ map wire (collected (members b) (post_at b d))) → map wire (posts_up_to a n) ≡ map wire (posts_up_to b n)
unfolding posts_up_to
posts_same a b zero e = refl
posts_same a b (suc n) e = map-append wire (posts_up_to a n) (collected (members a) (post_at a n)) ∙ ap₂ ◌++◌ (posts_same a b n (λ d l. e d (omega arith))) (e n (omega arith)) ∙ sym (map-append wire (posts_up_to b n) (collected (members b) (post_at b n)))

-- nothing is said anew before the first round
pub reline_none : (f : ℕ → List ℕ → List ℕ) → ((i : ℕ) (bs : List ℕ) → f i bs ≡ bs) → (ls : List play.Line) → map (reline f) ls ≡ ls
reline_none f h [] = refl
reline_none f h (play.Mail from bs ∷ ls) = ap₂ (λ b l. play.Mail from b ∷ l) (h from bs) (reline_none f h ls)
reline_none f h (play.Board who bs ∷ ls) = ap (λ l. play.Board who bs ∷ l) (reline_none f h ls)
