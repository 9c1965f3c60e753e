-- Bytes are read as a message if and only if they are its bytes and it is in range.
use Rattle.std.proofs.Common.{◌≡◌, ℕ, ◌+◌, ◌*◌, ◌^◌, ◌<◌, ◌≤◌, Bool, true, false, cond, ◌&&◌, eqb, List, [], ◌∷◌, ◌++◌, length, get_or, drop, Some, Decides, sym, refl, ap, ◌∙◌, subst, append-nil, add-zero, arith}
use Rattle.std.proofs.lemmas.List.{drop_all, length-append}
use Rattle.std.proofs.lemmas.Bool.Decides.{Decides-and, Decides-ltb, Decides-eqb, nat_tests}
use Rattle.algebra.specs.Prime.{p}
use Rattle.algebra.specs.Sharing as sharing
use Rattle.rules.specs.Message.{Message, Share, Told, Complaint, Reveal, Fine, Finished, Value}
use Rattle.rules.specs.Wire.{be4, be8, row, head, flag, wire, Fit, InRange, number4, number8, row_at, when, share_at, pair_from, small_share, small_pair, read_share, read_told, read_complaint, read_reveal, read_fine, read_finished, read_value, by_kind, parse, Bytes, ReadsWhatIsWritten}
use Rattle.rules.proofs.Bytes.{be4_back, be8_back, next, next4, next8, next_row, number8_past, row_at_past, row_back, length-be8, length-row, length-row_at, decides_small}

-- THE TESTS.
both : {x y : Bool} {P Q : Type 0} → Decides x P → Decides y Q → Decides (x && y) (P × Q)
both {x} {y} d e = Decides-and x y d e

abbrev Small : sharing.Pair → Type 0
Small a = (a.across < p) × (a.down < p)

pair_test : (a : sharing.Pair) → Decides (small_pair a) (Small a)
pair_test a = both (Decides-ltb a.across p) (Decides-ltb a.down p)

share_test : (high low : ℕ) (bs : List ℕ) (i : ℕ) → Decides (small_share (share_at high low bs i)) (Fit high low (share_at high low bs i))
share_test high low bs i = both (decides_small high (row_at bs i high) (length-row_at bs i high)) (decides_small low (row_at bs (i + 8 * high) low) (length-row_at bs (i + 8 * high) low))

-- FROM BYTES TO A MESSAGE.
next_head : (bs : List ℕ) → Bytes bs → 6 ≤ length bs → bs ≡ head (get_or bs 0 0) (number4 bs 1) (get_or bs 5 0) ++ drop 6 bs
unfolding be4
next_head bs b h =
    let e0 = next bs 0 1 refl (omega arith) in
    let e1 = next4 bs 1 b (omega arith) in
    let e2 = next bs 5 6 refl (omega arith) in
    cc

next_pair : (bs : List ℕ) (i : ℕ) → Bytes bs → length bs ≡ i + 16 → drop i bs ≡ be8 (number8 bs i) ++ be8 (number8 bs (i + 8))
next_pair bs i b h =
    let e0 = next8 bs i b (omega arith) in
    let e1 = next8 bs (i + 8) b (omega arith) in
    let e2 = drop_all (i + 8 + 8) bs (omega arith) in
    let e3 = append-nil (be8 (number8 bs (i + 8))) in
    cc

next_share : (high low : ℕ) (bs : List ℕ) (i : ℕ) → Bytes bs → length bs ≡ i + 8 * (high + low) → drop i bs ≡ row (row_at bs i high) ++ row (row_at bs (i + 8 * high) low)
next_share high low bs i b h =
    let e0 = next_row bs i high b (omega arith) in
    let e1 = next_row bs (i + 8 * high) low b (omega arith) in
    let e2 = drop_all (i + 8 * high + 8 * low) bs (omega arith) in
    let e3 = append-nil (row (row_at bs (i + 8 * high) low)) in
    cc

night_fits : (bs : List ℕ) → Bytes bs → number4 bs 1 < 2 ^ 32
unfolding number4
night_fits bs b = omega (arith, b 1, b 2, b 3, b 4)

flag_of : (x : ℕ) → x < 2 → flag (eqb x 1) ≡ x
flag_of x h = grind (arith, nat_tests)

-- what a test that passed says of the message
through : {b : Bool} {T : Type 0} {a m : Message} (P : Message → Type 0) → Decides b T → when b a ≡ Some m → (T → P a) → P m
through {b} {T} {a} {m} P d e f = go b d e
  where
    go : (b : Bool) → Decides b T → when b a ≡ Some m → P m
    go true d e = subst P (cc) (f (d.0 refl))
    go false d e = absurd (grind arith)

pick : {A : Type 0} {x y z : A} {b : Bool} {T P : Type 0} → Decides b T → (T → x ≡ z → P) → (y ≡ z → P) → cond b x y ≡ z → P
pick {A} {x} {y} {z} {b} {T} {P} d f g = go b d
  where
    go : (b : Bool) → Decides b T → cond b x y ≡ z → P
    go true d e = f (d.0 refl) e
    go false d e = g e

module _ (n high low : ℕ) (bs : List ℕ) (b : Bytes bs) (long : 6 ≤ length bs) (dealt : get_or bs 5 0 < n) where
  abbrev Reads : Message → Type 0
  Reads m = (bs ≡ wire m) × InRange n high low m

  abbrev night : ℕ
  night = number4 bs 1

  abbrev dealer : ℕ
  dealer = get_or bs 5 0

  front : (kind : ℕ) → get_or bs 0 0 ≡ kind → bs ≡ head kind night dealer ++ drop 6 bs
  front kind k = next_head bs b long ∙ ap (λ x. head x night dealer ++ drop 6 bs) k

  as_share : (m : Message) → get_or bs 0 0 ≡ 1 → read_share high low bs night dealer ≡ Some m → Reads m
  as_share m k e =
      through Reads (both (Decides-eqb (length bs) (6 + 8 * (high + low))) (share_test high low bs 6)) e
      (λ t. let rest = next_share high low bs 6 b t.0 in (cc (front 1 k), (night_fits bs b, dealt, t.1)))

  as_told : (m : Message) → get_or bs 0 0 ≡ 2 → read_told bs night dealer ≡ Some m → Reads m
  as_told m k e =
      through Reads (both (Decides-eqb (length bs) 22) (pair_test (pair_from bs 6))) e
      (λ t. let rest = next_pair bs 6 b t.0 in (cc (front 2 k), (night_fits bs b, dealt, t.1.0, t.1.1)))

  as_complaint : (m : Message) → get_or bs 0 0 ≡ 3 → read_complaint n bs night dealer ≡ Some m → Reads m
  as_complaint m k e =
      through Reads (both (Decides-eqb (length bs) 24) (both (Decides-ltb (get_or bs 6 0) n) (both (Decides-ltb (get_or bs 7 0) n) (pair_test (pair_from bs 8))))) e
      (λ t. let by = next bs 6 7 refl (omega (arith, t.0)) in
      let about = next bs 7 8 refl (omega (arith, t.0)) in
      let rest = next_pair bs 8 b t.0 in
      (cc (front 3 k), (night_fits bs b, dealt, t.1.0, t.1.1.0, t.1.1.1.0, t.1.1.1.1)))

  as_reveal : (m : Message) → get_or bs 0 0 ≡ 4 → read_reveal n high low bs night dealer ≡ Some m → Reads m
  as_reveal m k e =
      through Reads (both (Decides-eqb (length bs) (7 + 8 * (high + low))) (both (Decides-ltb (get_or bs 6 0) n) (share_test high low bs 7))) e
      (λ t. let keeper = next bs 6 7 refl (omega (arith, t.0)) in
      let rest = next_share high low bs 7 b t.0 in
      (cc (front 4 k), (night_fits bs b, dealt, t.1.0, t.1.1)))

  as_fine : (m : Message) → get_or bs 0 0 ≡ 5 → read_fine n bs night dealer ≡ Some m → Reads m
  as_fine m k e =
      through Reads (both (Decides-eqb (length bs) 8) (both (Decides-ltb (get_or bs 6 0) n) (Decides-ltb (get_or bs 7 0) 2))) e
      (λ t. let keeper = next bs 6 7 refl (omega (arith, t.0)) in
      let word = next bs 7 8 refl (omega (arith, t.0)) in
      let rest = drop_all 8 bs (omega (arith, t.0)) in
      (cc (front 5 k, flag_of (get_or bs 7 0) t.1.1), (night_fits bs b, dealt, t.1.0)))

  as_finished : (m : Message) → get_or bs 0 0 ≡ 6 → read_finished n bs night dealer ≡ Some m → Reads m
  as_finished m k e =
      through Reads (both (Decides-eqb (length bs) 7) (both (Decides-eqb dealer 0) (Decides-ltb (get_or bs 6 0) n))) e
      (λ t. let keeper = next bs 6 7 refl (omega (arith, t.0)) in
      let rest = drop_all 7 bs (omega (arith, t.0)) in
      (cc (front 6 k), (night_fits bs b, dealt, t.1.0, t.1.1)))

  as_value : (m : Message) → get_or bs 0 0 ≡ 7 → read_value n bs night dealer ≡ Some m → Reads m
  as_value m k e =
      through Reads (both (Decides-eqb (length bs) 15) (both (Decides-eqb dealer 0) (both (Decides-ltb (get_or bs 6 0) n) (Decides-ltb (number8 bs 7) p)))) e
      (λ t. let keeper = next bs 6 7 refl (omega (arith, t.0)) in
      let value = next8 bs 7 b (omega (arith, t.0)) in
      let rest = drop_all 15 bs (omega (arith, t.0)) in
      (cc (front 7 k, append-nil (be8 (number8 bs 7))), (night_fits bs b, dealt, t.1.0, t.1.1.0, t.1.1.1)))

  by_kind_lem : (m : Message) → by_kind n high low bs (get_or bs 0 0) night dealer ≡ Some m → Reads m
  by_kind_lem m =
      pick (Decides-eqb (get_or bs 0 0) 1) (as_share m) (pick (Decides-eqb (get_or bs 0 0) 2) (as_told m) (pick (Decides-eqb (get_or bs 0 0) 3) (as_complaint m)
      (pick (Decides-eqb (get_or bs 0 0) 4) (as_reveal m) (pick (Decides-eqb (get_or bs 0 0) 5) (as_fine m) (pick (Decides-eqb (get_or bs 0 0) 6) (as_finished m)
      (pick (Decides-eqb (get_or bs 0 0) 7) (as_value m) (λ e. absurd (grind arith))))))))

-- FROM A MESSAGE TO ITS BYTES.
-- what stands behind a front of i bytes
number_back : (pre ys : List ℕ) (i x : ℕ) → length pre ≡ i → x < p → number8 (pre ++ (be8 x ++ ys)) i ≡ x
number_back pre ys i x e h = ap (number8 (pre ++ (be8 x ++ ys))) (sym (add-zero i)) ∙ number8_past pre (be8 x ++ ys) i 0 e ∙ be8_back x ys (omega arith)

last_back : (pre : List ℕ) (i x : ℕ) → length pre ≡ i → x < p → number8 (pre ++ be8 x) i ≡ x
last_back pre i x e h = ap (λ l. number8 (pre ++ l) i) (sym (append-nil (be8 x))) ∙ number_back pre [] i x e h

pair_back : (pre : List ℕ) (i : ℕ) (a : sharing.Pair) → length pre ≡ i → Small a → pair_from (pre ++ (be8 a.across ++ be8 a.down)) i ≡ a
pair_back pre i a e h =
    let made : ℕ → ℕ → sharing.Pair = λ u v. record { across = u; down = v } in
    let bs : List ℕ = pre ++ (be8 a.across ++ be8 a.down) in
    let e0 : number8 bs i ≡ a.across = number_back pre (be8 a.down) i a.across e h.0 in
    let e1 : number8 bs (i + 8) ≡ a.down =
    number8_past pre (be8 a.across ++ be8 a.down) i 8 e ∙ last_back (be8 a.across) 8 a.down (length-be8 a.across) h.1 in
    ap (λ u. made u (number8 bs (i + 8))) e0 ∙ ap (made a.across) e1

share_back : (pre : List ℕ) (i high low : ℕ) (x : sharing.Share) → length pre ≡ i → Fit high low x → share_at high low (pre ++ (row x.across ++ row x.down)) i ≡ x
share_back pre i high low x e h =
    let made : List ℕ → List ℕ → sharing.Share = λ u v. record { across = u; down = v } in
    let a : List ℕ = row x.across in
    let d : List ℕ = row x.down in
    let bs : List ℕ = pre ++ (a ++ d) in
    let e0 : row_at bs i high ≡ x.across = ap (λ j. row_at bs j high) (sym (add-zero i)) ∙ row_at_past pre (a ++ d) i 0 high e ∙ row_back x.across d high h.0 in
    let e1 : row_at (a ++ d) (8 * high) low ≡ x.down =
    ap (λ j. row_at (a ++ d) j low) (sym (add-zero (8 * high))) ∙ row_at_past a d (8 * high) 0 low (omega (arith, length-row x.across, h.0.count)) ∙
    ap (λ l. row_at l 0 low) (sym (append-nil d)) ∙ row_back x.down [] low h.1 in
    ap (λ u. made u (row_at bs (i + 8 * high) low)) e0 ∙ ap (made x.across) (row_at_past pre (a ++ d) i (8 * high) low e ∙ e1)

length-share : (pre : List ℕ) (i high low : ℕ) (x : sharing.Share) → length pre ≡ i → Fit high low x → length (pre ++ (row x.across ++ row x.down)) ≡ i + 8 * (high + low)
length-share pre i high low x e h =
    omega (arith, length-append pre (row x.across ++ row x.down), length-append (row x.across) (row x.down), length-row x.across, length-row x.down, h.0.count, h.1.count)

parse_head : (n high low kind night dealer : ℕ) (rest : List ℕ) → night < 2 ^ 32 → dealer < n →
    parse n high low (head kind night dealer ++ rest) ≡ by_kind n high low (head kind night dealer ++ rest) kind night dealer
unfolding parse number4 be4
parse_head n high low kind night dealer rest h lt =
    let bs : List ℕ = head kind night dealer ++ rest in
    rw ((both (Decides-ltb 5 (length bs)) (Decides-ltb dealer n)).1 (omega arith, lt), be4_back night (dealer ∷ rest) h)

flag_back : (x : Bool) → (flag x < 2) × (eqb (flag x) 1 ≡ x)
flag_back true = (omega arith, refl)
flag_back false = (omega arith, refl)

passes : {b : Bool} {T : Type 0} {a m : Message} → Decides b T → T → a ≡ m → when b a ≡ Some m
passes d t e = rw (d.1 t) (ap Some e)

wire_parses : (n high low : ℕ) (m : Message) → InRange n high low m → parse n high low (wire m) ≡ Some m
unfolding be4 be8
wire_parses n high low (Share night dealer x) w =
    let is = share_back (head 1 night dealer) 6 high low x refl w.2 in
    let long = length-share (head 1 night dealer) 6 high low x refl w.2 in
    parse_head n high low 1 night dealer _ w.0 w.1 ∙
    passes (both (Decides-eqb _ _) (share_test high low _ 6)) (long, subst (Fit high low) (sym is) w.2) (ap (Share night dealer) is)
wire_parses n high low (Told night dealer a) w =
    let is = pair_back (head 2 night dealer) 6 a refl (w.2, w.3) in
    parse_head n high low 2 night dealer _ w.0 w.1 ∙
    passes (both (Decides-eqb 22 22) (pair_test _)) (refl, subst Small (sym is) (w.2, w.3)) (ap (Told night dealer) is)
wire_parses n high low (Complaint night dealer by about a) w =
    let is = pair_back (head 3 night dealer ++ (by ∷ about ∷ [])) 8 a refl (w.4, w.5) in
    parse_head n high low 3 night dealer _ w.0 w.1 ∙
    passes (both (Decides-eqb 24 24) (both (Decides-ltb by n) (both (Decides-ltb about n) (pair_test _)))) (refl, (w.2, (w.3, subst Small (sym is) (w.4, w.5)))) (ap (Complaint night dealer by about) is)
wire_parses n high low (Reveal night dealer keeper x) w =
    let is = share_back (head 4 night dealer ++ (keeper ∷ [])) 7 high low x refl w.3 in
    let long = length-share (head 4 night dealer ++ (keeper ∷ [])) 7 high low x refl w.3 in
    parse_head n high low 4 night dealer _ w.0 w.1 ∙
    passes (both (Decides-eqb _ _) (both (Decides-ltb keeper n) (share_test high low _ 7))) (long, (w.2, subst (Fit high low) (sym is) w.3)) (ap (Reveal night dealer keeper) is)
wire_parses n high low (Fine night dealer keeper b) w =
    parse_head n high low 5 night dealer _ w.0 w.1 ∙
    passes (both (Decides-eqb 8 8) (both (Decides-ltb keeper n) (Decides-ltb (flag b) 2))) (refl, (w.2, (flag_back b).0)) (ap (Fine night dealer keeper) (flag_back b).1)
wire_parses n high low (Finished night dealer keeper) w =
    parse_head n high low 6 night dealer _ w.0 w.1 ∙
    passes (both (Decides-eqb 7 7) (both (Decides-eqb dealer 0) (Decides-ltb keeper n))) (refl, (w.2, w.3)) refl
wire_parses n high low (Value night dealer keeper v) w =
    let is = last_back (head 7 night dealer ++ (keeper ∷ [])) 7 v refl w.4 in
    parse_head n high low 7 night dealer _ w.0 w.1 ∙
    passes (both (Decides-eqb 15 15) (both (Decides-eqb dealer 0) (both (Decides-ltb keeper n) (Decides-ltb _ p)))) (refl, (w.2, (w.3, subst (λ x. x < p) (sym is) w.4))) (ap (Value night dealer keeper) is)

-- THE THEOREM.
pub parse-wire : (n high low : ℕ) → n < 256 → (m : Message) → InRange n high low m → parse n high low (wire m) ≡ Some m
parse-wire n high low h = wire_parses n high low

pub wire-parse : (n high low : ℕ) (bs : List ℕ) → Bytes bs → (m : Message) → parse n high low bs ≡ Some m → (bs ≡ wire m) × InRange n high low m
unfolding parse
wire-parse n high low bs b m =
    pick (both (Decides-ltb 5 (length bs)) (Decides-ltb (get_or bs 5 0) n)) (λ t. by_kind_lem n high low bs b t.0 t.1 m) (λ e. absurd (grind arith))

pub reads_what_is_written_lem : ReadsWhatIsWritten
reads_what_is_written_lem n high low h bs b m = (wire-parse n high low bs b m, λ w. ap (parse n high low) w.0 ∙ parse-wire n high low h m w.1)
