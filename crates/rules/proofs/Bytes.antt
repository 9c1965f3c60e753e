-- Numbers and rows of numbers as bytes, and back.
use Rattle.std.proofs.Common.{◌≡◌, ℕ, zero, suc, ◌+◌, ◌*◌, ◌/◌, ◌%◌, ◌^◌, ◌<◌, ◌≤◌, ◌&&◌, ltb, List, [], ◌∷◌, ◌++◌, length, get_or, drop, Decides, sym, refl, ap, ◌∙◌, append_assoc, add-zero, add_assoc, arith}
use mathlib.Core.List.{Memᴰ}
use native.Mathlib.Nat.{div-div-eq-div-mul}
use Rattle.std.proofs.lemmas.List.{drop_more, get_or-append-add, length-append}
use Rattle.std.proofs.lemmas.Bool.Decides.{Decides-and, Decides-ltb, Decides-like}
use Rattle.algebra.specs.Prime.{p}
use Rattle.algebra.specs.Polynomial.{Exact}
use Rattle.rules.specs.Wire.{be4, be8, row, number4, number8, row_at, small, Bytes}

-- A number is read back from its bytes.
pub be4_back : (x : ℕ) (ys : List ℕ) → x < 2 ^ 32 → number4 (be4 x ++ ys) 0 ≡ x
unfolding number4 be4
be4_back x ys h =
    let e1 : x / 65536 ≡ x / 256 / 256 = sym (div-div-eq-div-mul x 256 256) in
    let e2 : x / 16777216 ≡ x / 65536 / 256 = sym (div-div-eq-div-mul x 65536 256) in
    rw (e2, e1) (omega arith)

pub be8_back : (x : ℕ) (ys : List ℕ) → x < 2 ^ 64 → number8 (be8 x ++ ys) 0 ≡ x
unfolding number8 be8
be8_back x ys h =
    let e1 : x / 65536 ≡ x / 256 / 256 = sym (div-div-eq-div-mul x 256 256) in
    let e2 : x / 16777216 ≡ x / 65536 / 256 = sym (div-div-eq-div-mul x 65536 256) in
    let e3 : x / 4294967296 ≡ x / 16777216 / 256 = sym (div-div-eq-div-mul x 16777216 256) in
    let e4 : x / 1099511627776 ≡ x / 4294967296 / 256 = sym (div-div-eq-div-mul x 4294967296 256) in
    let e5 : x / 281474976710656 ≡ x / 1099511627776 / 256 = sym (div-div-eq-div-mul x 1099511627776 256) in
    let e6 : x / 72057594037927936 ≡ x / 281474976710656 / 256 = sym (div-div-eq-div-mul x 281474976710656 256) in
    rw (e6, e5, e4, e3, e2, e1) (omega arith)

-- Bytes are those of the number that they make.
be4_of : (x a b c d : ℕ) → x ≡ a * 16777216 + b * 65536 + c * 256 + d → a < 256 → b < 256 → c < 256 → d < 256 → be4 x ≡ a ∷ b ∷ c ∷ d ∷ []
unfolding be4
be4_of x a b c d is ha hb hc hd =
    let e0 : x / 16777216 % 256 ≡ a = omega arith in
    let e1 : x / 65536 % 256 ≡ b = omega arith in
    let e2 : x / 256 % 256 ≡ c = omega arith in
    let e3 : x % 256 ≡ d = omega arith in
    cc

be8_of : (x a b c d e f g h : ℕ) → x ≡ a * 72057594037927936 + b * 281474976710656 + c * 1099511627776 + d * 4294967296 + e * 16777216 + f * 65536 + g * 256 + h →
    a < 256 → b < 256 → c < 256 → d < 256 → e < 256 → f < 256 → g < 256 → h < 256 → be8 x ≡ a ∷ b ∷ c ∷ d ∷ e ∷ f ∷ g ∷ h ∷ []
unfolding be8
be8_of x a b c d e f g h is ha hb hc hd he hf hg hh =
    let e0 : x / 72057594037927936 % 256 ≡ a = omega arith in
    let e1 : x / 281474976710656 % 256 ≡ b = omega arith in
    let e2 : x / 1099511627776 % 256 ≡ c = omega arith in
    let e3 : x / 4294967296 % 256 ≡ d = omega arith in
    let e4 : x / 16777216 % 256 ≡ e = omega arith in
    let e5 : x / 65536 % 256 ≡ f = omega arith in
    let e6 : x / 256 % 256 ≡ g = omega arith in
    let e7 : x % 256 ≡ h = omega arith in
    cc

-- What stands at a place is a byte and the rest,
pub next : (bs : List ℕ) (i j : ℕ) → j ≡ i + 1 → i < length bs → drop i bs ≡ get_or bs i 0 ∷ drop j bs
next bs i j e h = rw e (drop_more bs i 0 h)

-- a number and the rest,
pub next4 : (bs : List ℕ) (i : ℕ) → Bytes bs → i + 4 ≤ length bs → drop i bs ≡ be4 (number4 bs i) ++ drop (i + 4) bs
unfolding number4
next4 bs i b h =
    let e0 = next bs i (i + 1) refl (omega arith) in
    let e1 = next bs (i + 1) (i + 2) (omega arith) (omega arith) in
    let e2 = next bs (i + 2) (i + 3) (omega arith) (omega arith) in
    let e3 = next bs (i + 3) (i + 4) (omega arith) (omega arith) in
    rw (be4_of (number4 bs i) _ _ _ _ refl (b i) (b (i + 1)) (b (i + 2)) (b (i + 3))) (cc)

pub next8 : (bs : List ℕ) (i : ℕ) → Bytes bs → i + 8 ≤ length bs → drop i bs ≡ be8 (number8 bs i) ++ drop (i + 8) bs
unfolding number8
next8 bs i b h =
    let e0 = next bs i (i + 1) refl (omega arith) in
    let e1 = next bs (i + 1) (i + 2) (omega arith) (omega arith) in
    let e2 = next bs (i + 2) (i + 3) (omega arith) (omega arith) in
    let e3 = next bs (i + 3) (i + 4) (omega arith) (omega arith) in
    let e4 = next bs (i + 4) (i + 5) (omega arith) (omega arith) in
    let e5 = next bs (i + 5) (i + 6) (omega arith) (omega arith) in
    let e6 = next bs (i + 6) (i + 7) (omega arith) (omega arith) in
    let e7 = next bs (i + 7) (i + 8) (omega arith) (omega arith) in
    rw (be8_of (number8 bs i) _ _ _ _ _ _ _ _ refl (b i) (b (i + 1)) (b (i + 2)) (b (i + 3)) (b (i + 4)) (b (i + 5)) (b (i + 6)) (b (i + 7))) (cc)

-- or a row and the rest.
pub next_row : (bs : List ℕ) (i k : ℕ) → Bytes bs → i + 8 * k ≤ length bs → drop i bs ≡ row (row_at bs i k) ++ drop (i + 8 * k) bs
unfolding row row_at
next_row bs i zero b h = sym (ap (λ j. drop j bs) (add-zero i))
next_row bs i (suc k) b h =
    let there : i + 8 * suc k ≡ i + 8 + 8 * k = omega arith in
    rw (there, append_assoc) (next8 bs i b (omega arith) ∙ ap (λ l. be8 (number8 bs i) ++ l) (next_row bs (i + 8) k b (omega arith)))

pub length-be8 : (x : ℕ) → length (be8 x) ≡ 8
unfolding be8
length-be8 x = refl

-- What stands behind a front.
pub number8_past : (pre bs : List ℕ) (n j : ℕ) → length pre ≡ n → number8 (pre ++ bs) (n + j) ≡ number8 bs j
unfolding number8
number8_past pre bs n j e = rw (← e) (simp (add_assoc, get_or-append-add))

pub row_at_past : (pre bs : List ℕ) (n j k : ℕ) → length pre ≡ n → row_at (pre ++ bs) (n + j) k ≡ row_at bs j k
unfolding row_at
row_at_past pre bs n j zero e = refl
row_at_past pre bs n j (suc k) e =
    let there : n + j + 8 ≡ n + (j + 8) = omega arith in
    let x = number8_past pre bs n j e in
    let xs = row_at_past pre bs n (j + 8) k e in
    rw there (cc)

-- A row is read back from its bytes.
pub row_back : (xs ys : List ℕ) (n : ℕ) → Exact p n xs → row_at (row xs ++ ys) 0 n ≡ xs
unfolding row row_at
row_back xs ys n h = rw (← h.count) (go xs h.small)
  where
    go : (xs : List ℕ) → ((c : ℕ) → Memᴰ c xs → c < p) → row_at (row xs ++ ys) 0 (length xs) ≡ xs
    go [] h = refl
    go (x ∷ xs) h =
        let rest = go xs (λ c m. h c (Memᴰ.tail m)) in
        let first = be8_back x (row xs ++ ys) (omega (arith, h x (Memᴰ.head refl))) in
        let past = row_at_past (be8 x) (row xs ++ ys) 8 0 (length xs) (length-be8 x) in
        ap (λ l. row_at l 0 (suc (length xs))) (append_assoc (be8 x) (row xs) ys) ∙ (cc)

-- How long it is.
pub length-row : (xs : List ℕ) → length (row xs) ≡ 8 * length xs
unfolding row
length-row [] = refl
length-row (x ∷ xs) = omega (arith, length-append (be8 x) (row xs), length-be8 x, length-row xs)

pub length-row_at : (bs : List ℕ) (i k : ℕ) → length (row_at bs i k) ≡ k
unfolding row_at
length-row_at bs i zero = refl
length-row_at bs i (suc k) = ap suc (length-row_at bs (i + 8) k)

-- The test of a row.
pub decides_small : (n : ℕ) (xs : List ℕ) → length xs ≡ n → Decides (small xs) (Exact p n xs)
unfolding small
decides_small n xs e = Decides-like (small xs) (λ h. record { count = e; small = h }) (λ h. h.small) (go xs)
  where
    go : (xs : List ℕ) → Decides (small xs) ((c : ℕ) → Memᴰ c xs → c < p)
    go [] = (λ _ c m. elim m [ ], λ _. refl)
    go (x ∷ xs) = Decides-like (ltb x p && small xs) one all (Decides-and (ltb x p) (small xs) (Decides-ltb x p) (go xs))
      where
        one : (x < p) × ((c : ℕ) → Memᴰ c xs → c < p) → (c : ℕ) → Memᴰ c (x ∷ xs) → c < p
        one h c (Memᴰ.head e) = rw e h.0
        one h c (Memᴰ.tail m) = h.1 c m

        all : ((c : ℕ) → Memᴰ c (x ∷ xs) → c < p) → (x < p) × ((c : ℕ) → Memᴰ c xs → c < p)
        all h = (h x (Memᴰ.head refl), λ c m. h c (Memᴰ.tail m))
