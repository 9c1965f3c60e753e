-- What is left of a polynomial in two unknowns with one set, row by row.
use Rattle.std.proofs.Common.{◌≡◌, ℕ, zero, suc, ◌+◌, ◌*◌, ◌<◌, ◌≤◌, List, [], ◌∷◌, ◌++◌, map, length, get_or, take, drop, set, sym, refl, ap, ◌∙◌, ◌≢◌, suc-mul, zero-mul, arith, length-set, length-take, length-drop, get_or-set_other}
use mathlib.Core.List.{Memᴰ}
use Rattle.std.proofs.lemmas.Nat.{mul-le}
use Rattle.std.proofs.lemmas.List.Edits.{fill_by_more}
use Rattle.std.proofs.lemmas.List.{map-set, length-map, take-map, take-append-le, drop-map, get_or-take, drop-drop, ext_get_or}
use Rattle.algebra.specs.Polynomial.{value, plus, times, set_first, set_second, Exact, Exact2}
use Rattle.algebra.specs.Prime.{p}
use Rattle.field.specs.declared.element.Element.{Element}
use Rattle.polynomial.specs.declared.types.Polynomial.{Polynomial}
use Rattle.polynomial.specs.Numbers.{numbers, cut}
use Rattle.polynomial.specs.Lists.{coeffs}
use Rattle.polynomial.proofs.Places.{length_front}

-- the rows that count
abbrev front : ℕ → List Polynomial → List (List ℕ)
front n rows = map coeffs (take n rows)

abbrev pub lens : List Polynomial → List ℕ
lens rows = map (λ (f : Polynomial). f.len) rows

length-rows : (n : ℕ) (rows : List Polynomial) → n ≤ length rows → length (front n rows) ≡ n
length-rows n rows h = omega (arith, length-map (take n rows) coeffs, length-take n rows)

-- with y set, row by row
second_map : (y : ℕ) (rows : List Polynomial) → set_second p (map coeffs rows) y ≡ map (λ r. value p (coeffs r) y) rows
unfolding set_second
second_map y [] = refl
second_map y (r ∷ rows) = ap (λ l. value p (coeffs r) y ∷ l) (second_map y rows)

-- the values of the rows in front, with anything behind them
pub across_whole : (n i y : ℕ) (rows : List Polynomial) (cs zs : List Element) → i ≡ n → n ≤ length cs → numbers (take i cs) ≡ map (λ r. value p (coeffs r) y) (take i rows) → numbers (take n (cs ++ zs)) ≡ set_second p (front n rows) y
across_whole n i y rows cs zs same le is = rw (← same, take-append-le i cs zs (omega arith), is) (sym (second_map y (take i rows)))

-- with x set, from the last row to the first: r is one row more, and h the new sum
pub down_turn : (x : ℕ) (r g m h : Polynomial) (rows : List Polynomial) → coeffs g ≡ set_first p (map coeffs rows) x → coeffs m ≡ times p x (coeffs g) → coeffs h ≡ plus p (coeffs r) (coeffs m) → coeffs h ≡ set_first p (map coeffs (r ∷ rows)) x
unfolding set_first
down_turn x r g m h rows is t s = cc

pub down_start : (x : ℕ) (g : Polynomial) → coeffs g ≡ [] → coeffs g ≡ set_first p [] x
unfolding set_first
down_start x g e = e

-- a list cut into rows
pub cut_at : {A : Type 0} (k n i : ℕ) (xs : List A) → i < k → get_or (cut k n xs) i [] ≡ take n (drop (i * n) xs)
unfolding cut
cut_at zero n i xs h = absurd (omega arith)
cut_at (suc k) n zero xs h = ap (λ m. take n (drop m xs)) (sym (zero-mul n))
cut_at (suc k) n (suc i) xs h = cut_at k n i (drop n xs) (omega arith) ∙ ap (take n) (drop-drop (i * n) n xs ∙ ap (λ m. drop m xs) (omega (arith, suc-mul i n)))

length_cut : {A : Type 0} (k n : ℕ) (xs : List A) → length (cut k n xs) ≡ k
unfolding cut
length_cut zero n xs = refl
length_cut (suc k) n xs = ap suc (length_cut k n (drop n xs))

-- the rows below i are those of the list, and the others are empty
pub record Cut (i n : ℕ) (cs : List Element) (rows : List Polynomial) : Type 0 where
  pub six : length rows ≡ 6
  pub each : (k : ℕ) → k < i → get_or (map coeffs rows) k [] ≡ numbers (take n (drop (k * n) cs))
  pub rest : (k : ℕ) → i ≤ k → get_or (map coeffs rows) k [] ≡ []

pub cut_more : (i n m : ℕ) (f : Polynomial) (cs : List Element) (rows : List Polynomial) → i < 6 → coeffs f ≡ numbers (take m (drop (i * n) cs)) → m ≡ n → Cut i n cs rows → Cut (i + 1) n cs (set rows i f)
cut_more i n m f cs rows lt is e c = record {
  six = length-set rows i f ∙ c.six;
  each = λ k h. rw (map-set coeffs rows i f, is, e) (fill_by_more (λ k. numbers (take n (drop (k * n) cs))) (map coeffs rows) i [] (omega (arith, length-map rows coeffs, c.six)) c.each k h);
  rest = λ k le. let ne : k ≢ i = omega arith in rw (map-set coeffs rows i f) (get_or-set_other (map coeffs rows) i k (coeffs f) [] ne ∙ c.rest k (omega arith));
}

-- how long the row at a place is
len_at : (rows : List Polynomial) (k : ℕ) → get_or (lens rows) k 0 ≡ length (get_or (map coeffs rows) k [])
len_at [] k = refl
len_at (f ∷ rows) zero = sym (length_front f.len f.coefficients (omega (arith, f.six, f.short)))
len_at (f ∷ rows) (suc k) = len_at rows k

pub cut_even : (i h n : ℕ) (cs : List Element) (rows : List Polynomial) → h ≤ i → length cs ≡ h * n → Cut i n cs rows → (k : ℕ) → k < h → get_or (lens rows) k 0 ≡ n
cut_even i h n cs rows le len c k lt =
    let room : (k + 1) * n ≤ h * n = mul-le (k + 1) n h n (omega arith) (omega arith) in
    len_at rows k ∙ ap length (c.each k (omega arith)) ∙ length_front n (drop (k * n) cs) (omega (arith, length-drop (k * n) cs))

pub cut_clean : (i n : ℕ) (cs : List Element) (rows : List Polynomial) → Cut i n cs rows → (k : ℕ) → i ≤ k → get_or (lens rows) k 0 ≡ 0
cut_clean i n cs rows c k le = len_at rows k ∙ ap length (c.rest k le)

pub cut_whole : (i k n : ℕ) (cs : List Element) (rows : List Polynomial) → k ≤ i → k ≤ 6 → Cut i n cs rows → front k rows ≡ cut k n (numbers cs)
cut_whole i k n cs rows le short c =
    ext_get_or [] (front k rows) (cut k n (numbers cs)) (length-rows k rows (omega (arith, c.six)) ∙ sym (length_cut k n (numbers cs)))
    (λ j lt. let less : j < k = omega (arith, length-rows k rows (omega (arith, c.six))) in
    ap (λ l. get_or l j []) (sym (take-map coeffs k rows)) ∙ get_or-take k (map coeffs rows) j [] less ∙ c.each j (omega arith) ∙
    sym (cut_at k n j (numbers cs) less ∙ ap (take n) (drop-map val (j * n) cs) ∙ take-map val n (drop (j * n) cs)))
  where
    val : Element → ℕ
    val e = e.value

-- the rows of a polynomial have the stated lengths, and all coefficients are below p
numbers_small : (cs : List Element) (c : ℕ) → Memᴰ c (numbers cs) → c < p
numbers_small [] c m = elim m [ ]
numbers_small (e ∷ cs) c (Memᴰ.head q) = rw q e.reduced
numbers_small (e ∷ cs) c (Memᴰ.tail m) = numbers_small cs c m

pub rows_exact : (n l : ℕ) (rows : List Polynomial) → n ≤ length rows → ((k : ℕ) → k < n → get_or (lens rows) k 0 ≡ l) → Exact2 p n l (front n rows)
rows_exact zero l rows h even = record { count = refl; each = λ r m. elim m [ ] }
rows_exact (suc n) l [] h even = absurd (omega arith)
rows_exact (suc n) l (f ∷ rows) h even = more (rows_exact n l rows (omega arith) (λ k lt. even (suc k) (omega arith)))
  where
    more : Exact2 p n l (front n rows) → Exact2 p (suc n) l (coeffs f ∷ front n rows)
    more x = record { count = ap suc x.count; each = each }
      where
        each : (r : List ℕ) → Memᴰ r (coeffs f ∷ front n rows) → Exact p l r
        each r (Memᴰ.head q) = rw q (record { count = length_front f.len f.coefficients (omega (arith, f.six, f.short)) ∙ even 0 (omega arith); small = numbers_small (take f.len f.coefficients) })
        each r (Memᴰ.tail m) = x.each r m
