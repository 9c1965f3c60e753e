-- What is drawn, number by number and row by row.
use Rattle.std.proofs.Common.{◌≡◌, ℕ, zero, suc, ◌*◌, ◌<◌, true, List, [], ◌∷◌, ◌++◌, length, take, drop, sym, refl, ap, ◌∙◌, subst, ap₂, ⊎_elim, arith, length-append, length-drop}
use mathlib.Core.List.Memᴰ
use mathlib.Core.List.{Memᴰ}
use Rattle.std.proofs.lemmas.List.{take-append-drop, length-take-le, take-append-le, drop-append-le, take_all, drop_all}
use Rattle.algebra.specs.Prime.{p}
use Rattle.algebra.specs.Polynomial.{Exact, Exact2}
use Rattle.rules.specs.Wire.{small}
use Rattle.rules.proofs.Bytes.{decides_small}
use Rattle.courts.specs.Court.{rows_from}

-- each below p
abbrev Small : List ℕ → Type 0
Small l = (c : ℕ) → Memᴰ c l → c < p

taken_small : (n : ℕ) (l : List ℕ) → Small l → Small (take n l)
taken_small n l h c k = h c (subst (λ x. Memᴰ c x) (take-append-drop n l) (Memᴰ.append_left (drop n l) k))

dropped_small : (n : ℕ) (l : List ℕ) → Small l → Small (drop n l)
dropped_small n l h c k = h c (subst (λ x. Memᴰ c x) (take-append-drop n l) (Memᴰ.append_right (take n l) k))

rows_exact_of : (low high : ℕ) (ns : List ℕ) → length ns ≡ high * low → Small ns → Exact2 p high low (rows_from low high ns)
unfolding rows_from
rows_exact_of low zero ns e h = record { count = refl; each = λ r k. elim k [ ] }
rows_exact_of low (suc high) ns e h = more (rows_exact_of low high (drop low ns) (omega (arith, length-drop low ns)) (dropped_small low ns h))
  where
    first : Exact p low (take low ns)
    first = record { count = length-take-le low ns (omega arith); small = taken_small low ns h }

    more : Exact2 p high low (rows_from low high (drop low ns)) → Exact2 p (suc high) low (take low ns ∷ rows_from low high (drop low ns))
    more x = record { count = ap suc x.count; each = each }
      where
        each : (r : List ℕ) → Memᴰ r (take low ns ∷ rows_from low high (drop low ns)) → Exact p low r
        each r (Memᴰ.head q) = subst (Exact p low) (sym q) first
        each r (Memᴰ.tail k) = x.each r k

pub rows_exact : (low high : ℕ) (ns : List ℕ) → length ns ≡ high * low → small ns ≡ true → Exact2 p high low (rows_from low high ns)
rows_exact low high ns e s = rows_exact_of low high ns e ((decides_small (length ns) ns refl).0 s).small

-- the numbers of rows, one row after the other
unfoldable pub flat : List (List ℕ) → List ℕ
flat [] = []
flat (r ∷ rs) = r ++ flat rs

module _ (low : ℕ) where
  pub flat_back : (high : ℕ) (rs : List (List ℕ)) → Exact2 p high low rs → rows_from low high (flat rs) ≡ rs
  unfolding rows_from flat
  flat_back zero [] x = refl
  flat_back zero (r ∷ rs) x = absurd (omega (arith, x.count))
  flat_back (suc high) [] x = absurd (omega (arith, x.count))
  flat_back (suc high) (r ∷ rs) x = ap₂ ◌∷◌ front (ap (rows_from low high) back ∙ flat_back high rs (record { count = omega (arith, x.count); each = λ q k. x.each q (Memᴰ.tail k) }))
    where
      e : length r ≡ low
      e = (x.each r (Memᴰ.head refl)).count

      front : take low (r ++ flat rs) ≡ r
      front = take-append-le low r (flat rs) (omega (arith, e)) ∙ take_all low r (omega (arith, e))

      back : drop low (r ++ flat rs) ≡ flat rs
      back = drop-append-le low r (flat rs) (omega (arith, e)) ∙ ap (λ l. l ++ flat rs) (drop_all low r (omega (arith, e)))

  pub flat-length : (high : ℕ) (rs : List (List ℕ)) → Exact2 p high low rs → length (flat rs) ≡ high * low
  unfolding flat
  flat-length zero [] x = omega arith
  flat-length zero (r ∷ rs) x = absurd (omega (arith, x.count))
  flat-length (suc high) [] x = absurd (omega (arith, x.count))
  flat-length (suc high) (r ∷ rs) x = omega (arith, length-append r (flat rs), (x.each r (Memᴰ.head refl)).count, flat-length high rs (record { count = omega (arith, x.count); each = λ q k. x.each q (Memᴰ.tail k) }))

  flat_below : (rs : List (List ℕ)) → ((r : List ℕ) → Memᴰ r rs → Exact p low r) → Small (flat rs)
  unfolding flat
  flat_below [] x c k = elim k [ ]
  flat_below (r ∷ rs) x c k = ⊎_elim (λ q. (x r (Memᴰ.head refl)).small c q) (λ q. flat_below rs (λ s l. x s (Memᴰ.tail l)) c q) (Memᴰ.append_cases r k)

  pub flat_small : (high : ℕ) (rs : List (List ℕ)) → Exact2 p high low rs → small (flat rs) ≡ true
  flat_small high rs x = (decides_small (length (flat rs)) (flat rs) refl).1 (record { count = refl; small = flat_below rs x.each })
