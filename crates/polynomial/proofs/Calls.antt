-- What an array's `map` and `array::from_fn` and a `fold` from the back give, where the calls leave the closure as it was.
use Rattle.std.proofs.Common.{◌≡◌, ℕ, zero, suc, ◌+◌, ◌<◌, ◌≤◌, List, [], ◌∷◌, reverse, map, length, get_or, ap, ◌∙◌, sym, subst, arith, Bor}
use native.Mathlib.Decide.{ℕ_discrete}
use denote.Param.Members.{Mut, Called}
use Rattle.std.specs.Array.{IsFromFnResult, IsFromFnResultFrom, IsMapOf, MapsFrom}
use Rattle.std.specs.Iterator.{Drains}
use Rattle.std.specs.Iterator.Adapters.{rev_source, rev_steps}
use Rattle.std.specs.List.{FoldsTo}
use Rattle.std.specs.declared.iter.Rev.{Rev}
use Rattle.std.specs.declared.slice.Iter.{Iter}
use Rattle.std.specs.Slice.Iter.{iter_rest, iter_steps_back}
use Rattle.std.proofs.lemmas.Fn.{fold_over}
use Rattle.std.proofs.lemmas.Iterator.Adapters.{YieldsList-from_rev_slice}
use Rattle.std.proofs.lemmas.List.{get_or-map, length-map, ext_get_or, reverse-append, reverse-reverse}

module _ {F B : Type 0} (g : Mut F (ℕ × Unit {0}) B) (v : B → ℕ) (h : ℕ → ℕ) (f : F) (n : ℕ) (call : (i : ℕ) (y : B) (q : F) → i < n → Called g f (i, tt) y q → (q ≡ f) × (v y ≡ h i)) where
  made_from : (m i : ℕ) (ys : List B) → length ys ≡ n → i + m ≡ n → IsFromFnResultFrom g f ys i m → (k : ℕ) → i ≤ k → k < n → get_or (map v ys) k 0 ≡ h k
  made_from zero i ys len e c k le lt = absurd (omega arith)
  made_from (suc m) i ys len e (q, y, at, c, rest) k le lt =
      go (ℕ_discrete i k) (made_from m (i + 1) ys len (omega arith) (subst (λ j. IsFromFnResultFrom g j ys (i + 1) m) (call i y q (omega arith) c).0 rest) k)
    where
      go : Dec (i ≡ k) → (i + 1 ≤ k → k < n → get_or (map v ys) k 0 ≡ h k) → get_or (map v ys) k 0 ≡ h k
      go (yes s) later = subst (λ j. get_or (map v ys) j 0 ≡ h j) s (get_or-map v ys i y 0 (omega arith) ∙ ap v at.0 ∙ (call i y q (omega arith) c).1)
      go (no ne) later = later (omega arith) lt

  pub made_at : (ys : List B) → IsFromFnResult g f ys n → (k : ℕ) → k < n → get_or (map v ys) k 0 ≡ h k
  made_at ys c k lt = made_from n 0 ys c.long (omega arith) c.each k (omega arith) lt

module _ {F A B : Type 0} (g : Mut F (A × Unit {0}) B) (v : B → ℕ) (h : A → ℕ) (f : F) (call : (x : A) (y : B) (q : F) → Called g f (x, tt) y q → (q ≡ f) × (v y ≡ h x)) where
  mapped_from : (m i : ℕ) (xs : List A) (ys : List B) → i + m ≤ length xs → i + m ≤ length ys → MapsFrom g f xs ys i m → (k : ℕ) → i ≤ k → k < i + m → get_or (map v ys) k 0 ≡ get_or (map h xs) k 0
  mapped_from zero i xs ys hx hy c k le lt = absurd (omega arith)
  mapped_from (suc m) i xs ys hx hy (q, x, y, at, gave, c, rest) k le lt =
      go (ℕ_discrete i k) (mapped_from m (i + 1) xs ys (omega arith) (omega arith) (subst (λ j. MapsFrom g j xs ys (i + 1) m) (call x y q c).0 rest) k)
    where
      go : Dec (i ≡ k) → (i + 1 ≤ k → k < i + 1 + m → get_or (map v ys) k 0 ≡ get_or (map h xs) k 0) → get_or (map v ys) k 0 ≡ get_or (map h xs) k 0
      go (yes s) later =
          subst (λ j. get_or (map v ys) j 0 ≡ get_or (map h xs) j 0) s
          (get_or-map v ys i y 0 (omega arith) ∙ ap v gave.0 ∙ (call x y q c).1 ∙ sym (get_or-map h xs i x 0 (omega arith) ∙ ap h at.0))
      go (no ne) later = later (omega arith) (omega arith)

  pub mapped : (n : ℕ) (xs : List A) (ys : List B) → length xs ≡ n → IsMapOf g f xs ys n → map v ys ≡ map h xs
  mapped n xs ys len c =
      ext_get_or 0 (map v ys) (map h xs) (omega (arith, length-map ys v, length-map xs h, c.long))
      (λ k lt. let less : k < 0 + n = omega (arith, length-map ys v, c.long) in mapped_from n 0 xs ys (omega arith) (omega (arith, c.long)) c.each k (omega arith) less)

-- J holds of what is behind, and of the total
pub folded_back : {A C F : Type 0} (g : Mut F (C × (Bor A × Unit {0})) C) (J : List A → C → Type 0) {f : F} (call : (ys : List A) (a b : C) (x : Bor A) (q : F) → J ys a → Called g f (a, (x, tt)) b q → J (x.now ∷ ys) b × (q ≡ f)) → (s : Rev (Iter A)) (xs : List A) (a r : C) → iter_rest (rev_source s) ≡ xs → J [] a →
    (ys : List (Bor A)) × (q : F) × Drains (rev_steps iter_steps_back) s ys × FoldsTo {P = F × C} (λ p x q. Called g p.0 (p.1, (x, tt)) q.1 q.0) (f, a) ys (q, r) → J xs r
folded_back g J {f} call s xs a r is start ran =
    rw (← reverse-reverse xs)
    (fold_over (rev_steps iter_steps_back) (λ y. y.now) g (λ ys b. J (reverse ys) b) f (λ ys a x b q h k. rw reverse-append (call (reverse ys) a b x q h k)) s (reverse xs) a r (YieldsList-from_rev_slice {s = s} xs is).runs start ran)
