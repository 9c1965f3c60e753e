-- Chains over the keepers: a test that passes for some, for every one, or for so many.
use Rattle.std.proofs.Common.{◌≡◌, ℕ, zero, suc, ◌+◌, ◌≤◌, Bool, true, false, ◌&&◌, ◌||◌, cond, [], ◌∷◌, ◌++◌, refl, sym, ◌∙◌, ap, add-one, arith}
use mathlib.Core.List.{map-id}
use denote.Param.Members.{Mut, Called}
use Rattle.std.specs.Iterator.{ChecksAny, ChecksAll}
use Rattle.std.specs.List.{range_with_len, list_any, list_all}
use Rattle.std.specs.declared.ops.Range.{Range}
use Rattle.std.proofs.iter.Yields.{nat_range_steps}
use Rattle.std.proofs.lemmas.Iterator.{YieldsList-from_range}
use Rattle.std.proofs.lemmas.Iterator.Search.{any_from_yields_List, all_from_yields_List}
use Rattle.std.proofs.lemmas.List.FromFn.{map-range_with_len_more}
use Rattle.std.proofs.lemmas.List.Folds.{list_any-append, list_all-append}
use Rattle.algebra.specs.Counting.{count}
use Rattle.rules.specs.Rounds.{any, every}

-- the numbers below n + 1 are those below n, and n
range_more : (n : ℕ) → range_with_len 0 (suc n) ≡ range_with_len 0 n ++ n ∷ []
range_more n = sym (map-id (range_with_len 0 (suc n))) ∙ rw add-one at (map-range_with_len_more (λ x. x) 0 n n (omega arith)) ∙ ap (λ xs. xs ++ n ∷ []) (map-id (range_with_len 0 n))

any_list : (t : ℕ → Bool) (n : ℕ) → list_any t (range_with_len 0 n) ≡ any n t
unfolding any
any_list t zero = refl
any_list t (suc n) = ap (list_any t) (range_more n) ∙ list_any-append t (range_with_len 0 n) (n ∷ []) ∙ ap (λ b. b || (t n || false)) (any_list t n) ∙ grind arith

all_list : (t : ℕ → Bool) (n : ℕ) → list_all t (range_with_len 0 n) ≡ every n t
unfolding every
all_list t zero = refl
all_list t (suc n) = ap (list_all t) (range_more n) ∙ list_all-append t (range_with_len 0 n) (n ∷ []) ∙ ap (λ b. b && (t n && true)) (all_list t n) ∙ grind arith

pub any_keeper : {F : Type 0} {g : Mut F (ℕ × Unit {0}) Bool} {t : ℕ → Bool} {f : F} {n m : ℕ} {u : Range ℕ} {r : Bool} → ChecksAny nat_range_steps g (record { start = 0; end = n }) f r u → n ≡ m → ((x : ℕ) (b : Bool) (q : F) → Called g f (x, tt) b q → (q ≡ f) × (b ≡ t x)) → r ≡ any m t
any_keeper {t = t} {f = f} {n = n} {u = u} {r = r} ran e calls = any_from_yields_List t u f r ran (YieldsList-from_range 0 n n refl (omega arith)) calls ∙ any_list t n ∙ ap (λ k. any k t) e

pub each_keeper : {F : Type 0} {g : Mut F (ℕ × Unit {0}) Bool} {t : ℕ → Bool} {f : F} {n m : ℕ} {u : Range ℕ} {r : Bool} → ChecksAll nat_range_steps g (record { start = 0; end = n }) f r u → n ≡ m → ((x : ℕ) (b : Bool) (q : F) → Called g f (x, tt) b q → (q ≡ f) × (b ≡ t x)) → r ≡ every m t
each_keeper {t = t} {f = f} {n = n} {u = u} {r = r} ran e calls = all_from_yields_List t u f r ran (YieldsList-from_range 0 n n refl (omega arith)) calls ∙ all_list t n ∙ ap (λ k. every k t) e

-- How many of the numbers below n pass: one more, where n does.
pub count_none : (t : ℕ → Bool) → 0 ≡ count 0 t
unfolding count
count_none t = refl

pub count_yes : (n k : ℕ) (t : ℕ → Bool) → k ≡ count n t → t n ≡ true → k + 1 ≡ count (n + 1) t
unfolding count
count_yes n k t e y = rw (add-one n, y) (omega arith)

pub count_no : (n k : ℕ) (t : ℕ → Bool) → k ≡ count n t → t n ≡ false → k ≡ count (n + 1) t
unfolding count
count_no n k t e y = rw (add-one n, y) (omega arith)

count_le : (n : ℕ) (t : ℕ → Bool) → count n t ≤ n
unfolding count
count_le zero t = omega arith
count_le (suc n) t = by (t n) (count_le n t)
  where
    by : (b : Bool) → count n t ≤ n → cond b 1 0 + count n t ≤ suc n
    by true h = omega arith
    by false h = omega arith

pub count_bound : (n k : ℕ) (t : ℕ → Bool) → k ≡ count n t → k ≤ n
count_bound n k t e = omega (arith, count_le n t)
