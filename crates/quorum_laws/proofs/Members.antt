-- Laws of standing in a list: in lists joined, put in order or reordered.
use Prim.Native.Nat.{ℕ, suc}
use mathlib.Core.Path.{◌≡◌, refl, sym, ap, ◌∙◌}
use mathlib.Core.Bool.{Bool, true, false, not, ◌&&◌, ◌||◌, or_assoc}
use mathlib.Core.List.{List, [], ◌∷◌, ◌++◌}
use native.Mathlib.Omega.{arith}
use lib.Dec.{eqb, ltb}
use borrow.Author.Tests.{lt-ltb, eqb-true, eqb-false, eq-eqb, ne_eqb}
use Rattle.rules.specs.Count.{one_more_if, count, Reordered, none, keep, swap, then}
use Rattle.rules.specs.Majority.{falling}
use Rattle.rules.proofs.Count.{count_reordered}
use Rattle.rules.proofs.Majority.{count_falling}
use Rattle.quorum.specs.Ids.{has, distinct}
use Rattle.quorum.proofs.IdLaws.{has_none, has_cons}

-- Whether an id stands in a list is whether it is counted there, which no order changes.
unfoldable times : ℕ → List ℕ → ℕ
times id xs = count (λ x. eqb x id) xs

some_more : (b : Bool) (n : ℕ) → b || ltb 0 n ≡ ltb 0 (one_more_if b n)
some_more true n = sym (lt-ltb 0 (suc n) (omega arith))
some_more false n = refl

has_times : (id : ℕ) (xs : List ℕ) → has id xs ≡ ltb 0 (times id xs)
unfolding times count
has_times id [] = has_none id
has_times id (x ∷ xs) = has_cons id x xs ∙ ap (λ (b : Bool). eqb x id || b) (has_times id xs) ∙ some_more (eqb x id) (times id xs)

pub has_falling : (id : ℕ) (xs : List ℕ) → has id (falling xs) ≡ has id xs
unfolding times
has_falling id xs = has_times id (falling xs) ∙ ap (ltb 0) (count_falling (λ x. eqb x id) xs) ∙ sym (has_times id xs)

has_reordered : (id : ℕ) {xs ys : List ℕ} → Reordered xs ys → has id xs ≡ has id ys
unfolding times
has_reordered id {xs} {ys} r = has_times id xs ∙ ap (ltb 0) (count_reordered (λ x. eqb x id) r) ∙ sym (has_times id ys)

pub has_append : (id : ℕ) (xs ys : List ℕ) → has id (xs ++ ys) ≡ has id xs || has id ys
has_append id [] ys = rw (has_none id)
has_append id (x ∷ xs) ys = has_cons id x (xs ++ ys) ∙ ap (λ (b : Bool). eqb x id || b) (has_append id xs ys) ∙ sym (or_assoc (eqb x id) (has id xs) (has id ys)) ∙ ap (λ (b : Bool). b || has id ys) (sym (has_cons id x xs))

-- That none stands twice doesn't depend on the order either.
eqb_swap : (a b : ℕ) → eqb a b ≡ eqb b a
eqb_swap a b = at (eqb b a) refl
  where
    at : (t : Bool) → eqb b a ≡ t → eqb a b ≡ t
    at true e = eq-eqb a b (sym (eqb-true b a e))
    at false e = ne_eqb a b (λ q. eqb-false b a e (sym q))

swap_tests : (e a b d : Bool) → not (e || a) && (not b && d) ≡ not (e || b) && (not a && d)
swap_tests true a b d = refl
swap_tests false true true d = refl
swap_tests false true false d = refl
swap_tests false false true d = refl
swap_tests false false false d = refl

pub distinct_reordered : {xs ys : List ℕ} → Reordered xs ys → distinct xs ≡ distinct ys
unfolding distinct
distinct_reordered none = refl
distinct_reordered (keep x r) = rw (has_reordered x r, distinct_reordered r)
distinct_reordered (swap x y xs) = rw (has_cons x y xs, has_cons y x xs, eqb_swap y x) (swap_tests (eqb x y) (has x xs) (has y xs) (distinct xs))
distinct_reordered (then r s) = distinct_reordered r ∙ distinct_reordered s
