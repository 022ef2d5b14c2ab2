-- Laws of counting.
use Prim.Native.Nat.{ℕ, suc, ◌≤◌}
use mathlib.Core.Path.{◌≡◌, refl, ap, ◌∙◌}
use mathlib.Core.Bool.{Bool, true, false}
use mathlib.Core.List.{List, [], ◌∷◌, map}
use native.Mathlib.Omega.{arith}
use lib.ListN.{length}
use Rattle.units.proofs.Cond.{both_ends}
use Rattle.rules.specs.Count.{one_more_if, count, Reordered, none, keep, swap, then}

pub swap_ones : (a b : Bool) (n : ℕ) → one_more_if a (one_more_if b n) ≡ one_more_if b (one_more_if a n)
swap_ones true true n = refl
swap_ones true false n = refl
swap_ones false true n = refl
swap_ones false false n = refl

pub one_at_most : (b : Bool) (n : ℕ) → one_more_if b n ≤ suc n
one_at_most b n = both_ends (λ k. k ≤ suc n) b (omega arith) (omega arith)

pub one_at_least : (b : Bool) (n : ℕ) → n ≤ one_more_if b n
one_at_least b n = both_ends (λ k. n ≤ k) b (omega arith) (omega arith)

module _ {A : Type 0} (p : A → Bool) where
  pub count_none : count p [] ≡ 0
  unfolding count
  count_none = refl

  pub count_cons : (x : A) (xs : List A) → count p (x ∷ xs) ≡ one_more_if (p x) (count p xs)
  unfolding count
  count_cons x xs = refl

  pub count_hit : (x : A) (xs : List A) → p x ≡ true → count p (x ∷ xs) ≡ suc (count p xs)
  unfolding count
  count_hit x xs e = rw e

  pub count_miss : (x : A) (xs : List A) → p x ≡ false → count p (x ∷ xs) ≡ count p xs
  unfolding count
  count_miss x xs e = rw e

  pub count_within : (xs : List A) → count p xs ≤ length xs
  unfolding count
  count_within [] = omega arith
  count_within (x ∷ xs) = omega (arith, one_at_most (p x) (count p xs), count_within xs)

  -- order doesn't matter
  pub count_reordered : {xs ys : List A} → Reordered xs ys → count p xs ≡ count p ys
  unfolding count
  count_reordered none = refl
  count_reordered (keep x r) = ap (one_more_if (p x)) (count_reordered r)
  count_reordered (swap x y xs) = swap_ones (p x) (p y) (count p xs)
  count_reordered (then r s) = count_reordered r ∙ count_reordered s

pub count_map : {A B : Type 0} (p : B → Bool) (f : A → B) (xs : List A) → count p (map f xs) ≡ count (λ x. p (f x)) xs
unfolding count
count_map p f [] = refl
count_map p f (x ∷ xs) = ap (one_more_if (p (f x))) (count_map p f xs)

-- tests that agree on every element count the same
pub count_same : {A : Type 0} (p q : A → Bool) → ((x : A) → p x ≡ q x) → (xs : List A) → count p xs ≡ count q xs
unfolding count
count_same p q e [] = refl
count_same p q e (x ∷ xs) = rw (e x) (ap (one_more_if (q x)) (count_same p q e xs))

pub length-reordered : {A : Type 0} {xs ys : List A} → Reordered xs ys → length xs ≡ length ys
length-reordered none = refl
length-reordered (keep x r) = ap suc (length-reordered r)
length-reordered (swap x y xs) = refl
length-reordered (then r s) = length-reordered r ∙ length-reordered s

pub map_reordered : {A B : Type 0} (f : A → B) {xs ys : List A} → Reordered xs ys → Reordered (map f xs) (map f ys)
map_reordered f none = none
map_reordered f (keep x r) = keep (f x) (map_reordered f r)
map_reordered f (swap x y xs) = swap (f x) (f y) (map f xs)
map_reordered f (then r s) = then (map_reordered f r) (map_reordered f s)
