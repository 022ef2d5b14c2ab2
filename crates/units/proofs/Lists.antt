-- Laws of lists, for elements of any type: of `listed`, of `Each`, of parts, and of runs of stores.
use mathlib.Core.Path.{◌≡◌, refl, ap, ap₂, ◌∙◌}
use mathlib.Core.List.{List, [], ◌∷◌, ◌++◌, map}
use Prim.Native.Nat.{ℕ, zero, suc, ◌+◌, ◌-◌, ◌≤◌, ◌<◌}
use native.Mathlib.Omega.{arith}
use lib.ListN.{length, get_or, set, take, drop, length-drop}
use lib.Seq.{sets, set_out, take_all}
use Rattle.units.specs.Lists.{listed, Each}

-- ---- what a function gives

module _ {A : Type 0} where
  pub length-listed : (f : ℕ → A) (k n : ℕ) → length (listed f k n) ≡ n
  unfolding listed
  length-listed f k zero = refl
  length-listed f k (suc n) = ap suc (length-listed f (k + 1) n)

  pub at_listed : (f : ℕ → A) (k n i : ℕ) (d : A) → i < n → get_or (listed f k n) i d ≡ f (k + i)
  unfolding listed
  at_listed f k zero i d h = absurd (omega arith)
  at_listed f k (suc n) zero d h = ap f (omega arith)
  at_listed f k (suc n) (suc i) d h = at_listed f (k + 1) n i d (omega arith) ∙ ap f (omega arith)

  pub same_listed : (f g : ℕ → A) (k j n : ℕ) → ((i : ℕ) → i < n → f (k + i) ≡ g (j + i)) → listed f k n ≡ listed g j n
  unfolding listed
  same_listed f g k j zero h = refl
  same_listed f g k j (suc n) h =
      ap₂ (λ (x : A) (xs : List A). x ∷ xs)
      (ap f (omega arith) ∙ h 0 (omega arith) ∙ ap g (omega arith))
      (same_listed f g (k + 1) (j + 1) n (λ i r. ap f (omega arith) ∙ h (suc i) (omega arith) ∙ ap g (omega arith)))

  pub take-listed : (f : ℕ → A) (k n j : ℕ) → j ≤ n → take j (listed f k n) ≡ listed f k j
  unfolding listed
  take-listed f k n zero h = refl
  take-listed f k zero (suc j) h = absurd (omega arith)
  take-listed f k (suc n) (suc j) h = ap (λ (xs : List A). f k ∷ xs) (take-listed f (k + 1) n j (omega arith))

  pub drop-listed : (f : ℕ → A) (k n j : ℕ) → j ≤ n → drop j (listed f k n) ≡ listed f (k + j) (n - j)
  unfolding listed
  drop-listed f k n zero h =
      let a : k ≡ k + 0 = omega arith in
      let b : n ≡ n - 0 = omega arith in
      ap₂ (listed f) a b
  drop-listed f k zero (suc j) h = absurd (omega arith)
  drop-listed f k (suc n) (suc j) h =
      let a : k + 1 + j ≡ k + suc j = omega arith in
      let b : n - j ≡ suc n - suc j = omega arith in
      drop-listed f (k + 1) n j (omega arith) ∙ ap₂ (listed f) a b

  pub append-listed : (f : ℕ → A) (k m n : ℕ) → listed f k (m + n) ≡ listed f k m ++ listed f (k + m) n
  unfolding listed
  append-listed f k zero n =
      let a : k ≡ k + 0 = omega arith in
      let b : 0 + n ≡ n = omega arith in
      ap₂ (listed f) a b
  append-listed f k (suc m) n =
      let e : suc m + n ≡ suc (m + n) = omega arith in
      ap (listed f k) e
      ∙ ap (λ (xs : List A). f k ∷ xs) (append-listed f (k + 1) m n ∙ ap (λ (x : ℕ). listed f (k + 1) m ++ listed f x n) (omega arith))

-- ---- what holds of each

module _ {A : Type 0} (P : A → Type 0) where
  pub each_append : (xs ys : List A) → Each P xs → Each P ys → Each P (xs ++ ys)
  each_append [] ys p q = q
  each_append (x ∷ xs) ys p q = (p.0, each_append xs ys p.1 q)

  pub each_take : (n : ℕ) (xs : List A) → Each P xs → Each P (take n xs)
  each_take zero xs p = tt
  each_take (suc n) [] p = tt
  each_take (suc n) (x ∷ xs) p = (p.0, each_take n xs p.1)

  pub each_drop : (n : ℕ) (xs : List A) → Each P xs → Each P (drop n xs)
  each_drop zero xs p = p
  each_drop (suc n) [] p = tt
  each_drop (suc n) (x ∷ xs) p = each_drop n xs p.1

  pub each_listed : (f : ℕ → A) (k n : ℕ) → ((i : ℕ) → i < k + n → P (f i)) → Each P (listed f k n)
  unfolding listed
  each_listed f k zero h = tt
  each_listed f k (suc n) h = (h k (omega arith), each_listed f (k + 1) n (λ i b. h i (omega arith)))

  -- by places, and back
  module _ (d : A) where
    pub each_at : (xs : List A) → Each P xs → (k : ℕ) → k < length xs → P (get_or xs k d)
    each_at [] p k h = absurd (omega arith)
    each_at (x ∷ xs) p zero h = p.0
    each_at (x ∷ xs) p (suc k) h = each_at xs p.1 k (omega arith)

    pub at_each : (xs : List A) → ((k : ℕ) → k < length xs → P (get_or xs k d)) → Each P xs
    at_each [] h = tt
    at_each (x ∷ xs) h = (h 0 (omega arith), at_each xs (λ k l. h (suc k) (omega arith)))

-- ---- parts

module _ {A : Type 0} where
  -- the part from a on, as long as what is left, runs to the end
  pub to_the_end : (l : List A) (a : ℕ) → take (length l - a) (drop a l) ≡ drop a l
  to_the_end l a = take_all (length l - a) (drop a l) (omega (arith, length-drop a l))

  pub map-set : {B : Type 0} (f : A → B) (l : List A) (i : ℕ) (y : A) → set (map f l) i (f y) ≡ map f (set l i y)
  map-set f [] i y = refl
  map-set f (x ∷ xs) zero y = refl
  map-set {B} f (x ∷ xs) (suc i) y = ap (λ (zs : List B). f x ∷ zs) (map-set f xs i y)

-- ---- runs of stores

module _ {A : Type 0} where
  pub sets_cons : (x : A) (l : List A) (i : ℕ) (vs : List A) → sets (x ∷ l) (suc i) vs ≡ x ∷ sets l i vs
  sets_cons x l i [] = refl
  sets_cons x l i (v ∷ vs) = sets_cons x (set l i v) (suc i) vs

  -- behind the end nothing is stored
  pub sets_out : (l : List A) (i : ℕ) (vs : List A) → length l ≤ i → sets l i vs ≡ l
  sets_out l i [] h = refl
  sets_out l i (v ∷ vs) h = ap (λ (x : List A). sets x (suc i) vs) (set_out l i v h) ∙ sets_out l (suc i) vs (omega arith)
