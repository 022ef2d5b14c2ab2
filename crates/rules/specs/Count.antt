-- Counting. A reader must know: `count p xs` is how many elements of the list xs pass the test p; everything that is counted in this project (acknowledgements, votes) is counted by it.
use Rattle.std.specs.Prelude.{ℕ, suc, Bool, cond, List, [], ◌∷◌}

-- One more where the test says yes: a step of `count`.
abbrev pub one_more_if : Bool → ℕ → ℕ
one_more_if b n = cond b (suc n) n

-- How many elements of a list pass a test. For 01, Majority: "Won if yes reaches the quorum, else Pending if yes plus missing reaches it", and the paper's "a majority of matchIndex[i] ≥ N".
unfoldable pub count : {A : Type 0} → (A → Bool) → List A → ℕ
count p [] = 0
count p (x ∷ xs) = one_more_if (p x) (count p xs)

-- The same elements in another order. For what 01, Joint, says of a set: "the crate's order is its hash set's, so compare as sets".
pub data Reordered {A : Type 0} : List A → List A → Type 0 where
  none : Reordered [] []
  keep : (x : A) {xs ys : List A} → Reordered xs ys → Reordered (x ∷ xs) (x ∷ ys)
  swap : (x y : A) (xs : List A) → Reordered (x ∷ y ∷ xs) (y ∷ x ∷ xs)
  then : {xs ys zs : List A} → Reordered xs ys → Reordered ys zs → Reordered xs zs
