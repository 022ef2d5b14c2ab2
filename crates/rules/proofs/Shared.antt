-- Two majorities of one voter set share a voter: what elections and commitment rest on (the paper, 5.2 and 5.4.3).
use Prim.Native.Nat.{ℕ, suc, ◌+◌, ◌<◌}
use mathlib.Core.Path.{◌≡◌, refl}
use mathlib.Core.Bool.{Bool, true, false}
use mathlib.Core.List.{List, [], ◌∷◌}
use native.Mathlib.Omega.{arith}
use lib.ListN.{length, get_or}
use Rattle.rules.specs.Count.{one_more_if, count}
use Rattle.rules.specs.Majority.{ByMajority}

-- A voter that passes both tests.
pub record Both {A : Type 0} (p q : A → Bool) (voters : List A) (d : A) : Type 0 where
  pub at : ℕ
  pub within : at < length voters
  pub first : p (get_or voters at d) ≡ true
  pub second : q (get_or voters at d) ≡ true

module _ {A : Type 0} (p q : A → Bool) (d : A) where
  further : (v : A) (vs : List A) → Both p q vs d → Both p q (v ∷ vs) d
  further v vs b = record { at = suc b.at; within = omega (arith, b.within); first = b.first; second = b.second }

  -- one voter: it passes both, or it adds at most one to the two counts
  shared_at : (v : A) (vs : List A) (a b : Bool) → p v ≡ a → q v ≡ b → (length vs < count p vs + count q vs → Both p q vs d)
      → suc (length vs) < one_more_if a (count p vs) + one_more_if b (count q vs) → Both p q (v ∷ vs) d
  shared_at v vs true true e f k h = record { at = 0; within = omega arith; first = e; second = f }
  shared_at v vs true false e f k h = further v vs (k (omega arith))
  shared_at v vs false true e f k h = further v vs (k (omega arith))
  shared_at v vs false false e f k h = further v vs (k (omega arith))

  -- more passes than voters: some voter passes both
  pub shared : (voters : List A) → length voters < count p voters + count q voters → Both p q voters d
  unfolding count
  shared [] h = absurd (omega arith)
  shared (v ∷ vs) h = shared_at v vs (p v) (q v) refl refl (shared vs) h

  -- THE THEOREM
  pub majorities_share : (voters : List A) → ByMajority p voters → ByMajority q voters → Both p q voters d
  majorities_share voters h g = shared voters (omega arith)
