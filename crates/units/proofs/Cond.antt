-- What follows of an answer that goes by a test: `cond b x y` is x where the test says yes, else y. Said once, for every type of answer.
use mathlib.Core.Path.{◌≡◌, refl}
use mathlib.Core.Bool.{Bool, true, false, cond}

module _ {A : Type 0} where
  -- What holds of either end, by what the test then says, holds of the answer.
  pub either_end : (P : A → Type 0) (b : Bool) {x y : A} → (b ≡ true → P x) → (b ≡ false → P y) → P (cond b x y)
  either_end P true p q = p refl
  either_end P false p q = q refl

  -- So does what holds of both.
  pub both_ends : (P : A → Type 0) (b : Bool) {x y : A} → P x → P y → P (cond b x y)
  both_ends P b p q = either_end P b (λ _. p) (λ _. q)

  -- An answer that is not the first end is the second, and the test says no.
  pub past : (b : Bool) {x y z : A} → (x ≡ z → ⊥) → cond b x y ≡ z → (b ≡ false) × (y ≡ z)
  past true other h = absurd (other h)
  past false other h = (refl, h)

  -- An answer that is not the second end is the first, and the test says yes.
  pub taken : (b : Bool) {x y z : A} → (y ≡ z → ⊥) → cond b x y ≡ z → (b ≡ true) × (x ≡ z)
  taken true other h = (refl, h)
  taken false other h = absurd (other h)
