-- What never is: answers of different shapes are not equal. `cc` makes 0 ≡ 1 of such an equation in scope, and anything follows.
use Prim.Native.Nat.{ℕ}
use mathlib.Core.Path.{◌≡◌}
use native.Mathlib.Omega.{arith}

pub never : {A : Type 0} → ◌≡◌ {A = ℕ} 0 1 → A
never h = absurd (omega (arith, h))
