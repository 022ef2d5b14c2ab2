-- What a call leaves, by the length of a slice that it is lent: the two ends of each test. And that a refusal's result is never 0.
use mathlib.Core.Path.{◌≡◌, refl, subst, ◌∙◌}
use mathlib.Core.List.{List}
use mathlib.Core.Logic.{⊎_elim}
use Prim.Native.Nat.{ℕ, ◌≤◌, ◌<◌}
use lib.ListN.{length}
use native.Mathlib.Omega.{arith}
use borrow.Author.Tests.{lt-ltb, le-ltb}
use Rattle.units.specs.Refusals.{number_of}
use Rattle.units.specs.declared.refusal.Refusal.{Refusal}
use Rattle.units.specs.declared.refusal.Refusal.TheVariants as refusal
use Rattle.units.proofs.Numbers.{below_or_not}
use Rattle.exports.specs.Words.{Outcome, leaves, unless_short}

-- No refusal's number is 0.
pub nonzero : (r : Refusal) → 0 < number_of r
nonzero r = grind arith

module _ (slice : List ℕ) (words : ℕ) (slices : List (List ℕ)) (out : Outcome) where
  pub short : length slice < words → leaves (number_of refusal.BrokenState) slices ≡ unless_short slice words slices out
  unfolding unless_short
  short h = simp (lt-ltb _ _ h)

  pub long : {is : Outcome} → words ≤ length slice → is ≡ out → is ≡ unless_short slice words slices out
  unfolding unless_short
  long h e = e ∙ simp (le-ltb _ _ h)

  -- What holds of the refusal and, where the slice is long enough, of the call's own outcome.
  pub by_length : (P : Outcome → Type 0) → P (leaves (number_of refusal.BrokenState) slices) → (words ≤ length slice → P out) → P (unless_short slice words slices out)
  by_length P p q = ⊎_elim (λ h. subst P (short h) p) (λ h. subst P (long h refl) (q h)) (below_or_not (length slice) words)
