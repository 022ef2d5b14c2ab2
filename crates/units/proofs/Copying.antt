-- What the loop of `copy_at` keeps: once the words that are left, from the i-th on, are stored too, `to` is what it is to be.
use mathlib.Core.Path.{◌≡◌, refl, sym, ap, ◌∙◌}
use mathlib.Core.Logic.{⊎_elim}
use mathlib.Core.List.{List}
use Prim.Native.Nat.{ℕ, suc, ◌+◌, ◌≤◌, ◌<◌}
use native.Mathlib.Omega.{arith}
use native.Mathlib.Nat.{add-zero}
use native.Mathlib.Numerals.{add-one}
use lib.ListN.{length, get_or, set, drop, length-set, drop_of_length-le}
use lib.Seq.{sets, drop-cons}
use Rattle.units.proofs.Lists.{sets_out}
use Rattle.units.proofs.Numbers.{below_or_not}

pub record Copying (to₀ : List ℕ) (at : ℕ) (from to : List ℕ) (i : ℕ) : Type 0 where
  pub left : sets to (at + i) (drop i from) ≡ sets to₀ at from
  pub long : length to ≡ length to₀

pub copy_start : (to : List ℕ) (at : ℕ) (from : List ℕ) → Copying to at from to 0
copy_start to at from = record { left = ap (λ (k : ℕ). sets to k from) (add-zero at); long = refl }

module _ {to₀ : List ℕ} {at : ℕ} {from to : List ℕ} {i : ℕ} (m : Copying to₀ at from to i) where
  pub copy_next : i < length from → Copying to₀ at from (set to (at + i) (get_or from i 0)) (i + 1)
  copy_next h =
      let next : at + (i + 1) ≡ suc (at + i) = omega arith in
      record {
        left =
            ap (λ (k : ℕ). sets (set to (at + i) (get_or from i 0)) k (drop (i + 1) from)) next
            ∙ ap (λ (k : ℕ). sets (set to (at + i) (get_or from i 0)) (suc (at + i)) (drop k from)) (add-one i)
            ∙ ap (sets to (at + i)) (sym (drop-cons from i 0 h))
            ∙ m.left;
        long = length-set to (at + i) (get_or from i 0) ∙ m.long;
      }

  -- no word is left, or no room for one
  pub copy_end : (i < length from → length to ≤ at + i) → to ≡ sets to₀ at from
  copy_end full =
      ⊎_elim
      (λ h. sym (sets_out to (at + i) (drop i from) (full h)))
      (λ h. ap (sets to (at + i)) (sym (drop_of_length-le from h)))
      (below_or_not i (length from))
      ∙ m.left
