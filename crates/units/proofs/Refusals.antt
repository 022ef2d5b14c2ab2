-- That a number tells the refusal: those of different names have different numbers, and 0 is the number of none. So a call that answers numbers alone says as much as one that answers the refusals themselves.
use Prim.Native.Nat.{ℕ, zero, suc}
use mathlib.Core.Path.{◌≡◌, refl, sym, ap, ◌∙◌}
use mathlib.Core.List.{List, [], ◌∷◌}
use lib.ListN.{get_or}
use Rattle.std.specs.Prelude.{Ok, Err}
use Rattle.units.specs.Refusals.{Check, fine, number_of, refusal_of}
use Rattle.units.specs.declared.refusal.Refusal.{Refusal}
use Rattle.units.specs.declared.refusal.Refusal.TheVariants as refusal

-- What each line of the table refuses by, from the first on.
abbrev lines : List Refusal
lines =
    refusal.BrokenState
    ∷ refusal.MisnumberedRun
    ∷ refusal.ZeroTerm
    ∷ refusal.OutsideLog
    ∷ refusal.Mismatch
    ∷ refusal.CutsCommitted
    ∷ refusal.NoRoom
    ∷ refusal.OutOfRange
    ∷ refusal.BelowFirst
    ∷ refusal.NotPending
    ∷ refusal.WindowFull
    ∷ refusal.BrokenSet
    ∷ refusal.BrokenWindow
    ∷ []

-- The check that a number stands for. It is read back from the number of each.
abbrev check_of : ℕ → Check
check_of zero = fine
check_of (suc n) = Err (get_or lines n refusal.BrokenState)

read_back : (r : Refusal) → check_of (number_of r) ≡ Err r
read_back refusal.BrokenState = refl
read_back refusal.MisnumberedRun = refl
read_back refusal.ZeroTerm = refl
read_back refusal.OutsideLog = refl
read_back refusal.Mismatch = refl
read_back refusal.CutsCommitted = refl
read_back refusal.NoRoom = refl
read_back refusal.OutOfRange = refl
read_back refusal.BelowFirst = refl
read_back refusal.NotPending = refl
read_back refusal.WindowFull = refl
read_back refusal.BrokenSet = refl
read_back refusal.BrokenWindow = refl

check_read_back : (k : Check) → check_of (refusal_of k) ≡ k
check_read_back (Ok _) = refl
check_read_back (Err r) = read_back r

-- Checks that refuse by the same number are the same, and one that refuses by none is fine.
pub refusal_apart : (a b : Check) → refusal_of a ≡ refusal_of b → a ≡ b
refusal_apart a b e = sym (check_read_back a) ∙ ap check_of e ∙ check_read_back b

-- Refusals of the same number are the same.
pub number_apart : (a b : Refusal) → number_of a ≡ number_of b → a ≡ b
number_apart a b e = let same = refusal_apart (Err a) (Err b) e in cc
