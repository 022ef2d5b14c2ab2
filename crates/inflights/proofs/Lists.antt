-- What the longest front part of small flights is: `leading` finds it, and there is only one.
use Prim.Native.Nat.{ℕ, ◌≤◌, ◌<◌}
use mathlib.Core.Path.{◌≡◌, sym, ◌∙◌, subst}
use mathlib.Core.List.{List, [], ◌∷◌, ◌++◌}
use native.Mathlib.Omega.{arith}
use borrow.Author.Tests.{leb-true, leb-false}
use lib.Dec.{leb}
use lib.ListN.{take, drop, take-append-drop}
use Rattle.units.proofs.Cond.{either_end}
use Rattle.inflights.specs.Ring.{leading}
use Rattle.inflights.specs.Queue.{AllAtMost, BeginsAbove, Frees}

front_small : (to : ℕ) (l : List ℕ) → AllAtMost to (take (leading to l) l)
unfolding leading AllAtMost
front_small to [] = tt
front_small to (x ∷ xs) = either_end (λ n. AllAtMost to (take n (x ∷ xs))) (leb x to) (λ e. (leb-true _ _ e, front_small to xs)) (λ _. tt)

rest_above : (to : ℕ) (l : List ℕ) → BeginsAbove to (drop (leading to l) l)
unfolding leading BeginsAbove
rest_above to [] = tt
rest_above to (x ∷ xs) = either_end (λ n. BeginsAbove to (drop n (x ∷ xs))) (leb x to) (λ _. rest_above to xs) (λ e. leb-false _ _ e)

pub leading_frees : (to : ℕ) (l : List ℕ) → Frees to l (drop (leading to l) l)
leading_frees to l = record { gone = take (leading to l) l; parts = sym (take-append-drop (leading to l) l); small = front_small to l; stops = rest_above to l }

-- A list that begins with a small flight does not begin above.
not_above : (to x : ℕ) (xs l : List ℕ) → l ≡ x ∷ xs → x ≤ to → BeginsAbove to l → ⊥
unfolding BeginsAbove
not_above to x xs l e h b = let z : to < x = subst (BeginsAbove to) e b in omega arith

one_way : (to : ℕ) (g a h b : List ℕ) → g ++ a ≡ h ++ b → AllAtMost to g → AllAtMost to h → BeginsAbove to a → BeginsAbove to b → a ≡ b
unfolding AllAtMost
one_way to [] a [] b e p q u v = e
one_way to [] a (y ∷ h) b e p q u v = absurd (not_above to y (h ++ b) a e q.0 u)
one_way to (x ∷ g) a [] b e p q u v = absurd (not_above to x (g ++ a) b (sym e) p.0 v)
one_way to (x ∷ g) a (y ∷ h) b e p q u v = one_way to g a h b (let z : ◌≡◌ {A = List ℕ} (x ∷ (g ++ a)) (y ∷ (h ++ b)) = e in cc) p.1 q.1 u v

pub frees_one_way : (to : ℕ) (l a b : List ℕ) → Frees to l a → Frees to l b → a ≡ b
frees_one_way to l a b p q = one_way to p.gone a q.gone b (sym p.parts ∙ q.parts) p.small q.small p.stops q.stops
