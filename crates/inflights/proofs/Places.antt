-- The ring's places: a remainder is a compare and a subtraction, two steps in a row are one, and different flights have different places.
use Prim.Native.Nat.{ℕ, zero, suc, ◌+◌, ◌-◌, ◌≤◌, ◌<◌, ◌%◌, max}
use mathlib.Core.Path.{◌≡◌, sym, ap, ◌∙◌}
use mathlib.Core.Logic.{⊎_elim, ◌⊎◌, inl, inr}
use native.Mathlib.Nat.{zero-mod, mod-lt, mod-zero, mod-eq_of_lt, mod-eq-sub-mod, mod-add-mod}
use native.Mathlib.Omega.{arith}
use Rattle.units.proofs.Numbers.{below_or_not}
use Rattle.inflights.specs.Ring.{place_of, InRing}

pub place_in : (s i n : ℕ) → s < n → place_of s i n < n
unfolding place_of
place_in s i n h = mod-lt (s + i) (omega arith)

pub place_low : (s i n : ℕ) → s + i < n → place_of s i n ≡ s + i
unfolding place_of
place_low s i n h = mod-eq_of_lt h

pub place_high : (s i n : ℕ) → s < n → i ≤ n → n ≤ s + i → place_of s i n ≡ s + i - n
unfolding place_of
place_high s i n h k l = mod-eq-sub-mod l ∙ mod-eq_of_lt (omega arith)

pub place_zero : (s n : ℕ) → s < max n 1 → place_of s 0 n ≡ s
unfolding place_of
place_zero zero n h = zero-mod n
place_zero (suc s) n h = mod-eq_of_lt (omega arith) ∙ (let e : suc s + 0 ≡ suc s = omega arith in e)

-- What the code computes where the step leads past the end; also in an empty ring.
round_by : (s i n : ℕ) → s < n → i ≤ n → n - s ≤ i → i - (n - s) ≡ place_of s i n
round_by s i n h k l = sym (place_high s i n h k (omega arith) ∙ (let e : s + i - n ≡ i - (n - s) = omega arith in e))

pub go_round : (s i n : ℕ) → InRing s i n → n - s ≤ i → i - (n - s) ≡ place_of s i n
unfolding place_of
go_round s i zero r l = sym (mod-zero (s + i) ∙ (let e : s + i ≡ i - (zero - s) = omega (arith, r.start_ring, r.count_ring) in e))
go_round s i (suc n) r l = round_by s i (suc n) (omega (arith, r.start_ring)) r.count_ring l

pub place_place : (s k j n : ℕ) → place_of (place_of s k n) j n ≡ place_of s (k + j) n
unfolding place_of
place_place s k j n = mod-add-mod (s + k) n j ∙ ap (λ (m : ℕ). m % n) (let e : s + k + j ≡ s + (k + j) = omega arith in e)

-- Either no step leads past the ring's end, or one turn does.
Turn : ℕ → ℕ → ℕ → ℕ → Type 0
Turn s i n p = (p ≡ s + i) ⊎ (p + n ≡ s + i)

turn : (s i n : ℕ) → s < n → i ≤ n → Turn s i n (place_of s i n)
unfolding Turn
turn s i n h k = ⊎_elim (λ l. inl (place_low s i n l)) (λ l. let e = place_high s i n h k l in inr (omega arith)) (below_or_not (s + i) n)

pub place_other : (s i j n : ℕ) → s < n → i < j → j < n → place_of s i n ≡ place_of s j n → ⊥
unfolding Turn
place_other s i j n h l m e =
    ⊎_elim
    (λ a. ⊎_elim (λ b. omega arith) (λ b. omega arith) (turn s j n h (omega arith)))
    (λ a. ⊎_elim (λ b. omega arith) (λ b. omega arith) (turn s j n h (omega arith)))
    (turn s i n h (omega arith))
