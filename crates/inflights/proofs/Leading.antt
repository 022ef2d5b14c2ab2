-- How many flights in front are at most `to`, found by a walk: what holds after i of them, from the start to each end.
use Prim.Native.Nat.{ℕ, zero, suc, ◌+◌, ◌≤◌, ◌<◌}
use mathlib.Core.Path.{◌≡◌, refl, sym, ap, ◌∙◌, subst}
use mathlib.Core.Bool.{true, false}
use mathlib.Core.List.{List, [], ◌∷◌}
use native.Mathlib.Omega.{arith}
use borrow.Author.Count.{below_more}
use borrow.Author.Tests.{le-leb, lt-leb}
use lib.Dec.{leb}
use lib.ListN.{length, get_or}
use Rattle.units.specs.Lists.{listed}
use Rattle.units.proofs.Cond.{both_ends}
use Rattle.units.proofs.Lists.{length-listed}
use Rattle.inflights.specs.Ring.{place_of, flight_at, flights_from, leading, InRing}
use Rattle.inflights.proofs.Places.{place_in, place_zero, place_place}

stops_at : (to c : ℕ) (f : ℕ → ℕ) (k i : ℕ) → i ≤ c → ((j : ℕ) → j < k + i → f j ≤ to) → (i < c → to < f (k + i)) → i ≡ leading to (listed f k c)
unfolding listed leading
stops_at to zero f k zero h l r = refl
stops_at to zero f k (suc i) h l r = absurd (omega arith)
stops_at to (suc c) f k zero h l r =
    let a : leb (f k) to ≡ false = lt-leb (f k) to (subst (λ (j : ℕ). to < f j) (omega arith) (r (omega arith))) in
    simp a
stops_at to (suc c) f k (suc i) h l r =
    let a : leb (f k) to ≡ true = le-leb (f k) to (l k (omega arith)) in
    simp a (ap suc (stops_at to c f (k + 1) i (omega arith) (λ j p. l j (omega arith)) (λ p. subst (λ (j : ℕ). to < f j) (omega arith) (r (omega arith)))))

-- No more are in front than there are.
leading_within : (to : ℕ) (l : List ℕ) → leading to l ≤ length l
unfolding leading
leading_within to [] = omega arith
leading_within to (x ∷ xs) = let h = leading_within to xs in both_ends (λ n. n ≤ suc (length xs)) (leb x to) (omega arith) (omega arith)

pub leading_at_most : (to start count : ℕ) (ring : List ℕ) → leading to (flights_from start count ring) ≤ count
unfolding flights_from
leading_at_most to start count ring = omega (arith, leading_within to (flights_from start count ring), length-listed (flight_at start ring) 0 count)

-- After i flights: `at` is the place of the next, and all before it are at most `to`.
pub record Walked (start count : ℕ) (ring : List ℕ) (to at i : ℕ) : Type 0 where
  pub within : i ≤ count
  pub here : at ≡ place_of start i (length ring)
  pub small : (k : ℕ) → k < i → flight_at start ring k ≤ to

module _ (start count : ℕ) (ring : List ℕ) (to : ℕ) where
  pub walk_begins : InRing start count (length ring) → Walked start count ring to start 0
  walk_begins r = record { within = omega arith; here = sym (place_zero start (length ring) r.start_ring); small = λ k h. absurd (omega arith) }

  pub walk_inside : (at i : ℕ) → InRing start count (length ring) → Walked start count ring to at i → i < count → at < length ring
  walk_inside at i r w h = subst (λ (x : ℕ). x < length ring) (sym w.here) (place_in start i (length ring) (omega (arith, r.start_ring, r.count_ring)))

  pub walk_goes_on : (at i next : ℕ) → Walked start count ring to at i → i < count → get_or ring at 0 ≤ to → next ≡ place_of at 1 (length ring) → Walked start count ring to next (i + 1)
  walk_goes_on at i next w h l e = record {
    within = omega arith;
    here = e ∙ ap (λ (p : ℕ). place_of p 1 (length ring)) w.here ∙ place_place start i 1 (length ring);
    small = below_more (λ (k : ℕ). flight_at start ring k ≤ to) i w.small (subst (λ (p : ℕ). get_or ring p 0 ≤ to) w.here l);
  }

  pub walk_stops : (at i : ℕ) → Walked start count ring to at i → to < get_or ring at 0 → i ≡ leading to (flights_from start count ring)
  unfolding flights_from
  walk_stops at i w l = stops_at to count (flight_at start ring) 0 i w.within (λ j h. w.small j (omega arith)) (λ _. subst (λ (p : ℕ). to < get_or ring p 0) (w.here ∙ ap (λ (j : ℕ). place_of start j (length ring)) (omega arith)) l)

  pub walk_ends : (at i : ℕ) → Walked start count ring to at i → count ≤ i → i ≡ leading to (flights_from start count ring)
  unfolding flights_from
  walk_ends at i w l = stops_at to count (flight_at start ring) 0 i w.within (λ j h. w.small j (omega arith)) (λ h. absurd (omega arith))
