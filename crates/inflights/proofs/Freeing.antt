-- Freeing at the ends of the queue: the first flight stands at the start, and an empty queue stays as it is.
use Prim.Native.Nat.{ℕ, zero, suc, ◌<◌, max}
use mathlib.Core.Path.{◌≡◌, ap, ◌∙◌}
use mathlib.Core.List.{List}
use native.Mathlib.Omega.{arith}
use lib.ListN.{length, get_or}
use Rattle.units.specs.Lists.{listed}
use Rattle.units.proofs.Lists.{at_listed}
use Rattle.inflights.specs.State.{Waits, Sound}
use Rattle.inflights.specs.Ring.{flight_at, flights_from, flights, leading}
use Rattle.inflights.specs.Calls.{take_up, free_to}
use Rattle.inflights.specs.declared.Inflights.{Inflights}
use Rattle.inflights.proofs.Places.{place_zero}
use Rattle.std.specs.Prelude.{Some, None, Option}

pub first_flight : (w : Inflights) (ring : List ℕ) → Sound w (length ring) → 0 < w.count → get_or (flights w ring) 0 0 ≡ get_or ring w.start 0
unfolding flights_from
first_flight w ring s h = at_listed (flight_at w.start ring) 0 w.count 0 0 h ∙ ap (λ (at : ℕ). get_or ring at 0) (place_zero w.start (length ring) s.start_ring)

nothing_by : (start count cap : ℕ) (d : Option ℕ) (ring : List ℕ) (to : ℕ) → count ≡ 0 → start < max (length ring) 1 → Waits d count cap
    → free_to (record { start = start; count = count; cap = cap; deferred = d }) ring to ≡ record { start = start; count = count; cap = cap; deferred = d }
unfolding free_to take_up flights_from listed leading
nothing_by start zero cap None ring to e h x = ap (λ (p : ℕ). record { start = p; count = 0; cap = cap; deferred = None }) (place_zero start (length ring) h)
nothing_by start zero cap (Some c) ring to e h x = absurd (omega (arith, x.1))
nothing_by start (suc count) cap d ring to e h x = absurd (omega arith)

pub frees_nothing : (w : Inflights) (ring : List ℕ) (to : ℕ) → Sound w (length ring) → w.count ≡ 0 → free_to w ring to ≡ w
frees_nothing w ring to s e = nothing_by w.start w.count w.cap w.deferred ring to e s.start_ring s.waits
