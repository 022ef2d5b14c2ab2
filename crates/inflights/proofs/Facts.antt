-- What the tests of `State` say, as facts that omega reads, and back.
use Prim.Native.Nat.{ℕ, ◌≤◌, ◌<◌, max}
use mathlib.Core.Path.{◌≡◌, refl}
use mathlib.Core.Bool.{Bool, true, false, not, ◌||◌, and-eq-true_iff}
use native.Mathlib.Omega.{arith}
use lib.Dec.{ltb, leb, eqb}
use borrow.Author.Tests.{not-true, ltb-true, leb-true, eqb-true, eqb-false, lt-ltb, le-leb}
use Rattle.units.proofs.Checks.{holds, both_fine}
use Rattle.units.proofs.Never.{never}
use Rattle.inflights.specs.State.{start_fits, deferred_fits, sound, window_check, cap_check, is_full, deferred_reached, room_check, Waits, Sound}
use Rattle.inflights.specs.Calls.{add_check, set_cap_check}
use Rattle.inflights.specs.declared.Inflights.{Inflights}
use Rattle.std.specs.Prelude.{Some, None, Option}
use Rattle.units.specs.Refusals.{fine}

-- A start that fits lies in the ring, or is 0.
start_by : (s n : ℕ) (b : Bool) → eqb s 0 ≡ b → (b || ltb s n) ≡ true → s < max n 1
start_by s n true e h = let z : s ≡ 0 = eqb-true s 0 e in omega arith
start_by s n false e h = let z : s < n = ltb-true s n h in omega arith

by_start : (s n : ℕ) (b : Bool) → eqb s 0 ≡ b → s < max n 1 → (b || ltb s n) ≡ true
by_start s n true e h = refl
by_start s n false e h = let z : s ≡ 0 → ⊥ = eqb-false s 0 e in lt-ltb s n (omega (arith, z))

waits_by : (d : Option ℕ) (count cap : ℕ) → deferred_fits d count cap ≡ true → Waits d count cap
unfolding deferred_fits
waits_by None count cap h = tt
waits_by (Some c) count cap h = let a = (and-eq-true_iff (ltb c cap) (ltb 0 count)).0 h in (ltb-true _ _ a.0, ltb-true _ _ a.1)

by_waits : (d : Option ℕ) (count cap : ℕ) → Waits d count cap → deferred_fits d count cap ≡ true
unfolding deferred_fits
by_waits None count cap h = refl
by_waits (Some c) count cap h = simp (lt-ltb c cap h.0, lt-ltb 0 count h.1)

sound_by : (w : Inflights) (n : ℕ) → sound w n ≡ true → Sound w n
unfolding sound start_fits
sound_by w n h =
    let a = (and-eq-true_iff (leb w.count w.cap) _).0 h in
    let b = (and-eq-true_iff (leb w.cap n) _).0 a.1 in
    let c = (and-eq-true_iff (start_fits w.start n) _).0 b.1 in
    record {
      count_cap = leb-true _ _ a.0;
      cap_ring = leb-true _ _ b.0;
      start_ring = start_by w.start n _ refl c.0;
      waits = waits_by w.deferred w.count w.cap c.1;
    }

-- A window that passes the check is sound, and a sound one passes.
pub window_sound : (w : Inflights) (n : ℕ) → window_check w n ≡ fine → Sound w n
unfolding window_check
window_sound w n e = sound_by w n (holds (sound w n) _ e)

pub sound_window : (w : Inflights) (n : ℕ) → Sound w n → window_check w n ≡ fine
unfolding window_check sound start_fits
sound_window w n s = simp (le-leb _ _ s.count_cap, le-leb _ _ s.cap_ring, by_start w.start n _ refl s.start_ring, by_waits w.deferred w.count w.cap s.waits)

pub cap_fits : (cap n : ℕ) → cap_check cap n ≡ fine → cap ≤ n
unfolding cap_check
cap_fits cap n e = leb-true _ _ (holds (leb cap n) _ e)

-- A window that has room is below its cap, since it is not above.
not_full : (w : Inflights) → room_check w ≡ fine → is_full w ≡ false
unfolding room_check
not_full w e = not-true (is_full w) (holds (not (is_full w)) _ e)

below_by : (a b : ℕ) (t u : Bool) → eqb a b ≡ t → (t || u) ≡ false → a ≤ b → a < b
below_by a b true u e h l = let z : ◌≡◌ {A = Bool} true false = h in never cc
below_by a b false u e h l = let z : a ≡ b → ⊥ = eqb-false a b e in omega (arith, z)

-- What has been tested where `add` writes, and where `set_cap` takes a cap.
pub with_room : (w : Inflights) (n : ℕ) → window_check w n ≡ fine → room_check w ≡ fine → (Sound w n) × (w.count < w.cap)
unfolding is_full
with_room w n e f = let s = window_sound w n e in (s, below_by w.count w.cap _ (deferred_reached w.deferred w.count) refl (not_full w f) s.count_cap)

pub may_add : (w : Inflights) (n : ℕ) → add_check w n ≡ fine → (Sound w n) × (w.count < w.cap)
unfolding add_check
may_add w n e = let a = (both_fine (window_check w n) (room_check w)).0 e in with_room w n a.0 a.1

pub may_set_cap : (w : Inflights) (n cap : ℕ) → set_cap_check w n cap ≡ fine → (Sound w n) × (cap ≤ n)
unfolding set_cap_check
may_set_cap w n cap e = let a = (both_fine (window_check w n) (cap_check cap n)).0 e in (window_sound w n a.0, cap_fits cap n a.1)
