-- The window's state: when it is broken (refusal 13), when a cap has no room (7), when the window is full (11). A reader must know: a window stands beside a ring of n words, and each rule is a test that computes; `Sound` says the first as facts.
use Rattle.std.specs.Prelude.{ℕ, ◌≤◌, ◌<◌, max, Bool, true, false, not, ◌&&◌, ◌||◌, ltb, leb, eqb, Some, None, Option}
use Rattle.units.specs.Refusals.{fine_or, Check}
use Rattle.units.specs.declared.refusal.Refusal.TheVariants as refusal
use Rattle.inflights.specs.declared.Inflights.{Inflights}

-- 01, refusal 13: "a start outside the ring"; "An empty ring has start 0." So a start of 0 fits every ring.
unfoldable pub start_fits : ℕ → ℕ → Bool
start_fits start n = eqb start 0 || ltb start n

-- 01, refusal 13: "a deferred cap that is not below cap or stands beside an empty queue".
unfoldable pub deferred_fits : Option ℕ → ℕ → ℕ → Bool
deferred_fits None count cap = true
deferred_fits (Some c) count cap = ltb c cap && ltb 0 count

-- 01, refusal 13, whole: "count above cap, cap above the ring", and the two above.
unfoldable pub sound : Inflights → ℕ → Bool
sound w n = leb w.count w.cap && (leb w.cap n && (start_fits w.start n && deferred_fits w.deferred w.count w.cap))

-- Refusal 13, where a rule is broken: "window state broken".
unfoldable pub window_check : Inflights → ℕ → Check
window_check w n = fine_or (sound w n) refusal.BrokenWindow

-- 01, refusal 7: "a window cap above the ring's length".
unfoldable pub cap_check : ℕ → ℕ → Check
cap_check cap n = fine_or (leb cap n) refusal.NoRoom

-- 01, Inflights: "a deferred cap exists and count is at least that".
abbrev pub deferred_reached : Option ℕ → ℕ → Bool
deferred_reached None count = false
deferred_reached (Some c) count = leb c count

-- 01, Inflights: "`full` is count = cap, or a deferred cap exists and count is at least that."
unfoldable pub is_full : Inflights → Bool
is_full w = eqb w.count w.cap || deferred_reached w.deferred w.count

-- 01, refusal 11: "`add` to a full window".
unfoldable pub room_check : Inflights → Check
room_check w = fine_or (not (is_full w)) refusal.WindowFull

-- A window of no flights, at the ring's first word. For `new`, and for an empty queue where 01 says that "start becomes 0".
abbrev pub empty_of : ℕ → Inflights
empty_of cap = record { start = 0; count = 0; cap = cap; deferred = None }

-- The rule of a deferred cap as a fact: none "that is not below cap or stands beside an empty queue".
abbrev pub Waits : Option ℕ → ℕ → ℕ → Type 0
Waits None count cap = Unit {0}
Waits (Some c) count cap = (c < cap) × (0 < count)

-- The rules of `sound` as facts, which inner functions require: refusal 13, "window state broken", is not given. A start below the larger of n and 1 lies in the ring, or is 0. That both say the same is proved in proofs/Facts.antt.
pub record Sound (w : Inflights) (n : ℕ) : Type 0 where
  pub count_cap : w.count ≤ w.cap
  pub cap_ring : w.cap ≤ n
  pub start_ring : w.start < max n 1
  pub waits : Waits w.deferred w.count w.cap
