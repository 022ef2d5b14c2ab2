-- THE PROMISES: what each call answers. A reader must know: an answer is the first refusal of the call's checks, in order (13 before 7 and 11), else the new window; `ring_after` is the ring that `add` leaves, and no other call can write it.
use Rattle.std.specs.Prelude.{ℕ, ◌+◌, ◌-◌, cond, List, length, get_or, set, leb, eqb, Ok, Err, Some, None, Option, Bool}
use Rattle.units.specs.Refusals.{both_checks, unless, Answer, Check}
use Rattle.inflights.specs.State.{window_check, cap_check, room_check, is_full, empty_of}
use Rattle.inflights.specs.Ring.{place_of, flights, leading}
use Rattle.inflights.specs.declared.Inflights.{Inflights}

-- Document 01's values for each case of an answer with a window: "Every refusal returns its number alone and changes nothing."
abbrev pub window_unless : Check → Inflights → Answer Inflights
window_unless k w = unless k (Ok w)

-- Document 01's values for each case of the answer of `count`: a refusal "returns its number alone"; else the count.
abbrev pub count_unless : Check → ℕ → Answer ℕ
count_unless k count = unless k (Ok count)

-- The ring after a call that writes: as it was beside a refusal, which "changes nothing", else as it was written.
abbrev pub ring_unless : Check → List ℕ → List ℕ → List ℕ
ring_unless (Ok _) before written = written
ring_unless (Err _) before written = before

-- THE PROMISE of `new`: no flights, nothing deferred, or 7: "a window cap above the ring's length". "`new` refuses only 7" (open points).
unfoldable pub made_window : ℕ → ℕ → Answer Inflights
made_window cap n = window_unless (cap_check cap n) (empty_of cap)

-- `set_cap`: "equal to the current cap cancels a deferred change; larger takes effect and cancels it; smaller takes effect if the queue is empty, else is deferred until it empties." Start becomes 0 "when `set_cap` shrinks an empty queue".
unfoldable pub with_cap : Inflights → ℕ → Inflights
with_cap w cap =
    cond (leb w.cap cap) (record { start = w.start; count = w.count; cap = cap; deferred = None })
    (cond (eqb w.count 0) (empty_of cap)
    (record { start = w.start; count = w.count; cap = w.cap; deferred = Some cap }))

-- The checks of `set_cap`: 01, "13 before 7 and 11".
unfoldable pub set_cap_check : Inflights → ℕ → ℕ → Check
set_cap_check w n cap = both_checks (window_check w n) (cap_check cap n)

-- THE PROMISE of `set_cap`: those refusals, else the window of `with_cap`, where 01's sentence stands.
unfoldable pub capped : Inflights → ℕ → ℕ → Answer Inflights
capped w n cap = window_unless (set_cap_check w n cap) (with_cap w cap)

-- THE PROMISE of `full`: "count = cap, or a deferred cap exists and count is at least that".
unfoldable pub fullness : Inflights → ℕ → Answer Bool
fullness w n = unless (window_check w n) (Ok (is_full w))

-- THE PROMISE of `count`: how many flights, or 13: "`full` and `count` take the ring too and refuse 13" (open points).
unfoldable pub counted : Inflights → ℕ → Answer ℕ
counted w n = count_unless (window_check w n) w.count

-- The checks of `add`: 01, "13 before 7 and 11".
unfoldable pub add_check : Inflights → ℕ → Check
add_check w n = both_checks (window_check w n) (room_check w)

-- One flight more is counted. For `add`, which "puts one last".
abbrev pub one_more : Inflights → Inflights
one_more w = record { start = w.start; count = w.count + 1; cap = w.cap; deferred = w.deferred }

-- THE PROMISE of `add`: "puts one last".
unfoldable pub added : Inflights → ℕ → Answer Inflights
added w n = window_unless (add_check w n) (one_more w)

-- THE PROMISE of `add`, of the ring. "Only `add` writes a word": the one behind the last flight.
unfoldable pub ring_after : Inflights → List ℕ → ℕ → List ℕ
ring_after w ring flight = ring_unless (add_check w (length ring)) ring (set ring (place_of w.start w.count (length ring)) flight)

-- The window that an empty queue becomes: start becomes 0 "when a deferred cap takes effect on emptying".
abbrev pub taken_up : Inflights → Option ℕ → Inflights
taken_up w None = w
taken_up w (Some c) = empty_of c

-- "Emptying takes up a deferred cap."
unfoldable pub take_up : Inflights → Inflights
take_up w = cond (eqb w.count 0) (taken_up w w.deferred) w

-- The window without its first k flights, for "drops from the front": start is moved on "modulo the ring's length" (open points), and what stands behind stays: "flights never move".
abbrev pub behind : Inflights → ℕ → ℕ → Inflights
behind w k n = record { start = place_of w.start k n; count = w.count - k; cap = w.cap; deferred = w.deferred }

-- 01, Inflights: "`free_to(to)` drops from the front while the flight is at most `to`, stopping at the first larger one."
unfoldable pub free_to : Inflights → List ℕ → ℕ → Inflights
free_to w ring to = take_up (behind w (leading to (flights w ring)) (length ring))

-- THE PROMISE of `free_to`: that, or 13: "window state broken".
unfoldable pub freed_to : Inflights → List ℕ → ℕ → Answer Inflights
freed_to w ring to = window_unless (window_check w (length ring)) (free_to w ring to)

-- THE PROMISE of `free_first_one`: "does so with the first flight's value". (Of an empty queue nothing is freed, whatever the value.)
unfoldable pub freed_first : Inflights → List ℕ → Answer Inflights
freed_first w ring = freed_to w ring (get_or (flights w ring) 0 0)

-- The cap that an emptied queue has: it "takes the deferred cap", where there is one.
abbrev pub cap_on_empty : Option ℕ → ℕ → ℕ
cap_on_empty None cap = cap
cap_on_empty (Some c) cap = c

-- The cap of a window that is emptied: "Emptying takes up a deferred cap."
abbrev pub next_cap : Inflights → ℕ
next_cap w = cap_on_empty w.deferred w.cap

-- THE PROMISE of `reset`: "empties and takes the deferred cap". Start becomes 0 "on `reset`".
unfoldable pub cleared : Inflights → ℕ → Answer Inflights
cleared w n = window_unless (window_check w n) (empty_of (next_cap w))

-- The window with start 0. For `rewind`: "start becomes 0".
abbrev pub rewound_to_zero : Inflights → Inflights
rewound_to_zero w = record { start = 0; count = w.count; cap = w.cap; deferred = w.deferred }

-- Start becomes 0 "on `maybe_free_buffer` of an empty queue".
unfoldable pub rewind : Inflights → Inflights
rewind w = cond (eqb w.count 0) (rewound_to_zero w) w

-- THE PROMISE of `maybe_free_buffer`: that, or 13: "window state broken".
unfoldable pub rewound : Inflights → ℕ → Answer Inflights
rewound w n = window_unless (window_check w n) (rewind w)
