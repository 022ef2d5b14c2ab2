-- `slice`, `entries` and `next_entries_since` of document 01: one call answers the refusal or the bounds, a second gives the part. A reader must know: the bounds are log indices, and say which store holds the part; the part is words of that store, never a copy.
use Rattle.std.specs.Prelude.{ℕ, ◌+◌, ◌-◌, ◌*◌, min, max, Bool, ◌&&◌, cond, List, [], eqb, leb, ltb, take, drop, Ok, Err}
use Rattle.units.specs.Units.{index_of, word_max}
use Rattle.units.specs.declared.refusal.Refusal.TheVariants as refusal
use Rattle.units.specs.Refusals.{Answer}
use Rattle.raft_log.specs.declared.Log.{Log}
use Rattle.raft_log.specs.declared.Bounds.{Bounds}
use Rattle.raft_log.specs.declared.Bounds.TheVariants as bounds
use Rattle.raft_log.specs.Words.{record_words, room}
use Rattle.raft_log.specs.State.{last_of, broken}

-- "it gives a run from low, ending at high or at the store boundary, whichever comes first"; "low = high is empty".
unfoldable pub in_store : Log → ℕ → ℕ → Answer Bounds
in_store l low high =
    cond (eqb low high) (Ok bounds.Empty)
    (cond (ltb low l.offset.0) (Ok (bounds.Settled (index_of low) (index_of (min high l.offset.0)))) (Ok (bounds.Pending (index_of low) (index_of high))))

-- 8: "low > high"; 9: "low below the first index"; 8: "high > last + 1". "in `slice` 9 comes before high > last + 1 (8)".
unfoldable pub slice_in : Log → ℕ → ℕ → Answer Bounds
slice_in l low high =
    cond (ltb high low) (Err refusal.OutOfRange)
    (cond (leb low l.start.0) (Err refusal.BelowFirst)
    (cond (ltb (last_of l + 1) high) (Err refusal.OutOfRange) (in_store l low high)))

-- THE PROMISE of `slice_bounds(low, high)`: "one call answers the refusal or the bounds".
unfoldable pub slice_bounds : Log → List ℕ → List ℕ → ℕ → ℕ → Answer Bounds
slice_bounds l settled pending low high = cond (broken l settled pending) (Err refusal.BrokenState) (slice_in l low high)

-- THE PROMISE of `entries_bounds(i)`: "empty if i > last, else the slice from i to last + 1".
unfoldable pub entries_bounds : Log → List ℕ → List ℕ → ℕ → Answer Bounds
entries_bounds l settled pending i =
    cond (broken l settled pending) (Err refusal.BrokenState)
    (cond (ltb (last_of l) i) (Ok bounds.Empty) (slice_in l i (last_of l + 1)))

-- Where the range of `next_entries_since(s)` begins: "max(s + 1, start + 1)".
abbrev pub next_low : Log → ℕ → ℕ
next_low l s = max (s + 1) (l.start.0 + 1)

-- Where it ends: "min(committed, persisted) + 1".
abbrev pub next_high : Log → ℕ
next_high l = min l.committed.0 l.persisted.0 + 1

-- "min(committed, persisted) + 1 > max(s + 1, start + 1). For s = u64::MAX we answer no (added)."
unfoldable pub has_next : Log → ℕ → Bool
has_next l s = ltb s word_max && ltb (next_low l s) (next_high l)

-- THE PROMISE of `has_next_entries_since(s)`: that, or 1: "state rules or store lengths broken".
unfoldable pub has_next_entries_since : Log → List ℕ → List ℕ → ℕ → Answer Bool
has_next_entries_since l settled pending s = cond (broken l settled pending) (Err refusal.BrokenState) (Ok (has_next l s))

-- THE PROMISE of `next_entries_bounds_since(s)`: "gives that range as a slice, or nothing".
unfoldable pub next_entries_bounds_since : Log → List ℕ → List ℕ → ℕ → Answer Bounds
next_entries_bounds_since l settled pending s =
    cond (broken l settled pending) (Err refusal.BrokenState)
    (cond (has_next l s) (in_store l (next_low l s) (next_high l)) (Ok bounds.Empty))

-- 01: "A run is a part of whichever store holds it": the words of the records from index low up to, not including, high of a store whose first record is at index first; none where it does not hold them.
unfoldable pub store_part : List ℕ → ℕ → ℕ → ℕ → List ℕ
store_part store first low high =
    cond (leb first low && leb low high && leb (high - first) (room store))
    (take ((high - first) * record_words - (low - first) * record_words) (drop ((low - first) * record_words) store))
    []

-- THE PROMISE of `slice`, `entries` and `next_entries_since`: the part that the bounds name, "empty where the first refuses". "A run is a part of whichever store holds it, settled or pending, never a copy."
unfoldable pub part_of : Answer Bounds → Log → List ℕ → List ℕ → List ℕ
part_of (Ok bounds.Empty) l settled pending = []
part_of (Ok (bounds.Settled low high)) l settled pending = store_part settled (l.start.0 + 1) low.0 high.0
part_of (Ok (bounds.Pending low high)) l settled pending = store_part pending l.offset.0 low.0 high.0
part_of (Err number) l settled pending = []
