-- What `slice`, `entries` and `next_entries_since` give, said of the list of records that the state and the words stand for (View.antt). A reader must know: bounds are log indices, and the words that a call returns are those that `part_of` names (raft_log/specs/Slice.antt).
use Rattle.std.specs.Prelude.{ℕ, ◌+◌, ◌-◌, ◌*◌, ◌≤◌, ◌<◌, min, ◌≡◌, List, length, Ok, Err}
use Rattle.units.specs.declared.Index.{Index}
use Rattle.units.specs.Refusals.{Answer}
use Rattle.rules.specs.Log.{Entry, Log as Abstract, last, records_after}
use Rattle.raft_log.specs.declared.Log.{Log}
use Rattle.raft_log.specs.declared.Bounds.{Bounds}
use Rattle.raft_log.specs.declared.Bounds.TheVariants as bounds
use Rattle.raft_log.specs.Words.{record_words}
use Rattle.raft_log.specs.State.{Good}
use Rattle.raft_log.specs.Slice.{part_of}
use Rattle.log_laws.specs.View.{records, view_of}

-- The records of a log at the indices from low up to, not including, high: what `slice(low, high)` is asked for, "a run from low, ending at high".
unfoldable pub records_from : Abstract → ℕ → ℕ → List Entry
records_from log low high = records_after log.entries (low - log.start - 1) (high - low)

-- The words are these records, one after the other, bodies included, and nothing else: "two words a record, term then body number".
pub record Reads (log : Abstract) (low high : ℕ) (words : List ℕ) : Type 0 where
  pub long : length words ≡ (high - low) * record_words
  pub same : records (high - low) words ≡ records_from log low high

-- A question that no call refuses: the state is good, and the log has every record of the range. (8: "low > high"; 9: "low below the first index"; 8: "high > last + 1".)
pub record Askable (l : Log) (settled pending : List ℕ) (low high : ℕ) : Type 0 where
  pub good : Good l settled pending
  pub first : (view_of l settled pending).start < low
  pub order : low ≤ high
  pub final : high ≤ last (view_of l settled pending) + 1

-- 01, `slice(low, high)`: "it gives a run from low, ending at high or at the store boundary, whichever comes first". Here it ends at `end`; one record at least is in it.
pub record Part (l : Log) (settled pending : List ℕ) (low high end : ℕ) (from to : Index) (words : List ℕ) : Type 0 where
  pub asked : Askable l settled pending low high
  pub starts : from.0 ≡ low
  pub ends : to.0 ≡ end
  pub some : low < to.0
  pub reads : Reads (view_of l settled pending) low to.0 words

-- What bounds say in answer to the question for the records from low up to high ("one call answers the refusal or the bounds"): `Empty`, that `there_is_none`; `Settled`, a part that ends at high or at the store boundary; `Pending`, one that ends at high; a refusal, that the question is not askable. (`Empty` and a refusal have no words, by `part_of`.)
abbrev pub Gives : Log → List ℕ → List ℕ → ℕ → ℕ → Type 0 → Answer Bounds → Type 0
Gives l settled pending low high there_is_none (Ok bounds.Empty) = there_is_none
Gives l settled pending low high there_is_none (Ok (bounds.Settled from to)) =
    Part l settled pending low high (min high l.offset.0) from to (part_of (Ok (bounds.Settled from to)) l settled pending)
Gives l settled pending low high there_is_none (Ok (bounds.Pending from to)) =
    Part l settled pending low high high from to (part_of (Ok (bounds.Pending from to)) l settled pending)
Gives l settled pending low high there_is_none (Err number) = Askable l settled pending low high → ⊥
