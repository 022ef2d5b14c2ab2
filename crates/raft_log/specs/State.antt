-- The state of a log over its two lent stores. A reader must know: settled holds the records start + 1 to offset - 1, pending those from offset to last; `state_ok` is document 01's state rules as a test, and refusal 1 is given exactly where it is false.
-- `Good` says the same as facts; that both say the same is proved in proofs/States.antt.
use Rattle.std.specs.Prelude.{ℕ, ◌+◌, ◌-◌, ◌≤◌, ◌<◌, ◌≡◌, Bool, true, false, not, ◌&&◌, cond, List, eqb, leb, ltb}
use Rattle.units.specs.Units.{index_limit}
use Rattle.raft_log.specs.declared.Log.{Log}
use Rattle.raft_log.specs.Words.{room, store_term}

-- 01: "Last is offset plus the pending count, minus 1."
abbrev pub last_of : Log → ℕ
last_of l = l.offset.0 + l.count - 1

-- How many records settled holds. 01: "settled holds indices start+1 to offset-1".
abbrev pub settled_count : Log → ℕ
settled_count l = l.offset.0 - 1 - l.start.0

-- Two tests that agree. For "start index 0 exactly if start term 0".
abbrev pub agree : Bool → Bool → Bool
agree true b = b
agree false b = not b

-- 01: "start index 0 exactly if start term 0; start <= applied <= committed <= last; applied <= persisted < offset; start < offset; both stores long enough; last within the limit."
-- (start <= committed follows; it is a rule of its own so that a snapshot can part the others from it.)
unfoldable pub state_ok : Log → List ℕ → List ℕ → Bool
state_ok l settled pending =
    agree (eqb l.start.0 0) (eqb l.startterm.0 0)
    && leb l.start.0 l.applied.0
    && leb l.applied.0 l.committed.0
    && leb l.start.0 l.committed.0
    && leb l.committed.0 (last_of l)
    && leb l.applied.0 l.persisted.0
    && ltb l.persisted.0 l.offset.0
    && ltb l.start.0 l.offset.0
    && leb (settled_count l) (room settled)
    && leb l.count (room pending)
    && leb (last_of l) index_limit

-- The same rules as facts, one a line, which inner functions require: 01's "State rules, checked at each call".
pub record Good (l : Log) (settled pending : List ℕ) : Type 0 where
  pub starts : agree (eqb l.start.0 0) (eqb l.startterm.0 0) ≡ true
  pub start_le_applied : l.start.0 ≤ l.applied.0
  pub applied_le_committed : l.applied.0 ≤ l.committed.0
  pub start_le_committed : l.start.0 ≤ l.committed.0
  pub committed_le_last : l.committed.0 ≤ last_of l
  pub applied_le_persisted : l.applied.0 ≤ l.persisted.0
  pub persisted_lt_offset : l.persisted.0 < l.offset.0
  pub start_lt_offset : l.start.0 < l.offset.0
  pub settled_room : settled_count l ≤ room settled
  pub pending_room : l.count ≤ room pending
  pub last_le_limit : last_of l ≤ index_limit

-- Refusal 1: "state rules or store lengths broken".
abbrev pub broken : Log → List ℕ → List ℕ → Bool
broken l settled pending = not (state_ok l settled pending)

-- 01, `term(i)`: "the record's term; the start's term at start; 0 outside [start, last]."
unfoldable pub term_at : Log → List ℕ → List ℕ → ℕ → ℕ
term_at l settled pending i =
    cond (ltb i l.start.0) 0
    (cond (eqb i l.start.0) l.startterm.0
    (cond (ltb i l.offset.0) (store_term settled (i - l.start.0 - 1))
    (cond (ltb (i - l.offset.0) l.count) (store_term pending (i - l.offset.0)) 0)))
