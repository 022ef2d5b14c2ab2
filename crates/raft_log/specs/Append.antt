-- `maybe_append` of document 01. A reader must know: `maybe_append` is the answer with the whole new log, its refusals one ordered table of named tests; `maybe_append_store` is the pending store after it, word by word.
use Rattle.std.specs.Prelude.{ℕ, ◌+◌, ◌-◌, min, max, Bool, not, ◌&&◌, ◌||◌, cond, List, eqb, leb, ltb, Ok, Err}
use Rattle.units.specs.Units.{index_of}
use Rattle.units.specs.declared.refusal.Refusal.TheVariants as refusal
use Rattle.units.specs.Refusals.{Answer}
use Rattle.raft_log.specs.declared.Log.{Log}
use Rattle.raft_log.specs.declared.Appended.{Appended}
use Rattle.raft_log.specs.Words.{room, run_count, run_term, first_from, put_run}
use Rattle.raft_log.specs.State.{last_of, broken, term_at}
use Rattle.raft_log.specs.Run.{misnumbered, zero_term_in}

-- Record k of a run after idx has another term than the log at its index. "Bodies are never compared."
abbrev pub differs : Log → List ℕ → List ℕ → ℕ → List ℕ → ℕ → Bool
differs l settled pending idx run k = not (eqb (run_term run k) (term_at l settled pending (idx + 1 + k)))

-- How many of a run's n records come before "the first run record whose term differs from term(its index)"; n where none does.
abbrev pub alike_before : Log → List ℕ → List ℕ → ℕ → List ℕ → ℕ → ℕ
alike_before l settled pending idx run n = first_from (differs l settled pending idx run) 0 n

-- 01: "the conflict is the first run record whose term differs from term(its index), 0 if none." (by how many come before it)
abbrev pub conflict_of : ℕ → ℕ → ℕ → ℕ
conflict_of idx n k = cond (ltb k n) (idx + 1 + k) 0

-- The log with another offset, pending count and persisted. For the cut, "offset becomes the conflict", and for `stable_entries`, "offset becomes i + 1".
abbrev pub with_pending : Log → ℕ → ℕ → ℕ → Log
with_pending l offset count persisted = record {
  start = l.start;
  startterm = l.startterm;
  offset = index_of offset;
  count = count;
  committed = l.committed;
  persisted = index_of persisted;
  applied = l.applied;
}

-- The log with another committed. For "Then committed becomes the larger of itself and min(commit, idx + count).", and for `commit_to` and `maybe_commit`.
abbrev pub with_committed : Log → ℕ → Log
with_committed l committed = record {
  start = l.start;
  startterm = l.startterm;
  offset = l.offset;
  count = l.count;
  committed = index_of committed;
  persisted = l.persisted;
  applied = l.applied;
}

-- "records from there on are cut and the rest of the run becomes pending; if the conflict is below offset, pending is cleared and offset becomes the conflict":
-- offset is the smaller of the two, and pending holds the records from there up to the new last. The cut is the same for `append`, which leaves persisted alone.
abbrev pub cut_log : Log → ℕ → ℕ → ℕ → Log
cut_log l conflict last persisted = with_pending l (min l.offset.0 conflict) (last + 1 - min l.offset.0 conflict) persisted

-- "persisted becomes the smaller of itself and conflict - 1": only where there is a conflict.
abbrev pub cut_if : Bool → Log → ℕ → ℕ → Log
cut_if test l conflict last = cond test (cut_log l conflict last (min l.persisted.0 (conflict - 1))) l

-- "Then committed becomes the larger of itself and min(commit, idx + count)."
abbrev pub commit_up : Log → ℕ → ℕ → Log
commit_up l commit last = with_committed l (max l.committed.0 (min commit last))

-- The log after the message, where k of its n records come before the first that differs: "records from there on are cut .. Then committed becomes the larger of itself and min(commit, idx + count)."
abbrev pub after_message : Log → ℕ → ℕ → ℕ → ℕ → Log
after_message l idx n k commit = commit_up (cut_if (ltb k n) l (idx + 1 + k) (idx + n)) commit (idx + n)

-- THE TESTS of the table. 1, 2 and 3 are `broken`, `misnumbered` and `zero_term_in`.
-- 4: "previous term 0 and idx outside [start, last]"
unfoldable pub outside : Log → ℕ → ℕ → Bool
outside l idx term = eqb term 0 && (ltb idx l.start.0 || ltb (last_of l) idx)

-- 5: "previous record doesn't match"
abbrev pub mismatched : Log → List ℕ → List ℕ → ℕ → ℕ → Bool
mismatched l settled pending idx term = not (eqb (term_at l settled pending idx) term)

-- 6: "nonzero conflict .. at or below committed"
abbrev pub cuts : Log → ℕ → ℕ → ℕ → Bool
cuts l idx n k = ltb k n && leb (idx + 1 + k) l.committed.0

-- 7: "pending after the call longer than its store"
abbrev pub overfull : Log → List ℕ → Bool
overfull after pending = ltb (room pending) after.count

-- "Answer: conflict and idx + count."
abbrev pub accepted : ℕ → ℕ → ℕ → Log → Answer Appended
accepted idx n k after = Ok (record { conflict = index_of (conflict_of idx n k); last = index_of (idx + n); log = after })

-- The part of the table that reads no word of a run or a store, 6 before 7 ("The lowest number wins"): n records, k of them before the first that differs.
unfoldable pub decide : Log → List ℕ → ℕ → ℕ → ℕ → ℕ → Answer Appended
decide l pending idx commit n k =
    cond (cuts l idx n k) (Err refusal.CutsCommitted)
    (cond (overfull (after_message l idx n k commit) pending) (Err refusal.NoRoom)
    (accepted idx n k (after_message l idx n k commit)))

-- The part of it that comes after the run's own checks, from "If term(idx) is the given term" on: n is how many records the run has.
unfoldable pub match_run : Log → List ℕ → List ℕ → ℕ → ℕ → ℕ → List ℕ → ℕ → Answer Appended
match_run l settled pending idx term commit run n =
    cond (outside l idx term) (Err refusal.OutsideLog)
    (cond (mismatched l settled pending idx term) (Err refusal.Mismatch)
    (decide l pending idx commit n (alike_before l settled pending idx run n)))

-- THE PROMISE of `maybe_append(idx, term, commit, run)`: the whole table, in document 01's order: "The lowest number wins".
unfoldable pub maybe_append : Log → List ℕ → List ℕ → ℕ → ℕ → ℕ → List ℕ → Answer Appended
maybe_append l settled pending idx term commit run =
    cond (broken l settled pending) (Err refusal.BrokenState)
    (cond (misnumbered run idx) (Err refusal.MisnumberedRun)
    (cond (zero_term_in run) (Err refusal.ZeroTerm)
    (match_run l settled pending idx term commit run (run_count run))))

-- The pending store after an answer: the run's records from the conflict on, each at its place. Where nothing is cut, nothing is written. 01: "A call writes only the records it adds or copies; every other word stays."
unfoldable pub maybe_append_store : Answer Appended → List ℕ → ℕ → List ℕ → List ℕ
maybe_append_store (Err number) pending idx run = pending
maybe_append_store (Ok a) pending idx run =
    cond (eqb a.conflict.0 0) pending
    (put_run pending (a.conflict.0 - a.log.offset.0) run (a.conflict.0 - idx - 1) (a.last.0 + 1 - a.conflict.0))
