-- `append` of document 01: "the cut above from its own first index, no term compared; answers the new last. An empty run answers last. `persisted` is untouched."
-- A reader must know: `append_run` is the answer with the whole new log, its refusals one ordered table; `append_run_store` is the pending store after it.
use Rattle.std.specs.Prelude.{ℕ, ◌+◌, ◌-◌, Bool, not, ◌&&◌, ◌||◌, cond, List, eqb, leb, ltb, length, Ok, Err}
use Rattle.units.specs.Units.{index_of}
use Rattle.units.specs.declared.refusal.Refusal.TheVariants as refusal
use Rattle.units.specs.Refusals.{Answer}
use Rattle.units.specs.declared.Index.{Index}
use Rattle.raft_log.specs.declared.Log.{Log}
use Rattle.raft_log.specs.Words.{run_count, run_index, put_run}
use Rattle.raft_log.specs.State.{last_of, broken}
use Rattle.raft_log.specs.Run.{misnumbered, zero_term_in}
use Rattle.raft_log.specs.Append.{cut_log, overfull}

-- The run's "own first index".
abbrev pub first_of : List ℕ → ℕ
first_of run = run_index run 0

-- The log after a run whose first index is `first`: "the cut above from its own first index", and persisted untouched.
abbrev pub extended : Log → ℕ → ℕ → Log
extended l first n = cut_log l first (first + n - 1) l.persisted.0

-- 2: "run length not a multiple of three, indices not rising by one .., `append` starting at 0, or .. (for `append` its last index) above the limit". They rise from its own first index; an empty run has none.
abbrev pub bad_run : List ℕ → Bool
bad_run run = not (eqb (length run) 0) && (eqb (first_of run) 0 || misnumbered run (first_of run - 1))

-- 6: "`append` start, at or below committed"
abbrev pub starts_committed : Log → ℕ → Bool
starts_committed l first = leb first l.committed.0

-- 8: "`append` leaving a gap", which comes before 7
abbrev pub leaves_gap : Log → ℕ → Bool
leaves_gap l first = ltb (last_of l + 1) first

-- 8: "`append` .. starting at or below persisted", which comes after it
abbrev pub starts_persisted : Log → ℕ → Bool
starts_persisted l first = leb first l.persisted.0

-- A run that is not empty, from its first index on: "The lowest number wins, except that .. in `append` a gap (8) before 7".
unfoldable pub extend_from : Log → List ℕ → ℕ → ℕ → Answer (Index × Log)
extend_from l pending first n =
    cond (starts_committed l first) (Err refusal.CutsCommitted)
    (cond (leaves_gap l first) (Err refusal.OutOfRange)
    (cond (overfull (extended l first n) pending) (Err refusal.NoRoom)
    (cond (starts_persisted l first) (Err refusal.OutOfRange)
    (Ok (index_of (first + n - 1), extended l first n)))))

-- THE PROMISE of `append`: "answers the new last. An empty run answers last."
unfoldable pub append_run : Log → List ℕ → List ℕ → List ℕ → Answer (Index × Log)
append_run l settled pending run =
    cond (broken l settled pending) (Err refusal.BrokenState)
    (cond (bad_run run) (Err refusal.MisnumberedRun)
    (cond (zero_term_in run) (Err refusal.ZeroTerm)
    (cond (eqb (length run) 0) (Ok (index_of (last_of l), l))
    (extend_from l pending (first_of run) (run_count run)))))

-- The pending store after an answer: the whole run from its first index on. 01: "A call writes only the records it adds or copies; every other word stays."
unfoldable pub append_run_store : Answer (Index × Log) → List ℕ → List ℕ → List ℕ
append_run_store (Err number) pending run = pending
append_run_store (Ok (last, l)) pending run = cond (eqb (length run) 0) pending (put_run pending (first_of run - l.offset.0) run 0 (run_count run))
