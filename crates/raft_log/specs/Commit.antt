-- The calls that move one number of the state: `commit_to`, `maybe_commit`, `applied_to`, `maybe_persist`. A reader must know: each answers the whole new log, or a refusal, or no.
use Rattle.std.specs.Prelude.{ℕ, ◌-◌, min, Bool, ◌&&◌, ◌||◌, cond, List, eqb, leb, ltb, Ok, Err, Some, None, Option}
use Rattle.units.specs.Units.{index_of}
use Rattle.units.specs.declared.refusal.Refusal.TheVariants as refusal
use Rattle.units.specs.Refusals.{Answer}
use Rattle.raft_log.specs.declared.Log.{Log}
use Rattle.raft_log.specs.Words.{store_term}
use Rattle.raft_log.specs.State.{last_of, broken, term_at}
use Rattle.raft_log.specs.Append.{with_committed, with_pending}

-- The log with another applied. For "`applied_to(i)` makes applied i".
abbrev pub with_applied : Log → ℕ → Log
with_applied l applied = record {
  start = l.start;
  startterm = l.startterm;
  offset = l.offset;
  count = l.count;
  committed = l.committed;
  persisted = l.persisted;
  applied = index_of applied;
}

-- The log with another persisted. For `maybe_persist`: "then persisted is i".
abbrev pub with_persisted : Log → ℕ → Log
with_persisted l persisted = with_pending l l.offset.0 l.count persisted

-- THE PROMISE of `commit_to(i)`: "nothing if i <= committed, else committed is i". 8: "`commit_to` above last".
unfoldable pub commit_to : Log → List ℕ → List ℕ → ℕ → Answer Log
commit_to l settled pending i =
    cond (broken l settled pending) (Err refusal.BrokenState)
    (cond (leb i l.committed.0) (Ok l)
    (cond (ltb (last_of l) i) (Err refusal.OutOfRange) (Ok (with_committed l i))))

-- THE PROMISE of `applied_to(i)`: "`applied_to(0)` does nothing; `applied_to(i)` makes applied i". 8: "a nonzero `applied_to` above min(committed, persisted) or below applied".
unfoldable pub applied_to : Log → List ℕ → List ℕ → ℕ → Answer Log
applied_to l settled pending i =
    cond (broken l settled pending) (Err refusal.BrokenState)
    (cond (eqb i 0) (Ok l)
    (cond (ltb (min l.committed.0 l.persisted.0) i || ltb i l.applied.0) (Err refusal.OutOfRange) (Ok (with_applied l i))))

-- "yes exactly if committed < i <= last (the upper bound is added) and term(i) = t"
abbrev pub may_commit : Log → List ℕ → List ℕ → ℕ → ℕ → Bool
may_commit l settled pending i t = ltb l.committed.0 i && leb i (last_of l) && eqb (term_at l settled pending i) t

-- THE PROMISE of `maybe_commit(i, t)`: that, "then commits".
unfoldable pub maybe_commit : Log → List ℕ → List ℕ → ℕ → ℕ → Answer (Option Log)
maybe_commit l settled pending i t = cond (broken l settled pending) (Err refusal.BrokenState) (cond (may_commit l settled pending i t) (Ok (Some (with_committed l i))) (Ok None))

-- "yes exactly if persisted < i < offset and the settled term at i is t"
abbrev pub may_persist : Log → List ℕ → ℕ → ℕ → Bool
may_persist l settled i t = ltb l.persisted.0 i && ltb i l.offset.0 && eqb (store_term settled (i - l.start.0 - 1)) t

-- THE PROMISE of `maybe_persist(i, t)`: that; "then persisted is i".
unfoldable pub maybe_persist : Log → List ℕ → List ℕ → ℕ → ℕ → Answer (Option Log)
maybe_persist l settled pending i t = cond (broken l settled pending) (Err refusal.BrokenState) (cond (may_persist l settled i t) (Ok (Some (with_persisted l i))) (Ok None))
