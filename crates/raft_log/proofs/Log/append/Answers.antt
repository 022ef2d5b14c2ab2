-- `append` meets its contract: the answer is decided first, and what it says is what the copy asks.
use Rattle.std.proofs.Common.{◌≡◌, ◌-◌, ℕ, List, ◌∙◌}
use Rattle.std.proofs.lemmas.Result.{err_from_is_err_and}
use Rattle.raft_log.specs.Words.{run_index, run_count, put_run}
use Rattle.raft_log.proofs.Extending.{store_refused, store_empty, store_put}
use Rattle.raft_log.proofs.Log.append.Goals as goal

-- the copy, by the first index and the count that were read
put_read : (s run : List ℕ) (offset : ℕ) {first n : ℕ} → first ≡ run_index run 0 → n ≡ run_count run
    → put_run s (first - offset) run 0 n ≡ put_run s (run_index run 0 - offset) run 0 (run_count run)
put_read s run offset e f = cc

pub returns-in_err-last-clause-store : goal.returns-in_err-last-clause-store
returns-in_err-last-clause-store c =
    store_refused _ _ (err_from_is_err_and c.from_residual.result c.from_residual.ensures.1).1

pub returns-then-run-eq0-clause-store : goal.returns-then-run-eq0-clause-store
returns-then-run-eq0-clause-store c = store_empty _ _ _ _ c.if-run-eq0.true

pub returns-clause-store : goal.returns-clause-store
returns-clause-store c =
    c.put_run.ensures
    ∙ put_read _ _ _ c.run_index.ensures c.run_count-n.ensures
    ∙ store_put _ _ _ _ c.if-run-eq0.false
