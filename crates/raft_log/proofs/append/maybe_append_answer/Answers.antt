-- `maybe_append_answer` meets its contract: past refusal 1, each answer of the run's check has its law.
use Rattle.std.proofs.lemmas.Result.{err_from_is_err_and}
use Rattle.raft_log.proofs.Appending.{answer_run}
use Rattle.raft_log.proofs.append.maybe_append_answer.Goals as goal
use Rattle.std.proofs.Common.{sym}

pub returns-in_err-run : goal.returns-in_err-run
returns-in_err-run c =
    let p = err_from_is_err_and c.from_residual-in_err-run.result c.from_residual-in_err-run.ensures.1 in
    rw (p.1, p.2) (sym (answer_run _ _ _ _ _ _ _ c.in_ok-held.ensures.0 c.in_err-run.ensures))
