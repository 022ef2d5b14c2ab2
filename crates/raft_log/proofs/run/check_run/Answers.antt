-- `check_run` meets its contract: a test that fails breaks a rule of the run, and the pass tells the rest.
use Rattle.std.proofs.Common.{sym, ap, ◌∙◌, arith}
use Rattle.std.proofs.lemmas.Result.{err_from_is_err_and}
use Rattle.raft_log.specs.Run.{scan_run}
use Rattle.raft_log.proofs.Runs.{run_misnumbered, run_bad, run_good}
use Rattle.raft_log.proofs.run.check_run.Goals as goal

pub returns-then-run-ne0 : goal.returns-then-run-ne0
returns-then-run-ne0 c = sym (run_misnumbered _ _ (λ r. omega arith))

pub returns-then-idx-gt-LIMIT : goal.returns-then-idx-gt-LIMIT
returns-then-idx-gt-LIMIT c = sym (run_misnumbered _ _ (λ r. omega arith))

pub returns-then-n-idx : goal.returns-then-n-idx
returns-then-n-idx c = sym (run_misnumbered _ _ (λ r. omega arith))

pub returns-in_err-scan_run : goal.returns-in_err-scan_run
returns-in_err-scan_run c =
    let n = c.run_count-n.ensures in
    let p = err_from_is_err_and c.from_residual.result c.from_residual.ensures.1 in
    rw (p.1, p.2) (sym (run_bad _ _ (omega arith) (omega arith) (sym (c.in_err-scan_run.ensures ∙ ap (scan_run _ _) n))))

pub returns : goal.returns
returns c =
    let n = c.run_count-n.ensures in
    rw n (sym (run_good _ _ (omega arith) (omega arith) (sym (c.in_ok-scan_run.ensures ∙ ap (scan_run _ _) n))))
