-- `scan_run` meets its contract: one loop is both searches, the first of them left at once.
use Rattle.std.proofs.Common.{sym, arith}
use Rattle.raft_log.proofs.Searching.{seek_hit, other_not}
use Rattle.raft_log.proofs.Runs.{scan_start, scan_next, scan_misplaced, scan_end}
use Rattle.raft_log.proofs.run.scan_run.Goals as goal

pub loop-k-init : goal.loop-k-init
loop-k-init c = scan_start _ _ _

pub returns-then-run_index-idx : goal.returns-then-run_index-idx
returns-then-run_index-idx c =
    let hit = seek_hit c.loop-k.invariant.placed c.loop-k-test.true (other_not (λ e. c.if-run_index-idx.true (omega arith))) in
    sym (scan_misplaced _ _ _ c.loop-k-test.true hit)

pub loop-k-preserved : goal.loop-k-preserved
loop-k-preserved c = rw c.run_term.ensures (scan_next c.loop-k.invariant c.loop-k-test.true (omega arith))

pub returns-then-zero : goal.returns-then-zero
returns-then-zero c = sym (scan_end _ _ _ (rw c.if-zero.true at c.loop-k.invariant) c.loop-k-test.false)

pub returns : goal.returns
returns c = sym (scan_end _ _ _ (rw c.if-zero.false at c.loop-k.invariant) c.loop-k-test.false)
