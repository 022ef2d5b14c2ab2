use Rattle.raft_log.proofs.Runs.{Scanning}
use Rattle.raft_log.proofs.run.scan_run.Given as goal

abbrev pub invariant-loop-k : goal.invariant-loop-k
invariant-loop-k l = Scanning l.run l.idx l.n l.k l.zero
