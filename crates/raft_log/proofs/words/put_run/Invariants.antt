use Rattle.raft_log.proofs.Putting.{Putting}
use Rattle.raft_log.proofs.words.put_run.Given as goal

abbrev pub invariant-loop-i : goal.invariant-loop-i
invariant-loop-i l = Putting l.fn.store l.store l.at l.run l.k l.n l.i
