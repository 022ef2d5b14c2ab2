use Rattle.raft_log.specs.Look.{at_most}
use Rattle.raft_log.proofs.Downwards.{Down}
use Rattle.raft_log.proofs.held.Held.last_below.Given as goal

abbrev pub invariant-loop-j : goal.invariant-loop-j
invariant-loop-j l = Down (at_most l.self.log l.self.settled.now l.self.pending.now l.t) l.i l.j
