use Rattle.raft_log.specs.Look.{record_at_most}
use Rattle.raft_log.proofs.Downwards.{Down}
use Rattle.raft_log.proofs.words.last_at_most.Given as goal

abbrev pub invariant-loop-k : goal.invariant-loop-k
invariant-loop-k l = Down (record_at_most l.store l.t) l.n l.k
