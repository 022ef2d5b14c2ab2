use Rattle.raft_log.specs.Words.{other_term}
use Rattle.raft_log.proofs.Searching.{Seek}
use Rattle.raft_log.proofs.words.same_terms.Given as goal

abbrev pub invariant-loop-i : goal.invariant-loop-i
invariant-loop-i l = Seek (other_term l.store l.at l.run l.k) l.n l.i
