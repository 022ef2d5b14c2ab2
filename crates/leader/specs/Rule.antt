-- The leader's rule, as the paper has it. A reader must know: figure 2, Rules for Servers, Leaders: "If there exists an N such that N > commitIndex, a majority of matchIndex[i] ≥ N, and log[N].term == currentTerm: set commitIndex = N".
-- That `maybe_commit` commits only by this rule is proved in proofs/Backed.antt.
use Rattle.std.specs.Prelude.{ℕ, ◌≤◌, ◌<◌, ◌≡◌, List}
use Rattle.quorum.specs.Majority.{acks_of}
use Rattle.quorum.specs.declared.joint.JointConfig.{JointConfig}
use Rattle.quorum.specs.declared.rows.Peer.{Peer}
use Rattle.quorum_laws.specs.JointRule.{Backs}
use Rattle.raft_log.specs.State.{last_of, term_at}
use Rattle.raft_log.specs.declared.Log.{Log}

-- N may be committed: each part of the rule above, "a majority" being one of every half that has voters (the paper, 6).
pub record MayCommit (l : Log) (settled pending : List ℕ) (term : ℕ) (config : JointConfig) (peers : List Peer) (n : ℕ) : Type 0 where
  pub higher : l.committed.0 < n
  -- 01: "the upper bound is added"
  pub held : n ≤ last_of l
  pub own_term : term_at l settled pending n ≡ term
  -- a majority of every nonempty half has acknowledged n or more
  pub by_incoming : Backs (acks_of peers config.incoming) n
  pub by_outgoing : Backs (acks_of peers config.outgoing) n
