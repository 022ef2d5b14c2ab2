-- DEMAND 3, THE LEADER'S SIDE, as a statement: what a site has acknowledged, the leader may count; so an index that the quorums call committed is held, record for record, by a majority of every half that has voters.
-- A reader must know: crate two_ends says what one follower holds once it has accepted a message of the leader's; here a site stands for each id, and the lent rows say what the sites have acknowledged. The list xs is "all that the list ever comes to hold".
-- It is not the paper's Leader Completeness (figure 3): there is one leader, and no election.
use Rattle.std.specs.Prelude.{ℕ, ◌≤◌, ◌<◌, max, ◌≡◌, Bool, true, false, List, ◌⊎◌, length, Ok, Some}
use Rattle.units.specs.Units.{index_of}
use Rattle.rules.specs.Majority.{ByMajority}
use Rattle.rules.specs.Log.{Entry, whole_list, last, Holds, Same, Agree}
use Rattle.quorum.specs.Ids.{distinct}
use Rattle.quorum.specs.Voters.{voters_of}
use Rattle.quorum.specs.Majority.{committed_index, match_index}
use Rattle.quorum.specs.Joint.{joint_committed_index}
use Rattle.quorum.specs.declared.majority.Voters.{Voters}
use Rattle.quorum.specs.declared.joint.JointConfig.{JointConfig}
use Rattle.quorum.specs.declared.rows.Peer.{Peer}
use Rattle.raft_log.specs.declared.Log.{Log}
use Rattle.leader.specs.Leader.{leader_commit}
use Rattle.two_ends.specs.Follower.{Follower, held, Message, engine, Event, follow}
use Rattle.two_ends.specs.Leader.{CutFrom}
use Rattle.two_ends.specs.TwoEnds.{Premises, Trace, Accepts}

-- ---- what a site has acknowledged

-- "Each acceptance names the message's last index": the site began as demand 3 grants it, accepted a message of the leader's that named k, and is now, as g, what any further events made of it. So an old acknowledgement still counts, and one that comes twice.
pub record Accepted (xs : List Entry) (g : Follower) (k : ℕ) : Type 0 where
  pub first : Follower
  pub granted : Premises xs first
  pub before : List Event
  pub before_possible : Trace xs before
  pub message : Message
  pub cut : CutFrom xs message
  pub accepts : Accepts (engine (follow engine first before) message) k
  pub since : List Event
  pub since_possible : Trace xs since
  pub is_now : g ≡ follow engine (engine (follow engine first before) message).follower since

-- The leader's own row needs no message: "One leader has a whole list .. that only grows", so from its start to its last record it holds the list's.
pub data Acknowledged (xs : List Entry) (g : Follower) (k : ℕ) : Type 0 where
  accepted : Accepted xs g k → Acknowledged xs g k
  own : Agree (held g) (whole_list xs) (last (held g)) → Holds (held g) k → Acknowledged xs g k

-- The rows, which the caller fills, are honest: "A peer row holds its acknowledgement as missing or a number", and each number that is not 0 was acknowledged by the site of that id.
abbrev pub Honest : List Entry → (ℕ → Follower) → List Peer → Type 0
Honest xs sites peers = (id : ℕ) → 0 < match_index peers id → Acknowledged xs (sites id) (match_index peers id)

-- ---- what a majority holds

-- "from its start to there the follower then holds exactly the leader's records": to n, or to its start where that lies beyond n.
abbrev pub HoldsUpTo : List Entry → Follower → ℕ → Type 0
HoldsUpTo xs g n = Agree (held g) (whole_list xs) (max n (held g).start)

-- The voters are "different ids"; a quorum of them or more are holders, and each holder's site holds the leader's records up to n.
pub record HeldByMajority (xs : List Entry) (sites : ℕ → Follower) (voters : List ℕ) (n : ℕ) : Type 0 where
  pub none_twice : distinct voters ≡ true
  pub holder : ℕ → Bool
  pub enough : ByMajority holder voters
  pub hold : (id : ℕ) → holder id ≡ true → HoldsUpTo xs (sites id) n

-- So of every half that has voters, 01's "every nonempty half"; and one has.
pub record HeldByHalves (xs : List Entry) (sites : ℕ → Follower) (config : JointConfig) (n : ℕ) : Type 0 where
  pub somebody : (0 < length (voters_of config.incoming)) ⊎ (0 < length (voters_of config.outgoing))
  pub by_incoming : 0 < length (voters_of config.incoming) → HeldByMajority xs sites (voters_of config.incoming) n
  pub by_outgoing : 0 < length (voters_of config.outgoing) → HeldByMajority xs sites (voters_of config.outgoing) n

-- THE PROMISE, of honest rows: what "a majority of every nonempty half has reached" (01, Joint), a majority of it holds. It is proved in proofs/Main.antt.
pub record MayCount (xs : List Entry) (sites : ℕ → Follower) (peers : List Peer) : Type 0 where
  -- what a site has acknowledged, it holds
  pub counted_held : (id : ℕ) → 0 < match_index peers id → Agree (held (sites id)) (whole_list xs) (match_index peers id)
  -- what the leader's step commits (figure 2: "a majority of matchIndex[i] ≥ N"), a majority holds
  pub committed_held : (leader : Follower) (term : ℕ) (config : JointConfig) (after : Log) → leader_commit leader.log leader.settled leader.pending term config peers ≡ Ok (Some after)
      → HeldByHalves xs sites config after.committed.0
  -- and so what the quorums answer to whoever asks: of a joint configuration, of one set. Of 0 nothing is said: who has acknowledged nothing counts as 0, and need not hold a thing.
  pub joint_held : (config : JointConfig) (n : ℕ) → 0 < n → joint_committed_index config peers ≡ Ok (index_of n, false) → HeldByHalves xs sites config n
  pub set_held : (v : Voters) (n : ℕ) → 0 < n → committed_index v peers ≡ Ok (index_of n, false) → HeldByMajority xs sites (voters_of v) n
  -- "we couldn't show that every site held the same records": two sites that hold up to n have the same records, wherever both have them
  pub none_differ : (n a b : ℕ) → HoldsUpTo xs (sites a) n → HoldsUpTo xs (sites b) n → (j : ℕ) → j ≤ n → (held (sites a)).start ≤ j → (held (sites b)).start ≤ j → Same (held (sites a)) (held (sites b)) j
