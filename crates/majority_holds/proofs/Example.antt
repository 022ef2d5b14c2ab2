-- That the premises can be met: three voters, and a list of one record; the leader has it, a follower has accepted it, the third voter is silent. The leader's step commits index 1, and so a majority of the three holds the record.
use Prim.Native.Nat.{ℕ, zero, suc, ◌≤◌, ◌<◌}
use mathlib.Core.Path.{refl}
use mathlib.Core.Bool.{Bool, true, false, cond}
use mathlib.Core.List.{List, [], ◌∷◌}
use native.Mathlib.Omega.{arith}
use lib.Dec.{eqb, lit<, lit≤}
use lib.ListN.{get_or}
use Rattle.std.specs.Prelude.{Some, None}
use Rattle.units.specs.Units.{index_of}
use Rattle.rules.specs.Count.{count}
use Rattle.rules.specs.Log.{Entry, entry, whole_list, Same}
use Rattle.rules.specs.Majority.{insert, falling, kth_largest, committed}
use Rattle.quorum.specs.Ids.{position, has, distinct}
use Rattle.quorum.specs.Voters.{set_of}
use Rattle.quorum.specs.Rows.{nobody, ack_number}
use Rattle.quorum.specs.Half.{half_index}
use Rattle.quorum.specs.Joint.{one_set, joint_committed_index}
use Rattle.quorum.specs.declared.joint.JointConfig.{JointConfig}
use Rattle.quorum.specs.declared.rows.Peer.{Peer}
use Rattle.raft_log.specs.Append.{with_committed}
use Rattle.raft_log.specs.Commit.{maybe_commit}
use Rattle.raft_log.specs.Setup.{fresh, setup_ok, new_log}
use Rattle.log_laws.proofs.Nonzero.{set_nonzero}
use Rattle.leader.specs.Leader.{leader_commit}
use Rattle.two_ends.specs.Follower.{Follower, held, engine, set_up}
use Rattle.two_ends.specs.Leader.{cut}
use Rattle.two_ends.specs.TwoEnds.{Premises}
use Rattle.two_ends.proofs.Sanity.{concrete as at-the-ends}
use Rattle.majority_holds.specs.MajorityHolds.{Accepted, Acknowledged, accepted, own, Honest, HeldByHalves}
use Rattle.majority_holds.proofs.Main.{acknowledged_holds, may_count}

abbrev the_list : List Entry
the_list = entry 1 7 ∷ []

-- A follower as set-up makes it, with room for one record; and once it has accepted the record. A leader that has it appended has the same log.
abbrev empty : Follower
empty = record { log = fresh 0 0 0; settled = []; pending = 0 ∷ 0 ∷ [] }

abbrev full : Follower
full = (engine empty (cut the_list 0 1 0)).follower

abbrev config : JointConfig
config = one_set (set_of (1 ∷ 2 ∷ 3 ∷ []))

abbrev at_one : ℕ → Peer
at_one id = record { id = id; ack = Some (index_of 1); vote = None }

abbrev peers : List Peer
peers = at_one 1 ∷ at_one 2 ∷ []

-- What it all computes through.
unfoldable concrete : Unit {0}
unfolding at-the-ends setup_ok new_log maybe_commit leader_commit count insert falling kth_largest committed position has distinct half_index joint_committed_index
concrete = tt

only_start : (j : ℕ) → j ≤ 0 → Same (held empty) (whole_list the_list) j
unfolding concrete
only_start zero h = record { terms = refl; bodies = λ p q. refl }
only_start (suc j) h = absurd (omega arith)

begins : Premises the_list empty
unfolding concrete
begins = record {
  made = set_up 0 0 0 _ _ _ refl;
  matching = λ i here there t j le a b. only_start j (omega arith);
  has_committed = record { here = (lit≤ tt, lit≤ tt); there = lit≤ tt; same = λ j low high. only_start j high };
  leader_terms = set_nonzero (whole_list the_list) (lit< tt, tt);
  leader_limit = lit≤ tt;
}

has_accepted : Accepted the_list full 1
unfolding concrete
has_accepted = record {
  first = empty;
  granted = begins;
  before = [];
  before_possible = tt;
  message = cut the_list 0 1 0;
  cut = record { count = 1; inside = lit≤ tt; is = refl };
  accepts = (_, refl, refl);
  since = [];
  since_possible = tt;
  is_now = refl;
}

-- 1 is the leader, 2 the follower; nobody else has acknowledged a thing.
honest : Honest the_list (λ id. full) peers
unfolding concrete
honest id = by_tests (eqb 1 id) (eqb 2 id)
  where
    by_tests : (leads follows : Bool) → let k : ℕ = ack_number (get_or peers (cond leads 0 (suc (cond follows 0 (suc 0)))) nobody).ack in 0 < k → Acknowledged the_list full k
    by_tests true follows h = own (acknowledged_holds the_list full 1 (accepted has_accepted)) (lit≤ tt, lit≤ tt)
    by_tests false true h = accepted has_accepted
    by_tests false false h = absurd (omega arith)

pub example : HeldByHalves the_list (λ id. full) config 1
unfolding concrete
example = (may_count the_list (λ id. full) peers honest).committed_held full 1 config (with_committed full.log 1) refl
