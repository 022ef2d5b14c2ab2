-- DEMAND 3, the leader's side: the engine and the quorums keep the promise of MajorityHolds.antt.
use Prim.Native.Nat.{ℕ, ◌≤◌, ◌<◌, max}
use mathlib.Core.Path.{◌≡◌, refl, sym, ap, subst}
use mathlib.Core.Bool.{true, false}
use mathlib.Core.List.{List, [], ◌∷◌, map}
use mathlib.Core.Logic.{◌⊎◌, inl, inr}
use native.Mathlib.Omega.{arith}
use lib.ListN.{length, length-map}
use lib.Dec.{leb}
use borrow.Author.Tests.{leb-true}
use Rattle.std.specs.Prelude.{Ok, Err, Some, None}
use Rattle.units.specs.Units.{word_max, index_of}
use Rattle.units.specs.Refusals.{both_checks, fine}
use Rattle.units.specs.declared.refusal.Refusal.{Refusal}
use Rattle.units.specs.declared.refusal.Refusal.TheVariants as refusal
use Rattle.units.proofs.Never.{never}
use Rattle.units.proofs.Checks.{both_fine, refused_not_fine}
use Rattle.rules.specs.Log.{Entry, whole_list, Agree}
use Rattle.rules.proofs.Count.{count_map}
use Rattle.quorum.specs.Rows.{rows_check}
use Rattle.quorum.specs.Voters.{voters_of, voters_check}
use Rattle.quorum.specs.Half.{half_index, joined}
use Rattle.quorum.specs.Majority.{acks_of, index_unless, committed_index, match_index}
use Rattle.quorum.specs.Joint.{config_check, joint_committed_index}
use Rattle.quorum.specs.declared.majority.Voters.{Voters}
use Rattle.quorum.specs.declared.joint.JointConfig.{JointConfig}
use Rattle.quorum.specs.declared.rows.Peer.{Peer}
use Rattle.quorum_laws.specs.JointRule.{Backs}
use Rattle.quorum_laws.specs.Questions.{JointWhole, NoVoters}
use Rattle.quorum_laws.proofs.Checks.{distinct_voters, else_fine}
use Rattle.quorum_laws.proofs.Joint.{half_backs, joined_free, joined_nobody}
use Rattle.quorum_laws.proofs.Answers.{at_exactly_if, index_answer}
use Rattle.raft_log.specs.State.{broken}
use Rattle.raft_log.specs.declared.Log.{Log}
use Rattle.raft_log.proofs.States.{refuted, not_both, whole_good}
use Rattle.raft_log.proofs.Commits.{no_commit_beyond}
use Rattle.leader.specs.Leader.{leader_commit}
use Rattle.leader.proofs.Backed.{commits_by_the_rule, refuses_broken, refuses_set}
use Rattle.two_ends.specs.Follower.{Follower, held}
use Rattle.two_ends.specs.TwoEnds.{Theorem as TwoEndsTheorem}
use Rattle.two_ends.proofs.Agreeing.{agree_down, same_third}
use Rattle.two_ends.proofs.Main.{two_ends}
use Rattle.majority_holds.specs.MajorityHolds.{Acknowledged, accepted, own, Honest, HoldsUpTo, HeldByMajority, HeldByHalves, MayCount}

-- ---- one site

-- What a site has acknowledged, it holds: by demand 3 where it is a follower, by what a leader is where it leads.
pub acknowledged_holds : (xs : List Entry) (g : Follower) (k : ℕ) → Acknowledged xs g k → Agree (held g) (whole_list xs) k
unfolding TwoEndsTheorem
acknowledged_holds xs g k (accepted a) =
    subst (λ (f : Follower). Agree (held f) (whole_list xs) k) (sym a.is_now)
    ((two_ends xs a.first a.granted).holds a.before a.before_possible a.message a.cut k a.accepts a.since a.since_possible)
acknowledged_holds xs g k (own leads h) = agree_down (held g) (whole_list xs) k _ h.0 h.1 leads

-- And so up to every n below.
holds_up_to : (xs : List Entry) (g : Follower) (n k : ℕ) → n ≤ k → Agree (held g) (whole_list xs) k → HoldsUpTo xs g n
holds_up_to xs g n k le a = agree_down (held g) (whole_list xs) (max n (held g).start) k (omega arith) (omega (arith, a.here.0)) a

-- ---- one half

-- Where not both lists are empty, one is not.
one_is_not : (xs ys : List ℕ) → ¬ ((xs ≡ []) × (ys ≡ [])) → (0 < length xs) ⊎ (0 < length ys)
one_is_not [] [] h = absurd (h (refl, refl))
one_is_not [] (y ∷ ys) h = inr (omega arith)
one_is_not (x ∷ xs) ys h = inl (omega arith)

-- ---- the leader's step

-- Where nobody has a say, the index is one that no log reaches.
nobody_index : (config : JointConfig) (peers : List Peer) → JointWhole config peers → NoVoters config → joint_committed_index config peers ≡ Ok (index_of word_max, true)
unfolding joint_committed_index
nobody_index config peers whole none = rw (whole, none.0, none.1) (ap (index_unless fine) joined_nobody)

-- Where it says yes, nothing is wrong with the configuration or the rows, and somebody has a say.
module _ (l : Log) (settled pending : List ℕ) (term : ℕ) (config : JointConfig) (peers : List Peer) (after : Log) (yea : leader_commit l settled pending term config peers ≡ Ok (Some after)) where
  not_refused : (n : Refusal) → leader_commit l settled pending term config peers ≡ Err n → ⊥
  not_refused n e = never cc

  sound : broken l settled pending ≡ false
  sound = refuted (broken l settled pending) (λ b. not_refused refusal.BrokenState (refuses_broken l settled pending term config peers b))

  yes_whole : JointWhole config peers
  yes_whole =
      else_fine (both_checks (config_check config) (rows_check peers)) (λ n e. not_refused refusal.BrokenSet (refuses_set l settled pending term config peers sound (refused_not_fine e)))

  yes_voters : ¬ NoVoters config
  unfolding leader_commit
  yes_voters none =
      let good = whole_good l settled pending sound in
      let beyond = no_commit_beyond l settled pending sound word_max term (omega (arith, good.committed_le_last, good.last_le_limit)) (omega (arith, good.last_le_limit)) in
      let nay : leader_commit l settled pending term config peers ≡ Ok None = rw (nobody_index config peers yes_whole none) beyond in
      never cc

module _ (xs : List Entry) (sites : ℕ → Follower) (peers : List Peer) (honest : Honest xs sites peers) where
  counted_held : (id : ℕ) → 0 < match_index peers id → Agree (held (sites id)) (whole_list xs) (match_index peers id)
  counted_held id h = acknowledged_holds xs (sites id) (match_index peers id) (honest id h)

  -- Whoever is counted for n > 0 holds up to n.
  half_held : (v : Voters) (n : ℕ) → voters_check v ≡ fine → 0 < n → Backs (acks_of peers v) n → 0 < length (voters_of v) → HeldByMajority xs sites (voters_of v) n
  half_held v n sound some backs voters =
      let same_length = length-map (voters_of v) (match_index peers) in
      record {
        none_twice = distinct_voters v sound;
        holder = λ id. leb n (match_index peers id);
        enough = omega (arith, backs (omega (arith, same_length)), same_length, count_map (leb n) (match_index peers) (voters_of v));
        hold = λ id h. let reaches = leb-true n (match_index peers id) h in holds_up_to xs (sites id) n (match_index peers id) reaches (counted_held id (omega arith));
      }

  -- ---- both halves
  module _ (config : JointConfig) (n : ℕ) (some : 0 < n) where
    both_held : JointWhole config peers → ¬ NoVoters config → Backs (acks_of peers config.incoming) n → Backs (acks_of peers config.outgoing) n → HeldByHalves xs sites config n
    both_held whole voters i o =
        let halves = (both_fine _ _).0 ((both_fine (config_check config) (rows_check peers)).0 whole).0 in
        record { somebody = one_is_not _ _ voters; by_incoming = half_held config.incoming n halves.0 some i; by_outgoing = half_held config.outgoing n halves.1 some o }

    joint_held : joint_committed_index config peers ≡ Ok (index_of n, false) → HeldByHalves xs sites config n
    unfolding joint_committed_index
    joint_held e =
        let i = acks_of peers config.incoming in
        let o = acks_of peers config.outgoing in
        let is = (at_exactly_if (both_checks (config_check config) (rows_check peers)) (joined (half_index i) (half_index o)) n false).0 e in
        let voters : ¬ NoVoters config = λ none. not_both ((joined_free i o).1 (ap (map (match_index peers)) none.0, ap (map (match_index peers)) none.1)) is.1.1 in
        both_held is.0 voters (half_backs i n (omega (arith, is.1.0))) (half_backs o n (omega (arith, is.1.0)))

  committed_held : (leader : Follower) (term : ℕ) (config : JointConfig) (after : Log) → leader_commit leader.log leader.settled leader.pending term config peers ≡ Ok (Some after)
      → HeldByHalves xs sites config after.committed.0
  committed_held leader term config after e =
      let rule = (commits_by_the_rule leader.log leader.settled leader.pending term config peers after e).1 in
      both_held config after.committed.0 (omega (arith, rule.higher)) (yes_whole _ _ _ term config peers after e) (yes_voters _ _ _ term config peers after e) rule.by_incoming rule.by_outgoing

  set_held : (v : Voters) (n : ℕ) → 0 < n → committed_index v peers ≡ Ok (index_of n, false) → HeldByMajority xs sites (voters_of v) n
  set_held v n some e =
      let is = (index_answer v peers n).0 e in
      half_held v n ((both_fine (voters_check v) (rows_check peers)).0 is.0).0 some (λ voters. is.1.1.by_majority) is.1.0

  -- THE THEOREM
  pub may_count : MayCount xs sites peers
  may_count = record {
    counted_held = counted_held;
    committed_held = committed_held;
    joint_held = joint_held;
    set_held = set_held;
    none_differ = λ n a b g h j le p q. same_third (held (sites a)) (held (sites b)) (whole_list xs) j refl (g.same j p (omega arith)) (h.same j q (omega arith));
  }
