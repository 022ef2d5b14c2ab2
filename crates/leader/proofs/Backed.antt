-- What the leader's commit step amounts to: it commits only what the paper's rule allows, answers no only where the joint index is not such a one, and refuses exactly by 1, then 12.
use Prim.Native.Nat.{ℕ}
use mathlib.Core.Path.{◌≡◌, refl, sym, ap, subst, ◌∙◌}
use mathlib.Core.Bool.{Bool, true, false, cond, and-eq-true_iff}
use mathlib.Core.List.{List}
use mathlib.Core.Logic.{◌⊎◌, inl, inr, ⊎_map}
use native.Mathlib.Omega.{arith}
use borrow.Author.Tests.{ltb-true, leb-true, eqb-true}
use Rattle.std.specs.Prelude.{Ok, Err, Some, Option}
use Rattle.units.specs.Refusals.{both_checks, Answer, Check}
use Rattle.units.specs.declared.refusal.Refusal.{Refusal}
use Rattle.units.specs.declared.refusal.Refusal.TheVariants as refusal
use Rattle.units.proofs.Cond.{either_end, past, taken}
use Rattle.units.proofs.Never.{never}
use Rattle.units.specs.declared.Index.{Index}
use Rattle.quorum.specs.Rows.{rows_check}
use Rattle.quorum.specs.Half.{half_index, joined}
use Rattle.quorum.specs.Majority.{index_unless, acks_of}
use Rattle.quorum.specs.Joint.{config_check, joint_committed_index}
use Rattle.quorum.specs.declared.half.Half.{Half}
use Rattle.quorum.specs.declared.joint.JointConfig.{JointConfig}
use Rattle.quorum.specs.declared.rows.Peer.{Peer}
use Rattle.quorum_laws.specs.Questions.{JointWhole}
use Rattle.quorum_laws.proofs.Joint.{half_backs}
use Rattle.quorum_laws.proofs.Answers.{joint_index_refused}
use Rattle.raft_log.specs.State.{broken}
use Rattle.raft_log.specs.Append.{with_committed}
use Rattle.raft_log.specs.Commit.{may_commit, maybe_commit}
use Rattle.raft_log.specs.declared.Log.{Log}
use Rattle.leader.specs.Leader.{commit_found, leader_commit}
use Rattle.leader.specs.Rule.{MayCommit}

-- a refusal is the log's own, or the answer's
by_state : (b : Bool) (a : Answer (Option Log)) (n : Refusal) → cond b (Err refusal.BrokenState) a ≡ Err n → ((b ≡ true) × (n ≡ refusal.BrokenState)) ⊎ (a ≡ Err n)
by_state b a n = either_end (λ x. x ≡ Err n → ((b ≡ true) × (n ≡ refusal.BrokenState)) ⊎ (a ≡ Err n)) b (λ t e. inl (t, cc)) (λ t e. inr e)

module _ (l : Log) (settled pending : List ℕ) (term : ℕ) (config : JointConfig) (peers : List Peer) where
  abbrev in_both : Half
  in_both = joined (half_index (acks_of peers config.incoming)) (half_index (acks_of peers config.outgoing))

  by_check : (k : Check) (after : Log) → commit_found l settled pending term (index_unless k in_both) ≡ Ok (Some after) → maybe_commit l settled pending in_both.index term ≡ Ok (Some after)
  by_check (Ok _) after e = e
  by_check (Err m) after e = never (cc (past (broken l settled pending) (λ h. never cc) e).1)

  -- THE THEOREM: what it commits, a majority of every nonempty half has acknowledged, and it is of the leader's own term.
  pub commits_by_the_rule : (after : Log) → leader_commit l settled pending term config peers ≡ Ok (Some after)
      → (after ≡ with_committed l after.committed.0) × MayCommit l settled pending term config peers after.committed.0
  unfolding leader_commit joint_committed_index maybe_commit
  commits_by_the_rule after e =
      let n = in_both.index in
      let granted = by_check (both_checks (config_check config) (rows_check peers)) after e in
      let may = taken (may_commit l settled pending n term) (λ h. never cc) (past (broken l settled pending) (λ h. never cc) granted).1 in
      let is : after ≡ with_committed l n = cc may.1 in
      let all = (and-eq-true_iff _ _).0 may.0 in
      let bounds = (and-eq-true_iff _ _).0 all.0 in
      let same : after.committed.0 ≡ n = ap (λ (a : Log). a.committed.0) is in
      let rule : MayCommit l settled pending term config peers n =
      record {
        higher = ltb-true _ _ bounds.0;
        held = leb-true _ _ bounds.1;
        own_term = eqb-true _ _ all.1;
        by_incoming = half_backs (acks_of peers config.incoming) n (omega arith);
        by_outgoing = half_backs (acks_of peers config.outgoing) n (omega arith);
      } in
      (is ∙ ap (with_committed l) (sym same), subst (MayCommit l settled pending term config peers) (sym same) rule)

  -- refused by n
  abbrev Refuses : Refusal → Type 0
  Refuses n = leader_commit l settled pending term config peers ≡ Err n

  -- 1 before 12: the table's order.
  pub refuses_broken : broken l settled pending ≡ true → Refuses refusal.BrokenState
  unfolding leader_commit maybe_commit
  refuses_broken b = by_found (joint_committed_index config peers)
    where
      by_found : (c : Answer (Index × Bool)) → commit_found l settled pending term c ≡ Err refusal.BrokenState
      by_found (Ok (i, free)) = simp b
      by_found (Err m) = simp b

  pub refuses_set : broken l settled pending ≡ false → ¬ JointWhole config peers → Refuses refusal.BrokenSet
  unfolding leader_commit
  refuses_set b h = rw ((joint_index_refused config peers refusal.BrokenSet).1 (h, refl)) (simp b)

  -- and nothing else is refused
  pub refused_by_lem : (n : Refusal) → Refuses n → ((broken l settled pending ≡ true) × (n ≡ refusal.BrokenState)) ⊎ ((¬ JointWhole config peers) × (n ≡ refusal.BrokenSet))
  unfolding leader_commit maybe_commit
  refused_by_lem n e = by_found (joint_committed_index config peers) refl e
    where
      by_found : (c : Answer (Index × Bool)) → joint_committed_index config peers ≡ c → commit_found l settled pending term c ≡ Err n
          → ((broken l settled pending ≡ true) × (n ≡ refusal.BrokenState)) ⊎ ((¬ JointWhole config peers) × (n ≡ refusal.BrokenSet))
      by_found (Ok (i, free)) q h = ⊎_map (λ b. b) (λ a. never (cc (past (may_commit l settled pending i.0 term) (λ h. never cc) a).1)) (by_state (broken l settled pending) _ n h)
      by_found (Err m) q h =
          ⊎_map (λ b. b) (λ a.
          let r = (joint_index_refused config peers m).0 q in
          let same : m ≡ n = cc a in
          (r.0, sym same ∙ r.1)) (by_state (broken l settled pending) _ n h)
