-- The leader's commit step (raft.rs, `maybe_commit`). A reader must know: it is `maybe_commit` of the log, of the joint committed index of the peer rows, with the leader's term; refusal 1 before 12.
use Rattle.std.specs.Prelude.{ℕ, List, cond, Result, Ok, Err, Option, Bool}
use Rattle.units.specs.declared.refusal.Refusal.{Refusal}
use Rattle.units.specs.declared.refusal.Refusal.TheVariants as refusal
use Rattle.units.specs.Refusals.{Answer}
use Rattle.units.specs.declared.Index.{Index}
use Rattle.quorum.specs.Joint.{joint_committed_index}
use Rattle.quorum.specs.declared.joint.JointConfig.{JointConfig}
use Rattle.quorum.specs.declared.rows.Peer.{Peer}
use Rattle.raft_log.specs.State.{broken}
use Rattle.raft_log.specs.Commit.{maybe_commit}
use Rattle.raft_log.specs.declared.Log.{Log}

-- THE PROMISE of `commit_found`, where a refusal is taken as itself: an index is offered to the log's `maybe_commit`; a refusal of the quorums is handed on, after the log's own: 1 before 12, since "The lowest number wins".
abbrev pub commit_found : Log → List ℕ → List ℕ → ℕ → Answer (Index × Bool) → Answer (Option Log)
commit_found l settled pending term (Ok (index, free)) = maybe_commit l settled pending index.0 term
commit_found l settled pending term (Err number) = cond (broken l settled pending) (Err refusal.BrokenState) (Err number)

-- A refusal, as the caller takes it: as itself, by its number, or as an error of the caller's own.
abbrev pub told_as : {A E : Type 0} → (Refusal → E) → Answer A → Result A E
told_as taken (Ok said) = Ok said
told_as taken (Err refusal) = Err (taken refusal)

-- THE PROMISE of `commit_found`, whatever was answered in the index's place: the same, with the log's own refusal as the caller takes it (`as_itself`, proofs/Found: taken as itself it is `commit_found`).
abbrev pub commit_found_as : {E : Type 0} → (Refusal → E) → Log → List ℕ → List ℕ → ℕ → Result (Index × Bool) E → Result (Option Log) E
commit_found_as taken l settled pending term (Ok (index, free)) = told_as taken (maybe_commit l settled pending index.0 term)
commit_found_as taken l settled pending term (Err refused) = cond (broken l settled pending) (Err (taken refusal.BrokenState)) (Err refused)

-- THE PROMISE of `maybe_commit`. 01: "The log part sees the quorum part only through its promises": the index is the promise of `joint::committed_index`, and what is done with it that of the log's `maybe_commit`.
unfoldable pub leader_commit : Log → List ℕ → List ℕ → ℕ → JointConfig → List Peer → Answer (Option Log)
leader_commit l settled pending term config peers = commit_found l settled pending term (joint_committed_index config peers)
