-- The calls that move one number of the state leave the records as they were: whatever is so of the list that the log stands for (that it is this very list, say) is so of the list that the answer's log stands for, over the same stores.
use Prim.Native.Nat.{ℕ}
use mathlib.Core.List.{List}
use Rattle.rules.specs.Log.{Log as Abstract}
use Rattle.raft_log.specs.declared.Log.{Log}
use Rattle.raft_log.specs.Commit.{commit_to, applied_to, maybe_commit, maybe_persist}
use Rattle.log_laws.specs.View.{view_of}
use Rattle.log_laws.specs.Keep.{AfterChanged, AfterDecided}
use Rattle.log_laws.proofs.After.{after_commit_to, after_applied_to, after_maybe_commit, after_maybe_persist}

module _ (Q : Abstract → Type 0) where
  -- Q holds of the list that a log and its stores stand for.
  abbrev pub OfView : Log → List ℕ → List ℕ → Type 0
  OfView l settled pending = Q (view_of l settled pending)

  -- THE LAWS, one a call.
  module _ (l : Log) (settled pending : List ℕ) (q : OfView l settled pending) where
    pub commit_to_view : (i : ℕ) → AfterChanged OfView (commit_to l settled pending i) settled pending
    unfolding view_of
    commit_to_view i = after_commit_to OfView l settled pending i (λ good. q) (λ good above within. q)

    pub applied_to_view : (i : ℕ) → AfterChanged OfView (applied_to l settled pending i) settled pending
    unfolding view_of
    applied_to_view i = after_applied_to OfView l settled pending i (λ good. q) (λ good above within. q)

    pub maybe_commit_view : (i t : ℕ) → AfterDecided OfView (maybe_commit l settled pending i t) settled pending
    unfolding view_of
    maybe_commit_view i t = after_maybe_commit OfView l settled pending i t (λ good above within. q)

    pub maybe_persist_view : (i t : ℕ) → AfterDecided OfView (maybe_persist l settled pending i t) settled pending
    unfolding view_of
    maybe_persist_view i t = after_maybe_persist OfView l settled pending i t (λ good above below. q)
