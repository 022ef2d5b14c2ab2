-- What each call's answer keeps, the follower after it has: from the laws on answers (log_laws) to followers. So a log that set-up and the calls made meets the state rules and has no zero term.
use Prim.Native.Nat.{ℕ}
use mathlib.Core.Path.{◌≡◌, subst}
use mathlib.Core.List.{List}
use Rattle.raft_log.specs.declared.Log.{Log}
use Rattle.raft_log.specs.declared.Appended.{Appended}
use Rattle.raft_log.specs.State.{Good}
use Rattle.raft_log.specs.Append.{match_run, maybe_append, maybe_append_store}
use Rattle.raft_log.specs.Commit.{commit_to, applied_to, maybe_commit, maybe_persist}
use Rattle.raft_log.specs.Extend.{append_run, append_run_store}
use Rattle.raft_log.specs.Settle.{stable_entries, stable_entries_store}
use Rattle.raft_log.specs.Setup.{new_log}
use Rattle.log_laws.specs.Keep.{AfterChanged, AfterDecided, AfterExtended, AfterAppended, TermsSet}
use Rattle.log_laws.proofs.Keep.{commit_to_keeps, applied_to_keeps, maybe_commit_keeps, maybe_persist_keeps, new_keeps, stable_entries_keeps, append_keeps, maybe_append_keeps}
use Rattle.log_laws.proofs.Terms.{commit_to_terms, applied_to_terms, maybe_commit_terms, maybe_persist_terms, new_terms, stable_entries_terms, append_terms, maybe_append_terms}
use Rattle.two_ends.specs.Follower.{Follower, log_appended, log_extended, log_changed, log_decided, Message, engine, answer_to, Between, settles, persists, applies, reads, with_log, settled_by, does, extended_by, Made, set_up, by_maybe_append, by_between, by_append, by_commit_to, by_maybe_commit}
use Rattle.std.specs.Prelude.{Ok, Err, Some, None, Option}
use Rattle.units.specs.Refusals.{Answer}
use Rattle.units.specs.declared.Index.{Index}

-- A property of a log over its stores, of a follower.
abbrev pub Of : (Log → List ℕ → List ℕ → Type 0) → Follower → Type 0
Of P f = P f.log f.settled f.pending

-- What holds before the call and of the log that its answer carries, holds after it.
module _ (P : Log → List ℕ → List ℕ → Type 0) (l : Log) (settled pending : List ℕ) (before : P l settled pending) where
  pub changed_carries : (a : Answer Log) → AfterChanged P a settled pending → P (log_changed a l) settled pending
  changed_carries (Ok after) h = h
  changed_carries (Err n) h = before

  pub decided_carries : (a : Answer (Option Log)) → AfterDecided P a settled pending → P (log_decided a l) settled pending
  decided_carries (Ok (Some after)) h = h
  decided_carries (Ok None) h = before
  decided_carries (Err n) h = before

  pub settled_carries : (a : Answer Log) → AfterChanged P a (stable_entries_store a l settled pending) pending → P (log_changed a l) (stable_entries_store a l settled pending) pending
  unfolding stable_entries_store
  settled_carries (Ok after) h = h
  settled_carries (Err n) h = before

  extended_carries : (run : List ℕ) (a : Answer (Index × Log)) → AfterExtended P a settled (append_run_store a pending run) → P (log_extended a l) settled (append_run_store a pending run)
  unfolding append_run_store
  extended_carries run (Ok (last, after)) h = h
  extended_carries run (Err n) h = before

  appended_carries : (idx : ℕ) (run : List ℕ) (a : Answer Appended) → AfterAppended P a settled (maybe_append_store a pending idx run) → P (log_appended a l) settled (maybe_append_store a pending idx run)
  unfolding maybe_append_store
  appended_carries idx run (Ok said) h = h
  appended_carries idx run (Err n) h = before

-- The state rules, and no zero term.
abbrev pub Sound : Follower → Type 0
Sound f = Of Good f × Of TermsSet f

module _ (f : Follower) (s : Sound f) where
  abbrev l : Log
  l = f.log

  pub received_sound : (m : Message) → Sound (engine f m).follower
  unfolding engine maybe_append match_run
  received_sound m = (
    appended_carries Good l f.settled f.pending s.0 m.idx m.run (answer_to f m) (maybe_append_keeps l f.settled f.pending m.idx m.term m.commit m.run),
    appended_carries TermsSet l f.settled f.pending s.1 m.idx m.run (answer_to f m) (maybe_append_terms l f.settled f.pending s.1 m.idx m.term m.commit m.run),
  )

  settled_sound : (i t : ℕ) → Sound (settled_by f (stable_entries l f.settled f.pending i t))
  settled_sound i t =
      let a : Answer Log = stable_entries l f.settled f.pending i t in
      (settled_carries Good l f.settled f.pending s.0 a (stable_entries_keeps l f.settled f.pending i t), settled_carries TermsSet l f.settled f.pending s.1 a (stable_entries_terms l f.settled f.pending s.1 i t))

  persisted_sound : (i t : ℕ) → Sound (with_log f (log_decided (maybe_persist l f.settled f.pending i t) l))
  persisted_sound i t =
      let a : Answer (Option Log) = maybe_persist l f.settled f.pending i t in
      (decided_carries Good l f.settled f.pending s.0 a (maybe_persist_keeps l f.settled f.pending i t), decided_carries TermsSet l f.settled f.pending s.1 a (maybe_persist_terms l f.settled f.pending s.1 i t))

  applied_sound : (i : ℕ) → Sound (with_log f (log_changed (applied_to l f.settled f.pending i) l))
  applied_sound i =
      let a : Answer Log = applied_to l f.settled f.pending i in
      (changed_carries Good l f.settled f.pending s.0 a (applied_to_keeps l f.settled f.pending i), changed_carries TermsSet l f.settled f.pending s.1 a (applied_to_terms l f.settled f.pending s.1 i))

  committed_sound : (i : ℕ) → Sound (with_log f (log_changed (commit_to l f.settled f.pending i) l))
  committed_sound i =
      let a : Answer Log = commit_to l f.settled f.pending i in
      (changed_carries Good l f.settled f.pending s.0 a (commit_to_keeps l f.settled f.pending i), changed_carries TermsSet l f.settled f.pending s.1 a (commit_to_terms l f.settled f.pending s.1 i))

  may_commit_sound : (i t : ℕ) → Sound (with_log f (log_decided (maybe_commit l f.settled f.pending i t) l))
  may_commit_sound i t =
      let a : Answer (Option Log) = maybe_commit l f.settled f.pending i t in
      (decided_carries Good l f.settled f.pending s.0 a (maybe_commit_keeps l f.settled f.pending i t), decided_carries TermsSet l f.settled f.pending s.1 a (maybe_commit_terms l f.settled f.pending s.1 i t))

  extended_sound : (run : List ℕ) → Sound (extended_by f run (append_run l f.settled f.pending run))
  extended_sound run =
      let a : Answer (Index × Log) = append_run l f.settled f.pending run in
      (extended_carries Good l f.settled f.pending s.0 run a (append_keeps l f.settled f.pending run), extended_carries TermsSet l f.settled f.pending s.1 run a (append_terms l f.settled f.pending s.1 run))

  pub between_sound : (b : Between) → Sound (does f b)
  unfolding does
  between_sound (settles i t) = settled_sound i t
  between_sound (persists i t) = persisted_sound i t
  between_sound (applies i) = applied_sound i
  between_sound reads = s

-- 01: "a log that set-up and these calls made" is sound: nothing of it need be assumed.
fresh_sound : (start startterm last : ℕ) (settled pending : List ℕ) (l : Log) → new_log start startterm last settled ≡ Ok l → Good l settled pending × TermsSet l settled pending
fresh_sound start startterm last settled pending l e = (
  subst (λ (a : Answer Log). AfterChanged Good a settled pending) e (new_keeps start startterm last settled pending),
  subst (λ (a : Answer Log). AfterChanged TermsSet a settled pending) e (new_terms start startterm last settled pending),
)

pub made_sound : (f : Follower) → Made f → Sound f
made_sound f (set_up start startterm last settled pending l e) = fresh_sound start startterm last settled pending l e
made_sound f (by_maybe_append g made m) = received_sound g (made_sound g made) m
made_sound f (by_between g made b) = between_sound g (made_sound g made) b
made_sound f (by_append g made run) = extended_sound g (made_sound g made) run
made_sound f (by_commit_to g made i) = committed_sound g (made_sound g made) i
made_sound f (by_maybe_commit g made i t) = may_commit_sound g (made_sound g made) i t
