-- What holds after a call: P of the log that its answer carries, over the stores as they then are, by what the answer's tests let through. Said once for every P: the state rules (Keep.antt), what is so of the records (Unmoved.antt), nonzero terms (Terms.antt).
use mathlib.Core.Path.{◌≡◌, refl, ap}
use mathlib.Core.Bool.{Bool, true, not, ◌||◌, cond, and-eq-true_iff}
use mathlib.Core.List.{List}
use Prim.Native.Nat.{ℕ, ◌-◌, ◌≤◌, ◌<◌, min}
use lib.Dec.{eqb, leb, ltb}
use borrow.Author.Tests.{ltb-true, ltb-false, leb-true, leb-false, not-false}
use Rattle.units.specs.declared.Index.{Index}
use Rattle.units.specs.declared.refusal.Refusal.TheVariants as refusal
use Rattle.units.proofs.Cond.{either_end}
use Rattle.raft_log.specs.declared.Log.{Log}
use Rattle.raft_log.specs.declared.Appended.{Appended}
use Rattle.raft_log.specs.Words.{store_term, none, zero_at}
use Rattle.raft_log.specs.State.{Good, broken, last_of}
use Rattle.raft_log.specs.Append.{with_committed, maybe_append, maybe_append_store}
use Rattle.raft_log.specs.Extend.{append_run, append_run_store}
use Rattle.raft_log.specs.Commit.{with_applied, with_persisted, may_commit, may_persist, commit_to, applied_to, maybe_commit, maybe_persist}
use Rattle.raft_log.specs.Settle.{stable_entries, stable_entries_store}
use Rattle.raft_log.specs.Setup.{fresh, setup_ok, settled_zero, new_log}
use Rattle.raft_log.proofs.States.{neither, whole_good}
use Rattle.raft_log.proofs.Setups.{SetsUp, ok_sets_up}
use Rattle.log_laws.specs.Keep.{AfterChanged, AfterDecided, AfterExtended, AfterAppended}
use Rattle.std.specs.Prelude.{Ok, Err, Some, None, Option}
use Rattle.units.specs.Refusals.{Answer}

-- ---- set-up

pub after_new : (P : Log → List ℕ → List ℕ → Type 0) (start startterm last : ℕ) (settled pending : List ℕ)
    → (SetsUp start startterm last settled → none (zero_at (store_term settled)) (last - start) ≡ true → P (fresh start startterm last) settled pending)
    → AfterChanged P (new_log start startterm last settled) settled pending
unfolding new_log
after_new P start startterm last settled pending made =
    let Then : Answer Log → Type 0 = λ a. AfterChanged P a settled pending in
    either_end Then (not (setup_ok start startterm last settled)) (λ _. tt) (λ h.
    either_end Then (settled_zero settled (last - start)) (λ _. tt) (λ z. made (ok_sets_up start startterm last settled (not-false _ h)) (not-false _ z)))

module _ (P : Log → List ℕ → List ℕ → Type 0) (l : Log) (settled pending : List ℕ) where
  -- ---- the calls that move one number: of the log as it was, where the answer is that, and of the log with the number moved

  abbrev Then : Answer Log → Type 0
  Then x = AfterChanged P x settled pending

  abbrev ThenBy : Answer (Option Log) → Type 0
  ThenBy x = AfterDecided P x settled pending

  pub after_commit_to : (i : ℕ) → (Good l settled pending → P l settled pending)
      → (Good l settled pending → l.committed.0 < i → i ≤ last_of l → P (with_committed l i) settled pending) → Then (commit_to l settled pending i)
  unfolding commit_to
  after_commit_to i same moved =
      either_end Then (broken l settled pending) (λ _. tt) (λ h.
      let good = whole_good l settled pending h in
      either_end Then (leb i l.committed.0) (λ _. same good) (λ a.
      either_end Then (ltb (last_of l) i) (λ _. tt) (λ b. moved good (leb-false _ _ a) (ltb-false _ _ b))))

  pub after_applied_to : (i : ℕ) → (Good l settled pending → P l settled pending)
      → (Good l settled pending → l.applied.0 ≤ i → i ≤ min l.committed.0 l.persisted.0 → P (with_applied l i) settled pending) → Then (applied_to l settled pending i)
  unfolding applied_to
  after_applied_to i same moved =
      either_end Then (broken l settled pending) (λ _. tt) (λ h.
      let good = whole_good l settled pending h in
      either_end Then (eqb i 0) (λ _. same good) (λ a.
      either_end Then (ltb (min l.committed.0 l.persisted.0) i || ltb i l.applied.0) (λ _. tt) (λ b.
      let within = neither (ltb (min l.committed.0 l.persisted.0) i) (ltb i l.applied.0) (ap not b) in
      moved good (ltb-false _ _ within.1) (ltb-false _ _ within.0))))

  if_yes : (test : Bool) (after : Log) → (Good l settled pending → test ≡ true → P after settled pending)
      → ThenBy (cond (broken l settled pending) (Err refusal.BrokenState) (cond test (Ok (Some after)) (Ok None)))
  if_yes test after moved =
      either_end ThenBy (broken l settled pending) (λ _. tt) (λ h. either_end ThenBy test (moved (whole_good l settled pending h)) (λ _. tt))

  pub after_maybe_commit : (i t : ℕ) → (Good l settled pending → l.committed.0 < i → i ≤ last_of l → P (with_committed l i) settled pending) → ThenBy (maybe_commit l settled pending i t)
  unfolding maybe_commit
  after_maybe_commit i t moved =
      if_yes (may_commit l settled pending i t) (with_committed l i) (λ good y.
      let bounds = (and-eq-true_iff _ _).0 ((and-eq-true_iff _ _).0 y).0 in
      moved good (ltb-true _ _ bounds.0) (leb-true _ _ bounds.1))

  pub after_maybe_persist : (i t : ℕ) → (Good l settled pending → l.persisted.0 < i → i < l.offset.0 → P (with_persisted l i) settled pending) → ThenBy (maybe_persist l settled pending i t)
  unfolding maybe_persist
  after_maybe_persist i t moved =
      if_yes (may_persist l settled i t) (with_persisted l i) (λ good y.
      let bounds = (and-eq-true_iff _ _).0 ((and-eq-true_iff _ _).0 y).0 in
      moved good (ltb-true _ _ bounds.0) (ltb-true _ _ bounds.1))

  -- ---- the calls that write: of the log and the store that an answer which is no refusal says

  pub after_stable_entries : (i t : ℕ) → ((a : Log) → stable_entries l settled pending i t ≡ Ok a → P a (stable_entries_store (Ok a) l settled pending) pending)
      → AfterChanged P (stable_entries l settled pending i t) (stable_entries_store (stable_entries l settled pending i t) l settled pending) pending
  after_stable_entries i t done = by_answer (stable_entries l settled pending i t) refl
    where
      by_answer : (x : Answer Log) → stable_entries l settled pending i t ≡ x → AfterChanged P x (stable_entries_store x l settled pending) pending
      by_answer (Ok a) e = done a e
      by_answer (Err number) e = tt

  pub after_append : (run : List ℕ) → ((m : Index) (a : Log) → append_run l settled pending run ≡ Ok (m, a) → P a settled (append_run_store (Ok (m, a)) pending run))
      → AfterExtended P (append_run l settled pending run) settled (append_run_store (append_run l settled pending run) pending run)
  after_append run done = by_answer (append_run l settled pending run) refl
    where
      by_answer : (x : Answer (Index × Log)) → append_run l settled pending run ≡ x → AfterExtended P x settled (append_run_store x pending run)
      by_answer (Ok (m, a)) e = done m a e
      by_answer (Err number) e = tt

  pub after_maybe_append : (idx term commit : ℕ) (run : List ℕ)
      → ((a : Appended) → maybe_append l settled pending idx term commit run ≡ Ok a → P a.log settled (maybe_append_store (Ok a) pending idx run))
      → AfterAppended P (maybe_append l settled pending idx term commit run) settled (maybe_append_store (maybe_append l settled pending idx term commit run) pending idx run)
  after_maybe_append idx term commit run done = by_answer (maybe_append l settled pending idx term commit run) refl
    where
      by_answer : (x : Answer Appended) → maybe_append l settled pending idx term commit run ≡ x → AfterAppended P x settled (maybe_append_store x pending idx run)
      by_answer (Ok a) e = done a e
      by_answer (Err number) e = tt
