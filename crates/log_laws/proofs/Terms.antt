-- Each call keeps nonzero terms: what it takes passed refusal 3's test, and its other records were there before. And where the term is 0.
use Prim.Native.Nat.{ℕ, ◌-◌, ◌<◌}
use mathlib.Core.Path.{◌≡◌, sym, ap, subst, ◌∙◌}
use mathlib.Core.Bool.{Bool, true, false}
use mathlib.Core.Logic.{◌⊎◌, ⊎_elim, inl, inr}
use mathlib.Core.List.{List}
use native.Mathlib.Omega.{arith}
use borrow.Author.Tests.{eqb-false, not-false}
use lib.Dec.{eqb}
use lib.ListN.{length}
use Rattle.units.proofs.Lists.{each_append, each_take, each_listed}
use Rattle.units.proofs.Numbers.{below_or_not}
use Rattle.units.specs.Lists.{listed}
use Rattle.rules.specs.Log.{Entry, Log as Abstract, last, term_of}
use Rattle.rules.specs.Receiver.{delete_from}
use Rattle.raft_log.specs.declared.Log.{Log}
use Rattle.raft_log.specs.Words.{run_count, none, zero_at}
use Rattle.raft_log.specs.State.{Good, term_at}
use Rattle.raft_log.specs.Run.{zero_term_in, terms_set}
use Rattle.raft_log.specs.Append.{maybe_append, maybe_append_store}
use Rattle.raft_log.specs.Extend.{first_of, append_run, append_run_store}
use Rattle.raft_log.specs.Commit.{commit_to, applied_to, maybe_commit, maybe_persist}
use Rattle.raft_log.specs.Settle.{stable_entries, stable_entries_store}
use Rattle.raft_log.specs.Setup.{new_log}
use Rattle.raft_log.proofs.States.{no_term, zero_start}
use Rattle.raft_log.proofs.Searching.{none_below}
use Rattle.raft_log.proofs.Extending.{last_allowed}
use Rattle.raft_log.proofs.Appending.{done_passed}
use Rattle.log_laws.specs.View.{store_entry, run_entry, run_entries, view_of, message_of}
use Rattle.log_laws.specs.Keep.{AfterChanged, AfterDecided, AfterExtended, AfterAppended, NonzeroTerms, TermsSet}
use Rattle.log_laws.proofs.Views.{entry_start, view_last, view_term}
use Rattle.log_laws.proofs.Looking.{at_zero}
use Rattle.log_laws.proofs.After.{after_new, after_stable_entries, after_append, after_maybe_append}
use Rattle.log_laws.proofs.Unmoved.{commit_to_view, applied_to_view, maybe_commit_view, maybe_persist_view}
use Rattle.log_laws.proofs.Fresh.{fresh_view}
use Rattle.log_laws.proofs.AfterCalls.{ViewExtends, settled_view, extended_view}
use Rattle.log_laws.proofs.Receiving.{taken}
use Rattle.log_laws.proofs.Nonzero.{TermSet, AllSet, nonzero_set, set_nonzero, AfterSteps, receiver_nonzero}

-- ---- what refusal 3 lets through: n records among which its search finds no term 0, and a run

searched_set : (f : ℕ → Entry) (n : ℕ) → none (zero_at (λ k. (f k).term)) n ≡ true → AllSet (listed f 0 n)
searched_set f n h =
    each_listed TermSet f 0 n (λ i b.
    let nonzero : (f i).term ≡ 0 → ⊥ = eqb-false _ _ (none_below (zero_at (λ k. (f k).term)) n h i (omega arith)) in
    omega arith)

run_set : (run : List ℕ) → zero_term_in run ≡ false → AllSet (run_entries run)
unfolding terms_set
run_set run h = searched_set (run_entry run) (run_count run) (not-false _ h)

-- ---- the calls that move one number

module _ (l : Log) (settled pending : List ℕ) (set : TermsSet l settled pending) where
  pub commit_to_terms : (i : ℕ) → AfterChanged TermsSet (commit_to l settled pending i) settled pending
  commit_to_terms = commit_to_view NonzeroTerms l settled pending set

  pub applied_to_terms : (i : ℕ) → AfterChanged TermsSet (applied_to l settled pending i) settled pending
  applied_to_terms = applied_to_view NonzeroTerms l settled pending set

  pub maybe_commit_terms : (i t : ℕ) → AfterDecided TermsSet (maybe_commit l settled pending i t) settled pending
  maybe_commit_terms = maybe_commit_view NonzeroTerms l settled pending set

  pub maybe_persist_terms : (i t : ℕ) → AfterDecided TermsSet (maybe_persist l settled pending i t) settled pending
  maybe_persist_terms = maybe_persist_view NonzeroTerms l settled pending set

-- ---- set-up

pub new_terms : (start startterm last : ℕ) (settled pending : List ℕ) → AfterChanged TermsSet (new_log start startterm last settled) settled pending
new_terms start startterm last settled pending =
    after_new TermsSet start startterm last settled pending (λ s z.
    subst NonzeroTerms (sym (fresh_view start startterm last settled pending)) (set_nonzero _ (searched_set (store_entry settled) (last - start) z)))

module _ (l : Log) (settled pending : List ℕ) (set : TermsSet l settled pending) where
  -- ---- `stable_entries`

  pub stable_entries_terms : (i t : ℕ)
      → AfterChanged TermsSet (stable_entries l settled pending i t) (stable_entries_store (stable_entries l settled pending i t) l settled pending) pending
  stable_entries_terms i t = after_stable_entries TermsSet l settled pending i t (λ a e. subst NonzeroTerms (sym (settled_view l settled pending i t a e)) set)

  -- ---- `append`

  -- the records before the run's first index, then the run's
  extends_terms : (run : List ℕ) → zero_term_in run ≡ false → (b : Bool) (a : Log) (store : List ℕ) → ViewExtends l settled pending run b a store → TermsSet a settled store
  extends_terms run z true a store e = subst NonzeroTerms (sym e) set
  extends_terms run z false a store e =
      let v = view_of l settled pending in
      subst NonzeroTerms (sym e) (set_nonzero _ (each_append TermSet (delete_from v (first_of run)).entries (run_entries run) (each_take TermSet (first_of run - v.start - 1) v.entries (nonzero_set v set)) (run_set run z)))

  pub append_terms : (run : List ℕ) → AfterExtended TermsSet (append_run l settled pending run) settled (append_run_store (append_run l settled pending run) pending run)
  append_terms run =
      after_append TermsSet l settled pending run (λ i a e.
      extends_terms run (last_allowed l settled pending run e).formed.1 (eqb (length run) 0) a _ (extended_view l settled pending run i a e))

  -- ---- `maybe_append`

  pub maybe_append_terms : (idx term commit : ℕ) (run : List ℕ)
      → AfterAppended TermsSet (maybe_append l settled pending idx term commit run) settled (maybe_append_store (maybe_append l settled pending idx term commit run) pending idx run)
  maybe_append_terms idx term commit run =
      after_maybe_append TermsSet l settled pending idx term commit run (λ a e.
      subst AfterSteps (taken l settled pending idx term commit run a e).steps
      (receiver_nonzero _ l.committed.0 (message_of idx term commit run) set (run_set run (done_passed l settled pending idx term commit run e).0.formed.1)))

-- ---- where the term is 0

module _ (l : Log) (settled pending : List ℕ) (good : Good l settled pending) where
  abbrev v : Abstract
  v = view_of l settled pending

  -- THE TERM IS 0 only at index 0 and outside the log ..
  pub zero_outside : TermsSet l settled pending → (i : ℕ) → term_of v i ≡ 0 → (i ≡ 0) ⊎ ((i < v.start) ⊎ (last v < i))
  unfolding view_of
  zero_outside set i h =
      ⊎_elim (λ below. inr (inl below))
      (λ from.
      ⊎_elim (λ beyond. inr (inr beyond))
      (λ within.
      ⊎_elim (λ behind. let some : 0 < term_of v i = set i behind within in absurd (omega arith))
      (λ upto.
      let at : i ≡ l.start.0 = omega arith in
      inl (at ∙ (zero_start l settled pending good).1 (sym (ap (λ (e : Entry). e.term) (entry_start l settled pending good i at)) ∙ h)))
      (below_or_not l.start.0 i))
      (below_or_not (last v) i))
      (below_or_not i l.start.0)

  -- .. and always there.
  pub outside_zero : (i : ℕ) → (i ≡ 0) ⊎ ((i < v.start) ⊎ (last v < i)) → term_of v i ≡ 0
  unfolding view_of
  outside_zero i w =
      view_term l settled pending good i
      ∙ ⊎_elim (λ at. ap (term_at l settled pending) at ∙ at_zero l settled pending good)
      (λ outside. no_term l settled pending good i (⊎_elim (λ below. inl below) (λ beyond. inr (omega (arith, view_last l settled pending good))) outside))
      w
