-- The answer of `append`: one law for each answer, on the closed functions of specs/Extend.antt; the table read backwards; and what an answer with records says to the copy.
use mathlib.Core.Path.{◌≡◌, sym, ap}
use mathlib.Core.Bool.{false}
use mathlib.Core.List.{List}
use mathlib.Core.Logic.{⊎_elim}
use Prim.Native.Nat.{ℕ, ◌+◌, ◌-◌, ◌≤◌, ◌<◌, min}
use native.Mathlib.Omega.{arith}
use lib.ListN.{length}
use borrow.Author.Tests.{eq-eqb, ne_eqb, le-leb, lt-leb, lt-ltb, le-ltb, ltb-false, leb-false}
use Rattle.units.specs.Units.{index_of}
use Rattle.units.specs.declared.refusal.Refusal.TheVariants as refusal
use Rattle.units.specs.declared.Index.{Index}
use Rattle.raft_log.specs.declared.Log.{Log}
use Rattle.raft_log.specs.Words.{room, run_count, put_run, first_from}
use Rattle.raft_log.specs.State.{last_of, broken}
use Rattle.raft_log.specs.Run.{terms_set, zero_term_in, check_run}
use Rattle.raft_log.specs.Append.{with_pending, overfull}
use Rattle.raft_log.specs.Extend.{first_of, extended, bad_run, starts_committed, leaves_gap, starts_persisted, extend_from, append_run, append_run_store}
use Rattle.raft_log.proofs.Runs.{run_passed, run_refused}
use Rattle.units.proofs.Checks.{past_refusal}
use Rattle.std.specs.Prelude.{Ok, Err}
use Rattle.units.specs.Refusals.{Answer}
use Rattle.units.specs.declared.refusal.Refusal.{Refusal}

-- ---- a run that is not empty

module _ (l : Log) (pending : List ℕ) (first n : ℕ) where
  pub extend_committed : first ≤ l.committed.0 → extend_from l pending first n ≡ Err refusal.CutsCommitted
  unfolding extend_from
  extend_committed h = simp (le-leb _ _ h)

  module _ (above : l.committed.0 < first) where
    pub extend_gap : last_of l + 1 < first → extend_from l pending first n ≡ Err refusal.OutOfRange
    unfolding extend_from
    extend_gap h = simp (lt-leb _ _ above, lt-ltb _ _ h)

    module _ (follows : first ≤ last_of l + 1) where
      pub extend_full : room pending < first + n - 1 + 1 - min l.offset.0 first → extend_from l pending first n ≡ Err refusal.NoRoom
      unfolding extend_from
      extend_full h = simp (lt-leb _ _ above, le-ltb _ _ follows, lt-ltb _ _ h)

      pub extend_persisted : first + n - 1 + 1 - min l.offset.0 first ≤ room pending → first ≤ l.persisted.0
          → extend_from l pending first n ≡ Err refusal.OutOfRange
      unfolding extend_from
      extend_persisted r h = simp (lt-leb _ _ above, le-ltb _ _ follows, le-ltb _ _ r, le-leb _ _ h)

      pub extend_last : {offset count : ℕ}
          → offset ≡ min l.offset.0 first → count ≡ first + n - 1 + 1 - min l.offset.0 first → count ≤ room pending
          → l.persisted.0 < first
          → extend_from l pending first n ≡ Ok (index_of (first + n - 1), with_pending l offset count l.persisted.0)
      unfolding extend_from
      extend_last o e r h = simp (lt-leb _ _ above, le-ltb _ _ follows, le-ltb _ _ (rw e at r), lt-leb _ _ h, o, e)

-- ---- the whole table

no_zero_term : (run : List ℕ) → length run ≡ 0 → zero_term_in run ≡ false
unfolding terms_set first_from
no_zero_term run e =
    let z : run_count run ≡ 0 = omega arith in
    simp z

module _ (l : Log) (settled pending run : List ℕ) where
  module _ (ok : broken l settled pending ≡ false) where
    pub extend_empty : length run ≡ 0 → append_run l settled pending run ≡ Ok (index_of (last_of l), l)
    unfolding append_run
    extend_empty e = simp (ok, eq-eqb _ _ e, no_zero_term run e)

    module _ (some : length run ≡ 0 → ⊥) where
      pub extend_zero : first_of run ≡ 0 → append_run l settled pending run ≡ Err refusal.MisnumberedRun
      unfolding append_run
      extend_zero h = simp (ok, ne_eqb _ _ some, eq-eqb _ _ h)

      module _ (starts : first_of run ≡ 0 → ⊥) where
        pub extend_run : {r : Refusal} → check_run run (first_of run - 1) ≡ Err r → append_run l settled pending run ≡ Err r
        unfolding append_run
        extend_run e =
            ⊎_elim
            (λ m. simp (ok, ne_eqb _ _ some, ne_eqb _ _ starts, m.0, m.1))
            (λ t. simp (ok, ne_eqb _ _ some, ne_eqb _ _ starts, t.0, t.1, t.2))
            (run_refused run (first_of run - 1) e)

        pub extend_on : {n : ℕ} → check_run run (first_of run - 1) ≡ Ok n
            → append_run l settled pending run ≡ extend_from l pending (first_of run) n
        unfolding append_run
        extend_on e =
            let p = run_passed run (first_of run - 1) e in
            simp (ok, ne_eqb _ _ some, ne_eqb _ _ starts, p.numbers, p.terms, p.count)

-- ---- the table read backwards: what an answer that is no refusal says

-- a run from `first` on passed the tests of its place
pub record InPlace (l : Log) (pending : List ℕ) (first n : ℕ) (after : Log) : Type 0 where
  pub above : l.committed.0 < first
  pub follows : first ≤ last_of l + 1
  pub places : (extended l first n).count ≤ room pending
  pub fresh : l.persisted.0 < first
  pub same : extended l first n ≡ after

from_in_place : (l : Log) (pending : List ℕ) (first n : ℕ) {m : Index} {after : Log} → extend_from l pending first n ≡ Ok (m, after) → InPlace l pending first n after
unfolding extend_from
from_in_place l pending first n {m} {after} h =
    let committed = past_refusal (starts_committed l first) _ h in
    let gap = past_refusal (leaves_gap l first) _ committed.1 in
    let full = past_refusal (overfull (extended l first n) pending) _ gap.1 in
    let answer = past_refusal (starts_persisted l first) _ full.1 in
    let said : (index_of (first + n - 1), extended l first n) ≡ (m, after) = cc answer.1 in
    record { above = leb-false _ _ committed.0; follows = ltb-false _ _ gap.0; places = ltb-false _ _ full.0; fresh = leb-false _ _ answer.0; same = ap (λ (x : Index × Log). x.1) said }

module _ (l : Log) (settled pending run : List ℕ) where
  -- no test of the table held: an empty run leaves the log, another has its place
  pub record Allowed (after : Log) : Type 0 where
    pub whole : broken l settled pending ≡ false
    pub formed : (bad_run run ≡ false) × (zero_term_in run ≡ false)
    pub none : length run ≡ 0 → l ≡ after
    pub some : (length run ≡ 0 → ⊥) → InPlace l pending (first_of run) (run_count run) after

  pub last_allowed : {m : Index} {after : Log} → append_run l settled pending run ≡ Ok (m, after) → Allowed after
  unfolding append_run
  last_allowed {m} {after} h =
      let whole = past_refusal (broken l settled pending) _ h in
      let numbers = past_refusal (bad_run run) _ whole.1 in
      let terms = past_refusal (zero_term_in run) _ numbers.1 in
      record {
        whole = whole.0;
        formed = (numbers.0, terms.0);
        none = λ e.
            let same : Ok (index_of (last_of l), l) ≡ Ok (m, after) = simp (eq-eqb _ _ e) at terms.1 in
            let pair : (index_of (last_of l), l) ≡ (m, after) = cc same in
            ap (λ (x : Index × Log). x.1) pair;
        some = λ e. from_in_place l pending (first_of run) (run_count run) (simp (ne_eqb _ _ e) at terms.1);
      }

-- ---- what an answer with records says

-- the records from offset on have their places, and the run begins among them
pub record Extends (places first n : ℕ) (after : Log) : Type 0 where
  pub kept : after.offset.0 ≤ first
  pub fits : first + n - after.offset.0 ≤ places

pub extend_cut : (l : Log) (settled pending run : List ℕ) {m : Index} {after : Log} → append_run l settled pending run ≡ Ok (m, after)
    → (length run ≡ 0 → ⊥) → Extends (room pending) (first_of run) (run_count run) after
extend_cut l settled pending run h some =
    let p = (last_allowed l settled pending run h).some some in
    let places = p.places in
    let e = ap (λ (x : Log). x.offset.0) p.same in
    record { kept = omega arith; fits = omega arith }

-- ---- the store

module _ (pending run : List ℕ) where
  pub store_refused : {a : Answer (Index × Log)} {r : Refusal} → a ≡ Err r → pending ≡ append_run_store a pending run
  unfolding append_run_store
  store_refused e = sym (ap (λ (a : Answer (Index × Log)). append_run_store a pending run) e)

  pub store_empty : (m : Index) (l : Log) → length run ≡ 0 → pending ≡ append_run_store (Ok (m, l)) pending run
  unfolding append_run_store
  store_empty m l e = simp (eq-eqb _ _ e)

  pub store_put : (m : Index) (l : Log) → (length run ≡ 0 → ⊥)
      → put_run pending (first_of run - l.offset.0) run 0 (run_count run) ≡ append_run_store (Ok (m, l)) pending run
  unfolding append_run_store
  store_put m l e = simp (ne_eqb _ _ e)
