-- What the other writing calls leave of the view: `stable_entries` nothing new, `append` the records before its first index and then the run's. (The calls that move one number leave it as it is: it does not read them.)
use mathlib.Core.Path.{◌≡◌, refl, sym, ap, subst, ◌∙◌}
use mathlib.Core.Bool.{Bool, true, false, cond}
use mathlib.Core.List.{List, append-nil}
use Prim.Native.Nat.{ℕ, ◌+◌, ◌-◌, ◌*◌, ◌≤◌}
use native.Mathlib.Omega.{arith}
use borrow.Author.Tests.{eqb-true, eqb-false}
use lib.Dec.{eqb}
use lib.ListN.{length}
use lib.Seq.{paste}
use Rattle.rules.specs.Receiver.{with_entries}
use Rattle.rules.proofs.Receiver.{cut_on}
use Rattle.units.specs.declared.Index.{Index}
use Rattle.units.specs.Lists.{listed}
use Rattle.raft_log.specs.declared.Log.{Log}
use Rattle.raft_log.specs.Words.{record_words, room, run_count, put_run}
use Rattle.raft_log.specs.State.{Good, last_of, settled_count}
use Rattle.raft_log.specs.Extend.{first_of, append_run, append_run_store}
use Rattle.raft_log.specs.Settle.{settled_log, stable_entries, stable_entries_store}
use Rattle.log_laws.specs.View.{store_entry, records, run_entries, view_of}
use Rattle.raft_log.proofs.States.{whole_good}
use Rattle.raft_log.proofs.Settling.{settle_room}
use Rattle.raft_log.proofs.Extending.{InPlace, Allowed, last_allowed}
use Rattle.log_laws.proofs.Views.{listed_two, pasted_below, pasted_inside}
use Rattle.log_laws.proofs.Cutting.{view_cut}
use Rattle.std.specs.Prelude.{Ok}

-- ---- `stable_entries`

module _ (l : Log) (settled pending : List ℕ) where
  abbrev copied : List ℕ
  copied = paste settled (settled_count l * record_words) pending (l.count * record_words)

  moved : Good l settled pending → last_of l - l.start.0 ≤ room settled → view_of (settled_log l) copied pending ≡ view_of l settled pending
  unfolding view_of listed
  moved good fits =
      let low = good.start_lt_offset in
      let here : settled_count l + l.count ≤ room settled = omega arith in
      let there = good.pending_room in
      let number : last_of l + 1 - 1 - l.start.0 ≡ settled_count l + l.count = omega arith in
      ap (with_entries (view_of l settled pending))
      (append-nil (records (last_of l + 1 - 1 - l.start.0) copied)
      ∙ ap (λ (x : ℕ). records x copied) number
      ∙ listed_two (store_entry copied) (store_entry settled) (store_entry pending) (settled_count l) 0 l.count
      (pasted_below settled (settled_count l) pending l.count here there)
      (λ i h. pasted_inside settled (settled_count l) pending l.count here there i h ∙ ap (store_entry pending) (omega arith)))

  -- THE LOG IS THE SAME after its pending records went over to the settled ones.
  pub settled_view : (i t : ℕ) (a : Log) → stable_entries l settled pending i t ≡ Ok a
      → view_of a (stable_entries_store (Ok a) l settled pending) pending ≡ view_of l settled pending
  unfolding stable_entries_store
  settled_view i t a h =
      let r = settle_room l settled pending i t h in
      ap (λ (x : Log). view_of x copied pending) (sym r.2) ∙ moved r.0 r.1

-- ---- `append`

module _ (l : Log) (settled pending run : List ℕ) where
  -- the view after the call, by whether the run is empty
  abbrev pub ViewExtends : Bool → Log → List ℕ → Type 0
  ViewExtends true a store = view_of a settled store ≡ view_of l settled pending
  ViewExtends false a store = view_of a settled store ≡ cut_on (view_of l settled pending) (first_of run) (run_entries run)

  cut : Good l settled pending → {a : Log} → InPlace l pending (first_of run) (run_count run) a
      → ViewExtends false a (put_run pending (first_of run - a.offset.0) run 0 (run_count run))
  cut good p =
      let above = p.above in
      subst (λ (x : Log). ViewExtends false x (put_run pending (first_of run - x.offset.0) run 0 (run_count run))) p.same
      (view_cut l settled pending good (first_of run) (omega (arith, good.start_le_committed)) p.follows run 0 (run_count run) (first_of run + run_count run - 1) l.persisted.0 (omega arith) p.places)

  by_emptiness : {a : Log} → Allowed l settled pending run a → (b : Bool) → eqb (length run) 0 ≡ b
      → ViewExtends b a (cond b pending (put_run pending (first_of run - a.offset.0) run 0 (run_count run)))
  by_emptiness p true e = ap (λ (x : Log). view_of x settled pending) (sym (p.none (eqb-true _ _ e)))
  by_emptiness p false e = cut (whole_good l settled pending p.whole) (p.some (eqb-false _ _ e))

  -- THE LOG AFTER `append`: an empty run leaves it; else the records before the run's first index stay, and the run's follow.
  pub extended_view : (i : Index) (a : Log) → append_run l settled pending run ≡ Ok (i, a)
      → ViewExtends (eqb (length run) 0) a (append_run_store (Ok (i, a)) pending run)
  unfolding append_run_store
  extended_view i a h = by_emptiness (last_allowed l settled pending run h) (eqb (length run) 0) refl
