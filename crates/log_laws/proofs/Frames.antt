-- Every word outside the records that a call adds or copies is as it was, and no store changes its length.
use Prim.Native.Nat.{ℕ, ◌+◌, ◌-◌, ◌*◌, ◌≤◌}
use mathlib.Core.Path.{◌≡◌, refl}
use mathlib.Core.Bool.{Bool, cond}
use mathlib.Core.List.{List}
use mathlib.Core.Logic.{⊎_elim}
use native.Mathlib.Omega.{arith}
use lib.Dec.{eqb}
use lib.ListN.{length, get_or}
use lib.Seq.{length-paste}
use Rattle.units.specs.declared.Index.{Index}
use Rattle.units.proofs.Cond.{both_ends}
use Rattle.raft_log.specs.declared.Log.{Log}
use Rattle.raft_log.specs.declared.Appended.{Appended}
use Rattle.raft_log.specs.Words.{record_words, run_count, put_run}
use Rattle.raft_log.specs.State.{settled_count}
use Rattle.raft_log.specs.Append.{maybe_append_store}
use Rattle.raft_log.specs.Extend.{first_of, append_run_store}
use Rattle.raft_log.specs.Settle.{stable_entries, stable_entries_store}
use Rattle.raft_log.proofs.Settling.{settle_room}
use Rattle.log_laws.specs.Frame.{Elsewhere}
use Rattle.log_laws.proofs.Views.{length_put_or, put_elsewhere, paste_before, paste_after}
use Rattle.std.specs.Prelude.{Ok, Err}
use Rattle.units.specs.Refusals.{Answer}

-- A run put into a store, or not.
store_elsewhere : (b : Bool) (s : List ℕ) (at : ℕ) (run : List ℕ) (k n w : ℕ) → Elsewhere at n w → get_or (cond b s (put_run s at run k n)) w 0 ≡ get_or s w 0
store_elsewhere b s at run k n w h =
    both_ends (λ (x : List ℕ). get_or x w 0 ≡ get_or s w 0) b refl (put_elsewhere s at run k n w h)

-- `maybe_append`: the records from the conflict up to the message's last index.
module _ (pending : List ℕ) (idx : ℕ) (run : List ℕ) where
  pub maybe_append_elsewhere : (a : Appended) (w : ℕ) → Elsewhere (a.conflict.0 - a.log.offset.0) (a.last.0 + 1 - a.conflict.0) w
      → get_or (maybe_append_store (Ok a) pending idx run) w 0 ≡ get_or pending w 0
  unfolding maybe_append_store
  maybe_append_elsewhere a w h =
      store_elsewhere (eqb a.conflict.0 0) pending (a.conflict.0 - a.log.offset.0) run (a.conflict.0 - idx - 1) (a.last.0 + 1 - a.conflict.0) w h

  pub maybe_append_length : (a : Answer Appended) → length (maybe_append_store a pending idx run) ≡ length pending
  unfolding maybe_append_store
  maybe_append_length (Ok a) =
      length_put_or (eqb a.conflict.0 0) pending (a.conflict.0 - a.log.offset.0) run (a.conflict.0 - idx - 1) (a.last.0 + 1 - a.conflict.0)
  maybe_append_length (Err number) = refl

-- `append`: the run's records.
module _ (pending run : List ℕ) where
  pub append_elsewhere : (last : Index) (after : Log) (w : ℕ) → Elsewhere (first_of run - after.offset.0) (run_count run) w
      → get_or (append_run_store (Ok (last, after)) pending run) w 0 ≡ get_or pending w 0
  unfolding append_run_store
  append_elsewhere last after w h = store_elsewhere (eqb (length run) 0) pending (first_of run - after.offset.0) run 0 (run_count run) w h

  pub append_length : (a : Answer (Index × Log)) → length (append_run_store a pending run) ≡ length pending
  unfolding append_run_store
  append_length (Ok (last, after)) = length_put_or (eqb (length run) 0) pending (first_of run - after.offset.0) run 0 (run_count run)
  append_length (Err number) = refl

-- `stable_entries`: the pending records, behind the settled ones.
module _ (l : Log) (settled pending : List ℕ) (i t : ℕ) (after : Log) (now : stable_entries l settled pending i t ≡ Ok after) where
  fits : (settled_count l * record_words + l.count * record_words ≤ length settled) × (l.count * record_words ≤ length pending)
  fits =
      let r = settle_room l settled pending i t now in
      (omega (arith, r.1, r.0.start_lt_offset), omega (arith, r.0.pending_room))

  pub stable_entries_elsewhere : (w : ℕ) → Elsewhere (settled_count l) l.count w → get_or (stable_entries_store (Ok after) l settled pending) w 0 ≡ get_or settled w 0
  unfolding stable_entries_store
  stable_entries_elsewhere w =
      ⊎_elim
      (paste_before settled (settled_count l * record_words) pending (l.count * record_words) w (omega (arith, fits.0)))
      (λ h. paste_after settled (settled_count l * record_words) pending (l.count * record_words) w (omega (arith, fits.0)) fits.1 (omega arith))

  pub stable_entries_length : length (stable_entries_store (Ok after) l settled pending) ≡ length settled
  unfolding stable_entries_store
  stable_entries_length = length-paste settled (settled_count l * record_words) pending (l.count * record_words) fits.0 fits.1
