-- The cut that `maybe_append` and `append` share, on the view: the records before the conflict stay, and the run's follow them.
use mathlib.Core.Path.{◌≡◌, sym, ap, ◌∙◌}
use mathlib.Core.Logic.{⊎_elim}
use mathlib.Core.List.{List, ◌++◌, append-nil, append_assoc}
use Prim.Native.Nat.{ℕ, ◌+◌, ◌-◌, ◌≤◌, ◌<◌, min}
use native.Mathlib.Omega.{arith}
use native.Mathlib.Nat.{min-eq_left, min-eq_right, sub_right_comm}
use lib.ListN.{take}
use lib.Seq.{take-append-le, take-append-add}
use Rattle.units.proofs.Lists.{length-listed, take-listed}
use Rattle.rules.specs.Log.{Entry}
use Rattle.rules.specs.Receiver.{with_entries, delete_from}
use Rattle.rules.proofs.Receiver.{cut_on}
use Rattle.raft_log.specs.declared.Log.{Log}
use Rattle.raft_log.specs.Words.{room, put_run}
use Rattle.raft_log.specs.State.{Good, last_of, settled_count}
use Rattle.raft_log.specs.Append.{cut_log}
use Rattle.log_laws.specs.View.{store_entry, run_entry, records, view_of}
use Rattle.log_laws.proofs.Views.{listed_two, put_below, put_inside}
use Rattle.units.proofs.Numbers.{below_or_not}
use Rattle.units.specs.Lists.{listed}

-- numbers, apart so that few are in reach
seam : (n o s c : ℕ) → n ≡ o - 1 - s → s < o → o ≤ c → n + (c - o) ≡ c - s - 1
seam n o s c e h g = omega arith

shorter : (o n c : ℕ) → 0 < o → c ≤ o + n - 1 + 1 → c - o ≤ n
shorter o n c h f = omega arith

lower : (o s c : ℕ) → c < o → c - s - 1 ≤ o - 1 - s
lower o s c h = omega arith

counts : (o c m last : ℕ) → last + 1 ≡ c + m → last + 1 - min o c ≡ c - min o c + m
counts o c m last h = omega arith

module _ (l : Log) (settled pending : List ℕ) (good : Good l settled pending) (conflict : ℕ)
    (above : l.start.0 < conflict) (next : conflict ≤ last_of l + 1) where
  -- the offset after the cut, and how many pending records stay
  abbrev F : ℕ
  F = min l.offset.0 conflict

  abbrev a : ℕ
  a = conflict - F

  abbrev kept : List Entry
  kept = (delete_from (view_of l settled pending) conflict).entries

  -- the cut is in pending: what stays is all that is settled, and pending's first records
  kept_pending : l.offset.0 ≤ conflict → records (F - 1 - l.start.0) settled ++ records a pending ≡ kept
  unfolding view_of
  kept_pending h =
      let at : F ≡ l.offset.0 = min-eq_left h in
      ap (λ (x : ℕ). records (x - 1 - l.start.0) settled ++ records (conflict - x) pending) at
      ∙ ap (λ (x : List Entry). records (settled_count l) settled ++ x)
      (sym (take-listed (store_entry pending) 0 l.count (conflict - l.offset.0) (shorter l.offset.0 l.count conflict (omega arith) next)))
      ∙ sym (take-append-add (records (settled_count l) settled) (records l.count pending) (conflict - l.offset.0))
      ∙ ap (λ (x : ℕ). take x (records (settled_count l) settled ++ records l.count pending))
      (seam _ l.offset.0 l.start.0 conflict (length-listed (store_entry settled) 0 (settled_count l)) good.start_lt_offset h)

  -- the cut is below: the first settled records alone stay
  kept_settled : conflict < l.offset.0 → records (F - 1 - l.start.0) settled ++ records a pending ≡ kept
  unfolding view_of listed
  kept_settled h =
      let at : F ≡ conflict = min-eq_right (omega arith) in
      let none : conflict - conflict ≡ 0 = omega arith in
      let within : conflict - l.start.0 - 1 ≤ settled_count l = lower l.offset.0 l.start.0 conflict h in
      ap (λ (x : ℕ). records (x - 1 - l.start.0) settled ++ records (conflict - x) pending) at
      ∙ ap (λ (x : ℕ). records (conflict - 1 - l.start.0) settled ++ records x pending) none
      ∙ append-nil (records (conflict - 1 - l.start.0) settled)
      ∙ ap (λ (x : ℕ). records x settled) (sub_right_comm conflict 1 l.start.0)
      ∙ sym (take-append-le (conflict - l.start.0 - 1) (records (settled_count l) settled) (records l.count pending) (omega (arith, length-listed (store_entry settled) 0 (settled_count l)))
      ∙ take-listed (store_entry settled) 0 (settled_count l) (conflict - l.start.0 - 1) within)

  kept_is : records (F - 1 - l.start.0) settled ++ records a pending ≡ kept
  kept_is = ⊎_elim (λ h. kept_settled h) (λ h. kept_pending h) (below_or_not conflict l.offset.0)

  -- the run's m records from q on are written behind them
  module _ (run : List ℕ) (q m : ℕ) (room_left : a + m ≤ room pending) where
    abbrev store : List ℕ
    store = put_run pending a run q m

    written_is : records (a + m) store ≡ records a pending ++ listed (run_entry run) q m
    written_is =
        listed_two (store_entry store) (store_entry pending) (run_entry run) a q m
        (put_below pending a run q m)
        (λ i h. put_inside pending a run q m i room_left h)

    entries_cut : records (F - 1 - l.start.0) settled ++ records (a + m) store ≡ kept ++ listed (run_entry run) q m
    entries_cut =
        ap (λ (x : List Entry). records (F - 1 - l.start.0) settled ++ x) written_is
        ∙ sym (append_assoc (records (F - 1 - l.start.0) settled) (records a pending) (listed (run_entry run) q m))
        ∙ ap (λ (x : List Entry). x ++ listed (run_entry run) q m) kept_is

  pub view_cut : (run : List ℕ) (q m last persisted : ℕ) → last + 1 ≡ conflict + m → (cut_log l conflict last persisted).count ≤ room pending
      → view_of (cut_log l conflict last persisted) settled (put_run pending a run q m)
      ≡ cut_on (view_of l settled pending) conflict (listed (run_entry run) q m)
  unfolding view_of
  view_cut run q m last persisted e r =
      let number : last + 1 - F ≡ a + m = counts l.offset.0 conflict m last e in
      ap (with_entries (view_of l settled pending))
      (ap (λ (x : ℕ). records (F - 1 - l.start.0) settled ++ records x (put_run pending a run q m)) number
      ∙ entries_cut run q m (omega (arith, number)))
