-- The answers of specs/Slice.antt, one law for each: where a run of records stands, which part of a store that is.
use mathlib.Core.Path.{◌≡◌}
use mathlib.Core.Bool.{true, false, ◌&&◌, and-eq-true_iff}
use mathlib.Core.List.{List, []}
use Prim.Native.Nat.{ℕ, ◌+◌, ◌-◌, ◌*◌, ◌≤◌, ◌<◌, min}
use native.Mathlib.Omega.{arith}
use lib.Dec.{leb, ltb}
use lib.ListN.{take, drop}
use borrow.Author.Tests.{le-leb, lt-leb, lt-ltb, le-ltb, eq-eqb, ne_eqb, leb-true, ltb-true}
use Rattle.units.specs.Units.{index_of, word_max}
use Rattle.units.specs.declared.refusal.Refusal.TheVariants as refusal
use Rattle.raft_log.specs.declared.Log.{Log}
use Rattle.raft_log.specs.declared.Bounds.TheVariants as bounds
use Rattle.raft_log.specs.Words.{record_words, room}
use Rattle.raft_log.specs.State.{last_of, broken}
use Rattle.raft_log.specs.Slice.{in_store, slice_in, next_low, next_high, has_next, entries_bounds, next_entries_bounds_since, store_part}
use Rattle.raft_log.proofs.States.{refuted}
use Rattle.std.specs.Prelude.{Ok, Err}

module _ (l : Log) (low high : ℕ) where
  pub none_between : low ≡ high → in_store l low high ≡ Ok bounds.Empty
  unfolding in_store
  none_between h = simp (eq-eqb _ _ h)

  module _ (some : low ≡ high → ⊥) where
    pub in_settled_lem : {end : ℕ} → low < l.offset.0 → end ≡ min high l.offset.0
        → in_store l low high ≡ Ok (bounds.Settled (index_of low) (index_of end))
    unfolding in_store
    in_settled_lem h e = simp (ne_eqb _ _ some, lt-ltb _ _ h, e)

    pub in_pending_lem : l.offset.0 ≤ low → in_store l low high ≡ Ok (bounds.Pending (index_of low) (index_of high))
    unfolding in_store
    in_pending_lem h = simp (ne_eqb _ _ some, le-ltb _ _ h)

  pub slice_reversed : high < low → slice_in l low high ≡ Err refusal.OutOfRange
  unfolding slice_in
  slice_reversed h = simp (lt-ltb _ _ h)

  module _ (order : low ≤ high) where
    pub slice_below : low ≤ l.start.0 → slice_in l low high ≡ Err refusal.BelowFirst
    unfolding slice_in
    slice_below h = simp (le-ltb _ _ order, le-leb _ _ h)

    module _ (first : l.start.0 < low) where
      pub slice_beyond : last_of l + 1 < high → slice_in l low high ≡ Err refusal.OutOfRange
      unfolding slice_in
      slice_beyond h = simp (le-ltb _ _ order, lt-leb _ _ first, lt-ltb _ _ h)

      pub slice_inside : high ≤ last_of l + 1 → slice_in l low high ≡ in_store l low high
      unfolding slice_in
      slice_inside h = simp (le-ltb _ _ order, lt-leb _ _ first, le-ltb _ _ h)

module _ (l : Log) (s : ℕ) where
  pub next_never : s ≡ word_max → has_next l s ≡ false
  unfolding has_next
  next_never h = simp (le-ltb s word_max (omega arith))

  pub next_test : {low end : ℕ} → s < word_max → low ≡ next_low l s → end ≡ min l.committed.0 l.persisted.0
      → has_next l s ≡ ltb low (end + 1)
  unfolding has_next
  next_test h e f = simp (lt-ltb _ _ h, e, f)

  pub next_true : has_next l s ≡ true → (s < word_max) × (next_low l s < next_high l)
  unfolding has_next
  next_true h =
      let p = (and-eq-true_iff (ltb s word_max) (ltb (next_low l s) (next_high l))).0 h in
      (ltb-true _ _ p.0, ltb-true _ _ p.1)

module _ (l : Log) (settled pending : List ℕ) (i : ℕ) (sound : broken l settled pending ≡ false) where
  pub entries_none : last_of l < i → entries_bounds l settled pending i ≡ Ok bounds.Empty
  unfolding entries_bounds
  entries_none h = simp (sound, lt-ltb _ _ h)

  pub entries_some : {last : ℕ} → last ≡ last_of l → i ≤ last → entries_bounds l settled pending i ≡ slice_in l i (last + 1)
  unfolding entries_bounds
  entries_some e h = simp (sound, le-ltb (last_of l) i (omega arith), e)

  pub next_none : has_next l i ≡ false → next_entries_bounds_since l settled pending i ≡ Ok bounds.Empty
  unfolding next_entries_bounds_since
  next_none h = simp (sound, h)

  pub next_some : {low end : ℕ} → has_next l i ≡ true → low ≡ next_low l i → end ≡ min l.committed.0 l.persisted.0
      → next_entries_bounds_since l settled pending i ≡ in_store l low (end + 1)
  unfolding next_entries_bounds_since
  next_some h e f = simp (sound, h, e, f)

module _ (store : List ℕ) (first low high : ℕ) where
  pub part_some : first ≤ low → low ≤ high → high - first ≤ room store
      → store_part store first low high ≡ take ((high - first) * record_words - (low - first) * record_words) (drop ((low - first) * record_words) store)
  unfolding store_part
  part_some h k m = simp (le-leb _ _ h, le-leb _ _ k, le-leb _ _ m)

  pub part_none : (first ≤ low → low ≤ high → high - first ≤ room store → ⊥) → store_part store first low high ≡ []
  unfolding store_part
  part_none f =
      let e : (leb first low && leb low high && leb (high - first) (room store)) ≡ false =
      refuted _ (λ t.
      let a = (and-eq-true_iff (leb first low && leb low high) _).0 t in
      let b = (and-eq-true_iff (leb first low) _).0 a.0 in
      f (leb-true _ _ b.0) (leb-true _ _ b.1) (leb-true _ _ a.1)) in
      simp e
