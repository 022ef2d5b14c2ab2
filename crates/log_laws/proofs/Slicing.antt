-- `slice`, `entries` and `next_entries_since` give the records of the view, bodies included: each from the first index that was asked for, as far as one store holds them; and a slice from the store boundary on gives the rest.
use mathlib.Core.Path.{◌≡◌, refl, sym, ap, ◌∙◌, subst}
use mathlib.Core.Bool.{false, cond}
use mathlib.Core.List.{List, ◌++◌}
use mathlib.Core.Logic.{⊎_elim}
use Prim.Native.Nat.{ℕ, ◌+◌, ◌≤◌, ◌<◌, min}
use native.Mathlib.Omega.{arith}
use lib.Dec.{eqb, leb, ltb}
use borrow.Author.Tests.{eqb-true, eqb-false, ltb-true, ltb-false, leb-true, leb-false, le-ltb}
use Rattle.units.specs.Units.{index_of, word_max}
use Rattle.units.specs.declared.refusal.Refusal.TheVariants as refusal
use Rattle.units.specs.declared.Index.{Index}
use Rattle.units.proofs.Cond.{either_end}
use Rattle.units.proofs.Numbers.{below_or_not}
use Rattle.rules.specs.Log.{Log as Abstract, last}
use Rattle.raft_log.specs.declared.Log.{Log}
use Rattle.raft_log.specs.declared.Bounds.{Bounds}
use Rattle.raft_log.specs.declared.Bounds.TheVariants as bounds
use Rattle.raft_log.specs.State.{Good, broken, last_of}
use Rattle.raft_log.specs.Slice.{in_store, slice_in, slice_bounds, entries_bounds, next_low, next_high, has_next, has_next_entries_since, next_entries_bounds_since, store_part, part_of}
use Rattle.log_laws.specs.View.{store_entry, view_of}
use Rattle.log_laws.specs.Slicing.{Reads, Askable, Part, Gives}
use Rattle.raft_log.proofs.States.{good_whole, whole_good, not_both, refuted}
use Rattle.raft_log.proofs.Slices.{none_between, in_pending_lem, slice_inside, next_test, next_true, entries_none, next_none}
use Rattle.log_laws.proofs.Views.{view_start, view_last, entry_settled, entry_pending}
use Rattle.log_laws.proofs.Ranges.{part_reads, joined_reads}
use Rattle.std.specs.Prelude.{Ok, Err}
use Rattle.units.specs.Refusals.{Answer}

module _ (l : Log) (settled pending : List ℕ) where
  abbrev view : Abstract
  view = view_of l settled pending

  -- the parts that lie in one store
  module _ (good : Good l settled pending) (low high : ℕ) (order : low ≤ high) where
    settled_reads : l.start.0 < low → high ≤ l.offset.0 → Reads view low high (store_part settled (l.start.0 + 1) low high)
    settled_reads h k =
        part_reads settled (l.start.0 + 1) low high (omega arith) order (omega (arith, good.settled_room))
        view (omega (arith, view_start l settled pending)) (omega (arith, view_last l settled pending good, good.start_lt_offset))
        (λ i a b. entry_settled l settled pending good i (omega arith) (omega arith) ∙ ap (store_entry settled) (omega arith))

    pending_reads : l.offset.0 ≤ low → high ≤ last_of l + 1 → Reads view low high (store_part pending l.offset.0 low high)
    pending_reads h k =
        let above = good.start_lt_offset in
        part_reads pending l.offset.0 low high h order (omega (arith, good.pending_room))
        view (omega (arith, view_start l settled pending)) (omega (arith, view_last l settled pending good))
        (λ i a b. entry_pending l settled pending good i (omega arith) (omega arith) (omega arith))

  module _ (low high : ℕ) (there_is_none : Type 0) where
    abbrev Given : Answer Bounds → Type 0
    Given = Gives l settled pending low high there_is_none

    unless_broken : (x : Answer Bounds) → (Good l settled pending → Given x) → Given (cond (broken l settled pending) (Err refusal.BrokenState) x)
    unless_broken x f =
        either_end Given (broken l settled pending) (λ t q. not_both t (good_whole l settled pending q.good)) (λ b. f (whole_good l settled pending b))

    in_store_lem : Good l settled pending → l.start.0 < low → low ≤ high → high ≤ last_of l + 1 → (low ≡ high → there_is_none) → Given (in_store l low high)
    unfolding in_store part_of
    in_store_lem good h k m none =
        let first : view.start < low = omega (arith, view_start l settled pending) in
        let final : high ≤ last view + 1 = omega (arith, view_last l settled pending good) in
        let asked : Askable l settled pending low high = record { good = good; first = first; order = k; final = final } in
        either_end Given (eqb low high)
        (λ t. none (eqb-true low high t))
        (λ f.
        let more : low ≡ high → ⊥ = eqb-false low high f in
        either_end Given (ltb low l.offset.0)
        (λ t.
        let below = ltb-true low l.offset.0 t in
        record { asked = asked; starts = refl; ends = refl; some = omega arith; reads = settled_reads good low (min high l.offset.0) (omega arith) h (omega arith) })
        (λ u. record { asked = asked; starts = refl; ends = refl; some = omega arith; reads = pending_reads good low high k (ltb-false _ _ u) m }))

    in_range : Good l settled pending → (low ≡ high → there_is_none) → Given (slice_in l low high)
    unfolding slice_in
    in_range good none =
        either_end Given (ltb high low)
        (λ t q. omega (arith, ltb-true high low t, q.order))
        (λ a.
        either_end Given (leb low l.start.0)
        (λ t q. omega (arith, leb-true low l.start.0 t, q.first, view_start l settled pending))
        (λ b.
        either_end Given (ltb (last_of l + 1) high)
        (λ t q. omega (arith, ltb-true (last_of l + 1) high t, q.final, view_last l settled pending good))
        (λ d. in_store_lem good (leb-false low l.start.0 b) (ltb-false high low a) (ltb-false (last_of l + 1) high d) none)))

  -- THE LAWS, one a call. 01, `slice(low, high)`: "low = high is empty".
  pub slice_gives : (low high : ℕ) → Gives l settled pending low high (low ≡ high) (slice_bounds l settled pending low high)
  unfolding slice_bounds
  slice_gives low high = unless_broken low high (low ≡ high) _ (λ good. in_range low high (low ≡ high) good (λ e. e))

  -- 01, `entries(i)`: "empty if i > last, else the slice from i to last + 1".
  pub entries_gives : (i : ℕ) → Gives l settled pending i (last view + 1) (last view < i) (entries_bounds l settled pending i)
  unfolding entries_bounds
  entries_gives i =
      unless_broken i (last view + 1) (last view < i) _
      (λ good.
      rw (view_last l settled pending good)
      (either_end (Gives l settled pending i (last_of l + 1) (last_of l < i)) (ltb (last_of l) i)
      (λ t. ltb-true (last_of l) i t)
      (λ _. in_range i (last_of l + 1) (last_of l < i) good (λ e. omega arith))))

  module _ (s : ℕ) where
    abbrev says_no : Type 0
    says_no = has_next_entries_since l settled pending s ≡ Ok false

    -- 01: "`next_entries_since` gives that range as a slice, or nothing".
    pub next_gives : Gives l settled pending (next_low l s) (next_high l) says_no (next_entries_bounds_since l settled pending s)
    unfolding next_entries_bounds_since has_next_entries_since
    next_gives =
        unless_broken (next_low l s) (next_high l) says_no _
        (λ good.
        either_end (Gives l settled pending (next_low l s) (next_high l) says_no) (has_next l s)
        (λ t.
        let more : next_low l s < next_high l = (next_true l s t).1 in
        in_store_lem (next_low l s) (next_high l) says_no good (omega arith) (omega arith) (omega (arith, good.committed_le_last)) (λ e. absurd (omega arith)))
        (λ f. rw (good_whole l settled pending good, f)))

  module _ (good : Good l settled pending) where
    -- The converse: where there is none, a good log answers `Empty`.
    pub slice_empty : (low : ℕ) → view.start < low → low ≤ last view + 1 → slice_bounds l settled pending low low ≡ Ok bounds.Empty
    unfolding slice_bounds
    slice_empty low h k =
        rw (good_whole l settled pending good)
        (slice_inside l low low (omega arith) (omega (arith, view_start l settled pending)) (omega (arith, view_last l settled pending good)) ∙ none_between l low low refl)

    pub entries_empty : (i : ℕ) → last view < i → entries_bounds l settled pending i ≡ Ok bounds.Empty
    entries_empty i h = entries_none l settled pending i (good_whole l settled pending good) (omega (arith, view_last l settled pending good))

    pub next_empty : (s : ℕ) → says_no s → next_entries_bounds_since l settled pending s ≡ Ok bounds.Empty
    unfolding has_next_entries_since
    next_empty s h = next_none l settled pending s (good_whole l settled pending good) (let no : Ok (has_next l s) ≡ Ok false = rw (good_whole l settled pending good) at h in cc)

    next_rule : (s : ℕ) → has_next l s ≡ ltb (next_low l s) (next_high l)
    next_rule s =
        ⊎_elim (λ h. next_test l s h refl refl)
        (λ h. refuted (has_next l s) (λ t. omega (arith, (next_true l s t).0)) ∙ sym (le-ltb (next_low l s) (next_high l) (omega (arith, good.committed_le_last, good.last_le_limit))))
        (below_or_not s word_max)

    -- 01, `has_next_entries_since(s)`: "min(committed, persisted) + 1 > max(s + 1, start + 1)". That the answer is no for s = u64::MAX follows from the limit of indices.
    pub has_next_rule : (s : ℕ) → has_next_entries_since l settled pending s ≡ Ok (ltb (next_low l s) (next_high l))
    unfolding has_next_entries_since
    has_next_rule s = rw (good_whole l settled pending good, next_rule s)

-- PARTS JOINED (01: "Oracle runs join such parts and compare the whole"): where an answer of any of the three calls ended before high, it ended at the store boundary, a slice from there on reaches high, and both parts together are the whole range.
module _ (l : Log) (settled pending : List ℕ) (low high : ℕ) (there_is_none : Type 0) (answer : Answer Bounds) (given : Gives l settled pending low high there_is_none answer)
    {from to : Index} (e : answer ≡ Ok (bounds.Settled from to)) (short : to.0 < high) where
  first_part : Part l settled pending low high (min high l.offset.0) from to (part_of (Ok (bounds.Settled from to)) l settled pending)
  first_part = subst (Gives l settled pending low high there_is_none) e given

  pub at_boundary : to.0 ≡ l.offset.0
  at_boundary = omega (arith, first_part.ends)

  pub goes_on : slice_bounds l settled pending to.0 high ≡ Ok (bounds.Pending to (index_of high))
  unfolding slice_bounds
  goes_on =
      let asked = first_part.asked in
      let here = at_boundary in
      rw (good_whole l settled pending asked.good)
      (slice_inside l to.0 high (omega arith) (omega (arith, asked.good.start_lt_offset)) (omega (arith, asked.final, view_last l settled pending asked.good))
      ∙ in_pending_lem l to.0 high (omega arith) (omega arith))

  pub joined : Reads (view_of l settled pending) low high (part_of answer l settled pending ++ part_of (slice_bounds l settled pending to.0 high) l settled pending)
  joined =
      let p = first_part in
      let asked = p.asked in
      let q : Part l settled pending to.0 high high to (index_of high) (part_of (Ok (bounds.Pending to (index_of high))) l settled pending) =
      subst (Gives l settled pending to.0 high (to.0 ≡ high)) goes_on (slice_gives l settled pending to.0 high) in
      rw (e, goes_on)
      (joined_reads _ _ (view_of l settled pending) low to.0 high asked.first (omega (arith, p.some)) (omega arith) asked.final p.reads q.reads)
