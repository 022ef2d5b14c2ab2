-- The five words that `log_slice`, `log_entries` and `log_next_entries_since` answer name the part itself.
-- What a caller finds by them are the very words that `slice`, `entries` and `next_entries_since` of crate raft_log give, and they lie inside the store.
use mathlib.Core.Path.{◌≡◌, refl, sym, ap, ◌∙◌, subst}
use mathlib.Core.Bool.{cond}
use mathlib.Core.List.{List, [], ◌∷◌, ◌++◌}
use Prim.Native.Nat.{ℕ, ◌+◌, ◌-◌, ◌*◌, ◌≤◌, ◌<◌}
use native.Mathlib.Omega.{arith}
use lib.Dec.{eqb, leb, ltb}
use lib.ListN.{length, take, drop}
use borrow.Author.Tests.{ltb-true, ltb-false, leb-false, not-false}
use Rattle.std.specs.Prelude.{Ok, Err}
use Rattle.units.specs.Refusals.{Answer, number_of}
use Rattle.units.specs.declared.refusal.Refusal.{Refusal}
use Rattle.units.specs.declared.refusal.Refusal.TheVariants as refusal
use Rattle.units.proofs.Cond.{either_end}
use Rattle.raft_log.specs.declared.Log.{Log}
use Rattle.raft_log.specs.declared.Bounds.{Bounds}
use Rattle.raft_log.specs.declared.Bounds.TheVariants as bounds
use Rattle.raft_log.specs.Words.{record_words}
use Rattle.raft_log.specs.State.{Good, broken, last_of}
use Rattle.raft_log.specs.Slice.{in_store, slice_in, slice_bounds, entries_bounds, next_low, next_high, has_next, next_entries_bounds_since, store_part, part_of}
use Rattle.raft_log.proofs.States.{ok_good}
use Rattle.raft_log.proofs.Slices.{next_true, part_some}
use Rattle.exports.specs.Words.{part_length, log_from, put, leaves, reading, log_length}
use Rattle.exports.specs.Reads.{part_words, in_settled, in_pending, bounds_leaves, slice_leaves, entries_leaves, next_entries_since_leaves, StoreHolds, NamesHeld}
use Rattle.exports.specs.Results.{Named, Names}
use Rattle.exports.proofs.Lengths.{by_length, nonzero}
use Rattle.exports.proofs.ReadBack.{put_splits}

-- ---- What the three calls answer is sound

module _ (l : Log) (settled pending : List ℕ) where
  abbrev Fair : Answer Bounds → Type 0
  Fair said = NamesHeld said l settled pending

  refuses : (r : Refusal) → Fair (Err r)
  refuses r z = let over = nonzero r in omega arith

  module _ (good : Good l settled pending) (low high : ℕ) where
    in_store_lem : l.start.0 < low → low ≤ high → high ≤ last_of l + 1 → Fair (in_store l low high)
    unfolding in_store
    in_store_lem first order final =
        either_end Fair (eqb low high) (λ _. tt)
        (λ _.
        either_end Fair (ltb low l.offset.0)
        (λ t.
        let inside = ltb-true low l.offset.0 t in
        record { above = omega arith; order = omega arith; below = omega (arith, good.settled_room) })
        (λ f.
        let inside = ltb-false low l.offset.0 f in
        record { above = inside; order = order; below = omega (arith, good.pending_room) }))

    in_range : Fair (slice_in l low high)
    unfolding slice_in
    in_range =
        either_end Fair (ltb high low) (λ _. refuses refusal.OutOfRange)
        (λ a. either_end Fair (leb low l.start.0) (λ _. refuses refusal.BelowFirst)
        (λ b. either_end Fair (ltb (last_of l + 1) high) (λ _. refuses refusal.OutOfRange)
        (λ d. in_store_lem (leb-false low l.start.0 b) (ltb-false high low a) (ltb-false (last_of l + 1) high d))))

  unless_broken : (said : Answer Bounds) → (Good l settled pending → Fair said) → Fair (cond (broken l settled pending) (Err refusal.BrokenState) said)
  unless_broken said fair = either_end Fair (broken l settled pending) (λ _. refuses refusal.BrokenState) (λ b. fair (ok_good l settled pending (not-false _ b)))

  pub slice_sound : (low high : ℕ) → Fair (slice_bounds l settled pending low high)
  unfolding slice_bounds
  slice_sound low high = unless_broken _ (λ good. in_range good low high)

  pub entries_sound : (i : ℕ) → Fair (entries_bounds l settled pending i)
  unfolding entries_bounds
  entries_sound i = unless_broken _ (λ good. either_end Fair (ltb (last_of l) i) (λ _. tt) (λ _. in_range good i (last_of l + 1)))

  pub next_sound : (s : ℕ) → Fair (next_entries_bounds_since l settled pending s)
  unfolding next_entries_bounds_since
  next_sound s =
      unless_broken _
      (λ good. either_end Fair (has_next l s)
      (λ t. in_store_lem good (next_low l s) (next_high l) (omega arith) (omega (arith, (next_true l s t).1)) (omega (arith, good.committed_le_last)))
      (λ _. tt))

-- ---- A sound answer names the part

module _ (store : List ℕ) (first low high : ℕ) (held : StoreHolds store first low high) where
  held_part : take ((high - low) * record_words) (drop ((low - first) * record_words) store) ≡ store_part store first low high
  held_part =
      let long : (high - low) * record_words ≡ (high - first) * record_words - (low - first) * record_words = omega (arith, held.above, held.order) in
      ap (λ (words : ℕ). take words (drop ((low - first) * record_words) store)) long
      ∙ sym (part_some store first low high held.above held.order held.below)

  held_inside : (low - first) * record_words + (high - low) * record_words ≤ length store
  held_inside = omega (arith, held.above, held.order, held.below)

module _ (log settled pending answer : List ℕ) where
  abbrev l : Log
  l = log_from log

  module _ (long : part_length ≤ length answer) where
    read : (said : Answer Bounds) (words : List ℕ) → length words ≡ part_length → Named said l settled pending (words ++ drop (length words) answer) → Named said l settled pending (put answer words)
    read said words five named = subst (Named said l settled pending) (sym (put_splits answer words (omega arith))) named

    answer_names : (said : Answer Bounds) → NamesHeld said l settled pending → Names l settled pending said (bounds_leaves said l answer)
    unfolding part_of
    answer_names (Ok bounds.Empty) sound z = read (Ok bounds.Empty) (0 ∷ 0 ∷ 0 ∷ 0 ∷ 0 ∷ []) refl (record { part = refl; inside = omega arith })
    answer_names (Ok (bounds.Settled low high)) held z =
        read (Ok (bounds.Settled low high)) (part_words in_settled (l.start.0 + 1) low.0 high.0) refl
        (record { part = held_part settled _ _ _ held; inside = held_inside settled _ _ _ held })
    answer_names (Ok (bounds.Pending low high)) held z =
        read (Ok (bounds.Pending low high)) (part_words in_pending l.offset.0 low.0 high.0) refl
        (record { part = held_part pending _ _ _ held; inside = held_inside pending _ _ _ held })
    answer_names (Err r) sound z = let over = nonzero r in absurd (omega arith)

  reading_names : (said : Answer Bounds) → NamesHeld said l settled pending → Names l settled pending said (reading log log_length part_length answer (bounds_leaves said l answer))
  reading_names said sound =
      let refused : Names l settled pending said (leaves (number_of refusal.BrokenState) (answer ∷ [])) = λ z. absurd (omega arith) in
      by_length _ _ _ _ (Names l settled pending said) refused (λ _. by_length _ _ _ _ (Names l settled pending said) refused (λ long. answer_names long said sound))

  -- THE LAWS, one a call.
  pub slice_names : (low high : ℕ) → Names l settled pending (slice_bounds l settled pending low high) (slice_leaves log settled pending low high answer)
  slice_names low high = reading_names _ (slice_sound l settled pending low high)

  pub entries_names : (i : ℕ) → Names l settled pending (entries_bounds l settled pending i) (entries_leaves log settled pending i answer)
  entries_names i = reading_names _ (entries_sound l settled pending i)

  pub next_names : (s : ℕ) → Names l settled pending (next_entries_bounds_since l settled pending s) (next_entries_since_leaves log settled pending s answer)
  next_names s = reading_names _ (next_sound l settled pending s)
