-- The wrong answers are wrong, and the wrong engines differ from the promises: a number or the words read off both sides tell them apart.
use Prim.Native.Nat.{ℕ, suc}
use mathlib.Core.Path.{refl}
use mathlib.Core.List.{List}
use lib.ListN.{get_or}
use Rattle.rules.specs.Count.{count}
use Rattle.exports.specs.Words.{yes_or_no_leaves}
use Rattle.exports.specs.WindowCalls.{window_leaves, counted_leaves}
use Rattle.units.specs.Refusals.{refusal_of}
use Rattle.promises.specs.Cases.{old}
use Rattle.promises.specs.WrongWindow.{empty, three, large_first, WrongWindow, WrongEnginesWindow}
use Rattle.promises.proofs.Apart.{window_promises, apart, apart_by}
use Rattle.std.specs.Prelude.{Some, None, Option}

-- What is read off a deferred cap.
abbrev deferred_in : Option ℕ → ℕ
deferred_in None = 0
deferred_in (Some c) = suc c

-- And off a ring.
abbrev first_word : List ℕ → ℕ
first_word ring = get_or ring 0 0

pub wrong_window : WrongWindow
unfolding window_promises
wrong_window = record {
  new_no_refusal = apart_by window_leaves refl;
  new_whole_ring = apart_by window_leaves refl;
  set_cap_at_once = apart_by window_leaves refl;
  set_cap_seven_first = apart_by window_leaves refl;
  full_deferred = apart_by yes_or_no_leaves refl;
  full_early = apart_by yes_or_no_leaves refl;
  add_not_written = λ both. apart first_word refl both.1;
  add_refused_written = λ both. apart first_word refl both.1;
  add_past_deferred = apart_by window_leaves refl;
  free_to_behind_larger = apart_by window_leaves refl;
  free_to_stops_at_equal = apart_by window_leaves refl;
  free_first_one_alone = apart_by window_leaves refl;
  free_first_one_rewinds = apart_by window_leaves refl;
  reset_keeps_cap = apart_by window_leaves refl;
  reset_keeps_start = apart_by window_leaves refl;
  maybe_free_buffer_keeps_start = apart_by window_leaves refl;
  maybe_free_buffer_not_empty = apart_by window_leaves refl;
  count_cap = apart_by counted_leaves refl;
  count_broken = apart_by counted_leaves refl;
  in_place_set_cap_no_refusal = λ both. apart refusal_of refl both.0;
  in_place_set_cap_changed = λ both. apart (λ w. w.cap) refl both.1;
  in_place_add_no_refusal = λ both. apart refusal_of refl both.0;
  in_place_add_changed = λ both. apart (λ w. w.count) refl both.1;
  in_place_add_not_written = λ both. apart first_word refl both.1;
  in_place_free_to_no_refusal = λ both. apart refusal_of refl both.0;
  in_place_free_to_changed = λ both. apart (λ w. w.count) refl both.1;
  in_place_free_first_one_no_refusal = λ both. apart refusal_of refl both.0;
  in_place_free_first_one_changed = λ both. apart (λ w. w.count) refl both.1;
  in_place_reset_no_refusal = λ both. apart refusal_of refl both.0;
  in_place_reset_changed = λ both. apart (λ w. w.count) refl both.1;
  in_place_maybe_free_buffer_no_refusal = λ both. apart refusal_of refl both.0;
  in_place_maybe_free_buffer_changed = λ both. apart (λ w. w.start) refl both.1;
  bridge_set_cap_no_refusal = apart (λ s. refusal_of s.0) refl;
  bridge_set_cap_unchanged = apart (λ s. deferred_in s.1.deferred) refl;
  bridge_add_no_refusal = apart (λ s. refusal_of s.0) refl;
  bridge_add_unchanged = apart (λ s. s.1.count) refl;
  bridge_add_not_written = λ both. apart first_word refl both.1;
  bridge_free_to_no_refusal = apart (λ s. refusal_of s.0) refl;
  bridge_free_to_unchanged = apart (λ s. s.1.count) refl;
  bridge_free_first_one_no_refusal = apart (λ s. refusal_of s.0) refl;
  bridge_free_first_one_unchanged = apart (λ s. s.1.count) refl;
  bridge_reset_no_refusal = apart (λ s. refusal_of s.0) refl;
  bridge_reset_unchanged = apart (λ s. s.1.count) refl;
  bridge_maybe_free_buffer_no_refusal = apart (λ s. refusal_of s.0) refl;
  bridge_maybe_free_buffer_unchanged = apart (λ s. s.1.start) refl;
}

pub wrong_engines_window : WrongEnginesWindow
unfolding window_promises count
wrong_engines_window = record {
  only_counts_fails = λ same. apart first_word refl (same empty old 5);
  freed_by_the_rule = λ w ring to. refl;
  frees_behind_larger = λ same. apart_by window_leaves refl (same three large_first 5);
}
