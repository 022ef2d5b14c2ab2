-- The promises of the log rule the wrong answers out: both sides compute, and the words of the answers differ. And none of the wrong engines is the promise, by one message to Log A.
use Prim.Native.Nat.{ℕ}
use mathlib.Core.Path.{refl}
use mathlib.Core.List.{List, [], ◌∷◌}
use Rattle.raft_log.specs.declared.Appended.{Appended}
use Rattle.raft_log.specs.declared.Bounds.{Bounds}
use Rattle.leader.specs.Leader.{leader_commit}
use Rattle.two_ends.specs.Follower.{Follower, Message, Reception, engine}
use Rattle.exports.specs.Words.{Outcome, yes_or_no_leaves}
use Rattle.exports.specs.Reads.{looked_leaves, placed_leaves, info_leaves, by_term_leaves, bounds_leaves}
use Rattle.exports.specs.LogCalls.{appended_leaves, extended_leaves, changed_leaves, decided_leaves}
use Rattle.promises.specs.Cases.{log_a, settled_a, pending_a, message}
use Rattle.promises.specs.WrongLog.{WrongLog, WrongEnginesLog}
use Rattle.promises.proofs.Apart.{log_promises, quorum_promises, apart_as, apart_by, blank, as_store}
use Rattle.std.specs.Prelude.{Option}
use Rattle.units.specs.Refusals.{Answer}
use Rattle.raft_log.specs.declared.Log.{Log}
use Rattle.units.specs.declared.Index.{Index}

-- An answer that leaves two slices, and bounds, as words.
abbrev appended : Answer Appended → Outcome
appended said = appended_leaves said blank blank

abbrev extended : Answer (Index × Log) → Outcome
extended said = extended_leaves said blank blank

abbrev decided : Answer (Option Log) → Outcome
decided said = decided_leaves said blank blank

abbrev bounds : Answer Bounds → Outcome
bounds said = bounds_leaves said log_a blank

pub wrong_log : WrongLog
unfolding log_promises quorum_promises leader_commit
wrong_log = record {
  new_over_term_0 = apart_by changed_leaves refl;
  new_commits_settled = apart_by changed_leaves refl;
  term_below_start = apart_by looked_leaves refl;
  term_beyond_last = apart_by looked_leaves refl;
  first_index_start = apart_by placed_leaves refl;
  first_index_one = apart_by placed_leaves refl;
  last_index_offset = apart_by placed_leaves refl;
  last_index_next = apart_by placed_leaves refl;
  last_term_settled = apart_by looked_leaves refl;
  last_term_no_records = apart_by looked_leaves refl;
  commit_info_last_term = apart_by info_leaves refl;
  commit_info_applied = apart_by info_leaves refl;
  is_up_to_date_shorter = apart_by yes_or_no_leaves refl;
  is_up_to_date_equal = apart_by yes_or_no_leaves refl;
  find_conflict_by_term_first = apart_by by_term_leaves refl;
  find_conflict_by_term_beyond = apart_by by_term_leaves refl;
  find_conflict_by_term_absent = apart_by by_term_leaves refl;
  maybe_append_always_5 = apart_as appended refl;
  maybe_append_commits_9 = apart_as appended refl;
  maybe_append_says_yes = apart_as appended refl;
  maybe_append_stores_nothing = apart_as as_store refl;
  maybe_append_stores_held = apart_as as_store refl;
  maybe_append_clears_cut = apart_as as_store refl;
  maybe_append_cuts_held = apart_as appended refl;
  maybe_append_beyond_last = apart_as appended refl;
  append_fills_gap = apart_as extended refl;
  append_lowers_persisted = apart_as extended refl;
  append_stores_behind = apart_as as_store refl;
  commit_to_lowers = apart_by changed_leaves refl;
  commit_to_beyond_last = apart_by changed_leaves refl;
  maybe_commit_another_term = apart_as decided refl;
  maybe_commit_beyond_last = apart_as decided refl;
  applied_to_above_persisted = apart_by changed_leaves refl;
  applied_to_lowers = apart_by changed_leaves refl;
  maybe_persist_pending = apart_as decided refl;
  maybe_persist_another_term = apart_as decided refl;
  stable_entries_persists = apart_by changed_leaves refl;
  stable_entries_copies_nothing = apart_as as_store refl;
  stable_entries_copies_spare = apart_as as_store refl;
  slice_bounds_crosses = apart_as bounds refl;
  slice_bounds_cuts_high = apart_as bounds refl;
  slice_joins = apart_as as_store refl;
  slice_where_refused = apart_as as_store refl;
  entries_bounds_refuses = apart_as bounds refl;
  entries_bounds_from_first = apart_as bounds refl;
  entries_from_first = apart_as as_store refl;
  entries_without_last = apart_as as_store refl;
  has_next_entries_since_not_persisted = apart_by yes_or_no_leaves refl;
  has_next_entries_since_wraps = apart_by yes_or_no_leaves refl;
  next_entries_bounds_since_itself = apart_as bounds refl;
  next_entries_bounds_since_uncommitted = apart_as bounds refl;
  next_entries_since_itself = apart_as as_store refl;
  next_entries_since_uncommitted = apart_as as_store refl;
  leader_maybe_commit_earlier_term = apart_as decided refl;
  leader_maybe_commit_12_before_1 = apart_as decided refl;
  commit_found_refused_is_no = apart_as decided refl;
  commit_found_nobody_commits_all = apart_as decided refl;
}

-- What a receiver answers.
abbrev answer : Reception → Outcome
answer left = appended left.answer

-- A as a follower, and a message to it.
abbrev follower_a : Follower
follower_a = record { log = log_a; settled = settled_a; pending = pending_a }

abbrev to_A : ℕ → ℕ → ℕ → List ℕ → Message
to_A idx term commit run = record { idx = idx; term = term; commit = commit; run = run }

pub wrong_engines_log : WrongEnginesLog
unfolding log_promises engine
wrong_engines_log = record {
  always_5 = λ same. apart_as answer refl (same follower_a (to_A 5 3 9 []));
  stores_nothing = λ same. apart_as answer refl (same follower_a (to_A 3 2 4 message));
  cuts_always = λ same. apart_as answer refl (same follower_a (to_A 2 1 0 (3 ∷ 2 ∷ 6 ∷ [])));
  cuts_behind_match = λ same. apart_as answer refl (same follower_a (to_A 2 1 0 (3 ∷ 2 ∷ 6 ∷ [])));
  zero_is_absent = λ same. apart_as answer refl (same follower_a (to_A 0 0 0 (1 ∷ 1 ∷ 6 ∷ [])));
  commits_blindly = λ same. apart_as answer refl (same follower_a (to_A 5 3 9 []));
  lowers_persisted = λ same. apart_as answer refl (same follower_a (to_A 2 1 0 (3 ∷ 2 ∷ 6 ∷ [])));
}
