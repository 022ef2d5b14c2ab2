-- The promises over words rule the wrong outcomes out: both sides compute, and differ in a word.
use mathlib.Core.Path.{refl}
use Rattle.leader.specs.Leader.{leader_commit}
use Rattle.exports.specs.Words.{log_from, unless_short}
use Rattle.exports.specs.Rows.{peers_from}
use Rattle.exports.specs.WindowCalls.{deferred_from, window_from}
use Rattle.promises.specs.WrongWords.{WrongWords}
use Rattle.promises.proofs.Apart.{log_promises, quorum_promises, window_promises, apart, apart_as, itself}

pub wrong_words : WrongWords
unfolding log_promises quorum_promises window_promises leader_commit log_from unless_short peers_from deferred_from window_from
wrong_words = record {
  log_new_writes_on_refusal = apart_as itself refl;
  log_new_six_words = apart_as itself refl;
  log_term_no_word = apart_as itself refl;
  log_term_writes_on_refusal = apart_as itself refl;
  log_first_index_start = apart_as itself refl;
  log_first_index_clears_behind = apart_as itself refl;
  log_last_index_offset = apart_as itself refl;
  log_last_index_as_result = apart_as itself refl;
  log_last_term_index = apart_as itself refl;
  log_last_term_two_words = apart_as itself refl;
  log_commit_info_exchanged = apart_as itself refl;
  log_commit_info_applied = apart_as itself refl;
  log_is_up_to_date_two = apart_as itself refl;
  log_is_up_to_date_untold = apart_as itself refl;
  log_find_conflict_by_term_beyond = apart_as itself refl;
  log_find_conflict_by_term_no_flag = apart_as itself refl;
  log_maybe_append_exchanged = apart_as itself refl;
  log_maybe_append_store_untouched = apart_as itself refl;
  log_maybe_append_writes_on_refusal = apart_as itself refl;
  log_append_state_untouched = apart_as itself refl;
  log_append_count = apart_as itself refl;
  log_append_stores_index = apart_as itself refl;
  log_commit_to_applies = apart_as itself refl;
  log_commit_to_writes_on_refusal = apart_as itself refl;
  log_applied_to_persists = apart_as itself refl;
  log_applied_to_writes_on_refusal = apart_as itself refl;
  log_maybe_commit_state_untouched = apart_as itself refl;
  log_maybe_commit_writes_on_no = apart_as itself refl;
  log_maybe_persist_state_untouched = apart_as itself refl;
  log_maybe_persist_writes_on_no = apart_as itself refl;
  log_stable_entries_copies_nothing = apart_as itself refl;
  log_stable_entries_copies_on_refusal = apart_as itself refl;
  log_slice_other_store = apart_as itself refl;
  log_slice_crosses = apart_as itself refl;
  log_entries_other_store = apart_as itself refl;
  log_entries_spare_words = apart_as itself refl;
  log_next_entries_since_first_word = apart_as itself refl;
  log_next_entries_since_uncommitted = apart_as itself refl;
  log_has_next_entries_since_not_persisted = apart_as itself refl;
  log_has_next_entries_since_two = apart_as itself refl;
  majority_committed_index_row_twice = apart_as itself refl;
  majority_committed_index_reads_missing = apart_as itself refl;
  joint_committed_index_flag_of_one = apart_as itself refl;
  joint_committed_index_larger = apart_as itself refl;
  majority_vote_result_one_for_won = apart_as itself refl;
  majority_vote_result_too_many_voters = apart_as itself refl;
  joint_vote_result_one_half = apart_as itself refl;
  joint_vote_result_too_many_voters = apart_as itself refl;
  joint_is_singleton_each_half = apart_as itself refl;
  joint_is_singleton_broken = apart_as itself refl;
  joint_contains_incoming_only = apart_as itself refl;
  joint_contains_unused_word = apart_as itself refl;
  joint_ids_twice = apart_as itself refl;
  joint_ids_old_words = apart_as itself refl;
  joint_clear_keeps_outgoing = apart_as itself refl;
  joint_clear_refuses = apart_as itself refl;
  voters_checked_eight = apart (λ n. n) refl;
  voters_checked_seven = apart (λ n. n) refl;
  joint_checked_outgoing = apart (λ n. n) refl;
  joint_checked_in_both = apart (λ n. n) refl;
  rows_checked_too_many = apart (λ n. n) refl;
  rows_checked_spare_words = apart (λ n. n) refl;
  leader_maybe_commit_12_before_1 = apart_as itself refl;
  leader_maybe_commit_earlier_term = apart_as itself refl;
  inflights_new_above_ring = apart_as itself refl;
  inflights_new_old_words = apart_as itself refl;
  inflights_set_cap_no_flag = apart_as itself refl;
  inflights_set_cap_above_ring = apart_as itself refl;
  inflights_add_only_counts = apart_as itself refl;
  inflights_add_writes_on_refusal = apart_as itself refl;
  inflights_free_to_behind_larger = apart_as itself refl;
  inflights_free_to_keeps_equal = apart_as itself refl;
  inflights_free_first_one_frees_one = apart_as itself refl;
  inflights_free_first_one_rewinds = apart_as itself refl;
  inflights_reset_keeps_deferred = apart_as itself refl;
  inflights_reset_keeps_start = apart_as itself refl;
  inflights_maybe_free_buffer_keeps_start = apart_as itself refl;
  inflights_maybe_free_buffer_moves_flight = apart_as itself refl;
  inflights_full_forgets_deferred = apart_as itself refl;
  inflights_full_broken = apart_as itself refl;
  inflights_count_cap = apart_as itself refl;
  inflights_count_broken = apart_as itself refl;
}
