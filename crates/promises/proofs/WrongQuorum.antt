-- The wrong answers are wrong, and the wrong engines differ from the promises: a number or the words read off both sides tell them apart.
use Prim.Native.Nat.{ℕ, suc}
use mathlib.Core.Path.{refl}
use mathlib.Core.List.{List, [], ◌∷◌}
use lib.ListN.{length, get_or}
use Rattle.units.specs.Refusals.{Answer, number_of, refusal_of}
use Rattle.quorum.specs.Rows.{nobody}
use Rattle.quorum.specs.Joint.{one_set}
use Rattle.exports.specs.Words.{flag_word, yes_or_no_leaves}
use Rattle.exports.specs.QuorumCalls.{result_word, committed_leaves, verdict_leaves}
use Rattle.promises.specs.Cases.{voters_from, three_voters, acking, voting}
use Rattle.promises.specs.WrongQuorum.{WrongQuorum, WrongEnginesQuorum}
use Rattle.promises.proofs.Apart.{quorum_promises, apart, apart_by}
use Rattle.std.specs.Prelude.{Ok, Err, Some, None, Option, true, false}
use Rattle.units.specs.declared.Index.{Index}
use Rattle.quorum.specs.declared.joint.Ids.{Ids}
use Rattle.quorum.specs.declared.rows.Peer.{Peer}

-- What is read off an acknowledgement.
abbrev ack_in : Option Index → ℕ
ack_in None = 0
ack_in (Some i) = suc i.0

-- Off an answer: the refusal's number, 0 where it is none.
abbrev refused_in : {A : Type 0} → Answer A → ℕ
refused_in (Ok _) = 0
refused_in (Err r) = number_of r

-- And off a list of ids: how many, then its words.
abbrev ids_in : Answer Ids → List ℕ
ids_in (Ok list) = list.count ∷ list.ids
ids_in (Err r) = []

-- Off rows that are lent on: how many.
abbrev rows_read : Answer (List Peer) → ℕ
rows_read (Ok peers) = length peers
rows_read (Err r) = 0

pub wrong_quorum : WrongQuorum
unfolding quorum_promises
wrong_quorum = record {
  index_new_next = apart (λ i. i.0) refl;
  index_new_cut = apart (λ i. i.0) refl;
  term_new_next = apart (λ i. i.0) refl;
  term_new_zero = apart (λ i. i.0) refl;
  refusal_number_shifted = apart (λ n. n) refl;
  refusal_number_lost = apart (λ n. n) refl;
  check_refusal_of_fine = apart (λ n. n) refl;
  check_refusal_lost = apart (λ n. n) refl;
  check_and_second = apart refusal_of refl;
  check_and_first_only = apart refusal_of refl;
  smaller_larger = apart (λ n. n) refl;
  smaller_first = apart (λ n. n) refl;
  shorter_longer = apart (λ n. n) refl;
  shorter_one_less = apart (λ n. n) refl;
  copy_at_clears_behind = apart (λ words. get_or words 3 0) refl;
  copy_at_all_or_nothing = apart (λ words. get_or words 2 0) refl;
  voters_empty_counts = apart (λ v. v.count) refl;
  voters_empty_words = apart (λ v. get_or v.ids 0 0) refl;
  voters_new_first_seven = apart (λ m. refused_in m) refl;
  voters_new_dropped = apart (λ m. refused_in m) refl;
  voters_holding_dropped = apart (λ v. v.count) refl;
  voters_holding_stops = apart (λ v. v.count) refl;
  ids_checked_eight = apart refusal_of refl;
  ids_checked_seven = apart refusal_of refl;
  voters_checked_repeated = apart refusal_of refl;
  voters_checked_seven = apart refusal_of refl;
  majority_committed_index_zero = apart_by committed_leaves refl;
  majority_committed_index_half = apart_by committed_leaves refl;
  majority_vote_result_pending = apart_by verdict_leaves refl;
  majority_vote_result_half = apart_by verdict_leaves refl;
  majority_committed_index_by_zero = apart_by committed_leaves refl;
  majority_committed_index_by_broken = apart_by committed_leaves refl;
  majority_vote_result_by_half = apart_by verdict_leaves refl;
  majority_vote_result_by_repeated = apart_by verdict_leaves refl;
  majority_committed_index_of_repeated = apart_by committed_leaves refl;
  majority_committed_index_of_by_place = apart_by committed_leaves refl;
  majority_vote_result_of_too_many = apart_by verdict_leaves refl;
  majority_vote_result_of_missing = apart_by verdict_leaves refl;
  joint_new_outgoing = apart (λ c. c.incoming.count) refl;
  joint_new_words = apart (λ c. get_or c.outgoing.ids 0 0) refl;
  joint_clear_outgoing = apart (λ c. c.outgoing.count) refl;
  joint_clear_words = apart (λ c. get_or c.outgoing.ids 0 0) refl;
  joint_checked_outgoing = apart refusal_of refl;
  joint_checked_in_both = apart refusal_of refl;
  joint_is_singleton_outgoing = apart_by yes_or_no_leaves refl;
  joint_is_singleton_repeated = apart_by yes_or_no_leaves refl;
  joint_contains_outgoing = apart_by yes_or_no_leaves refl;
  joint_contains_unused = apart_by yes_or_no_leaves refl;
  joint_ids_twice = apart (λ l. get_or (ids_in l) 0 0) refl;
  joint_ids_order = apart (λ l. get_or (ids_in l) 1 0) refl;
  joint_committed_index_larger = apart_by committed_leaves refl;
  joint_committed_index_empty = apart_by committed_leaves refl;
  joint_vote_result_one_half = apart_by verdict_leaves refl;
  joint_vote_result_waits = apart_by verdict_leaves refl;
  joint_committed_index_by_larger = apart_by committed_leaves refl;
  joint_committed_index_by_repeated = apart_by committed_leaves refl;
  joint_vote_result_by_one_half = apart_by verdict_leaves refl;
  joint_vote_result_by_waits = apart_by verdict_leaves refl;
  joint_committed_index_of_larger = apart_by committed_leaves refl;
  joint_committed_index_of_empty = apart_by committed_leaves refl;
  joint_vote_result_of_one_half = apart_by verdict_leaves refl;
  joint_vote_result_of_waits = apart_by verdict_leaves refl;
  rows_gather_column = apart (λ r. get_or r.values 0 0) refl;
  rows_gather_count = apart (λ r. r.count) refl;
  rows_checked_repeated = apart refusal_of refl;
  rows_checked_too_many = apart refusal_of refl;
  rows_said_by_place = apart (λ n. n) refl;
  rows_said_of_nobody = apart (λ n. n) refl;
  rows_value_vote = apart (λ n. n) refl;
  rows_value_id = apart (λ n. n) refl;
  rows_ack_number_missing = apart (λ n. n) refl;
  rows_ack_number_lost = apart (λ n. n) refl;
  rows_vote_number_missing = apart (λ n. n) refl;
  rows_vote_number_changed = apart (λ n. n) refl;
  half_index_of_zero = apart (λ h. h.index) refl;
  half_index_of_unsorted = apart (λ words. get_or words 0 0) refl;
  half_result_of_half = apart result_word refl;
  half_result_of_missing = apart result_word refl;
  half_joined_larger = apart (λ h. h.index) refl;
  half_joined_free = apart (λ h. flag_word h.free) refl;
  half_joint_result_one = apart result_word refl;
  half_joint_result_waits = apart result_word refl;
  table_empty_counts = apart (λ t. t.count) refl;
  table_empty_zeros = apart (λ t. ack_in (get_or t.peers 0 nobody).ack) refl;
  table_with_not_counted = apart (λ t. t.count) refl;
  table_with_stays_full = apart (λ t. t.count) refl;
  table_rows_too_many = apart refused_in refl;
  table_rows_unused = apart rows_read refl;
  table_committed_index_too_many = apart_by committed_leaves refl;
  table_committed_index_last_row = apart_by committed_leaves refl;
  table_vote_result_by_seven = apart_by verdict_leaves refl;
  table_vote_result_unused = apart_by verdict_leaves refl;
  table_joint_committed_index_too_many = apart_by committed_leaves refl;
  table_joint_committed_index_last_row = apart_by committed_leaves refl;
  table_joint_vote_result_by_seven = apart_by verdict_leaves refl;
  table_joint_vote_result_unused = apart_by verdict_leaves refl;
}

pub wrong_engines_quorum : WrongEnginesQuorum
unfolding quorum_promises
wrong_engines_quorum = record {
  index_by_the_rule = λ v peers. refl;
  joint_index_by_the_rule = λ c peers. refl;
  result_by_the_rule = λ v peers. refl;
  joint_result_by_the_rule = λ c peers. refl;
  answers_zero_fails = λ same. apart_by committed_leaves refl (same (voters_from 1 3) (acking (5 ∷ 5 ∷ 5 ∷ [])));
  answers_zero_joint = λ same. apart_by committed_leaves refl (same three_voters (acking (5 ∷ 5 ∷ 5 ∷ [])));
  stays_pending_fails = λ same. apart_by verdict_leaves refl (same (voters_from 1 3) (voting (Some true ∷ Some true ∷ Some true ∷ [])));
  stays_pending_joint = λ same. apart_by verdict_leaves refl (same three_voters (voting (Some true ∷ Some true ∷ Some true ∷ [])));
  half_is_enough_fails = λ same. apart_by committed_leaves refl (same (voters_from 1 4) (acking (9 ∷ 7 ∷ 3 ∷ 3 ∷ [])));
  half_is_enough_joint = λ same. apart_by committed_leaves refl (same (one_set (voters_from 1 4)) (acking (9 ∷ 7 ∷ 3 ∷ 3 ∷ [])));
  half_wins_fails = λ same. apart_by verdict_leaves refl (same (voters_from 1 4) (voting (Some true ∷ Some true ∷ Some false ∷ Some false ∷ [])));
  half_wins_joint = λ same. apart_by verdict_leaves refl (same (one_set (voters_from 1 4)) (voting (Some true ∷ Some true ∷ Some false ∷ Some false ∷ [])));
}
