-- What the promises over words (crate exports) rule out: for each exported call two answers that a faulty boundary would leave.
-- A reader must know: an outcome is the result and every slice that the call may write, whole, in the order store, state, values. A line says that the promise's outcome, at the input beside it, is not the wrong one; each holds by computing both sides (proofs/WrongWords.antt). `nines` are words that stood in a slice before the call.
use Rattle.std.specs.Prelude.{ℕ, zero, suc, ◌-◌, ◌≢◌, List, [], ◌∷◌, ◌++◌, replicate}
use Rattle.units.specs.Refusals.{number_of}
use Rattle.units.specs.declared.refusal.Refusal.TheVariants as refusal
use Rattle.raft_log.specs.declared.Log.{Log}
use Rattle.raft_log.specs.Commit.{with_applied}
use Rattle.raft_log.specs.Setup.{fresh}
use Rattle.quorum.specs.Limits.{voter_limit, row_limit}
use Rattle.exports.specs.Words.{ids_length, log_words, Outcome, leaves}
use Rattle.exports.specs.Reads.{term_leaves, first_index_leaves, last_index_leaves, last_term_leaves, commit_info_leaves, is_up_to_date_leaves, find_conflict_by_term_leaves, slice_leaves, entries_leaves, next_entries_since_leaves, has_next_entries_since_leaves}
use Rattle.exports.specs.LogCalls.{new_log_leaves, maybe_append_leaves, append_leaves, commit_to_leaves, applied_to_leaves, maybe_commit_leaves, maybe_persist_leaves, stable_entries_leaves}
use Rattle.exports.specs.QuorumCalls.{majority_committed_index_leaves, majority_vote_result_leaves, joint_committed_index_leaves, joint_vote_result_leaves, is_singleton_leaves, contains_leaves, joint_ids_leaves, clear_leaves, voters_refusal, joint_refusal, rows_refusal, leader_commit_leaves}
use Rattle.exports.specs.WindowCalls.{new_window_leaves, set_cap_leaves, add_leaves, free_to_leaves, free_first_one_leaves, reset_leaves, maybe_free_buffer_leaves, full_leaves, count_leaves}
use Rattle.two_ends.specs.Sanity.{log_with}
use Rattle.promises.specs.Cases.{log_a, all_committed_a, settled_a, pending_a, message, ids_from, id_twice, nines, old, flown}
use Rattle.promises.specs.WrongLog.{roomy_a, beyond_a}
use Rattle.promises.specs.WrongWindow.{large_first}

-- ---- the inputs

-- A log's state as words, and one word behind it.
abbrev pub state_of : Log → List ℕ
state_of l = log_words l ++ nines 1

-- A call on the words of Log A of 01, Cases.
abbrev pub call_a : {B : Type 0} → (List ℕ → List ℕ → List ℕ → B) → B
call_a call = call (state_of log_a) settled_a pending_a

-- The words of A with committed 9, beyond its last: broken (1).
abbrev pub broken_a : List ℕ
broken_a = state_of beyond_a

-- Result 0, and this one slice.
abbrev pub writes : List ℕ → Outcome
writes slice = leaves 0 (slice ∷ [])

-- Result 0, and these two slices.
abbrev pub writes_both : List ℕ → List ℕ → Outcome
writes_both first second = leaves 0 (first ∷ second ∷ [])

-- The words of a row with an acknowledgement, its vote missing.
abbrev pub acks : ℕ → ℕ → List ℕ
acks id index = id ∷ 1 ∷ index ∷ 0 ∷ []

-- The words of a row whose acknowledgement is missing, with an index that is not to be read.
abbrev pub acks_nothing : ℕ → ℕ → List ℕ
acks_nothing id index = id ∷ 0 ∷ index ∷ 0 ∷ []

-- The words of a row with a vote, 1 for yes, its acknowledgement missing.
abbrev pub votes : ℕ → ℕ → List ℕ
votes id said = id ∷ 0 ∷ 0 ∷ said ∷ []

-- The words of so many rows, each of another id.
abbrev pub rows_of : ℕ → List ℕ
rows_of zero = []
rows_of (suc n) = acks n 0 ++ rows_of n

-- The words of rows that acknowledge 5, 4, 3 (ids 1, 2, 3) and 3, 8 (ids 4, 5).
abbrev pub five_rows : List ℕ
five_rows = acks 1 5 ++ acks 2 4 ++ acks 3 3 ++ acks 4 3 ++ acks 5 8

-- The words of two votes yes, of the ids 1 and 2.
abbrev pub two_yes : List ℕ
two_yes = votes 1 1 ++ votes 2 1

-- A window's state as words (start, count, cap, whether a smaller cap is deferred, that cap): the three flights of `flown`, cap 4.
abbrev pub three_flights : List ℕ
three_flights = 0 ∷ 3 ∷ 4 ∷ 0 ∷ 0 ∷ []

-- The same with a cap of 2 deferred.
abbrev pub three_deferred : List ℕ
three_deferred = 0 ∷ 3 ∷ 4 ∷ 1 ∷ 2 ∷ []

-- Five flights, cap 4: "count above cap", broken (13).
abbrev pub overfull_window : List ℕ
overfull_window = 0 ∷ 5 ∷ 4 ∷ 0 ∷ 0 ∷ []

-- THE TABLE: what each call does not leave, in the order of docs/PROMISES.md.
pub record WrongWords : Type 0 where
  -- `log_new` over a settled record of term 0: refused, with the state written.
  pub log_new_writes_on_refusal : new_log_leaves 0 0 1 (0 ∷ 1 ∷ []) (nines 8) ≢ leaves (number_of refusal.ZeroTerm) (state_of (fresh 0 0 1) ∷ [])
  -- `log_new`, start (10,4): six words written, the seventh left.
  pub log_new_six_words : new_log_leaves 10 4 10 [] (nines 8) ≢ writes (10 ∷ 4 ∷ 11 ∷ 0 ∷ 10 ∷ 10 ∷ 9 ∷ 9 ∷ [])
  -- `log_term(5)` of A with no word for the term: 0, as if it were told.
  pub log_term_no_word : call_a term_leaves 5 [] ≢ writes []
  -- `log_term(5)` of a broken state: refused, with a word written.
  pub log_term_writes_on_refusal : term_leaves broken_a settled_a pending_a 5 (nines 2) ≢ leaves (number_of refusal.BrokenState) ((0 ∷ 9 ∷ []) ∷ [])
  -- `log_first_index` of A: the start, 0.
  pub log_first_index_start : call_a first_index_leaves (nines 2) ≢ writes (0 ∷ 9 ∷ [])
  -- The same: the word behind it cleared.
  pub log_first_index_clears_behind : call_a first_index_leaves (nines 2) ≢ writes (1 ∷ 0 ∷ [])
  -- `log_last_index` of A: offset, 4.
  pub log_last_index_offset : call_a last_index_leaves (nines 2) ≢ writes (4 ∷ 9 ∷ [])
  -- The same: the index as the result, nothing written.
  pub log_last_index_as_result : call_a last_index_leaves (nines 2) ≢ leaves 5 (nines 2 ∷ [])
  -- `log_last_term` of A: the last index, 5.
  pub log_last_term_index : call_a last_term_leaves (nines 2) ≢ writes (5 ∷ 9 ∷ [])
  -- The same: the last index and its term, a word too many.
  pub log_last_term_two_words : call_a last_term_leaves (nines 2) ≢ writes (5 ∷ 3 ∷ [])
  -- `log_commit_info` of A: term before index.
  pub log_commit_info_exchanged : call_a commit_info_leaves (nines 2) ≢ writes (1 ∷ 2 ∷ [])
  -- The same: applied and its term.
  pub log_commit_info_applied : call_a commit_info_leaves (nines 2) ≢ writes (1 ∷ 1 ∷ [])
  -- `log_is_up_to_date(5, 3)` of A: 2 for yes.
  pub log_is_up_to_date_two : call_a is_up_to_date_leaves 5 3 (nines 1) ≢ writes (2 ∷ [])
  -- The same: 0, nothing written.
  pub log_is_up_to_date_untold : call_a is_up_to_date_leaves 5 3 (nines 1) ≢ writes (nines 1)
  -- `log_find_conflict_by_term(6, 9)` of A: the flag says that a term goes with 6.
  pub log_find_conflict_by_term_beyond : call_a find_conflict_by_term_leaves 6 9 (nines 3) ≢ writes (6 ∷ 1 ∷ 0 ∷ [])
  -- `log_find_conflict_by_term(5, 2)` of A: index and term without the flag.
  pub log_find_conflict_by_term_no_flag : call_a find_conflict_by_term_leaves 5 2 (nines 3) ≢ writes (4 ∷ 2 ∷ 9 ∷ [])
  -- `log_maybe_append`, idx 3, term 2, a message whose second record differs, commit 4: conflict and last exchanged;
  pub log_maybe_append_exchanged : call_a maybe_append_leaves 3 2 4 message (nines 2) ≢ leaves 0 ((2 ∷ 4 ∷ 4 ∷ 7 ∷ 4 ∷ 8 ∷ 0 ∷ 0 ∷ []) ∷ state_of (log_with 4 3 4 3) ∷ (6 ∷ 5 ∷ []) ∷ [])
  -- the pending store not written.
  pub log_maybe_append_store_untouched : call_a maybe_append_leaves 3 2 4 message (nines 2) ≢ leaves 0 (pending_a ∷ state_of (log_with 4 3 4 3) ∷ (5 ∷ 6 ∷ []) ∷ [])
  -- `log_maybe_append`, idx 5, term 2, commit 9: refused, with committed raised in the state.
  pub log_maybe_append_writes_on_refusal : call_a maybe_append_leaves 5 2 9 [] (nines 2) ≢ leaves (number_of refusal.Mismatch) (pending_a ∷ state_of all_committed_a ∷ nines 2 ∷ [])
  -- `log_append` of (6,3) to A: the state not written back;
  pub log_append_state_untouched : call_a append_leaves (6 ∷ 3 ∷ 6 ∷ []) (nines 1) ≢ leaves 0 ((2 ∷ 4 ∷ 3 ∷ 5 ∷ 3 ∷ 6 ∷ 0 ∷ 0 ∷ []) ∷ state_of log_a ∷ (6 ∷ []) ∷ [])
  -- the run's count for the last index;
  pub log_append_count : call_a append_leaves (6 ∷ 3 ∷ 6 ∷ []) (nines 1) ≢ leaves 0 ((2 ∷ 4 ∷ 3 ∷ 5 ∷ 3 ∷ 6 ∷ 0 ∷ 0 ∷ []) ∷ state_of (log_with 4 3 2 3) ∷ (1 ∷ []) ∷ [])
  -- the run's index stored too.
  pub log_append_stores_index : call_a append_leaves (6 ∷ 3 ∷ 6 ∷ []) (nines 1) ≢ leaves 0 ((2 ∷ 4 ∷ 3 ∷ 5 ∷ 6 ∷ 3 ∷ 6 ∷ 0 ∷ []) ∷ state_of (log_with 4 3 2 3) ∷ (6 ∷ []) ∷ [])
  -- `log_commit_to(3)` of A: applied moved for committed.
  pub log_commit_to_applies : call_a commit_to_leaves 3 ≢ writes (state_of (with_applied log_a 3))
  -- `log_commit_to(6)` of A: refused, with committed at the last.
  pub log_commit_to_writes_on_refusal : call_a commit_to_leaves 6 ≢ leaves (number_of refusal.OutOfRange) (state_of all_committed_a ∷ [])
  -- `log_applied_to(2)` of A: persisted moved for applied.
  pub log_applied_to_persists : call_a applied_to_leaves 2 ≢ writes (state_of (log_with 4 2 2 2))
  -- `log_applied_to(3)` of A: refused, with applied moved.
  pub log_applied_to_writes_on_refusal : call_a applied_to_leaves 3 ≢ leaves (number_of refusal.OutOfRange) (state_of (with_applied log_a 3) ∷ [])
  -- `log_maybe_commit(3, 2)` of A: 1, with the state as it was.
  pub log_maybe_commit_state_untouched : call_a maybe_commit_leaves 3 2 (nines 1) ≢ writes_both (state_of log_a) (1 ∷ [])
  -- `log_maybe_commit(4, 3)` of A: 0, with committed moved.
  pub log_maybe_commit_writes_on_no : call_a maybe_commit_leaves 4 3 (nines 1) ≢ writes_both (state_of (log_with 4 2 4 3)) (0 ∷ [])
  -- `log_maybe_persist(3, 2)` of A with 2 persisted: 1, with the state as it was.
  pub log_maybe_persist_state_untouched : maybe_persist_leaves (state_of (log_with 4 2 2 2)) settled_a pending_a 3 2 (nines 1) ≢ writes_both (state_of (log_with 4 2 2 2)) (1 ∷ [])
  -- `log_maybe_persist(3, 1)` of it: 0, with persisted moved.
  pub log_maybe_persist_writes_on_no : maybe_persist_leaves (state_of (log_with 4 2 2 2)) settled_a pending_a 3 1 (nines 1) ≢ writes_both (state_of log_a) (0 ∷ [])
  -- `log_stable_entries(5, 3)` of A with room: offset moved with nothing copied.
  pub log_stable_entries_copies_nothing : stable_entries_leaves (state_of log_a) roomy_a pending_a 5 3 ≢ writes_both roomy_a (state_of (log_with 6 0 2 3))
  -- `log_stable_entries(4, 2)` of it, not the last record: refused, with pending copied.
  pub log_stable_entries_copies_on_refusal : stable_entries_leaves (state_of log_a) roomy_a pending_a 4 2 ≢ leaves (number_of refusal.NotPending) ((settled_a ++ 2 ∷ 4 ∷ 3 ∷ 5 ∷ 8 ∷ 9 ∷ []) ∷ state_of log_a ∷ [])
  -- `log_slice(4, 6)` of A: settled named for pending.
  pub log_slice_other_store : call_a slice_leaves 4 6 (nines 5) ≢ writes (1 ∷ 4 ∷ 6 ∷ 0 ∷ 4 ∷ [])
  -- `log_slice(2, 6)` of A: a record of settled too many, beyond the store boundary.
  pub log_slice_crosses : call_a slice_leaves 2 6 (nines 5) ≢ writes (1 ∷ 2 ∷ 5 ∷ 2 ∷ 6 ∷ [])
  -- `log_entries(4)` of A: settled named for pending.
  pub log_entries_other_store : call_a entries_leaves 4 (nines 5) ≢ writes (1 ∷ 4 ∷ 6 ∷ 0 ∷ 4 ∷ [])
  -- The same: a record too many, with spare words.
  pub log_entries_spare_words : call_a entries_leaves 4 (nines 5) ≢ writes (2 ∷ 4 ∷ 7 ∷ 0 ∷ 6 ∷ [])
  -- `log_next_entries_since(1)` of A: from the first word of settled on.
  pub log_next_entries_since_first_word : call_a next_entries_since_leaves 1 (nines 5) ≢ writes (1 ∷ 2 ∷ 3 ∷ 0 ∷ 2 ∷ [])
  -- The same: record 3 too, which is not committed.
  pub log_next_entries_since_uncommitted : call_a next_entries_since_leaves 1 (nines 5) ≢ writes (1 ∷ 2 ∷ 4 ∷ 2 ∷ 4 ∷ [])
  -- `log_has_next_entries_since(3)` of A with all committed: yes for record 4, which is not persisted.
  pub log_has_next_entries_since_not_persisted : has_next_entries_since_leaves (state_of all_committed_a) settled_a pending_a 3 (nines 1) ≢ writes (1 ∷ [])
  -- `log_has_next_entries_since(1)` of A: 2 for yes.
  pub log_has_next_entries_since_two : call_a has_next_entries_since_leaves 1 (nines 1) ≢ writes (2 ∷ [])
  -- `majority_committed_index` of the voters 1, 2, 3, where row 1 stands twice: an index.
  pub majority_committed_index_row_twice : majority_committed_index_leaves (ids_from 1 3) (acks 1 5 ++ acks 1 5) (nines 2) ≢ writes (5 ∷ 0 ∷ [])
  -- The same with the rows of 2 and 3 missing their acknowledgement: the index that stands behind is read.
  pub majority_committed_index_reads_missing : majority_committed_index_leaves (ids_from 1 3) (acks 1 5 ++ acks_nothing 2 5 ++ acks_nothing 3 5) (nines 2) ≢ writes (5 ∷ 0 ∷ [])
  -- `joint_committed_index` of the voters 1, 2, 3 and nobody outgoing: the flag of the empty half.
  pub joint_committed_index_flag_of_one : joint_committed_index_leaves (ids_from 1 3) [] five_rows (nines 2) ≢ writes (4 ∷ 1 ∷ [])
  -- `joint_committed_index` of 1, 2, 3 and 4, 5: the larger of 4 and 3.
  pub joint_committed_index_larger : joint_committed_index_leaves (ids_from 1 3) (ids_from 4 2) five_rows (nines 2) ≢ writes (4 ∷ 0 ∷ [])
  -- `majority_vote_result` of the voters 1, 2, 3, two yes: 1 for won.
  pub majority_vote_result_one_for_won : majority_vote_result_leaves (ids_from 1 3) two_yes (nines 1) ≢ writes (1 ∷ [])
  -- `majority_vote_result` of eight voters: a verdict.
  pub majority_vote_result_too_many_voters : majority_vote_result_leaves (ids_from 1 (suc voter_limit)) two_yes (nines 1) ≢ writes (0 ∷ [])
  -- `joint_vote_result` of 1, 2, 3 and 4, 5, where only the first half has won: won.
  pub joint_vote_result_one_half : joint_vote_result_leaves (ids_from 1 3) (ids_from 4 2) two_yes (nines 1) ≢ writes (2 ∷ [])
  -- `joint_vote_result` with eight outgoing voters: a verdict.
  pub joint_vote_result_too_many_voters : joint_vote_result_leaves (ids_from 1 3) (ids_from 1 (suc voter_limit)) two_yes (nines 1) ≢ writes (0 ∷ [])
  -- `joint_is_singleton` with one voter in each half: yes.
  pub joint_is_singleton_each_half : is_singleton_leaves (1 ∷ []) (2 ∷ []) (nines 1) ≢ writes (1 ∷ [])
  -- `joint_is_singleton` with an outgoing voter that stands twice: no, where 12 is given.
  pub joint_is_singleton_broken : is_singleton_leaves (1 ∷ []) (2 ∷ 2 ∷ []) (nines 1) ≢ writes (0 ∷ [])
  -- `joint_contains(4)` of 1, 2, 3 and 4, 5: no for an outgoing voter.
  pub joint_contains_incoming_only : contains_leaves (ids_from 1 3) (ids_from 4 2) 4 (nines 1) ≢ writes (0 ∷ [])
  -- `joint_contains(0)` of it: yes for an unused word of a set.
  pub joint_contains_unused_word : contains_leaves (ids_from 1 3) (ids_from 4 2) 0 (nines 1) ≢ writes (1 ∷ [])
  -- `joint_ids` of 1, 2 and 2, 3: 2 listed twice.
  pub joint_ids_twice : joint_ids_leaves (1 ∷ 2 ∷ []) (2 ∷ 3 ∷ []) (nines ids_length) ≢ writes (4 ∷ 1 ∷ 2 ∷ 2 ∷ 3 ∷ replicate (ids_length - 5) 0)
  -- The same: old words left behind the ids.
  pub joint_ids_old_words : joint_ids_leaves (1 ∷ 2 ∷ []) (2 ∷ 3 ∷ []) (nines ids_length) ≢ writes (3 ∷ 1 ∷ 2 ∷ 3 ∷ nines (ids_length - 4))
  -- `joint_clear` of 1, 2, 3 and 4, 5: the outgoing half kept.
  pub joint_clear_keeps_outgoing : clear_leaves (ids_from 1 3) (ids_from 4 2) (nines 2) ≢ writes (0 ∷ 2 ∷ [])
  -- `joint_clear` where a half has an id twice: 12. It refuses no configuration.
  pub joint_clear_refuses : clear_leaves id_twice [] (nines 2) ≢ leaves (number_of refusal.BrokenSet) (nines 2 ∷ [])
  -- `voters_checked` of eight ids: 0. It is 12.
  pub voters_checked_eight : voters_refusal (ids_from 1 (suc voter_limit)) ≢ 0
  -- `voters_checked` of seven: 12, one too early.
  pub voters_checked_seven : voters_refusal (ids_from 1 voter_limit) ≢ number_of refusal.BrokenSet
  -- `joint_checked`, the outgoing half with an id twice: 0. It is 12.
  pub joint_checked_outgoing : joint_refusal (ids_from 1 3) (4 ∷ 4 ∷ []) ≢ 0
  -- `joint_checked`, an id once in each half: 12. It is 0.
  pub joint_checked_in_both : joint_refusal (ids_from 1 3) (ids_from 3 2) ≢ number_of refusal.BrokenSet
  -- `rows_checked` of 65 rows: 0. It is 12.
  pub rows_checked_too_many : rows_refusal (rows_of (suc row_limit)) ≢ 0
  -- `rows_checked` of 64 rows and three words more: 12. Words after the last whole row are not read.
  pub rows_checked_spare_words : rows_refusal (rows_of row_limit ++ nines 3) ≢ number_of refusal.BrokenSet
  -- `leader_maybe_commit` of a broken state with a voter that stands twice: 12 before 1.
  pub leader_maybe_commit_12_before_1 : leader_commit_leaves broken_a settled_a pending_a 3 id_twice [] [] (nines 1) ≢ leaves (number_of refusal.BrokenSet) (broken_a ∷ nines 1 ∷ [])
  -- `leader_maybe_commit` of A, term 3, two of three voters at 4: yes for record 4, which is of an earlier term.
  pub leader_maybe_commit_earlier_term : call_a leader_commit_leaves 3 (ids_from 1 3) [] (acks 1 4 ++ acks 2 4) (nines 1) ≢ writes_both (state_of (log_with 4 2 4 3)) (1 ∷ [])
  -- `inflights_new`, cap 5, a ring of 4: a window whose cap is above the ring.
  pub inflights_new_above_ring : new_window_leaves 5 old (nines 5) ≢ writes (0 ∷ 0 ∷ 5 ∷ 0 ∷ 0 ∷ [])
  -- `inflights_new`, cap 4: the words of the deferred cap left as they were.
  pub inflights_new_old_words : new_window_leaves 4 old (nines 5) ≢ writes (0 ∷ 0 ∷ 4 ∷ 9 ∷ 9 ∷ [])
  -- `inflights_set_cap(2)` of three flights, cap 4: a deferred cap without its flag.
  pub inflights_set_cap_no_flag : set_cap_leaves three_flights flown 2 ≢ writes (0 ∷ 3 ∷ 4 ∷ 0 ∷ 2 ∷ [])
  -- `inflights_set_cap(5)` of them, a ring of 4: a cap above the ring.
  pub inflights_set_cap_above_ring : set_cap_leaves three_flights flown 5 ≢ writes (0 ∷ 3 ∷ 5 ∷ 0 ∷ 0 ∷ [])
  -- `inflights_add(7)` to three flights: counted, with the ring's word not written.
  pub inflights_add_only_counts : add_leaves three_flights flown 7 ≢ writes_both flown (0 ∷ 4 ∷ 4 ∷ 0 ∷ 0 ∷ [])
  -- `inflights_add(7)` to a full window: 11, with the first flight's word written.
  pub inflights_add_writes_on_refusal : add_leaves (0 ∷ 4 ∷ 4 ∷ 0 ∷ 0 ∷ []) flown 7 ≢ leaves (number_of refusal.WindowFull) ((7 ∷ 5 ∷ 6 ∷ 9 ∷ []) ∷ (0 ∷ 4 ∷ 4 ∷ 0 ∷ 0 ∷ []) ∷ [])
  -- `inflights_free_to(5)` of the flights 9, 1, 2: those behind the larger one freed.
  pub inflights_free_to_behind_larger : free_to_leaves three_flights large_first 5 ≢ writes (0 ∷ 1 ∷ 4 ∷ 0 ∷ 0 ∷ [])
  -- `inflights_free_to(5)` of 5, 5, 6: the equal ones kept.
  pub inflights_free_to_keeps_equal : free_to_leaves three_flights flown 5 ≢ writes three_flights
  -- `inflights_free_first_one` of 5, 5, 6: one freed, as the crate's comment says.
  pub inflights_free_first_one_frees_one : free_first_one_leaves three_flights flown ≢ writes (1 ∷ 2 ∷ 4 ∷ 0 ∷ 0 ∷ [])
  -- `inflights_free_first_one` of no flights at start 2: start 0.
  pub inflights_free_first_one_rewinds : free_first_one_leaves (2 ∷ 0 ∷ 4 ∷ 0 ∷ 0 ∷ []) flown ≢ writes (0 ∷ 0 ∷ 4 ∷ 0 ∷ 0 ∷ [])
  -- `inflights_reset` with a cap of 2 deferred: the cap kept, and 2 still deferred.
  pub inflights_reset_keeps_deferred : reset_leaves three_deferred flown ≢ writes (0 ∷ 0 ∷ 4 ∷ 1 ∷ 2 ∷ [])
  -- `inflights_reset` of one flight at start 2: the start kept.
  pub inflights_reset_keeps_start : reset_leaves (2 ∷ 1 ∷ 4 ∷ 0 ∷ 0 ∷ []) flown ≢ writes (2 ∷ 0 ∷ 4 ∷ 0 ∷ 0 ∷ [])
  -- `inflights_maybe_free_buffer` of no flights at start 2: the start kept.
  pub inflights_maybe_free_buffer_keeps_start : maybe_free_buffer_leaves (2 ∷ 0 ∷ 4 ∷ 0 ∷ 0 ∷ []) flown ≢ writes (2 ∷ 0 ∷ 4 ∷ 0 ∷ 0 ∷ [])
  -- `inflights_maybe_free_buffer` of one flight at start 2: start 0.
  pub inflights_maybe_free_buffer_moves_flight : maybe_free_buffer_leaves (2 ∷ 1 ∷ 4 ∷ 0 ∷ 0 ∷ []) flown ≢ writes (0 ∷ 1 ∷ 4 ∷ 0 ∷ 0 ∷ [])
  -- `inflights_full` of three flights, cap 4, with a cap of 2 deferred: no.
  pub inflights_full_forgets_deferred : full_leaves three_deferred flown (nines 1) ≢ writes (0 ∷ [])
  -- `inflights_full` of a broken window: yes.
  pub inflights_full_broken : full_leaves overfull_window flown (nines 1) ≢ writes (1 ∷ [])
  -- `inflights_count` of three flights, cap 4: the cap.
  pub inflights_count_cap : count_leaves three_flights flown (nines 1) ≢ writes (4 ∷ [])
  -- `inflights_count` of a broken window: its count.
  pub inflights_count_broken : count_leaves overfull_window flown (nines 1) ≢ writes (5 ∷ [])
