-- What the promises of the log (crates raft_log and leader) rule out: for each call answers that a faulty engine would give, and the wrong engines and tempting mistakes of document 01 that concern the log.
-- A reader must know: a line says that the promise's answer, at the input beside it, is not the wrong one; a refusal is written by its name. Each holds by computing both sides (proofs/WrongLog.antt).
use Rattle.std.specs.Prelude.{ℕ, ◌≡◌, ◌≢◌, true, false, List, [], ◌∷◌, ◌++◌, Ok, Err, Some, None}
use Rattle.units.specs.Units.{word_max, index_of, as_term}
use Rattle.units.specs.declared.refusal.Refusal.TheVariants as refusal
use Rattle.units.specs.Refusals.{Answer}
use Rattle.raft_log.specs.declared.Log.{Log}
use Rattle.raft_log.specs.declared.Bounds.{Bounds}
use Rattle.raft_log.specs.declared.Bounds.TheVariants as bounds
use Rattle.raft_log.specs.Append.{with_committed, maybe_append, maybe_append_store}
use Rattle.raft_log.specs.Extend.{append_run, append_run_store}
use Rattle.raft_log.specs.Commit.{with_applied, commit_to, applied_to, maybe_commit, maybe_persist}
use Rattle.raft_log.specs.Settle.{stable_entries, stable_entries_store}
use Rattle.raft_log.specs.Look.{look_term, first_index, last_index, last_term, commit_info, is_up_to_date, find_conflict_by_term}
use Rattle.raft_log.specs.Slice.{slice_bounds, entries_bounds, has_next_entries_since, next_entries_bounds_since, part_of}
use Rattle.raft_log.specs.Setup.{fresh, new_log}
use Rattle.leader.specs.Leader.{commit_found, leader_commit}
use Rattle.two_ends.specs.Follower.{Follower, Message, Receiver, engine}
use Rattle.two_ends.specs.Sanity.{log_with}
use Rattle.two_ends.specs.Sanity as wrong
use Rattle.promises.specs.Cases.{log_a, all_committed_a, settled_a, pending_a, message, taken, found, three_voters, voter_twice, acking}

-- ---- the inputs

-- A call of Log A of 01, Cases.
abbrev pub on_a : {B : Type 0} → (Log → List ℕ → List ℕ → B) → B
on_a call = call log_a settled_a pending_a

-- A call of a log "With start (10,4)" that has two records, 11 and 12 of terms 4 and 5, settled.
abbrev pub on10 : {B : Type 0} → (Log → List ℕ → List ℕ → B) → B
on10 call = call (fresh 10 4 12) (4 ∷ 11 ∷ 5 ∷ 12 ∷ []) []

-- A's pending store after a message.
abbrev pub store_by : ℕ → ℕ → ℕ → List ℕ → List ℕ
store_by idx term commit run = maybe_append_store (on_a maybe_append idx term commit run) pending_a idx run

-- A's settled store with room for three more records, old words in the last of them.
abbrev pub roomy_a : List ℕ
roomy_a = settled_a ++ 0 ∷ 0 ∷ 0 ∷ 0 ∷ 8 ∷ 9 ∷ []

-- That store after `stable_entries(5, 3)`.
abbrev pub settled_by5 : List ℕ
settled_by5 = stable_entries_store (stable_entries log_a roomy_a pending_a 5 3) log_a roomy_a pending_a

-- A committed beyond its last, which is broken.
abbrev pub beyond_a : Log
beyond_a = log_with 4 2 9 3

-- The words of A that an answer of bounds names.
abbrev pub words_of_a : Answer Bounds → List ℕ
words_of_a named = part_of named log_a settled_a pending_a

-- THE TABLE: what each call does not answer, in the order of docs/PROMISES.md.
pub record WrongLog : Type 0 where
  -- `new`: a log over a settled record of term 0, the second of three.
  pub new_over_term_0 : new_log 0 0 3 (1 ∷ 1 ∷ 0 ∷ 2 ∷ 2 ∷ 3 ∷ []) ≢ Ok (fresh 0 0 3)
  -- `new` over A's settled records: what is settled counts as committed.
  pub new_commits_settled : new_log 0 0 3 settled_a ≢ Ok (with_committed (fresh 0 0 3) 3)
  -- `term`, start (10,4): the start's term at 9, below the start.
  pub term_below_start : on10 look_term 9 ≢ Ok (as_term 4)
  -- `term` of A with one pending record: the term at 5, which was cut and whose words still stand in the store.
  pub term_beyond_last : look_term (log_with 4 1 2 3) settled_a pending_a 5 ≢ Ok (as_term 3)
  -- `first_index` of A: the start, 0.
  pub first_index_start : on_a first_index ≢ Ok (index_of 0)
  -- `first_index`, start (10,4): 1, as if every log began there.
  pub first_index_one : on10 first_index ≢ Ok (index_of 1)
  -- `last_index` of A: offset, 4.
  pub last_index_offset : on_a last_index ≢ Ok (index_of 4)
  -- `last_index` of A: 6, the place for the next record.
  pub last_index_next : on_a last_index ≢ Ok (index_of 6)
  -- `last_term` of A: 2, the last settled record's.
  pub last_term_settled : on_a last_term ≢ Ok (as_term 2)
  -- `last_term` of a log without records, start (10,4): 0.
  pub last_term_no_records : last_term (fresh 10 4 10) [] [] ≢ Ok (as_term 0)
  -- `commit_info` of A: committed with the last record's term.
  pub commit_info_last_term : on_a commit_info ≢ Ok (index_of 2, as_term 3)
  -- `commit_info` of A: applied and its term.
  pub commit_info_applied : on_a commit_info ≢ Ok (index_of 1, as_term 1)
  -- `is_up_to_date(4, 3)` of A: yes for a shorter log of the same last term.
  pub is_up_to_date_shorter : on_a is_up_to_date 4 3 ≢ Ok true
  -- `is_up_to_date(5, 3)` of A: no for one that is as long.
  pub is_up_to_date_equal : on_a is_up_to_date 5 3 ≢ Ok false
  -- `find_conflict_by_term(12, 3)`, start (10,4), where no record has a term so low: the first index, as the crate's comment says.
  pub find_conflict_by_term_first : on10 find_conflict_by_term 12 3 ≢ found 11 4
  -- `find_conflict_by_term(6, 9)` of A: a term beyond the last.
  pub find_conflict_by_term_beyond : on_a find_conflict_by_term 6 9 ≢ found 6 0
  -- `find_conflict_by_term(5, 0)` of A: none, since a term of 0 is taken as absent.
  pub find_conflict_by_term_absent : on_a find_conflict_by_term 5 0 ≢ Ok (index_of 5, None)
  -- `maybe_append`, idx 5, term 3, empty, commit 9: refusal 5.
  pub maybe_append_always_5 : on_a maybe_append 5 3 9 [] ≢ Err refusal.Mismatch
  -- The same: committed 9, past idx + count.
  pub maybe_append_commits_9 : on_a maybe_append 5 3 9 [] ≢ taken 0 5 beyond_a
  -- `maybe_append`, idx 3, term 2, a message whose second record differs, commit 4: (0, 6), and the log has no record more;
  pub maybe_append_says_yes : on_a maybe_append 3 2 4 message ≢ taken 0 6 (log_with 4 2 4 3)
  -- nothing is stored;
  pub maybe_append_stores_nothing : store_by 3 2 4 message ≢ pending_a
  -- the first record, which is held, is stored again with the message's body.
  pub maybe_append_stores_held : store_by 3 2 4 message ≢ 2 ∷ 6 ∷ 4 ∷ 7 ∷ 4 ∷ 8 ∷ 0 ∷ 0 ∷ []
  -- `maybe_append`, idx 2, term 1, record (3,5), commit 2: the words of the records that are cut, and not written over, become 0.
  pub maybe_append_clears_cut : store_by 2 1 2 (3 ∷ 5 ∷ 6 ∷ []) ≢ 5 ∷ 6 ∷ 0 ∷ 0 ∷ 0 ∷ 0 ∷ 0 ∷ 0 ∷ []
  -- `maybe_append`, idx 2, term 1, record (3,2), which is held, commit 0: it is taken for a conflict and 4 and 5 are cut.
  pub maybe_append_cuts_held : on_a maybe_append 2 1 0 (3 ∷ 2 ∷ 6 ∷ []) ≢ taken 3 3 (log_with 3 1 2 2)
  -- `maybe_append`, idx 9, term 0, empty, commit 2: (0, 9), as the crate answers.
  pub maybe_append_beyond_last : on_a maybe_append 9 0 2 [] ≢ taken 0 9 log_a
  -- `append` of (7,3) to A: taken, with old words for record 6.
  pub append_fills_gap : on_a append_run (7 ∷ 3 ∷ 9 ∷ []) ≢ Ok (index_of 7, log_with 4 4 2 3)
  -- `append` of (3,3) to A: record 3, which is persisted, is cut and persisted lowered.
  pub append_lowers_persisted : on_a append_run (3 ∷ 3 ∷ 9 ∷ []) ≢ Ok (index_of 3, log_with 3 1 2 2)
  -- `append` of (5,4) to A: its words stand behind the pending records, not from its own index on.
  pub append_stores_behind : append_run_store (on_a append_run (5 ∷ 4 ∷ 9 ∷ [])) pending_a (5 ∷ 4 ∷ 9 ∷ []) ≢ 2 ∷ 4 ∷ 3 ∷ 5 ∷ 4 ∷ 9 ∷ 0 ∷ 0 ∷ []
  -- `commit_to(1)` of A: committed lowered.
  pub commit_to_lowers : on_a commit_to 1 ≢ Ok (log_with 4 2 1 3)
  -- `commit_to(6)` of A: committed beyond the last.
  pub commit_to_beyond_last : on_a commit_to 6 ≢ Ok (log_with 4 2 6 3)
  -- `maybe_commit(4, 3)` of A: yes for a record of another term.
  pub maybe_commit_another_term : on_a maybe_commit 4 3 ≢ Ok (Some (log_with 4 2 4 3))
  -- `maybe_commit(6, 0)` of A: yes beyond the last, where the term is 0.
  pub maybe_commit_beyond_last : on_a maybe_commit 6 0 ≢ Ok (Some (log_with 4 2 6 3))
  -- `applied_to(4)` of A with all committed: applied above persisted.
  pub applied_to_above_persisted : applied_to all_committed_a settled_a pending_a 4 ≢ Ok (with_applied all_committed_a 4)
  -- `applied_to(1)` of A with 2 applied: applied lowered.
  pub applied_to_lowers : applied_to (with_applied log_a 2) settled_a pending_a 1 ≢ Ok log_a
  -- `maybe_persist(4, 2)` of A: yes for a pending record.
  pub maybe_persist_pending : on_a maybe_persist 4 2 ≢ Ok (Some (log_with 4 2 2 4))
  -- `maybe_persist(3, 1)` of A with 2 persisted: yes for a settled record of another term.
  pub maybe_persist_another_term : maybe_persist (log_with 4 2 2 2) settled_a pending_a 3 1 ≢ Ok (Some log_a)
  -- `stable_entries(5, 3)` of A with room: what is settled counts as persisted;
  pub stable_entries_persists : stable_entries log_a roomy_a pending_a 5 3 ≢ Ok (log_with 6 0 2 5)
  -- nothing is copied;
  pub stable_entries_copies_nothing : settled_by5 ≢ roomy_a
  -- the spare words of pending are copied too, over the old words behind.
  pub stable_entries_copies_spare : settled_by5 ≢ settled_a ++ 2 ∷ 4 ∷ 3 ∷ 5 ∷ 0 ∷ 0 ∷ []
  -- `slice_bounds(2, 6)` of A: a part of settled that crosses the store boundary.
  pub slice_bounds_crosses : on_a slice_bounds 2 6 ≢ Ok (bounds.Settled (index_of 2) (index_of 6))
  -- `slice_bounds(4, 8)` of A: what there is of the range, where high is above last + 1.
  pub slice_bounds_cuts_high : on_a slice_bounds 4 8 ≢ Ok (bounds.Pending (index_of 4) (index_of 6))
  -- `slice(2, 6)` of A: the records of both stores, joined.
  pub slice_joins : words_of_a (on_a slice_bounds 2 6) ≢ 1 ∷ 2 ∷ 2 ∷ 3 ∷ 2 ∷ 4 ∷ 3 ∷ 5 ∷ []
  -- `slice(0, 3)` of A: the records 1 and 2, where low is below the first index.
  pub slice_where_refused : words_of_a (on_a slice_bounds 0 3) ≢ 1 ∷ 1 ∷ 1 ∷ 2 ∷ []
  -- `entries_bounds(7)` of A: refusal 8 beyond the last.
  pub entries_bounds_refuses : on_a entries_bounds 7 ≢ Err refusal.OutOfRange
  -- `entries_bounds(2)` of A: from the first index on.
  pub entries_bounds_from_first : on_a entries_bounds 2 ≢ Ok (bounds.Settled (index_of 1) (index_of 4))
  -- `entries(2)` of A: the words of record 1 too.
  pub entries_from_first : words_of_a (on_a entries_bounds 2) ≢ settled_a
  -- `entries(4)` of A: without the last record.
  pub entries_without_last : words_of_a (on_a entries_bounds 4) ≢ 2 ∷ 4 ∷ []
  -- `has_next_entries_since(3)` of A with all committed: yes for record 4, which is not persisted.
  pub has_next_entries_since_not_persisted : has_next_entries_since all_committed_a settled_a pending_a 3 ≢ Ok true
  -- `has_next_entries_since(u64::MAX)` of A: yes, as s + 1 wraps to 0.
  pub has_next_entries_since_wraps : on_a has_next_entries_since word_max ≢ Ok true
  -- `next_entries_bounds_since(1)` of A: from 1 itself on.
  pub next_entries_bounds_since_itself : on_a next_entries_bounds_since 1 ≢ Ok (bounds.Settled (index_of 1) (index_of 3))
  -- The same: up to record 3, which is not committed.
  pub next_entries_bounds_since_uncommitted : on_a next_entries_bounds_since 1 ≢ Ok (bounds.Settled (index_of 2) (index_of 4))
  -- `next_entries_since(1)` of A: the words of record 1 too.
  pub next_entries_since_itself : words_of_a (on_a next_entries_bounds_since 1) ≢ 1 ∷ 1 ∷ 1 ∷ 2 ∷ []
  -- The same: the words of record 3 too.
  pub next_entries_since_uncommitted : words_of_a (on_a next_entries_bounds_since 1) ≢ 1 ∷ 2 ∷ 2 ∷ 3 ∷ []
  -- The leader's `maybe_commit`, term 3, two of three voters at 4: yes for record 4, which is of an earlier term.
  pub leader_maybe_commit_earlier_term : on_a leader_commit 3 three_voters (acking (4 ∷ 4 ∷ [])) ≢ Ok (Some (log_with 4 2 4 3))
  -- The same of a log that is committed beyond its last, with a voter that stands twice: 12 before 1.
  pub leader_maybe_commit_12_before_1 : leader_commit beyond_a settled_a pending_a 3 voter_twice [] ≢ Err refusal.BrokenSet
  -- `commit_found` of a refused question: no.
  pub commit_found_refused_is_no : on_a commit_found 3 (Err refusal.BrokenSet) ≢ Ok None
  -- `commit_found` where nobody has a say (u64::MAX): the whole log is committed.
  pub commit_found_nobody_commits_all : on_a commit_found 3 (Ok (index_of word_max, true)) ≢ Ok (Some all_committed_a)

-- ---- the wrong engines and mistakes of 01 that concern the log, each a whole receiver of two_ends: the promise of `maybe_append` with one thing wrong

-- A receiver does not leave what is promised of every message to every log. 01: "The promises catch: an append that always gives 5" and so on.
abbrev pub Differs : Receiver → Type 0
Differs wrong = ¬ ((f : Follower) (m : Message) → engine f m ≡ wrong f m)

-- By what each makes of one message to A.
pub record WrongEnginesLog : Type 0 where
  -- idx 5, term 3, empty, commit 9
  pub always_5 : Differs wrong.refuses_all
  -- idx 3, term 2, records (4,2),(5,4),(6,4), commit 4
  pub stores_nothing : Differs wrong.stores_nothing
  -- idx 2, term 1, record (3,2), commit 0: "(0, 3), nothing cut"
  pub cuts_always : Differs wrong.cuts_always
  -- the same
  pub cuts_behind_match : Differs wrong.cuts_behind_match
  -- idx 0, term 0, record (1,1), commit 0: the start (0,0) is held
  pub zero_is_absent : Differs wrong.zero_is_absent
  -- idx 5, term 3, empty, commit 9
  pub commits_blindly : Differs wrong.commits_blindly
  -- idx 2, term 1, record (3,2), commit 0
  pub lowers_persisted : Differs wrong.lowers_persisted
