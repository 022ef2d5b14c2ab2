-- What a caller may read off a result, call by call in the order of include/deckplover.h. 01, "Refusals": "Every refusal returns its number alone and changes nothing."; and 0 is no refusal's number.
use mathlib.Core.Path.{◌≡◌, refl, ap}
use mathlib.Core.List.{List, [], ◌∷◌}
use Prim.Native.Nat.{ℕ}
use native.Mathlib.Omega.{arith}
use lib.ListN.{length}
use Rattle.std.specs.Prelude.{Option, Ok, Err}
use Rattle.units.specs.Refusals.{Answer, Check, fine, number_of, refusal_of, unless}
use Rattle.units.specs.declared.refusal.Refusal.{Refusal}
use Rattle.units.specs.declared.refusal.Refusal.TheVariants as refusal
use Rattle.units.proofs.Never.{never}
use Rattle.raft_log.specs.Append.{maybe_append, maybe_append_store}
use Rattle.raft_log.specs.Extend.{append_run, append_run_store}
use Rattle.raft_log.specs.Commit.{commit_to, applied_to, maybe_commit, maybe_persist}
use Rattle.raft_log.specs.Settle.{stable_entries, stable_entries_store}
use Rattle.raft_log.specs.Setup.{new_log}
use Rattle.raft_log.specs.Look.{look_term, first_index, last_index, last_term, commit_info, is_up_to_date, find_conflict_by_term}
use Rattle.raft_log.specs.Slice.{slice_bounds, entries_bounds, next_entries_bounds_since, has_next_entries_since}
use Rattle.raft_log.specs.declared.Log.{Log}
use Rattle.quorum.specs.Rows.{rows_check}
use Rattle.quorum.specs.Voters.{voters_check, set_of}
use Rattle.quorum.specs.Majority.{committed_index, vote_result}
use Rattle.quorum.specs.Joint.{config_check, joint_committed_index, joint_vote_result, is_singleton, contains_of, joint_ids}
use Rattle.leader.specs.Leader.{leader_commit}
use Rattle.inflights.specs.Calls.{ring_unless, made_window, capped, fullness, counted, add_check, added, ring_after, freed_to, freed_first, cleared, rewound}
use Rattle.inflights.specs.declared.Inflights.{Inflights}
use Rattle.exports.specs.Words.{log_length, single_length, log_from, log_words, flag_word, Outcome, leaves, put, answer_leaves, values_leave, with_store, unless_short, reading}
use Rattle.exports.specs.LogCalls.{appended_writes, extended_writes, changed_leaves, decided_writes, decided_leaves, new_log_leaves, maybe_append_leaves, append_leaves, commit_to_leaves, maybe_commit_leaves, applied_to_leaves, maybe_persist_leaves, stable_entries_leaves}
use Rattle.exports.specs.Reads.{by_term_words, bounds_words, term_leaves, first_index_leaves, last_index_leaves, last_term_leaves, commit_info_leaves, is_up_to_date_leaves, find_conflict_by_term_leaves, slice_leaves, entries_leaves, next_entries_since_leaves, has_next_entries_since_leaves}
use Rattle.exports.specs.Rows.{peers_from, config_from}
use Rattle.exports.specs.QuorumCalls.{result_word, committed_words, majority_committed_index_leaves, majority_vote_result_leaves, joint_committed_index_leaves, joint_vote_result_leaves, is_singleton_leaves, contains_leaves, joint_ids_leaves, clear_leaves, voters_refusal, joint_refusal, rows_refusal, leader_commit_leaves}
use Rattle.exports.specs.WindowCalls.{window_from, window_words, window_leaves, changes as window_changes, new_window_leaves, set_cap_leaves, add_leaves, free_to_leaves, free_first_one_leaves, reset_leaves, maybe_free_buffer_leaves, full_leaves, count_leaves}
use Rattle.exports.specs.Results.{Tells}
use Rattle.exports.proofs.Lengths.{by_length, nonzero}

module _ {A : Type 0} where
  -- A result tells what happened where it is a refusal, whose number is not 0,
  refuses : {said : Answer A} {slices : List (List ℕ)} (r : Refusal) → Tells said slices (leaves (number_of r) slices)
  refuses r = record { keeps = λ g. refl; taken = λ z n e. let over = nonzero r in omega arith }

  -- an answer that is none (then 0 would be 1),
  answers : {slices left : List (List ℕ)} (a : A) → Tells (Ok a) slices (leaves 0 left)
  answers a = record { keeps = λ g. absurd (g refl); taken = λ z n e. never cc }

  -- and each of them behind a test of a slice's length.
  behind : {said : Answer A} {slices : List (List ℕ)} (slice : List ℕ) (words : ℕ) {out : Outcome} → Tells said slices out → Tells said slices (unless_short slice words slices out)
  behind {said} {slices} slice words {out} tells = by_length slice words slices out (Tells said slices) (refuses refusal.BrokenState) (λ h. tells)

  -- So does every answer, by what it leaves of the slices that it is written into,
  answer_tells : (written : A → List (List ℕ)) (said : Answer A) (slices : List (List ℕ)) → Tells said slices (answer_leaves written said slices)
  answer_tells written (Ok a) slices = answers a
  answer_tells written (Err r) slices = refuses r

  -- into one slice,
  values_tell : (words : A → List ℕ) (said : Answer A) (answer : List ℕ) → Tells said (answer ∷ []) (values_leave words said answer)
  values_tell words said answer = answer_tells (λ a. put answer (words a) ∷ []) said (answer ∷ [])

  -- and into a store that a refusal leaves as it was.
  store_tells : (store_after : Answer A → List ℕ) (written : A → List (List ℕ)) (said : Answer A) (store : List ℕ) (slices : List (List ℕ)) → ((r : Refusal) → store_after (Err r) ≡ store)
      → Tells said (store ∷ slices) (with_store (store_after said) (answer_leaves written said slices))
  store_tells store_after written (Ok a) store slices stays = answers a
  store_tells store_after written (Err r) store slices stays = record { keeps = λ g. ap (λ (words : List ℕ). words ∷ slices) (stays r); taken = λ z n e. let over = nonzero r in omega arith }

-- ---- The log

pub log_new_tells : (start startterm last : ℕ) (settled log : List ℕ) → Tells (new_log start startterm last settled) (log ∷ []) (new_log_leaves start startterm last settled log)
log_new_tells start startterm last settled log = behind _ _ (values_tell log_words _ log)

module _ (log settled pending : List ℕ) where
  abbrev l : Log
  l = log_from log

  -- A call that only reads the log,
  reads : {A : Type 0} (words_of : A → List ℕ) (said : Answer A) (answer : List ℕ) (words : ℕ) → Tells said (answer ∷ []) (reading log log_length words answer (values_leave words_of said answer))
  reads words_of said answer words = behind _ _ (behind _ _ (values_tell words_of said answer))

  -- one that changes it,
  changes : (said : Answer Log) → Tells said (log ∷ []) (unless_short log log_length (log ∷ []) (changed_leaves said log))
  changes said = behind _ _ (values_tell log_words said log)

  -- and one that decides whether it does.
  decides : (said : Answer (Option Log)) (answer : List ℕ) → let slices = log ∷ answer ∷ [] in Tells said slices (unless_short log log_length slices (unless_short answer single_length slices (decided_leaves said log answer)))
  decides said answer = behind _ _ (behind _ _ (answer_tells (decided_writes log answer) said _))

  pub log_term_tells : (i : ℕ) (answer : List ℕ) → Tells (look_term l settled pending i) (answer ∷ []) (term_leaves log settled pending i answer)
  log_term_tells i answer = reads (λ term. term.0 ∷ []) _ answer _

  pub log_first_index_tells : (answer : List ℕ) → Tells (first_index l settled pending) (answer ∷ []) (first_index_leaves log settled pending answer)
  log_first_index_tells answer = reads (λ index. index.0 ∷ []) _ answer _

  pub log_last_index_tells : (answer : List ℕ) → Tells (last_index l settled pending) (answer ∷ []) (last_index_leaves log settled pending answer)
  log_last_index_tells answer = reads (λ index. index.0 ∷ []) _ answer _

  pub log_last_term_tells : (answer : List ℕ) → Tells (last_term l settled pending) (answer ∷ []) (last_term_leaves log settled pending answer)
  log_last_term_tells answer = reads (λ term. term.0 ∷ []) _ answer _

  pub log_commit_info_tells : (answer : List ℕ) → Tells (commit_info l settled pending) (answer ∷ []) (commit_info_leaves log settled pending answer)
  log_commit_info_tells answer = reads (λ info. info.0.0 ∷ info.1.0 ∷ []) _ answer _

  pub log_is_up_to_date_tells : (i t : ℕ) (answer : List ℕ) → Tells (is_up_to_date l settled pending i t) (answer ∷ []) (is_up_to_date_leaves log settled pending i t answer)
  log_is_up_to_date_tells i t answer = reads (λ b. flag_word b ∷ []) _ answer _

  pub log_find_conflict_by_term_tells : (i t : ℕ) (answer : List ℕ) → Tells (find_conflict_by_term l settled pending i t) (answer ∷ []) (find_conflict_by_term_leaves log settled pending i t answer)
  log_find_conflict_by_term_tells i t answer = reads by_term_words _ answer _

  pub log_maybe_append_tells : (idx term commit : ℕ) (run answer : List ℕ)
      → Tells (maybe_append l settled pending idx term commit run) (pending ∷ log ∷ answer ∷ []) (maybe_append_leaves log settled pending idx term commit run answer)
  unfolding maybe_append_store
  log_maybe_append_tells idx term commit run answer = behind _ _ (behind _ _ (store_tells (λ said. maybe_append_store said pending idx run) (appended_writes log answer) _ pending _ (λ r. refl)))

  pub log_append_tells : (run answer : List ℕ) → Tells (append_run l settled pending run) (pending ∷ log ∷ answer ∷ []) (append_leaves log settled pending run answer)
  unfolding append_run_store
  log_append_tells run answer = behind _ _ (behind _ _ (store_tells (λ said. append_run_store said pending run) (extended_writes log answer) _ pending _ (λ r. refl)))

  pub log_commit_to_tells : (i : ℕ) → Tells (commit_to l settled pending i) (log ∷ []) (commit_to_leaves log settled pending i)
  log_commit_to_tells i = changes _

  pub log_maybe_commit_tells : (i t : ℕ) (answer : List ℕ) → Tells (maybe_commit l settled pending i t) (log ∷ answer ∷ []) (maybe_commit_leaves log settled pending i t answer)
  log_maybe_commit_tells i t answer = decides _ answer

  pub log_applied_to_tells : (i : ℕ) → Tells (applied_to l settled pending i) (log ∷ []) (applied_to_leaves log settled pending i)
  log_applied_to_tells i = changes _

  pub log_maybe_persist_tells : (i t : ℕ) (answer : List ℕ) → Tells (maybe_persist l settled pending i t) (log ∷ answer ∷ []) (maybe_persist_leaves log settled pending i t answer)
  log_maybe_persist_tells i t answer = decides _ answer

  pub log_stable_entries_tells : (i t : ℕ) → Tells (stable_entries l settled pending i t) (settled ∷ log ∷ []) (stable_entries_leaves log settled pending i t)
  unfolding stable_entries_store
  log_stable_entries_tells i t = behind _ _ (store_tells (λ said. stable_entries_store said l settled pending) (λ after. put log (log_words after) ∷ []) _ settled _ (λ r. refl))

  pub log_slice_tells : (low high : ℕ) (answer : List ℕ) → Tells (slice_bounds l settled pending low high) (answer ∷ []) (slice_leaves log settled pending low high answer)
  log_slice_tells low high answer = reads (bounds_words l) _ answer _

  pub log_entries_tells : (i : ℕ) (answer : List ℕ) → Tells (entries_bounds l settled pending i) (answer ∷ []) (entries_leaves log settled pending i answer)
  log_entries_tells i answer = reads (bounds_words l) _ answer _

  pub log_next_entries_since_tells : (s : ℕ) (answer : List ℕ) → Tells (next_entries_bounds_since l settled pending s) (answer ∷ []) (next_entries_since_leaves log settled pending s answer)
  log_next_entries_since_tells s answer = reads (bounds_words l) _ answer _

  pub log_has_next_entries_since_tells : (s : ℕ) (answer : List ℕ) → Tells (has_next_entries_since l settled pending s) (answer ∷ []) (has_next_entries_since_leaves log settled pending s answer)
  log_has_next_entries_since_tells s answer = reads (λ b. flag_word b ∷ []) _ answer _

-- ---- The quorums, and the leader's step

module _ (rows answer : List ℕ) where
  pub majority_committed_index_tells : (voters : List ℕ) → Tells (committed_index (set_of voters) (peers_from rows)) (answer ∷ []) (majority_committed_index_leaves voters rows answer)
  majority_committed_index_tells voters = behind _ _ (values_tell committed_words _ answer)

  pub joint_committed_index_tells : (incoming outgoing : List ℕ) → Tells (joint_committed_index (config_from incoming outgoing) (peers_from rows)) (answer ∷ []) (joint_committed_index_leaves incoming outgoing rows answer)
  joint_committed_index_tells incoming outgoing = behind _ _ (values_tell committed_words _ answer)

  pub majority_vote_result_tells : (voters : List ℕ) → Tells (vote_result (set_of voters) (peers_from rows)) (answer ∷ []) (majority_vote_result_leaves voters rows answer)
  majority_vote_result_tells voters = behind _ _ (values_tell (λ r. result_word r ∷ []) _ answer)

  pub joint_vote_result_tells : (incoming outgoing : List ℕ) → Tells (joint_vote_result (config_from incoming outgoing) (peers_from rows)) (answer ∷ []) (joint_vote_result_leaves incoming outgoing rows answer)
  joint_vote_result_tells incoming outgoing = behind _ _ (values_tell (λ r. result_word r ∷ []) _ answer)

module _ (incoming outgoing answer : List ℕ) where
  pub joint_is_singleton_tells : Tells (is_singleton (config_from incoming outgoing)) (answer ∷ []) (is_singleton_leaves incoming outgoing answer)
  joint_is_singleton_tells = behind _ _ (values_tell (λ b. flag_word b ∷ []) _ answer)

  pub joint_contains_tells : (id : ℕ) → Tells (contains_of (config_from incoming outgoing) id) (answer ∷ []) (contains_leaves incoming outgoing id answer)
  joint_contains_tells id = behind _ _ (values_tell (λ b. flag_word b ∷ []) _ answer)

  pub joint_ids_tells : Tells (joint_ids (config_from incoming outgoing)) (answer ∷ []) (joint_ids_leaves incoming outgoing answer)
  joint_ids_tells = behind _ _ (values_tell (λ listed. listed.count ∷ listed.ids) _ answer)

  -- Of no configuration is `clear` refused.
  pub joint_clear_tells : Tells fine (answer ∷ []) (clear_leaves incoming outgoing answer)
  joint_clear_tells = behind _ _ (answers tt)

-- The checks write nothing.
check_tells : (c : Check) → Tells c [] (leaves (refusal_of c) [])
check_tells (Ok a) = answers a
check_tells (Err r) = refuses r

pub voters_checked_tells : (voters : List ℕ) → Tells (voters_check (set_of voters)) [] (leaves (voters_refusal voters) [])
voters_checked_tells voters = check_tells _

pub joint_checked_tells : (incoming outgoing : List ℕ) → Tells (config_check (config_from incoming outgoing)) [] (leaves (joint_refusal incoming outgoing) [])
joint_checked_tells incoming outgoing = check_tells _

pub rows_checked_tells : (rows : List ℕ) → Tells (rows_check (peers_from rows)) [] (leaves (rows_refusal rows) [])
rows_checked_tells rows = check_tells _

pub leader_maybe_commit_tells : (log settled pending : List ℕ) (term : ℕ) (incoming outgoing rows answer : List ℕ)
    → Tells (leader_commit (log_from log) settled pending term (config_from incoming outgoing) (peers_from rows)) (log ∷ answer ∷ []) (leader_commit_leaves log settled pending term incoming outgoing rows answer)
leader_maybe_commit_tells log settled pending term incoming outgoing rows answer = decides log settled pending _ answer

-- ---- The inflight window

pub inflights_new_tells : (cap : ℕ) (ring window : List ℕ) → Tells (made_window cap (length ring)) (window ∷ []) (new_window_leaves cap ring window)
inflights_new_tells cap ring window = behind _ _ (values_tell window_words _ window)

module _ (window ring : List ℕ) where
  abbrev w : Inflights
  w = window_from window

  -- A call that changes the window,
  moves : (said : Answer Inflights) → Tells said (window ∷ []) (window_changes window said)
  moves said = behind _ _ (values_tell window_words said window)

  -- and one that counts a flight more, and writes the ring.
  adds : (written : List ℕ) (c : Check) (after : Inflights) → Tells (unless c (Ok after)) (ring ∷ window ∷ []) (with_store (ring_unless c ring written) (window_leaves (unless c (Ok after)) window))
  adds written (Ok a) after = answers after
  adds written (Err r) after = refuses r

  pub inflights_set_cap_tells : (cap : ℕ) → Tells (capped w (length ring) cap) (window ∷ []) (set_cap_leaves window ring cap)
  inflights_set_cap_tells cap = moves _

  pub inflights_add_tells : (inflight : ℕ) → Tells (added w (length ring)) (ring ∷ window ∷ []) (add_leaves window ring inflight)
  unfolding added ring_after
  inflights_add_tells inflight = behind _ _ (adds _ (add_check w (length ring)) _)

  pub inflights_free_to_tells : (to : ℕ) → Tells (freed_to w ring to) (window ∷ []) (free_to_leaves window ring to)
  inflights_free_to_tells to = moves _

  pub inflights_free_first_one_tells : Tells (freed_first w ring) (window ∷ []) (free_first_one_leaves window ring)
  inflights_free_first_one_tells = moves _

  pub inflights_reset_tells : Tells (cleared w (length ring)) (window ∷ []) (reset_leaves window ring)
  inflights_reset_tells = moves _

  pub inflights_maybe_free_buffer_tells : Tells (rewound w (length ring)) (window ∷ []) (maybe_free_buffer_leaves window ring)
  inflights_maybe_free_buffer_tells = moves _

  pub inflights_full_tells : (answer : List ℕ) → Tells (fullness w (length ring)) (answer ∷ []) (full_leaves window ring answer)
  inflights_full_tells answer = behind _ _ (behind _ _ (values_tell (λ b. flag_word b ∷ []) _ answer))

  pub inflights_count_tells : (answer : List ℕ) → Tells (counted w (length ring)) (answer ∷ []) (count_leaves window ring answer)
  inflights_count_tells answer = behind _ _ (behind _ _ (values_tell (λ count. count ∷ []) _ answer))
