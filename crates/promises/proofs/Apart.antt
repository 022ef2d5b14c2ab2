-- How two answers are told apart: words are read off both sides and compared by a test that computes. And what the promises of the log, the quorums and the window compute through, named once.
use Prim.Native.Nat.{ℕ}
use mathlib.Core.Path.{◌≡◌, refl, sym, ap, ◌∙◌}
use mathlib.Core.Logic.{◌≢◌}
use mathlib.Core.Bool.{Bool, true, false, ◌&&◌, false≢true}
use mathlib.Core.List.{List, [], ◌∷◌, flatten}
use lib.Dec.{eqb}
use lib.ListN.{replicate}
use borrow.Author.Tests.{eq-eqb}
use Rattle.units.specs.Lists.{listed}
use Rattle.raft_log.specs.Words.{put_run, first_from}
use Rattle.raft_log.specs.State.{state_ok, term_at}
use Rattle.raft_log.specs.Run.{numbered, terms_set}
use Rattle.raft_log.specs.Append.{outside, decide, match_run, maybe_append, maybe_append_store}
use Rattle.raft_log.specs.Extend.{extend_from, append_run, append_run_store}
use Rattle.raft_log.specs.Commit.{commit_to, applied_to, maybe_commit, maybe_persist}
use Rattle.raft_log.specs.Settle.{stable_entries, stable_entries_store}
use Rattle.raft_log.specs.Look.{look_term, first_index, last_index, last_term, commit_info, is_up_to_date, last_down, by_term_in, find_conflict_by_term}
use Rattle.raft_log.specs.Slice.{in_store, slice_in, slice_bounds, entries_bounds, has_next, has_next_entries_since, next_entries_bounds_since, store_part, part_of}
use Rattle.raft_log.specs.Setup.{setup_ok, new_log}
use Rattle.rules.specs.Count.{count}
use Rattle.rules.specs.Majority.{insert, falling, kth_largest, committed}
use Rattle.quorum.specs.Ids.{position, has, distinct}
use Rattle.quorum.specs.Half.{half_index}
use Rattle.quorum.specs.Majority.{committed_index, vote_result, committed_index_by, vote_result_by, plain_committed_index, plain_vote_result}
use Rattle.quorum.specs.Joint.{joint_committed_index, joint_vote_result, joint_committed_index_by, joint_vote_result_by, plain_joint_committed_index, plain_joint_vote_result, rising, both_ids}
use Rattle.inflights.specs.State.{start_fits, deferred_fits, sound, window_check, cap_check, is_full, room_check}
use Rattle.inflights.specs.Ring.{place_of, flights_from, leading}
use Rattle.inflights.specs.Calls.{made_window, with_cap, set_cap_check, capped, fullness, counted, add_check, added, ring_after, take_up, free_to, freed_to, freed_first, cleared, rewind, rewound}
use Rattle.exports.specs.Words.{log_length, Outcome, leaves}

-- To name one of these on an `unfolding` line is to open each of its names, and `flatten`, by which the words of an outcome are joined.
unfoldable pub log_promises : Unit {0}
unfolding flatten put_run first_from state_ok term_at numbered terms_set outside decide match_run maybe_append maybe_append_store extend_from append_run append_run_store commit_to applied_to maybe_commit maybe_persist stable_entries stable_entries_store look_term first_index last_index last_term commit_info is_up_to_date last_down by_term_in find_conflict_by_term in_store slice_in slice_bounds entries_bounds has_next has_next_entries_since next_entries_bounds_since store_part part_of setup_ok new_log
log_promises = tt

unfoldable pub quorum_promises : Unit {0}
unfolding flatten listed count insert falling kth_largest committed position has distinct half_index committed_index vote_result committed_index_by vote_result_by plain_committed_index plain_vote_result joint_committed_index joint_vote_result joint_committed_index_by joint_vote_result_by plain_joint_committed_index plain_joint_vote_result rising both_ids
quorum_promises = tt

unfoldable pub window_promises : Unit {0}
unfolding flatten start_fits deferred_fits sound window_check cap_check is_full room_check place_of listed flights_from leading made_window with_cap set_cap_check capped fullness counted add_check added ring_after take_up free_to freed_to freed_first cleared rewind rewound
window_promises = tt

-- The same words.
abbrev same : List ℕ → List ℕ → Bool
same [] [] = true
same [] (v ∷ vs) = false
same (w ∷ ws) [] = false
same (w ∷ ws) (v ∷ vs) = eqb w v && same ws vs

same_self : (ws : List ℕ) → same ws ws ≡ true
same_self [] = refl
same_self (w ∷ ws) = ap (λ (b : Bool). b && same ws ws) (eq-eqb w w refl) ∙ same_self ws

-- THE LAW: two values differ where other words are read off them.
by_words : {A : Type 0} {a b : A} (read : A → List ℕ) → same (read a) (read b) ≡ false → a ≢ b
by_words {A} {a} {b} read other e = false≢true (sym other ∙ ap (λ (x : A). same (read a) (read x)) (sym e) ∙ same_self (read a))

-- One number is enough where the answers are small ..
pub apart : {A : Type 0} {a b : A} (look : A → ℕ) → same (look a ∷ []) (look b ∷ []) ≡ false → a ≢ b
apart look = by_words (λ x. look x ∷ [])

-- All the words of an outcome: the result, then its slices.
abbrev words_of : Outcome → List ℕ
words_of out = out.result ∷ flatten out.slices

-- .. else the answer is read as an outcome,
pub apart_as : {A : Type 0} {a b : A} (read : A → Outcome) → same (words_of (read a)) (words_of (read b)) ≡ false → a ≢ b
apart_as read = by_words (λ x. words_of (read x))

-- or as crate exports says it in words. The slice that it is read into is long enough for each, since none has more words than a log's state.
abbrev pub blank : List ℕ
blank = replicate log_length 0

pub apart_by : {A : Type 0} {a b : A} (leaves_of : A → List ℕ → Outcome) → same (words_of (leaves_of a blank)) (words_of (leaves_of b blank)) ≡ false → a ≢ b
apart_by leaves_of = apart_as (λ x. leaves_of x blank)

-- A store's words, and an outcome, read as they stand.
abbrev pub as_store : List ℕ → Outcome
as_store words = leaves 0 (words ∷ [])

abbrev pub itself : Outcome → Outcome
itself out = out
