-- Two answers that meet a promise are equal: a law for every public call of every library crate, in the order and under the headings of docs/PROMISES.md, each by `one_answer`.
-- A law takes what the call takes, a lent slice as the words in it. Its promise is the contract's: r is the answer, and log' is what the call leaves of `log`.
-- A law words_.. is that of a call of exports_c, whose answer is a number: 0 or the refusal's. The call of the same name in exports answers the refusal itself: its law, result_.., is that one by `of_a_result`, or by `of_a_check` where nothing is written.
use Prim.Native.Nat.{ℕ, ◌≤◌, ◌<◌, min}
use mathlib.Core.Path.{◌≡◌, sym, ap, ◌∙◌}
use mathlib.Core.List.{List, [], ◌∷◌}
use lib.ListN.{length, get_or}
use lib.Seq.{sets}
use native.Mathlib.Omega.{arith}
use Rattle.units.specs.Units.{index_of, as_term}
use Rattle.units.specs.Refusals.{Answer, Check, number_of, refusal_of, both_checks}
use Rattle.units.specs.declared.refusal.Refusal.{Refusal}
use Rattle.units.proofs.Refusals.{refusal_apart}
use Rattle.units.specs.declared.Index.{Index}
use Rattle.units.specs.declared.Term.{Term}
use Rattle.quorum.specs.Voters.{no_voters, made as made_set, set_of, voters_check}
use Rattle.rules.specs.Majority.{falling}
use Rattle.quorum.specs.Votes.{joint_result}
use Rattle.quorum.specs.Half.{half_index, joined, value_in, numbers_result}
use Rattle.quorum.specs.Majority.{committed_index, vote_result, committed_index_by, vote_result_by, plain_committed_index, plain_vote_result}
use Rattle.quorum.specs.Joint.{one_set, config_check, is_singleton, contains_of, joint_ids, joint_committed_index, joint_vote_result, joint_committed_index_by, joint_vote_result_by, plain_joint_committed_index, plain_joint_vote_result}
use Rattle.quorum.specs.Rows.{gathered, ids_of, values_of, plain_check, value_for, ack_number, vote_number}
use Rattle.quorum.specs.declared.VoteResult.{VoteResult}
use Rattle.quorum.specs.declared.half.Half.{Half}
use Rattle.quorum.specs.declared.majority.Voters.{Voters}
use Rattle.quorum.specs.declared.joint.JointConfig.{JointConfig}
use Rattle.quorum.specs.declared.rows.Peer.{Peer}
use Rattle.quorum.specs.declared.rows.Question.{Question}
use Rattle.quorum.specs.declared.rows.Rows.{Rows}
use Rattle.peer_tables.specs.Table.{no_rows, with_row, rows_lent, table_committed_index, table_vote_result, table_joint_committed_index, table_joint_vote_result}
use Rattle.peer_tables.specs.declared.Table.{Table}
use Rattle.inflights.specs.Calls.{made_window, capped, fullness, added, ring_after, freed_to, freed_first, cleared, rewound, counted}
use Rattle.inflights.specs.InPlace.{step_of, Stored}
use Rattle.inflights.specs.declared.Inflights.{Inflights}
use Rattle.raft_log.specs.Setup.{new_log}
use Rattle.raft_log.specs.Look.{look_term, first_index, last_index, last_term, commit_info, is_up_to_date, find_conflict_by_term}
use Rattle.raft_log.specs.Append.{maybe_append, maybe_append_store}
use Rattle.raft_log.specs.Extend.{append_run, append_run_store}
use Rattle.raft_log.specs.Commit.{commit_to, maybe_commit, applied_to, maybe_persist}
use Rattle.raft_log.specs.Settle.{stable_entries, stable_entries_store}
use Rattle.raft_log.specs.Slice.{slice_bounds, entries_bounds, has_next_entries_since, next_entries_bounds_since, part_of}
use Rattle.raft_log.specs.declared.Log.{Log}
use Rattle.leader.specs.Leader.{leader_commit, commit_found, commit_found_as}
use Rattle.exports.specs.Words.{Outcome, leaves}
use Rattle.exports.specs.LogCalls.{new_log_leaves, maybe_append_leaves, append_leaves, commit_to_leaves, applied_to_leaves, maybe_commit_leaves, maybe_persist_leaves, stable_entries_leaves}
use Rattle.exports.specs.Reads.{term_leaves, first_index_leaves, last_index_leaves, last_term_leaves, commit_info_leaves, is_up_to_date_leaves, find_conflict_by_term_leaves, slice_leaves, entries_leaves, next_entries_since_leaves, has_next_entries_since_leaves}
use Rattle.exports.specs.QuorumCalls.{majority_committed_index_leaves, joint_committed_index_leaves, majority_vote_result_leaves, joint_vote_result_leaves, is_singleton_leaves, contains_leaves, joint_ids_leaves, clear_leaves, voters_refusal, joint_refusal, rows_refusal, leader_commit_leaves}
use Rattle.exports.specs.WindowCalls.{new_window_leaves, set_cap_leaves, add_leaves, free_to_leaves, free_first_one_leaves, reset_leaves, maybe_free_buffer_leaves, full_leaves, count_leaves}
use Rattle.promises.specs.Unique.{OneAnswer, OneOutcome}
use Rattle.std.specs.Prelude.{Option, Bool, Result, Ok, Err, MatchResult}

-- THE LAW: a promise says that the answer is one function of the inputs, so any two answers are that function's value.
pub one_answer : {A : Type 0} {promised : A} → OneAnswer (◌≡ promised)
one_answer a b e f = e ∙ sym f

-- An answer, and what is left beside it, which the answer may decide.
pub one_outcome : {A B : Type 0} {promised : A} (left : A → B) → OneOutcome (λ r x. (r ≡ promised) × (x ≡ left r))
one_outcome left a b x y p q =
    let same = one_answer a b p.0 q.0 in
    (same, one_answer x y p.1 (q.1 ∙ ap left (sym same)))

-- A window changed in place, and the ring.
one_window_and_ring : {step : Check × Inflights} {words : List ℕ} → OneOutcome (λ r (w', ring'). Stored r w' step × (ring' ≡ words))
one_window_and_ring {step} a b x y p q =
    let window = one_outcome (λ r. step.1) a b x.0 y.0 p.0 q.0 in
    let ring = one_answer x.1 y.1 p.1 q.1 in
    (window.0, λ i. (window.1 i, ring i))

-- A call over words: its result and the slices that it may write are one value, from which each is read.
module _ {B : Type 0} (read : List (List ℕ) → B) {promised : Outcome} where
  read_alike : (a b : ℕ) (x y : List (List ℕ)) → leaves a x ≡ promised → leaves b y ≡ promised → (a ≡ b) × (read x ≡ read y)
  read_alike a b x y p q =
      let same = one_answer (leaves a x) (leaves b y) p q in
      (ap (λ (o : Outcome). o.result) same, ap (λ (o : Outcome). read o.slices) same)

one_slice : {promised : Outcome} → OneOutcome (λ r x. leaves r (x ∷ []) ≡ promised)
one_slice a b x y = read_alike (λ l. get_or l 0 []) a b _ _

two_slices : {promised : Outcome} → OneOutcome (λ r (x, y). leaves r (x ∷ y ∷ []) ≡ promised)
two_slices a b x y = read_alike (λ l. (get_or l 0 [], get_or l 1 [])) a b _ _

three_slices : {promised : Outcome} → OneOutcome (λ r (x, y, z). leaves r (x ∷ y ∷ z ∷ []) ≡ promised)
three_slices a b x y = read_alike (λ l. (get_or l 0 [], get_or l 1 [], get_or l 2 [])) a b _ _

-- From a number to the refusal: a promise of the number that leaves no choice leaves none of the check whose number it is, since no two refusals have the same number, and none has 0.
pub of_a_result : {B : Type 0} {P : ℕ → B → Type 0} → OneOutcome P → OneOutcome (λ (r : Check) x. P (refusal_of r) x)
of_a_result one a b x y p q =
    let same = one (refusal_of a) (refusal_of b) x y p q in
    (refusal_apart a b same.0, same.1)

-- The same of a call that leaves nothing beside its answer.
pub of_a_check : {P : ℕ → Type 0} → OneAnswer P → OneAnswer (λ (r : Check). P (refusal_of r))
of_a_check one a b p q = refusal_apart a b (one (refusal_of a) (refusal_of b) p q)

-- A refusal, or what is read of a slice that the call lends on: its contract says each by an equation of its own.
one_lent : {A : Type 0} (promised : Answer A) → OneAnswer (λ r. MatchResult r (λ read. Ok read ≡ promised) (λ refusal. Err refusal ≡ promised))
one_lent {A} promised a b p q = one_answer a b (either a p) (either b q)
  where
    either : (r : Answer A) → MatchResult r (λ read. Ok read ≡ promised) (λ refusal. Err refusal ≡ promised) → r ≡ promised
    either (Ok read) said = said
    either (Err refusal) said = said

-- ---- units

pub index_new : (number : ℕ) → OneAnswer (◌≡ index_of number)
index_new number = one_answer

pub term_new : (number : ℕ) → OneAnswer (◌≡ as_term number)
term_new number = one_answer

pub refusal_number : (self : Refusal) → OneAnswer (◌≡ number_of self)
refusal_number self = one_answer

pub check_refusal : (self : Check) → OneAnswer (◌≡ refusal_of self)
check_refusal self = one_answer

pub check_and : (self next : Check) → OneAnswer (◌≡ both_checks self next)
check_and self next = one_answer

pub smaller_of_two : (a b : ℕ) → OneAnswer (◌≡ min a b)
smaller_of_two a b = one_answer

pub shorter_of_two : (a b : ℕ) → OneAnswer (◌≡ min a b)
shorter_of_two a b = one_answer

pub copy_at : (to : List ℕ) (at : ℕ) (from : List ℕ) → OneAnswer (λ to'. to' ≡ sets to at from)
copy_at to at from = one_answer

-- ---- quorum: one voter set (majority.rs)

pub voters_empty : OneAnswer (◌≡ no_voters)
voters_empty = one_answer

pub voters_new : (ids : List ℕ) → OneAnswer (◌≡ made_set ids)
voters_new ids = one_answer

pub voters_holding : (ids : List ℕ) → OneAnswer (◌≡ set_of ids)
voters_holding ids = one_answer

pub ids_checked : (ids : List ℕ) → OneAnswer (◌≡ voters_check (set_of ids))
ids_checked ids = one_answer

pub voters_checked : (self : Voters) → OneAnswer (◌≡ voters_check self)
voters_checked self = one_answer

pub majority_committed_index : (voters : Voters) (peers : List Peer) → OneAnswer (◌≡ committed_index voters peers)
majority_committed_index voters peers = one_answer

pub majority_vote_result : (voters : Voters) (peers : List Peer) → OneAnswer (◌≡ vote_result voters peers)
majority_vote_result voters peers = one_answer

pub majority_committed_index_by : (voters : List ℕ) (rows : Check) (said : ℕ → ℕ) → OneAnswer (◌≡ committed_index_by voters rows said)
majority_committed_index_by voters rows said = one_answer

pub majority_vote_result_by : (voters : List ℕ) (rows : Check) (said : ℕ → ℕ) → OneAnswer (◌≡ vote_result_by voters rows said)
majority_vote_result_by voters rows said = one_answer

pub majority_committed_index_of : (voters : Voters) (rows : Rows) → OneAnswer (◌≡ plain_committed_index voters rows)
majority_committed_index_of voters rows = one_answer

pub majority_vote_result_of : (voters : Voters) (rows : Rows) → OneAnswer (◌≡ plain_vote_result voters rows)
majority_vote_result_of voters rows = one_answer

-- ---- quorum: joint configurations (joint.rs)

pub joint_new : (voters : Voters) → OneAnswer (◌≡ one_set voters)
joint_new voters = one_answer

pub joint_clear : (self : JointConfig) → OneAnswer (◌≡ one_set no_voters)
joint_clear self = one_answer

pub joint_checked : (self : JointConfig) → OneAnswer (◌≡ config_check self)
joint_checked self = one_answer

pub joint_is_singleton : (self : JointConfig) → OneAnswer (◌≡ is_singleton self)
joint_is_singleton self = one_answer

pub joint_contains : (self : JointConfig) (id : ℕ) → OneAnswer (◌≡ contains_of self id)
joint_contains self id = one_answer

pub joint_ids_lem : (self : JointConfig) → OneAnswer (◌≡ joint_ids self)
joint_ids_lem self = one_answer

pub joint_committed_index_lem : (config : JointConfig) (peers : List Peer) → OneAnswer (◌≡ joint_committed_index config peers)
joint_committed_index_lem config peers = one_answer

pub joint_vote_result_lem : (config : JointConfig) (peers : List Peer) → OneAnswer (◌≡ joint_vote_result config peers)
joint_vote_result_lem config peers = one_answer

pub joint_committed_index_by_lem : (incoming outgoing : List ℕ) (rows : Check) (said : ℕ → ℕ) → OneAnswer (◌≡ joint_committed_index_by incoming outgoing rows said)
joint_committed_index_by_lem incoming outgoing rows said = one_answer

pub joint_vote_result_by_lem : (incoming outgoing : List ℕ) (rows : Check) (said : ℕ → ℕ) → OneAnswer (◌≡ joint_vote_result_by incoming outgoing rows said)
joint_vote_result_by_lem incoming outgoing rows said = one_answer

pub joint_committed_index_of : (config : JointConfig) (rows : Rows) → OneAnswer (◌≡ plain_joint_committed_index config rows)
joint_committed_index_of config rows = one_answer

pub joint_vote_result_of : (config : JointConfig) (rows : Rows) → OneAnswer (◌≡ plain_joint_vote_result config rows)
joint_vote_result_of config rows = one_answer

-- ---- quorum: one half, by what its voters said

pub half_index_of : (acks : List ℕ) → OneOutcome (λ r acks'. (r ≡ half_index acks) × (acks' ≡ falling acks))
half_index_of acks = one_outcome (λ r. falling acks)

pub half_result_of : (votes : List ℕ) → OneAnswer (◌≡ numbers_result votes)
half_result_of votes = one_answer

pub half_joined : (incoming outgoing : Half) → OneAnswer (◌≡ joined incoming outgoing)
half_joined incoming outgoing = one_answer

pub half_joint_result : (incoming outgoing : VoteResult) → OneAnswer (◌≡ joint_result incoming outgoing)
half_joint_result incoming outgoing = one_answer

-- ---- quorum: peer rows

pub rows_gather : (peers : List Peer) (question : Question) → OneAnswer (◌≡ gathered question peers)
rows_gather peers question = one_answer

pub rows_checked : (self : Rows) → OneAnswer (◌≡ plain_check self)
rows_checked self = one_answer

pub rows_said : (rows : Rows) (id : ℕ) → OneAnswer (◌≡ value_in (ids_of rows) (values_of rows) id)
rows_said rows id = one_answer

pub rows_value : (peer : Peer) (question : Question) → OneAnswer (◌≡ value_for question peer)
rows_value peer question = one_answer

pub rows_ack_number : (ack : Option Index) → OneAnswer (◌≡ ack_number ack)
rows_ack_number ack = one_answer

pub rows_vote_number : (vote : Option Bool) → OneAnswer (◌≡ vote_number vote)
rows_vote_number vote = one_answer

-- ---- peer_tables: rows by value

pub table_empty : OneAnswer (◌≡ no_rows)
table_empty = one_answer

pub table_with_lem : (self : Table) (peer : Peer) → OneAnswer (◌≡ with_row self peer)
table_with_lem self peer = one_answer

pub table_rows : (self : Table) → OneAnswer (λ r. MatchResult r (λ rows. Ok rows ≡ rows_lent self) (λ refusal. Err refusal ≡ rows_lent self))
table_rows self = one_lent (rows_lent self)

pub table_committed_index_lem : (voters : Voters) (table : Table) → OneAnswer (◌≡ table_committed_index voters table)
table_committed_index_lem voters table = one_answer

pub table_vote_result_lem : (voters : Voters) (table : Table) → OneAnswer (◌≡ table_vote_result voters table)
table_vote_result_lem voters table = one_answer

pub table_joint_committed_index_lem : (config : JointConfig) (table : Table) → OneAnswer (◌≡ table_joint_committed_index config table)
table_joint_committed_index_lem config table = one_answer

pub table_joint_vote_result_lem : (config : JointConfig) (table : Table) → OneAnswer (◌≡ table_joint_vote_result config table)
table_joint_vote_result_lem config table = one_answer

-- ---- inflights: the window (tracker/inflights.rs)

pub inflights_new : (cap : ℕ) (ring : List ℕ) → OneAnswer (◌≡ made_window cap (length ring))
inflights_new cap ring = one_answer

module _ (self : Inflights) (ring : List ℕ) where
  pub inflights_set_cap : (cap : ℕ) → OneAnswer (◌≡ capped self (length ring) cap)
  inflights_set_cap cap = one_answer

  pub inflights_full : OneAnswer (◌≡ fullness self (length ring))
  inflights_full = one_answer

  pub inflights_add : (inflight : ℕ) → OneOutcome (λ r ring'. (r ≡ added self (length ring)) × (ring' ≡ ring_after self ring inflight))
  inflights_add inflight = one_outcome _

  pub inflights_free_to : (to : ℕ) → OneAnswer (◌≡ freed_to self ring to)
  inflights_free_to to = one_answer

  pub inflights_free_first_one : OneAnswer (◌≡ freed_first self ring)
  inflights_free_first_one = one_answer

  pub inflights_reset : OneAnswer (◌≡ cleared self (length ring))
  inflights_reset = one_answer

  pub inflights_maybe_free_buffer : OneAnswer (◌≡ rewound self (length ring))
  inflights_maybe_free_buffer = one_answer

  pub inflights_count : OneAnswer (◌≡ counted self (length ring))
  inflights_count = one_answer

-- in_place: r is what is returned, w' the window that is left.
module _ (w : Inflights) (ring : List ℕ) where
  pub in_place_set_cap : (cap : ℕ) → OneOutcome (λ r w'. Stored r w' (step_of w (capped w (length ring) cap)))
  in_place_set_cap cap = one_outcome _

  pub in_place_add : (inflight : ℕ) → OneOutcome (λ r (w', ring'). Stored r w' (step_of w (added w (length ring))) × (ring' ≡ ring_after w ring inflight))
  in_place_add inflight = one_window_and_ring

  pub in_place_free_to : (to : ℕ) → OneOutcome (λ r w'. Stored r w' (step_of w (freed_to w ring to)))
  in_place_free_to to = one_outcome _

  pub in_place_free_first_one : OneOutcome (λ r w'. Stored r w' (step_of w (freed_first w ring)))
  in_place_free_first_one = one_outcome _

  pub in_place_reset : OneOutcome (λ r w'. Stored r w' (step_of w (cleared w (length ring))))
  in_place_reset = one_outcome _

  pub in_place_maybe_free_buffer : OneOutcome (λ r w'. Stored r w' (step_of w (rewound w (length ring))))
  in_place_maybe_free_buffer = one_outcome _

-- The two as one value.
module _ (w : Inflights) (ring : List ℕ) where
  pub bridge_set_cap : (cap : ℕ) → OneAnswer (◌≡ step_of w (capped w (length ring) cap))
  bridge_set_cap cap = one_answer

  pub bridge_add : (inflight : ℕ) → OneOutcome (λ r ring'. (r ≡ step_of w (added w (length ring))) × (ring' ≡ ring_after w ring inflight))
  bridge_add inflight = one_outcome _

  pub bridge_free_to : (to : ℕ) → OneAnswer (◌≡ step_of w (freed_to w ring to))
  bridge_free_to to = one_answer

  pub bridge_free_first_one : OneAnswer (◌≡ step_of w (freed_first w ring))
  bridge_free_first_one = one_answer

  pub bridge_reset : OneAnswer (◌≡ step_of w (cleared w (length ring)))
  bridge_reset = one_answer

  pub bridge_maybe_free_buffer : OneAnswer (◌≡ step_of w (rewound w (length ring)))
  bridge_maybe_free_buffer = one_answer

-- ---- raft_log: the log over two lent stores (raft_log.rs, log_unstable.rs)

pub log_new : (start : Index) (startterm : Term) (last : Index) (settled pending : List ℕ) → OneAnswer (◌≡ new_log start.0 startterm.0 last.0 settled)
log_new start startterm last settled pending = one_answer

module _ (self : Log) (settled pending : List ℕ) where
  pub log_term : (i : Index) → OneAnswer (◌≡ look_term self settled pending i.0)
  log_term i = one_answer

  pub log_first_index : OneAnswer (◌≡ first_index self settled pending)
  log_first_index = one_answer

  pub log_last_index : OneAnswer (◌≡ last_index self settled pending)
  log_last_index = one_answer

  pub log_last_term : OneAnswer (◌≡ last_term self settled pending)
  log_last_term = one_answer

  pub log_commit_info : OneAnswer (◌≡ commit_info self settled pending)
  log_commit_info = one_answer

  pub log_is_up_to_date : (i : Index) (t : Term) → OneAnswer (◌≡ is_up_to_date self settled pending i.0 t.0)
  log_is_up_to_date i t = one_answer

  pub log_find_conflict_by_term : (i : Index) (t : Term) → OneAnswer (◌≡ find_conflict_by_term self settled pending i.0 t.0)
  log_find_conflict_by_term i t = one_answer

  pub log_maybe_append : (idx : Index) (term : Term) (commit : Index) (run : List ℕ)
      → OneOutcome (λ r pending'. (r ≡ maybe_append self settled pending idx.0 term.0 commit.0 run) × (pending' ≡ maybe_append_store r pending idx.0 run))
  log_maybe_append idx term commit run = one_outcome _

  pub log_append : (run : List ℕ) → OneOutcome (λ r pending'. (r ≡ append_run self settled pending run) × (pending' ≡ append_run_store r pending run))
  log_append run = one_outcome _

  pub log_commit_to : (i : Index) → OneAnswer (◌≡ commit_to self settled pending i.0)
  log_commit_to i = one_answer

  pub log_maybe_commit : (i : Index) (t : Term) → OneAnswer (◌≡ maybe_commit self settled pending i.0 t.0)
  log_maybe_commit i t = one_answer

  pub log_applied_to : (i : Index) → OneAnswer (◌≡ applied_to self settled pending i.0)
  log_applied_to i = one_answer

  pub log_maybe_persist : (i : Index) (t : Term) → OneAnswer (◌≡ maybe_persist self settled pending i.0 t.0)
  log_maybe_persist i t = one_answer

  pub log_stable_entries : (i : Index) (t : Term)
      → OneOutcome (λ r settled'. (r ≡ stable_entries self settled pending i.0 t.0) × (settled' ≡ stable_entries_store r self settled pending))
  log_stable_entries i t = one_outcome _

  pub log_slice_bounds : (low high : Index) → OneAnswer (◌≡ slice_bounds self settled pending low.0 high.0)
  log_slice_bounds low high = one_answer

  pub log_slice : (low high : Index) → OneAnswer (◌≡ part_of (slice_bounds self settled pending low.0 high.0) self settled pending)
  log_slice low high = one_answer

  pub log_entries_bounds : (i : Index) → OneAnswer (◌≡ entries_bounds self settled pending i.0)
  log_entries_bounds i = one_answer

  pub log_entries : (i : Index) → OneAnswer (◌≡ part_of (entries_bounds self settled pending i.0) self settled pending)
  log_entries i = one_answer

  pub log_has_next_entries_since : (s : Index) → OneAnswer (◌≡ has_next_entries_since self settled pending s.0)
  log_has_next_entries_since s = one_answer

  pub log_next_entries_bounds_since : (s : Index) → OneAnswer (◌≡ next_entries_bounds_since self settled pending s.0)
  log_next_entries_bounds_since s = one_answer

  pub log_next_entries_since : (s : Index) → OneAnswer (◌≡ part_of (next_entries_bounds_since self settled pending s.0) self settled pending)
  log_next_entries_since s = one_answer

-- ---- leader: the leader's commit step (raft.rs, maybe_commit)

module _ (log : Log) (settled pending : List ℕ) (term : Term) where
  pub leader_maybe_commit : (config : JointConfig) (peers : List Peer) → OneAnswer (◌≡ leader_commit log settled pending term.0 config peers)
  leader_maybe_commit config peers = one_answer

  pub leader_commit_found : (found : Answer (Index × Bool)) → OneAnswer (◌≡ commit_found log settled pending term.0 found)
  leader_commit_found found = one_answer

  pub leader_commit_found_as : {E : Type 0} (taken : Refusal → E) (found : Result (Index × Bool) E) → OneAnswer (◌≡ commit_found_as taken log settled pending term.0 found)
  leader_commit_found_as taken found = one_answer

pub leader_of_refusal_itself : (refusal : Refusal) → OneAnswer (◌≡ refusal)
leader_of_refusal_itself refusal = one_answer

pub leader_of_refusal_number : (refusal : Refusal) → OneAnswer (◌≡ number_of refusal)
leader_of_refusal_number refusal = one_answer

-- ---- exports: every call over words, as exports_c answers it

pub words_log_new : (start startterm last : ℕ) (settled pending log : List ℕ) → OneOutcome (λ r log'. leaves r (log' ∷ []) ≡ new_log_leaves start startterm last settled log)
words_log_new start startterm last settled pending log = one_slice

module _ (log settled pending : List ℕ) where
  pub words_log_term : (i : ℕ) (answer : List ℕ) → OneOutcome (λ r answer'. leaves r (answer' ∷ []) ≡ term_leaves log settled pending i answer)
  words_log_term i answer = one_slice

  pub words_log_first_index : (answer : List ℕ) → OneOutcome (λ r answer'. leaves r (answer' ∷ []) ≡ first_index_leaves log settled pending answer)
  words_log_first_index answer = one_slice

  pub words_log_last_index : (answer : List ℕ) → OneOutcome (λ r answer'. leaves r (answer' ∷ []) ≡ last_index_leaves log settled pending answer)
  words_log_last_index answer = one_slice

  pub words_log_last_term : (answer : List ℕ) → OneOutcome (λ r answer'. leaves r (answer' ∷ []) ≡ last_term_leaves log settled pending answer)
  words_log_last_term answer = one_slice

  pub words_log_commit_info : (answer : List ℕ) → OneOutcome (λ r answer'. leaves r (answer' ∷ []) ≡ commit_info_leaves log settled pending answer)
  words_log_commit_info answer = one_slice

  pub words_log_is_up_to_date : (i t : ℕ) (answer : List ℕ) → OneOutcome (λ r answer'. leaves r (answer' ∷ []) ≡ is_up_to_date_leaves log settled pending i t answer)
  words_log_is_up_to_date i t answer = one_slice

  pub words_log_find_conflict_by_term : (i t : ℕ) (answer : List ℕ) → OneOutcome (λ r answer'. leaves r (answer' ∷ []) ≡ find_conflict_by_term_leaves log settled pending i t answer)
  words_log_find_conflict_by_term i t answer = one_slice

  pub words_log_maybe_append : (idx term commit : ℕ) (run answer : List ℕ)
      → OneOutcome (λ r (pending', log', answer'). leaves r (pending' ∷ log' ∷ answer' ∷ []) ≡ maybe_append_leaves log settled pending idx term commit run answer)
  words_log_maybe_append idx term commit run answer = three_slices

  pub words_log_append : (run answer : List ℕ) → OneOutcome (λ r (pending', log', answer'). leaves r (pending' ∷ log' ∷ answer' ∷ []) ≡ append_leaves log settled pending run answer)
  words_log_append run answer = three_slices

  pub words_log_commit_to : (i : ℕ) → OneOutcome (λ r log'. leaves r (log' ∷ []) ≡ commit_to_leaves log settled pending i)
  words_log_commit_to i = one_slice

  pub words_log_applied_to : (i : ℕ) → OneOutcome (λ r log'. leaves r (log' ∷ []) ≡ applied_to_leaves log settled pending i)
  words_log_applied_to i = one_slice

  pub words_log_maybe_commit : (i t : ℕ) (answer : List ℕ) → OneOutcome (λ r (log', answer'). leaves r (log' ∷ answer' ∷ []) ≡ maybe_commit_leaves log settled pending i t answer)
  words_log_maybe_commit i t answer = two_slices

  pub words_log_maybe_persist : (i t : ℕ) (answer : List ℕ) → OneOutcome (λ r (log', answer'). leaves r (log' ∷ answer' ∷ []) ≡ maybe_persist_leaves log settled pending i t answer)
  words_log_maybe_persist i t answer = two_slices

  pub words_log_stable_entries : (i t : ℕ) → OneOutcome (λ r (settled', log'). leaves r (settled' ∷ log' ∷ []) ≡ stable_entries_leaves log settled pending i t)
  words_log_stable_entries i t = two_slices

  pub words_log_slice : (low high : ℕ) (answer : List ℕ) → OneOutcome (λ r answer'. leaves r (answer' ∷ []) ≡ slice_leaves log settled pending low high answer)
  words_log_slice low high answer = one_slice

  pub words_log_entries : (i : ℕ) (answer : List ℕ) → OneOutcome (λ r answer'. leaves r (answer' ∷ []) ≡ entries_leaves log settled pending i answer)
  words_log_entries i answer = one_slice

  pub words_log_next_entries_since : (s : ℕ) (answer : List ℕ) → OneOutcome (λ r answer'. leaves r (answer' ∷ []) ≡ next_entries_since_leaves log settled pending s answer)
  words_log_next_entries_since s answer = one_slice

  pub words_log_has_next_entries_since : (s : ℕ) (answer : List ℕ) → OneOutcome (λ r answer'. leaves r (answer' ∷ []) ≡ has_next_entries_since_leaves log settled pending s answer)
  words_log_has_next_entries_since s answer = one_slice

pub words_majority_committed_index : (voters rows answer : List ℕ) → OneOutcome (λ r answer'. leaves r (answer' ∷ []) ≡ majority_committed_index_leaves voters rows answer)
words_majority_committed_index voters rows answer = one_slice

pub words_joint_committed_index : (incoming outgoing rows answer : List ℕ) → OneOutcome (λ r answer'. leaves r (answer' ∷ []) ≡ joint_committed_index_leaves incoming outgoing rows answer)
words_joint_committed_index incoming outgoing rows answer = one_slice

pub words_majority_vote_result : (voters rows answer : List ℕ) → OneOutcome (λ r answer'. leaves r (answer' ∷ []) ≡ majority_vote_result_leaves voters rows answer)
words_majority_vote_result voters rows answer = one_slice

pub words_joint_vote_result : (incoming outgoing rows answer : List ℕ) → OneOutcome (λ r answer'. leaves r (answer' ∷ []) ≡ joint_vote_result_leaves incoming outgoing rows answer)
words_joint_vote_result incoming outgoing rows answer = one_slice

pub words_joint_is_singleton : (incoming outgoing answer : List ℕ) → OneOutcome (λ r answer'. leaves r (answer' ∷ []) ≡ is_singleton_leaves incoming outgoing answer)
words_joint_is_singleton incoming outgoing answer = one_slice

pub words_joint_contains : (incoming outgoing : List ℕ) (id : ℕ) (answer : List ℕ) → OneOutcome (λ r answer'. leaves r (answer' ∷ []) ≡ contains_leaves incoming outgoing id answer)
words_joint_contains incoming outgoing id answer = one_slice

pub words_joint_ids : (incoming outgoing answer : List ℕ) → OneOutcome (λ r answer'. leaves r (answer' ∷ []) ≡ joint_ids_leaves incoming outgoing answer)
words_joint_ids incoming outgoing answer = one_slice

pub words_joint_clear : (incoming outgoing answer : List ℕ) → OneOutcome (λ r answer'. leaves r (answer' ∷ []) ≡ clear_leaves incoming outgoing answer)
words_joint_clear incoming outgoing answer = one_slice

pub words_voters_checked : (voters : List ℕ) → OneAnswer (◌≡ voters_refusal voters)
words_voters_checked voters = one_answer

pub words_joint_checked : (incoming outgoing : List ℕ) → OneAnswer (◌≡ joint_refusal incoming outgoing)
words_joint_checked incoming outgoing = one_answer

pub words_rows_checked : (rows : List ℕ) → OneAnswer (◌≡ rows_refusal rows)
words_rows_checked rows = one_answer

pub words_leader_maybe_commit : (log settled pending : List ℕ) (term : ℕ) (incoming outgoing rows answer : List ℕ)
    → OneOutcome (λ r (log', answer'). leaves r (log' ∷ answer' ∷ []) ≡ leader_commit_leaves log settled pending term incoming outgoing rows answer)
words_leader_maybe_commit log settled pending term incoming outgoing rows answer = two_slices

pub words_inflights_new : (cap : ℕ) (ring window : List ℕ) → OneOutcome (λ r window'. leaves r (window' ∷ []) ≡ new_window_leaves cap ring window)
words_inflights_new cap ring window = one_slice

module _ (window ring : List ℕ) where
  pub words_inflights_set_cap : (cap : ℕ) → OneOutcome (λ r window'. leaves r (window' ∷ []) ≡ set_cap_leaves window ring cap)
  words_inflights_set_cap cap = one_slice

  pub words_inflights_add : (inflight : ℕ) → OneOutcome (λ r (ring', window'). leaves r (ring' ∷ window' ∷ []) ≡ add_leaves window ring inflight)
  words_inflights_add inflight = two_slices

  pub words_inflights_free_to : (to : ℕ) → OneOutcome (λ r window'. leaves r (window' ∷ []) ≡ free_to_leaves window ring to)
  words_inflights_free_to to = one_slice

  pub words_inflights_free_first_one : OneOutcome (λ r window'. leaves r (window' ∷ []) ≡ free_first_one_leaves window ring)
  words_inflights_free_first_one = one_slice

  pub words_inflights_reset : OneOutcome (λ r window'. leaves r (window' ∷ []) ≡ reset_leaves window ring)
  words_inflights_reset = one_slice

  pub words_inflights_maybe_free_buffer : OneOutcome (λ r window'. leaves r (window' ∷ []) ≡ maybe_free_buffer_leaves window ring)
  words_inflights_maybe_free_buffer = one_slice

  pub words_inflights_full : (answer : List ℕ) → OneOutcome (λ r answer'. leaves r (answer' ∷ []) ≡ full_leaves window ring answer)
  words_inflights_full answer = one_slice

  pub words_inflights_count : (answer : List ℕ) → OneOutcome (λ r answer'. leaves r (answer' ∷ []) ≡ count_leaves window ring answer)
  words_inflights_count answer = one_slice

-- The same of exports, whose calls answer the refusal itself.
pub result_log_new : (start startterm last : ℕ) (settled pending log : List ℕ) → OneOutcome (λ r log'. leaves (refusal_of r) (log' ∷ []) ≡ new_log_leaves start startterm last settled log)
result_log_new start startterm last settled pending log = of_a_result (words_log_new start startterm last settled pending log)

module _ (log settled pending : List ℕ) where
  pub result_log_term : (i : ℕ) (answer : List ℕ) → OneOutcome (λ r answer'. leaves (refusal_of r) (answer' ∷ []) ≡ term_leaves log settled pending i answer)
  result_log_term i answer = of_a_result (words_log_term log settled pending i answer)

  pub result_log_first_index : (answer : List ℕ) → OneOutcome (λ r answer'. leaves (refusal_of r) (answer' ∷ []) ≡ first_index_leaves log settled pending answer)
  result_log_first_index answer = of_a_result (words_log_first_index log settled pending answer)

  pub result_log_last_index : (answer : List ℕ) → OneOutcome (λ r answer'. leaves (refusal_of r) (answer' ∷ []) ≡ last_index_leaves log settled pending answer)
  result_log_last_index answer = of_a_result (words_log_last_index log settled pending answer)

  pub result_log_last_term : (answer : List ℕ) → OneOutcome (λ r answer'. leaves (refusal_of r) (answer' ∷ []) ≡ last_term_leaves log settled pending answer)
  result_log_last_term answer = of_a_result (words_log_last_term log settled pending answer)

  pub result_log_commit_info : (answer : List ℕ) → OneOutcome (λ r answer'. leaves (refusal_of r) (answer' ∷ []) ≡ commit_info_leaves log settled pending answer)
  result_log_commit_info answer = of_a_result (words_log_commit_info log settled pending answer)

  pub result_log_is_up_to_date : (i t : ℕ) (answer : List ℕ) → OneOutcome (λ r answer'. leaves (refusal_of r) (answer' ∷ []) ≡ is_up_to_date_leaves log settled pending i t answer)
  result_log_is_up_to_date i t answer = of_a_result (words_log_is_up_to_date log settled pending i t answer)

  pub result_log_find_conflict_by_term : (i t : ℕ) (answer : List ℕ) → OneOutcome (λ r answer'. leaves (refusal_of r) (answer' ∷ []) ≡ find_conflict_by_term_leaves log settled pending i t answer)
  result_log_find_conflict_by_term i t answer = of_a_result (words_log_find_conflict_by_term log settled pending i t answer)

  pub result_log_maybe_append : (idx term commit : ℕ) (run answer : List ℕ)
      → OneOutcome (λ r (pending', log', answer'). leaves (refusal_of r) (pending' ∷ log' ∷ answer' ∷ []) ≡ maybe_append_leaves log settled pending idx term commit run answer)
  result_log_maybe_append idx term commit run answer = of_a_result (words_log_maybe_append log settled pending idx term commit run answer)

  pub result_log_append : (run answer : List ℕ) → OneOutcome (λ r (pending', log', answer'). leaves (refusal_of r) (pending' ∷ log' ∷ answer' ∷ []) ≡ append_leaves log settled pending run answer)
  result_log_append run answer = of_a_result (words_log_append log settled pending run answer)

  pub result_log_commit_to : (i : ℕ) → OneOutcome (λ r log'. leaves (refusal_of r) (log' ∷ []) ≡ commit_to_leaves log settled pending i)
  result_log_commit_to i = of_a_result (words_log_commit_to log settled pending i)

  pub result_log_applied_to : (i : ℕ) → OneOutcome (λ r log'. leaves (refusal_of r) (log' ∷ []) ≡ applied_to_leaves log settled pending i)
  result_log_applied_to i = of_a_result (words_log_applied_to log settled pending i)

  pub result_log_maybe_commit : (i t : ℕ) (answer : List ℕ) → OneOutcome (λ r (log', answer'). leaves (refusal_of r) (log' ∷ answer' ∷ []) ≡ maybe_commit_leaves log settled pending i t answer)
  result_log_maybe_commit i t answer = of_a_result (words_log_maybe_commit log settled pending i t answer)

  pub result_log_maybe_persist : (i t : ℕ) (answer : List ℕ) → OneOutcome (λ r (log', answer'). leaves (refusal_of r) (log' ∷ answer' ∷ []) ≡ maybe_persist_leaves log settled pending i t answer)
  result_log_maybe_persist i t answer = of_a_result (words_log_maybe_persist log settled pending i t answer)

  pub result_log_stable_entries : (i t : ℕ) → OneOutcome (λ r (settled', log'). leaves (refusal_of r) (settled' ∷ log' ∷ []) ≡ stable_entries_leaves log settled pending i t)
  result_log_stable_entries i t = of_a_result (words_log_stable_entries log settled pending i t)

  pub result_log_slice : (low high : ℕ) (answer : List ℕ) → OneOutcome (λ r answer'. leaves (refusal_of r) (answer' ∷ []) ≡ slice_leaves log settled pending low high answer)
  result_log_slice low high answer = of_a_result (words_log_slice log settled pending low high answer)

  pub result_log_entries : (i : ℕ) (answer : List ℕ) → OneOutcome (λ r answer'. leaves (refusal_of r) (answer' ∷ []) ≡ entries_leaves log settled pending i answer)
  result_log_entries i answer = of_a_result (words_log_entries log settled pending i answer)

  pub result_log_next_entries_since : (s : ℕ) (answer : List ℕ) → OneOutcome (λ r answer'. leaves (refusal_of r) (answer' ∷ []) ≡ next_entries_since_leaves log settled pending s answer)
  result_log_next_entries_since s answer = of_a_result (words_log_next_entries_since log settled pending s answer)

  pub result_log_has_next_entries_since : (s : ℕ) (answer : List ℕ) → OneOutcome (λ r answer'. leaves (refusal_of r) (answer' ∷ []) ≡ has_next_entries_since_leaves log settled pending s answer)
  result_log_has_next_entries_since s answer = of_a_result (words_log_has_next_entries_since log settled pending s answer)

pub result_majority_committed_index : (voters rows answer : List ℕ) → OneOutcome (λ r answer'. leaves (refusal_of r) (answer' ∷ []) ≡ majority_committed_index_leaves voters rows answer)
result_majority_committed_index voters rows answer = of_a_result (words_majority_committed_index voters rows answer)

pub result_joint_committed_index : (incoming outgoing rows answer : List ℕ) → OneOutcome (λ r answer'. leaves (refusal_of r) (answer' ∷ []) ≡ joint_committed_index_leaves incoming outgoing rows answer)
result_joint_committed_index incoming outgoing rows answer = of_a_result (words_joint_committed_index incoming outgoing rows answer)

pub result_majority_vote_result : (voters rows answer : List ℕ) → OneOutcome (λ r answer'. leaves (refusal_of r) (answer' ∷ []) ≡ majority_vote_result_leaves voters rows answer)
result_majority_vote_result voters rows answer = of_a_result (words_majority_vote_result voters rows answer)

pub result_joint_vote_result : (incoming outgoing rows answer : List ℕ) → OneOutcome (λ r answer'. leaves (refusal_of r) (answer' ∷ []) ≡ joint_vote_result_leaves incoming outgoing rows answer)
result_joint_vote_result incoming outgoing rows answer = of_a_result (words_joint_vote_result incoming outgoing rows answer)

pub result_joint_is_singleton : (incoming outgoing answer : List ℕ) → OneOutcome (λ r answer'. leaves (refusal_of r) (answer' ∷ []) ≡ is_singleton_leaves incoming outgoing answer)
result_joint_is_singleton incoming outgoing answer = of_a_result (words_joint_is_singleton incoming outgoing answer)

pub result_joint_contains : (incoming outgoing : List ℕ) (id : ℕ) (answer : List ℕ) → OneOutcome (λ r answer'. leaves (refusal_of r) (answer' ∷ []) ≡ contains_leaves incoming outgoing id answer)
result_joint_contains incoming outgoing id answer = of_a_result (words_joint_contains incoming outgoing id answer)

pub result_joint_ids : (incoming outgoing answer : List ℕ) → OneOutcome (λ r answer'. leaves (refusal_of r) (answer' ∷ []) ≡ joint_ids_leaves incoming outgoing answer)
result_joint_ids incoming outgoing answer = of_a_result (words_joint_ids incoming outgoing answer)

pub result_joint_clear : (incoming outgoing answer : List ℕ) → OneOutcome (λ r answer'. leaves (refusal_of r) (answer' ∷ []) ≡ clear_leaves incoming outgoing answer)
result_joint_clear incoming outgoing answer = of_a_result (words_joint_clear incoming outgoing answer)

pub result_voters_checked : (voters : List ℕ) → OneAnswer (λ r. refusal_of r ≡ voters_refusal voters)
result_voters_checked voters = of_a_check (words_voters_checked voters)

pub result_joint_checked : (incoming outgoing : List ℕ) → OneAnswer (λ r. refusal_of r ≡ joint_refusal incoming outgoing)
result_joint_checked incoming outgoing = of_a_check (words_joint_checked incoming outgoing)

pub result_rows_checked : (rows : List ℕ) → OneAnswer (λ r. refusal_of r ≡ rows_refusal rows)
result_rows_checked rows = of_a_check (words_rows_checked rows)

pub result_leader_maybe_commit : (log settled pending : List ℕ) (term : ℕ) (incoming outgoing rows answer : List ℕ)
    → OneOutcome (λ r (log', answer'). leaves (refusal_of r) (log' ∷ answer' ∷ []) ≡ leader_commit_leaves log settled pending term incoming outgoing rows answer)
result_leader_maybe_commit log settled pending term incoming outgoing rows answer = of_a_result (words_leader_maybe_commit log settled pending term incoming outgoing rows answer)

pub result_inflights_new : (cap : ℕ) (ring window : List ℕ) → OneOutcome (λ r window'. leaves (refusal_of r) (window' ∷ []) ≡ new_window_leaves cap ring window)
result_inflights_new cap ring window = of_a_result (words_inflights_new cap ring window)

module _ (window ring : List ℕ) where
  pub result_inflights_set_cap : (cap : ℕ) → OneOutcome (λ r window'. leaves (refusal_of r) (window' ∷ []) ≡ set_cap_leaves window ring cap)
  result_inflights_set_cap cap = of_a_result (words_inflights_set_cap window ring cap)

  pub result_inflights_add : (inflight : ℕ) → OneOutcome (λ r (ring', window'). leaves (refusal_of r) (ring' ∷ window' ∷ []) ≡ add_leaves window ring inflight)
  result_inflights_add inflight = of_a_result (words_inflights_add window ring inflight)

  pub result_inflights_free_to : (to : ℕ) → OneOutcome (λ r window'. leaves (refusal_of r) (window' ∷ []) ≡ free_to_leaves window ring to)
  result_inflights_free_to to = of_a_result (words_inflights_free_to window ring to)

  pub result_inflights_free_first_one : OneOutcome (λ r window'. leaves (refusal_of r) (window' ∷ []) ≡ free_first_one_leaves window ring)
  result_inflights_free_first_one = of_a_result (words_inflights_free_first_one window ring)

  pub result_inflights_reset : OneOutcome (λ r window'. leaves (refusal_of r) (window' ∷ []) ≡ reset_leaves window ring)
  result_inflights_reset = of_a_result (words_inflights_reset window ring)

  pub result_inflights_maybe_free_buffer : OneOutcome (λ r window'. leaves (refusal_of r) (window' ∷ []) ≡ maybe_free_buffer_leaves window ring)
  result_inflights_maybe_free_buffer = of_a_result (words_inflights_maybe_free_buffer window ring)

  pub result_inflights_full : (answer : List ℕ) → OneOutcome (λ r answer'. leaves (refusal_of r) (answer' ∷ []) ≡ full_leaves window ring answer)
  result_inflights_full answer = of_a_result (words_inflights_full window ring answer)

  pub result_inflights_count : (answer : List ℕ) → OneOutcome (λ r answer'. leaves (refusal_of r) (answer' ∷ []) ≡ count_leaves window ring answer)
  result_inflights_count answer = of_a_result (words_inflights_count window ring answer)

-- ---- lists: what the replay programs share

-- The exception of docs/EXCEPTIONS.md: what `lists::replay` promises, an answer of at most a line's length, leaves a choice.
pub lists_replay_leaves_a_choice : (line : ℕ) → 0 < line → ¬ OneAnswer (◌≤ line)
lists_replay_leaves_a_choice line long one =
    let same : ◌≡◌ {A = ℕ} 0 1 = one 0 1 (omega arith) (omega arith) in
    omega arith
