-- Document 01's cases that are marked P, as ONE table over the very definitions that the contracts cite, across log, quorums and window; and refusal 12 in each of its four ways.
-- A reader must know: each line has its sentence of 01 beside it, and holds by computing both sides (proofs/Cases.antt). "Log A: start (0,0); terms of 1 to 5 are 1,1,2,2,3; offset 4; committed 2, persisted 3, applied 1; pending room 4 records". The bodies of A are 1 to 5, those of a run 6 and more.
use Rattle.std.specs.Prelude.{ℕ, suc, ◌≡◌, List, [], ◌∷◌, ◌++◌, true, false, replicate, Ok, Err, Some, None, Option, Bool}
use Rattle.units.specs.Units.{index_of, as_term}
use Rattle.units.specs.declared.refusal.Refusal.TheVariants as refusal
use Rattle.units.specs.Lists.{listed}
use Rattle.units.specs.Refusals.{Answer}
use Rattle.units.specs.declared.Index.{Index}
use Rattle.units.specs.declared.Term.{Term}
use Rattle.raft_log.specs.declared.Log.{Log}
use Rattle.raft_log.specs.declared.Appended.{Appended}
use Rattle.two_ends.specs.Sanity.{log_with}
use Rattle.raft_log.specs.Append.{maybe_append, maybe_append_store}
use Rattle.raft_log.specs.Look.{look_term, find_conflict_by_term}
use Rattle.raft_log.specs.Setup.{fresh}
use Rattle.quorum.specs.Limits.{voter_limit, row_limit}
use Rattle.quorum.specs.Voters.{set_of, no_voters}
use Rattle.quorum.specs.Majority.{committed_index, vote_result}
use Rattle.quorum.specs.Joint.{one_set, joint_committed_index}
use Rattle.quorum.specs.declared.VoteResult.TheVariants as result
use Rattle.quorum.specs.declared.majority.Voters.{Voters}
use Rattle.quorum.specs.declared.joint.JointConfig.{JointConfig}
use Rattle.quorum.specs.declared.rows.Peer.{Peer}
use Rattle.inflights.specs.Ring.{flights}
use Rattle.inflights.specs.Calls.{made_window, capped, fullness, added, ring_after, freed_to}
use Rattle.inflights.specs.declared.Inflights.{Inflights}

-- ---- the log

-- Log A: "start (0,0) .. offset 4; committed 2, persisted 3, applied 1". What a message moves are four numbers: offset, count, committed, persisted; `log_with` of others is A but for these.
abbrev pub log_a : Log
log_a = log_with 4 2 2 3

-- Log A with committed 5: all five records, the last two of them not persisted.
abbrev pub all_committed_a : Log
all_committed_a = log_with 4 2 5 3

-- The words of A's settled store: records 1 to 3, of terms 1, 1, 2.
abbrev pub settled_a : List ℕ
settled_a = 1 ∷ 1 ∷ 1 ∷ 2 ∷ 2 ∷ 3 ∷ []

-- The words of A's pending store, "pending room 4 records": records 4 and 5, of terms 2 and 3, and room for two more.
abbrev pub pending_a : List ℕ
pending_a = 2 ∷ 4 ∷ 3 ∷ 5 ∷ 0 ∷ 0 ∷ 0 ∷ 0 ∷ []

-- `maybe_append(idx, term, commit, run)` on A gives this answer, and pending then has these words. "Each case begins from A."
pub record Appends (idx term commit : ℕ) (run : List ℕ) (answer : Answer Appended) (words : List ℕ) : Type 0 where
  pub answers : maybe_append log_a settled_a pending_a idx term commit run ≡ answer
  pub stores : maybe_append_store answer pending_a idx run ≡ words

-- The run of "records (4,2),(5,4),(6,4)", bodies 6, 7, 8; A holds the first of them and not the second.
abbrev pub message : List ℕ
message = 4 ∷ 2 ∷ 6 ∷ 5 ∷ 4 ∷ 7 ∷ 6 ∷ 4 ∷ 8 ∷ []

-- "conflict and idx + count", and the log after it.
abbrev pub taken : ℕ → ℕ → Log → Answer Appended
taken conflict last after = Ok (record { conflict = index_of conflict; last = index_of last; log = after })

-- "gives (4,2)": an index and its term.
abbrev pub found : ℕ → ℕ → Answer (Index × Option Term)
found index term = Ok (index_of index, Some (as_term term))

-- ---- quorums

-- So many ids, one after the other, from this one on.
abbrev pub ids_from : ℕ → ℕ → List ℕ
ids_from id n = listed (λ k. k) id n

-- The voter set of these ids.
abbrev pub voters_from : ℕ → ℕ → Voters
voters_from id n = set_of (ids_from id n)

-- The configuration of the voters 1, 2, 3, nobody outgoing.
abbrev pub three_voters : JointConfig
three_voters = one_set (voters_from 1 3)

-- An id that stands twice: refusal 12, "a repeated voter id".
abbrev pub id_twice : List ℕ
id_twice = 1 ∷ 1 ∷ []

-- The configuration of such a voter, nobody outgoing.
abbrev pub voter_twice : JointConfig
voter_twice = one_set (set_of id_twice)

-- A configuration by its halves: incoming, then outgoing.
abbrev pub halves : Voters → Voters → JointConfig
halves incoming outgoing = record { incoming = incoming; outgoing = outgoing }

-- Rows that say these things, one each, whose ids rise from this one on.
abbrev pub rows_from : {A : Type 0} → (ℕ → A → Peer) → ℕ → List A → List Peer
rows_from row id [] = []
rows_from row id (said ∷ others) = row id said ∷ rows_from row (suc id) others

-- The row of an id with an acknowledgement, its vote missing.
abbrev pub acked : ℕ → ℕ → Peer
acked id index = record { id = id; ack = Some (index_of index); vote = None }

-- The row of an id with a vote, its acknowledgement missing.
abbrev pub voted : ℕ → Option Bool → Peer
voted id said = record { id = id; ack = None; vote = said }

-- Rows with these acknowledgements, whose ids rise from 1 on.
abbrev pub acking : List ℕ → List Peer
acking acks = rows_from acked 1 acks

-- Rows with these votes, whose ids rise from 1 on.
abbrev pub voting : List (Option Bool) → List Peer
voting votes = rows_from voted 1 votes

-- The answer that n is committed, by voters who had a say: "(index, false)".
abbrev pub up_to : ℕ → Answer (Index × Bool)
up_to n = Ok (index_of n, false)

-- The configuration for "incoming 5,4,3 .. outgoing 3,8": incoming 1, 2, 3, outgoing 4, 5.
abbrev pub three_and_two : JointConfig
three_and_two = halves (voters_from 1 3) (voters_from 4 2)

-- ---- the window

-- A window of "cap 4", by its start, its count and what is deferred.
abbrev pub window : ℕ → ℕ → Option ℕ → Inflights
window start count deferred = record { start = start; count = count; cap = 4; deferred = deferred }

-- So many words that stood in a slice before the call.
abbrev pub nines : ℕ → List ℕ
nines n = replicate n 9

-- What stood in the ring of 4 words before the first flight.
abbrev pub old : List ℕ
old = nines 4

-- What stands in it with all three "flights 5,5,6".
abbrev pub flown : List ℕ
flown = 5 ∷ 5 ∷ 6 ∷ 9 ∷ []

-- THE TABLE: "The P cases are one table with one statement over the definitions". Where 01 names no commit, the case holds for each; where it names no run, the run is empty.
pub record DocumentCases : Type 0 where
  -- "term(0) = 0, term(5) = 3, term(6) = 0."
  pub term_0 : look_term log_a settled_a pending_a 0 ≡ Ok (as_term 0)
  pub term_5 : look_term log_a settled_a pending_a 5 ≡ Ok (as_term 3)
  pub term_6 : look_term log_a settled_a pending_a 6 ≡ Ok (as_term 0)
  -- "idx 5, term 3, empty, commit 9: (0, 5), committed 5."
  pub empty : Appends 5 3 9 [] (taken 0 5 all_committed_a) pending_a
  -- "idx 3, term 2, records (4,2),(5,4),(6,4), commit 4: (5, 6), pending 4 to 6, committed 4, persisted 3."
  pub second_differs : Appends 3 2 4 message (taken 5 6 (log_with 4 3 4 3)) (2 ∷ 4 ∷ 4 ∷ 7 ∷ 4 ∷ 8 ∷ 0 ∷ 0 ∷ [])
  -- "idx 2, term 1, record (3,5), commit 2: (3, 3), offset 3, persisted 2."
  pub below_offset : Appends 2 1 2 (3 ∷ 5 ∷ 6 ∷ []) (taken 3 3 (log_with 3 1 2 2)) (5 ∷ 6 ∷ 3 ∷ 5 ∷ 0 ∷ 0 ∷ 0 ∷ 0 ∷ [])
  -- "idx 1, term 1, record (2,7): refusal 6."
  pub below_committed : (commit : ℕ) → Appends 1 1 commit (2 ∷ 7 ∷ 6 ∷ []) (Err refusal.CutsCommitted) pending_a
  -- "Idx 5, term 2: refusal 5."
  pub another_term : (commit : ℕ) → Appends 5 2 commit [] (Err refusal.Mismatch) pending_a
  -- "idx 9, term 0, empty, commit 2: refusal 4."
  pub beyond_last : Appends 9 0 2 [] (Err refusal.OutsideLog) pending_a
  -- "find_conflict_by_term: (5,2) gives (4,2); (5,1) gives (2,1); (5,0) gives (0,0); (6,9) gives 6, none. With start (10,4): (10,3) gives (9,0)."
  pub by_term_5_2 : find_conflict_by_term log_a settled_a pending_a 5 2 ≡ found 4 2
  pub by_term_5_1 : find_conflict_by_term log_a settled_a pending_a 5 1 ≡ found 2 1
  pub by_term_5_0 : find_conflict_by_term log_a settled_a pending_a 5 0 ≡ found 0 0
  pub by_term_6_9 : find_conflict_by_term log_a settled_a pending_a 6 9 ≡ Ok (index_of 6, None)
  pub by_term_10_3 : find_conflict_by_term (fresh 10 4 10) [] [] 10 3 ≡ found 9 0
  -- "acknowledgements 2,2,2,4,5 give 2; 9,7,7,3 give 7; one 5 and two missing give 0"
  pub five_voters : committed_index (voters_from 1 5) (acking (2 ∷ 2 ∷ 2 ∷ 4 ∷ 5 ∷ [])) ≡ up_to 2
  pub four_voters : committed_index (voters_from 1 4) (acking (9 ∷ 7 ∷ 7 ∷ 3 ∷ [])) ≡ up_to 7
  pub two_missing : committed_index (voters_from 1 3) (acking (5 ∷ [])) ≡ up_to 0
  pub two_rows_missing : committed_index (voters_from 1 3) (acking (5 ∷ []) ++ rows_from voted 2 (None ∷ None ∷ [])) ≡ up_to 0
  -- "incoming 5,4,3 gives 4, outgoing 3,8 gives 3, joint 3"
  pub incoming : committed_index three_and_two.incoming (acking (5 ∷ 4 ∷ 3 ∷ 3 ∷ 8 ∷ [])) ≡ up_to 4
  pub outgoing : committed_index three_and_two.outgoing (acking (5 ∷ 4 ∷ 3 ∷ 3 ∷ 8 ∷ [])) ≡ up_to 3
  pub joint : joint_committed_index three_and_two (acking (5 ∷ 4 ∷ 3 ∷ 3 ∷ 8 ∷ [])) ≡ up_to 3
  -- "four voters, two yes, one no: Pending; two yes, two no: Lost"
  pub one_vote_missing : vote_result (voters_from 1 4) (voting (Some true ∷ Some true ∷ Some false ∷ [])) ≡ Ok result.Pending
  pub two_against_two : vote_result (voters_from 1 4) (voting (Some true ∷ Some true ∷ Some false ∷ Some false ∷ [])) ≡ Ok result.Lost
  -- refusal 12: "over 7 voters, a repeated voter id, over 64 rows, a repeated row id"; the last two also where no voter reads the rows
  pub too_many_voters : committed_index (voters_from 1 (suc voter_limit)) [] ≡ Err refusal.BrokenSet
  pub repeated_voter : committed_index (set_of (1 ∷ 2 ∷ 1 ∷ [])) [] ≡ Err refusal.BrokenSet
  pub too_many_rows : committed_index no_voters (acking (replicate (suc row_limit) 0)) ≡ Err refusal.BrokenSet
  pub repeated_row : committed_index (voters_from 2 3) (acking (1 ∷ []) ++ acking (1 ∷ [])) ≡ Err refusal.BrokenSet
  -- "cap 4, flights 5,5,6: set_cap(2) defers and is full; free_to(5) leaves 6, not full." Each line begins where the one above it ended; the ring has 4 words.
  pub window_new : made_window 4 4 ≡ Ok (window 0 0 None)
  pub first_5 : (added (window 0 0 None) 4 ≡ Ok (window 0 1 None)) × (ring_after (window 0 0 None) old 5 ≡ 5 ∷ 9 ∷ 9 ∷ 9 ∷ [])
  pub second_5 : (added (window 0 1 None) 4 ≡ Ok (window 0 2 None)) × (ring_after (window 0 1 None) (5 ∷ 9 ∷ 9 ∷ 9 ∷ []) 5 ≡ 5 ∷ 5 ∷ 9 ∷ 9 ∷ [])
  pub then_6 : (added (window 0 2 None) 4 ≡ Ok (window 0 3 None)) × (ring_after (window 0 2 None) (5 ∷ 5 ∷ 9 ∷ 9 ∷ []) 6 ≡ flown)
  pub flights_5_5_6 : flights (window 0 3 None) flown ≡ 5 ∷ 5 ∷ 6 ∷ []
  pub cap_2_defers : capped (window 0 3 None) 4 2 ≡ Ok (window 0 3 (Some 2))
  pub then_full : fullness (window 0 3 (Some 2)) 4 ≡ Ok true
  pub free_to_5 : freed_to (window 0 3 (Some 2)) flown 5 ≡ Ok (window 2 1 (Some 2))
  pub leaves_6 : flights (window 2 1 (Some 2)) flown ≡ 6 ∷ []
  pub then_not_full : fullness (window 2 1 (Some 2)) 4 ≡ Ok false
