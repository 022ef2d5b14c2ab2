-- The quorum questions of one voter set (majority.rs). A reader must know: an answer is refusal 12 where the set or the rows are broken, else what one half says of its voters' rows.
use Rattle.std.specs.Prelude.{ℕ, List, map, Ok, Option, Bool}
use Rattle.units.specs.Units.{index_of}
use Rattle.units.specs.Refusals.{both_checks, unless, Answer, Check}
use Rattle.units.specs.declared.Index.{Index}
use Rattle.quorum.specs.Rows.{row_of, ack_number, rows_check, ids_of, values_of, plain_check}
use Rattle.quorum.specs.Voters.{voters_of, voters_check, set_of}
use Rattle.quorum.specs.Votes.{result_of}
use Rattle.quorum.specs.Half.{half_index, value_in, numbers_result}
use Rattle.quorum.specs.declared.VoteResult.{VoteResult}
use Rattle.quorum.specs.declared.half.Half.{Half}
use Rattle.quorum.specs.declared.majority.Voters.{Voters}
use Rattle.quorum.specs.declared.rows.Peer.{Peer}
use Rattle.quorum.specs.declared.rows.Rows.{Rows}

-- Document 01's values for each case of the index answer: a refusal "returns its number alone"; else the index with its flag, "(u64::MAX, true)" or "(index, false)".
abbrev pub index_unless : Check → Half → Answer (Index × Bool)
index_unless k h = unless k (Ok (index_of h.index, h.free))

-- Document 01's values for each case of the vote answer: a refusal "returns its number alone"; else how the vote stands, Won, Pending or Lost.
abbrev pub result_unless : Check → VoteResult → Answer VoteResult
result_unless k r = unless k (Ok r)

-- The paper, figure 2, "matchIndex[]": "for each server, index of highest log entry known to be replicated on server (initialized to 0 ..)". It is what the lent rows say of an id: 0 where it has no row, or has acknowledged nothing.
abbrev pub match_index : List Peer → ℕ → ℕ
match_index peers id = ack_number (row_of peers id).ack

-- What each voter of a set has acknowledged, by the lent rows: "a missing one counts as 0".
abbrev pub acks_of : List Peer → Voters → List ℕ
acks_of peers v = map (match_index peers) (voters_of v)

-- How each voter of a set has voted, by the lent rows: "a voter without a row is missing everywhere".
abbrev pub votes_of : List Peer → Voters → List (Option Bool)
votes_of peers v = map (λ id. (row_of peers id).vote) (voters_of v)

-- THE PROMISE of `committed_index`. 01, Majority: "The committed index is the quorum-th largest acknowledgement; a missing one counts as 0. An empty set gives (u64::MAX, true); any other gives (index, false)."
unfoldable pub committed_index : Voters → List Peer → Answer (Index × Bool)
committed_index v peers = index_unless (both_checks (voters_check v) (rows_check peers)) (half_index (acks_of peers v))

-- THE PROMISE of `vote_result`. 01, Majority: "an empty set is Won; otherwise Won if yes reaches the quorum, else Pending if yes plus missing reaches it, else Lost."
unfoldable pub vote_result : Voters → List Peer → Answer VoteResult
vote_result v peers = result_unless (both_checks (voters_check v) (rows_check peers)) (result_of (votes_of peers v))

-- THE PROMISE of `committed_index_by`: as `committed_index`, of a set as a list of ids, by whatever holds the rows: its check, and what it says of an id.
unfoldable pub committed_index_by : List ℕ → Check → (ℕ → ℕ) → Answer (Index × Bool)
committed_index_by ids rows said = index_unless (both_checks (voters_check (set_of ids)) rows) (half_index (map said ids))

-- THE PROMISE of `vote_result_by`: as `vote_result`, in the same way.
unfoldable pub vote_result_by : List ℕ → Check → (ℕ → ℕ) → Answer VoteResult
vote_result_by ids rows said = result_unless (both_checks (voters_check (set_of ids)) rows) (numbers_result (map said ids))

-- What the question reads of each voter of a set, by gathered rows. 01, "Where each language form goes": "thin calls above a core over plain values". This, and what follows, is the core.
abbrev pub plain_values : Rows → Voters → List ℕ
plain_values r v = map (value_in (ids_of r) (values_of r)) (voters_of v)

-- THE PROMISE of `committed_index_of`: as `committed_index`, "over plain values".
unfoldable pub plain_committed_index : Voters → Rows → Answer (Index × Bool)
plain_committed_index v r = index_unless (both_checks (voters_check v) (plain_check r)) (half_index (plain_values r v))

-- THE PROMISE of `vote_result_of`: as `vote_result`, "over plain values".
unfoldable pub plain_vote_result : Voters → Rows → Answer VoteResult
plain_vote_result v r = result_unless (both_checks (voters_check v) (plain_check r)) (numbers_result (plain_values r v))
