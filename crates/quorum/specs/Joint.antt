-- The joint configuration (joint.rs): two voter sets, incoming and outgoing. A reader must know: each question is asked of both halves, and a broken half or broken rows are refusal 12.
use Rattle.std.specs.Prelude.{ℕ, ◌+◌, ◌&&◌, ◌||◌, cond, List, [], ◌∷◌, ◌++◌, length, take, map, set, eqb, Ok, Bool}
use Rattle.units.specs.Refusals.{both_checks, unless, Answer, Check}
use Rattle.units.specs.declared.Index.{Index}
use Rattle.rules.specs.Majority.{falling}
use Rattle.quorum.specs.Limits.{id_limit}
use Rattle.quorum.specs.Ids.{has, padded}
use Rattle.quorum.specs.Rows.{rows_check, plain_check}
use Rattle.quorum.specs.Voters.{voters_of, voters_check, set_of, no_voters}
use Rattle.quorum.specs.Votes.{result_of, joint_result}
use Rattle.quorum.specs.Half.{half_index, joined, numbers_result}
use Rattle.quorum.specs.Majority.{index_unless, result_unless, acks_of, votes_of, plain_values}
use Rattle.quorum.specs.declared.majority.Voters.{Voters}
use Rattle.quorum.specs.declared.joint.JointConfig.{JointConfig}
use Rattle.quorum.specs.declared.joint.Ids.{Ids}
use Rattle.quorum.specs.declared.rows.Peer.{Peer}
use Rattle.quorum.specs.declared.rows.Rows.{Rows}
use Rattle.quorum.specs.declared.VoteResult.{VoteResult}

-- THE PROMISE of `new`: of 01's "Two sets, incoming and outgoing" the first is this one, and nobody is outgoing. That of `clear` is `one_set no_voters`: it "reads nothing and refuses nothing" (open points).
abbrev pub one_set : Voters → JointConfig
one_set v = record { incoming = v; outgoing = no_voters }

-- THE PROMISE of `checked`. Refusal 12 of a configuration, "over 7 voters, a repeated voter id", in either of its "Two sets, incoming and outgoing".
abbrev pub config_check : JointConfig → Check
config_check c = both_checks (voters_check c.incoming) (voters_check c.outgoing)

-- THE PROMISE of `committed_index`. 01, Joint: "The index is the smaller of the two, the flag is true only if both are."
unfoldable pub joint_committed_index : JointConfig → List Peer → Answer (Index × Bool)
joint_committed_index c peers = index_unless (both_checks (config_check c) (rows_check peers)) (joined (half_index (acks_of peers c.incoming)) (half_index (acks_of peers c.outgoing)))

-- THE PROMISE of `vote_result`. 01, Joint: "Won if Won in both, Lost if Lost in either, else Pending."
unfoldable pub joint_vote_result : JointConfig → List Peer → Answer VoteResult
joint_vote_result c peers = result_unless (both_checks (config_check c) (rows_check peers)) (joint_result (result_of (votes_of peers c.incoming)) (result_of (votes_of peers c.outgoing)))

-- THE PROMISE of `committed_index_by`: as `committed_index`, of sets as lists of ids, by whatever holds the rows: its check, and what it says of an id.
unfoldable pub joint_committed_index_by : List ℕ → List ℕ → Check → (ℕ → ℕ) → Answer (Index × Bool)
joint_committed_index_by incoming outgoing rows said = index_unless (both_checks (both_checks (voters_check (set_of incoming)) (voters_check (set_of outgoing))) rows) (joined (half_index (map said incoming)) (half_index (map said outgoing)))

-- THE PROMISE of `vote_result_by`: as `vote_result`, in the same way.
unfoldable pub joint_vote_result_by : List ℕ → List ℕ → Check → (ℕ → ℕ) → Answer VoteResult
joint_vote_result_by incoming outgoing rows said = result_unless (both_checks (both_checks (voters_check (set_of incoming)) (voters_check (set_of outgoing))) rows) (joint_result (numbers_result (map said incoming)) (numbers_result (map said outgoing)))

-- THE PROMISE of `committed_index_of`: as `committed_index`, "over plain values".
unfoldable pub plain_joint_committed_index : JointConfig → Rows → Answer (Index × Bool)
plain_joint_committed_index c r = index_unless (both_checks (config_check c) (plain_check r)) (joined (half_index (plain_values r c.incoming)) (half_index (plain_values r c.outgoing)))

-- THE PROMISE of `vote_result_of`: as `vote_result`, "over plain values".
unfoldable pub plain_joint_vote_result : JointConfig → Rows → Answer VoteResult
plain_joint_vote_result c r = result_unless (both_checks (config_check c) (plain_check r)) (joint_result (numbers_result (plain_values r c.incoming)) (numbers_result (plain_values r c.outgoing)))

-- THE PROMISE of `is_singleton`. 01, Joint, names "`is_singleton`, `contains`, `clear`" and leaves them to the code: one incoming voter, and nobody outgoing.
abbrev pub is_singleton : JointConfig → Answer Bool
is_singleton c = unless (config_check c) (Ok (eqb c.outgoing.count 0 && eqb c.incoming.count 1))

-- THE PROMISE of `contains`, named there too ("`is_singleton`, `contains`, `clear`"): a voter of either half.
abbrev pub contains_of : JointConfig → ℕ → Answer Bool
contains_of c id = unless (config_check c) (Ok (has id (voters_of c.incoming) || has id (voters_of c.outgoing)))

-- A list that falls, turned round: each id at the end, where it is not there yet. For "each once" and "in rising order".
unfoldable pub rising : List ℕ → List ℕ
rising [] = []
rising (x ∷ xs) = cond (has x (rising xs)) (rising xs) (rising xs ++ (x ∷ []))

-- 01, Joint: "the ids of both, each once. We list ids in rising order".
unfoldable pub both_ids : JointConfig → List ℕ
both_ids c = rising (falling (voters_of c.incoming ++ voters_of c.outgoing))

-- A list of ids as the answer holds it, an "array with a count", unused words 0.
abbrev pub id_list : List ℕ → Ids
id_list ids = record { ids = padded id_limit ids; count = length ids }

-- One step of listing: the id after those listed, where it is not there yet. For "each once".
abbrev pub with_id : Ids → ℕ → Ids
with_id s id = cond (has id (take s.count s.ids)) s (record { ids = set s.ids s.count id; count = s.count + 1 })

-- THE PROMISE of `ids`. 01, Joint: "the ids of both, each once. We list ids in rising order".
abbrev pub joint_ids : JointConfig → Answer Ids
joint_ids c = unless (config_check c) (Ok (id_list (both_ids c)))
