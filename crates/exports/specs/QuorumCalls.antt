-- The exported questions of crate quorum, and the leader's commit step. A reader must know: each is the call below on the sets and rows that the words say (specs/Rows.antt), and hands its refusal on; a slice too short for the answer, or for a log's state, is refusal 1 and comes first. The three checks write nothing, so that their result is all that they promise.
-- 12 needs no word of its own: a set of over 7 or repeated ids, and over 64 or repeated rows, are refused by the call below.
use Rattle.std.specs.Prelude.{ℕ, Bool, List, [], ◌∷◌}
use Rattle.units.specs.Refusals.{Answer, refusal_of}
use Rattle.units.specs.declared.Index.{Index}
use Rattle.quorum.specs.Rows.{rows_check}
use Rattle.quorum.specs.Voters.{set_of, no_voters, voters_check}
use Rattle.quorum.specs.Majority.{committed_index, vote_result}
use Rattle.quorum.specs.Joint.{one_set, config_check, joint_committed_index, joint_vote_result, is_singleton, contains_of, joint_ids}
use Rattle.quorum.specs.declared.VoteResult.{VoteResult}
use Rattle.quorum.specs.declared.VoteResult.TheVariants as result
use Rattle.quorum.specs.declared.joint.Ids.{Ids}
use Rattle.quorum.specs.declared.joint.JointConfig.{JointConfig}
use Rattle.leader.specs.Leader.{leader_commit}
use Rattle.exports.specs.Words.{log_length, single_length, pair_length, ids_length, log_from, flag_word, put, Outcome, leaves, values_leave, yes_or_no_leaves, unless_short}
use Rattle.exports.specs.LogCalls.{decided_leaves}
use Rattle.exports.specs.Rows.{peers_from, config_from}

-- How a vote stands, as a word: 01's Pending, Lost and Won as 0, 1 and 2.
abbrev pub result_word : VoteResult → ℕ
result_word result.Pending = 0
result_word result.Lost = 1
result_word result.Won = 2

-- The values of an index, and of whether nobody had a say in it: "(index, false)" or "(u64::MAX, true)".
abbrev pub committed_words : Index × Bool → List ℕ
committed_words (index, free) = index.0 ∷ flag_word free ∷ []

-- What an answer with an index leaves of `answer`: these.
abbrev pub committed_leaves : Answer (Index × Bool) → List ℕ → Outcome
committed_leaves = values_leave committed_words

-- What the answer of a vote leaves of `answer`: how the vote stands.
abbrev pub verdict_leaves : Answer VoteResult → List ℕ → Outcome
verdict_leaves = values_leave (λ r. result_word r ∷ [])

-- What the answer of `ids`, "each once", leaves of `answer`: how many ids, then all the words of their list, which are 0 behind the last id.
abbrev pub ids_leaves : Answer Ids → List ℕ → Outcome
ids_leaves = values_leave (λ said. said.count ∷ said.ids)

-- The sizes of a configuration: how many ids it has incoming, and how many outgoing. For `clear`.
abbrev pub sizes_words : JointConfig → List ℕ
sizes_words config = config.incoming.count ∷ config.outgoing.count ∷ []

-- What they leave of `answer`.
abbrev pub sizes_leaves : JointConfig → List ℕ → Outcome
sizes_leaves config values = leaves 0 (put values (sizes_words config) ∷ [])

-- THE PROMISES of the questions: what each leaves of `answer`, here `values`. Of one set:
module _ (voters rows values : List ℕ) where
  -- `majority_committed_index`: "the quorum-th largest acknowledgement; a missing one counts as 0".
  abbrev pub majority_committed_index_leaves : Outcome
  majority_committed_index_leaves = unless_short values pair_length (values ∷ []) (committed_leaves (committed_index (set_of voters) (peers_from rows)) values)

  -- `majority_vote_result`: "an empty set is Won; otherwise Won if yes reaches the quorum, else Pending if yes plus missing reaches it, else Lost."
  abbrev pub majority_vote_result_leaves : Outcome
  majority_vote_result_leaves = unless_short values single_length (values ∷ []) (verdict_leaves (vote_result (set_of voters) (peers_from rows)) values)

-- Of both halves, by the rows:
module _ (incoming outgoing rows values : List ℕ) where
  -- `joint_committed_index`: "The index is the smaller of the two, the flag is true only if both are."
  abbrev pub joint_committed_index_leaves : Outcome
  joint_committed_index_leaves = unless_short values pair_length (values ∷ []) (committed_leaves (joint_committed_index (config_from incoming outgoing) (peers_from rows)) values)

  -- `joint_vote_result`: "Won if Won in both, Lost if Lost in either, else Pending."
  abbrev pub joint_vote_result_leaves : Outcome
  joint_vote_result_leaves = unless_short values single_length (values ∷ []) (verdict_leaves (joint_vote_result (config_from incoming outgoing) (peers_from rows)) values)

-- And of both halves alone:
module _ (incoming outgoing : List ℕ) where
  -- `joint_is_singleton`, which 01, Joint, names: one incoming voter, and nobody outgoing.
  abbrev pub is_singleton_leaves : List ℕ → Outcome
  is_singleton_leaves values = unless_short values single_length (values ∷ []) (yes_or_no_leaves (is_singleton (config_from incoming outgoing)) values)

  -- `joint_contains`, which 01, Joint, names: a voter of either half.
  abbrev pub contains_leaves : ℕ → List ℕ → Outcome
  contains_leaves id values = unless_short values single_length (values ∷ []) (yes_or_no_leaves (contains_of (config_from incoming outgoing) id) values)

  -- `joint_ids`: "the ids of both, each once. We list ids in rising order".
  abbrev pub joint_ids_leaves : List ℕ → Outcome
  joint_ids_leaves values = unless_short values ids_length (values ∷ []) (ids_leaves (joint_ids (config_from incoming outgoing)) values)

  -- `joint_clear`, which 01, Joint, names. What crate quorum promises of `clear` is the same of every configuration, so that it "reads nothing and refuses nothing" (open points).
  abbrev pub clear_leaves : List ℕ → Outcome
  clear_leaves values = unless_short values pair_length (values ∷ []) (sizes_leaves (one_set no_voters) values)

-- THE PROMISES of the checks: the refusal of each, 0 where it finds nothing wrong.
-- `voters_checked`: "over 7 voters, a repeated voter id".
abbrev pub voters_refusal : List ℕ → ℕ
voters_refusal voters = refusal_of (voters_check (set_of voters))

-- `joint_checked`: that of either of "Two sets, incoming and outgoing".
abbrev pub joint_refusal : List ℕ → List ℕ → ℕ
joint_refusal incoming outgoing = refusal_of (config_check (config_from incoming outgoing))

-- `rows_checked`: "over 64 rows, a repeated row id".
abbrev pub rows_refusal : List ℕ → ℕ
rows_refusal rows = refusal_of (rows_check (peers_from rows))

-- THE PROMISE of `leader_maybe_commit`: what it leaves of `log` and `answer`, by the leader's commit step (leader/specs/Leader.antt); 1 before 12, since "The lowest number wins".
abbrev pub leader_commit_leaves : List ℕ → List ℕ → List ℕ → ℕ → List ℕ → List ℕ → List ℕ → List ℕ → Outcome
leader_commit_leaves log settled pending term incoming outgoing rows values =
    let slices = log ∷ values ∷ [] in
    unless_short log log_length slices
    (unless_short values single_length slices
    (decided_leaves (leader_commit (log_from log) settled pending term (config_from incoming outgoing) (peers_from rows)) log values))
