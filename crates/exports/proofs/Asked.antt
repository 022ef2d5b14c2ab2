-- The questions over words: what the ids of a set that passed its check read in the rows is what its voters read, and votes as numbers are counted as votes.
use Prim.Native.Nat.{ℕ}
use mathlib.Core.Path.{◌≡◌, sym, ap, ◌∙◌}
use mathlib.Core.List.{List, map}
use Rattle.units.specs.Refusals.{fine, both_checks}
use Rattle.units.proofs.Checks.{both_fine, same_unless}
use Rattle.quorum.specs.Limits.{voter_limit}
use Rattle.quorum.specs.Voters.{voters_of, voters_check, set_of}
use Rattle.quorum.specs.Rows.{rows_check}
use Rattle.quorum.specs.Votes.{result_of}
use Rattle.quorum.specs.Half.{half_index, numbers_result}
use Rattle.quorum.specs.Majority.{acks_of, votes_of, committed_index, vote_result, committed_index_by, vote_result_by}
use Rattle.quorum.specs.Joint.{config_check, joint_committed_index, joint_vote_result, joint_committed_index_by, joint_vote_result_by}
use Rattle.quorum.specs.declared.rows.Question.TheVariants as question
use Rattle.quorum.proofs.Checks.{voters_within}
use Rattle.quorum.proofs.Padded.{take-padded}
use Rattle.quorum.proofs.Gathered.{votes_said}
use Rattle.exports.specs.Rows.{peers_from, read_of, config_from}

module _ (ids rows : List ℕ) (checked : voters_check (set_of ids) ≡ fine) where
  voters_are_ids : voters_of (set_of ids) ≡ ids
  voters_are_ids = take-padded voter_limit ids (voters_within (set_of ids) checked)

  acks_read : half_index (map (read_of question.Index rows) ids) ≡ half_index (acks_of (peers_from rows) (set_of ids))
  acks_read = ap (λ (voters : List ℕ). half_index (map (read_of question.Index rows) voters)) (sym voters_are_ids)

  votes_read : numbers_result (map (read_of question.Vote rows) ids) ≡ result_of (votes_of (peers_from rows) (set_of ids))
  votes_read = ap (λ (voters : List ℕ). numbers_result (map (read_of question.Vote rows) voters)) (sym voters_are_ids) ∙ votes_said (peers_from rows) (voters_of (set_of ids))

-- THE LAWS, one for each question: asked by the words of the rows, it answers as by the rows that they say.
module _ (ids rows : List ℕ) where
  set_fine : both_checks (voters_check (set_of ids)) (rows_check (peers_from rows)) ≡ fine → voters_check (set_of ids) ≡ fine
  set_fine e = ((both_fine (voters_check (set_of ids)) (rows_check (peers_from rows))).0 e).0

  pub index_asked : committed_index_by ids (rows_check (peers_from rows)) (read_of question.Index rows) ≡ committed_index (set_of ids) (peers_from rows)
  unfolding committed_index_by committed_index
  index_asked = same_unless (both_checks (voters_check (set_of ids)) (rows_check (peers_from rows))) (λ e. cc (acks_read ids rows (set_fine e)))

  pub result_asked : vote_result_by ids (rows_check (peers_from rows)) (read_of question.Vote rows) ≡ vote_result (set_of ids) (peers_from rows)
  unfolding vote_result_by vote_result
  result_asked = same_unless (both_checks (voters_check (set_of ids)) (rows_check (peers_from rows))) (λ e. cc (votes_read ids rows (set_fine e)))

module _ (incoming outgoing rows : List ℕ) where
  halves_fine : both_checks (config_check (config_from incoming outgoing)) (rows_check (peers_from rows)) ≡ fine → (voters_check (set_of incoming) ≡ fine) × (voters_check (set_of outgoing) ≡ fine)
  halves_fine e = (both_fine (voters_check (set_of incoming)) (voters_check (set_of outgoing))).0 ((both_fine (config_check (config_from incoming outgoing)) (rows_check (peers_from rows))).0 e).0

  pub joint_asked : joint_committed_index_by incoming outgoing (rows_check (peers_from rows)) (read_of question.Index rows) ≡ joint_committed_index (config_from incoming outgoing) (peers_from rows)
  unfolding joint_committed_index_by joint_committed_index
  joint_asked = same_unless (both_checks (config_check (config_from incoming outgoing)) (rows_check (peers_from rows))) (λ e. let h = halves_fine e in cc (acks_read incoming rows h.0, acks_read outgoing rows h.1))

  pub verdict_asked : joint_vote_result_by incoming outgoing (rows_check (peers_from rows)) (read_of question.Vote rows) ≡ joint_vote_result (config_from incoming outgoing) (peers_from rows)
  unfolding joint_vote_result_by joint_vote_result
  verdict_asked = same_unless (both_checks (config_check (config_from incoming outgoing)) (rows_check (peers_from rows))) (λ e. let h = halves_fine e in cc (votes_read incoming rows h.0, votes_read outgoing rows h.1))
