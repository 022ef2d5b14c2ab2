-- Rows that were gathered answer as the rows that were lent: what stands between the core and the thin calls above it.
use Prim.Native.Nat.{ℕ, ◌≤◌}
use mathlib.Core.Path.{◌≡◌, refl, sym, ap, ◌∙◌}
use mathlib.Core.List.{List, map, map-map}
use lib.ListN.{length, get_or, length-map, get_or-map}
use lib.Dec.{eqb}
use Rattle.std.specs.Prelude.{Some, None, Option, Bool, true, false}
use Rattle.units.specs.Refusals.{both_checks, unless, Answer, Check}
use Rattle.units.proofs.Checks.{both_fine}
use Rattle.rules.proofs.Count.{count_map, count_same}
use Rattle.quorum.specs.Limits.{row_limit}
use Rattle.quorum.specs.Ids.{position}
use Rattle.quorum.specs.Rows.{nobody, id_of, row_of, vote_number, rows_check, value_for, gathered, ids_of, values_of, plain_check}
use Rattle.quorum.specs.Voters.{voters_of, voters_check}
use Rattle.quorum.specs.Votes.{is_yes, is_missing, result_of}
use Rattle.quorum.specs.Half.{half_index, value_in, numbers_result}
use Rattle.quorum.specs.Majority.{acks_of, votes_of, committed_index, vote_result, plain_values, plain_committed_index, plain_vote_result}
use Rattle.quorum.specs.Joint.{config_check, joint_committed_index, joint_vote_result, plain_joint_committed_index, plain_joint_vote_result}
use Rattle.quorum.specs.declared.majority.Voters.{Voters}
use Rattle.quorum.specs.declared.joint.JointConfig.{JointConfig}
use Rattle.quorum.specs.declared.rows.Peer.{Peer}
use Rattle.quorum.specs.declared.rows.Question.{Question}
use Rattle.quorum.specs.declared.rows.Question.TheVariants as question
use Rattle.quorum.proofs.Padded.{front_padded}
use Rattle.quorum.proofs.Checks.{within, same_check, answered_alike}

-- A voter without a row is missing, whatever the question.
pub nothing_read : (q : Question) → value_for q nobody ≡ 0
nothing_read question.Index = refl
nothing_read question.Vote = refl

module _ (q : Question) (peers : List Peer) where
  gathered_check : plain_check (gathered q peers) ≡ rows_check peers
  gathered_check = same_check (length peers) row_limit (ids_of (gathered q peers)) (map id_of peers) (front_padded id_of row_limit peers)

  -- a voter's value among the gathered rows is what the question reads of its row
  value_read : (id : ℕ) → length peers ≤ row_limit → value_in (ids_of (gathered q peers)) (values_of (gathered q peers)) id ≡ value_for q (row_of peers id)
  value_read id h =
      ap (λ (values : List ℕ). get_or values (position id (ids_of (gathered q peers))) 0) (front_padded (value_for q) row_limit peers h)
      ∙ ap (λ (ids : List ℕ). get_or (map (value_for q) peers) (position id ids) 0) (front_padded id_of row_limit peers h)
      ∙ ap (get_or (map (value_for q) peers) (position id (map id_of peers))) (sym (nothing_read q))
      ∙ get_or-map (value_for q) peers (position id (map id_of peers)) nobody

  values_read : (v : Voters) → length peers ≤ row_limit → plain_values (gathered q peers) v ≡ map (λ id. value_for q (row_of peers id)) (voters_of v)
  values_read v h = λ i. map (λ id. value_read id h i) (voters_of v)

  -- after a check k, answers that are the same within the limit are the same
  answers_alike : {A : Type 0} (k : Check) {x y : Answer A} → (length peers ≤ row_limit → x ≡ y) → unless (both_checks k (plain_check (gathered q peers))) x ≡ unless (both_checks k (rows_check peers)) y
  answers_alike k same = answered_alike k gathered_check (λ passed. same (within (length peers) row_limit (map id_of peers) ((both_fine k (rows_check peers)).0 passed).1))

-- Votes as numbers are counted as votes.
said : (v : Option Bool) → eqb 1 (vote_number v) ≡ is_yes v
said None = refl
said (Some true) = refl
said (Some false) = refl

unsaid : (v : Option Bool) → eqb 0 (vote_number v) ≡ is_missing v
unsaid None = refl
unsaid (Some true) = refl
unsaid (Some false) = refl

numbers_votes : (votes : List (Option Bool)) → numbers_result (map vote_number votes) ≡ result_of votes
numbers_votes votes =
    rw (length-map votes vote_number, count_map (eqb 1) vote_number votes ∙ count_same _ is_yes said votes, count_map (eqb 0) vote_number votes ∙ count_same _ is_missing unsaid votes)

module _ (peers : List Peer) where
  -- what the question of the vote reads of some ids' rows says how they have voted
  pub votes_said : (ids : List ℕ) → numbers_result (map (λ id. value_for question.Vote (row_of peers id)) ids) ≡ result_of (map (λ id. (row_of peers id).vote) ids)
  votes_said ids = ap numbers_result (sym (map-map vote_number (λ id. (row_of peers id).vote) ids)) ∙ numbers_votes (map (λ id. (row_of peers id).vote) ids)

  half_votes : (v : Voters) → length peers ≤ row_limit → numbers_result (plain_values (gathered question.Vote peers) v) ≡ result_of (votes_of peers v)
  half_votes v h = ap numbers_result (values_read question.Vote peers v h) ∙ votes_said (voters_of v)

  half_acks : (v : Voters) → length peers ≤ row_limit → half_index (plain_values (gathered question.Index peers) v) ≡ half_index (acks_of peers v)
  half_acks v h = ap half_index (values_read question.Index peers v h)

  -- THE LAWS, one for each thin call
  pub gathered_index : (v : Voters) → plain_committed_index v (gathered question.Index peers) ≡ committed_index v peers
  unfolding plain_committed_index committed_index
  gathered_index v = answers_alike question.Index peers (voters_check v) (λ h. cc (half_acks v h))

  pub gathered_result : (v : Voters) → plain_vote_result v (gathered question.Vote peers) ≡ vote_result v peers
  unfolding plain_vote_result vote_result
  gathered_result v = answers_alike question.Vote peers (voters_check v) (λ h. cc (half_votes v h))

  pub gathered_joint : (c : JointConfig) → plain_joint_committed_index c (gathered question.Index peers) ≡ joint_committed_index c peers
  unfolding plain_joint_committed_index joint_committed_index
  gathered_joint c = answers_alike question.Index peers (config_check c) (λ h. cc (half_acks c.incoming h, half_acks c.outgoing h))

  pub gathered_verdict : (c : JointConfig) → plain_joint_vote_result c (gathered question.Vote peers) ≡ joint_vote_result c peers
  unfolding plain_joint_vote_result joint_vote_result
  gathered_verdict c = answers_alike question.Vote peers (config_check c) (λ h. cc (half_votes c.incoming h, half_votes c.outgoing h))
