-- No answer depends on the order of the voters or of the rows: counts don't, nor does the row of an id where no id repeats; and where one repeats, it does in every order.
use Prim.Native.Nat.{ℕ}
use mathlib.Core.Path.{◌≡◌, refl, sym, ap, ◌∙◌}
use mathlib.Core.Bool.{Bool, true, false, not, ◌&&◌, ◌||◌, cond, and-eq-true_iff}
use mathlib.Core.List.{List, [], ◌∷◌, map, map_congr_left}
use native.Mathlib.Omega.{arith}
use lib.ListN.{length}
use lib.Dec.{eqb}
use borrow.Author.Tests.{eqb-true, eq-eqb}
use Rattle.units.specs.Refusals.{both_checks, unless, Answer, Check, fine}
use Rattle.units.proofs.Checks.{both_fine}
use Rattle.rules.specs.Count.{Reordered, none, keep, swap, then}
use Rattle.rules.proofs.Count.{length-reordered, map_reordered}
use Rattle.rules.proofs.Majority.{committed_reordered}
use Rattle.quorum.specs.Ids.{has, distinct}
use Rattle.quorum.specs.Rows.{id_of, row_of, ack_number, rows_check}
use Rattle.quorum.specs.Voters.{voters_of, voters_check}
use Rattle.quorum.specs.Votes.{result_of}
use Rattle.quorum.specs.Half.{half_index}
use Rattle.quorum.specs.Majority.{acks_of, votes_of, committed_index, vote_result}
use Rattle.quorum.specs.Joint.{config_check, joint_committed_index, joint_vote_result}
use Rattle.quorum.specs.declared.majority.Voters.{Voters}
use Rattle.quorum.specs.declared.joint.JointConfig.{JointConfig}
use Rattle.quorum.specs.declared.rows.Peer.{Peer}
use Rattle.quorum.proofs.Checks.{answered_alike}
use Rattle.quorum.proofs.IdLaws.{has_cons, row_cons}
use Rattle.quorum_laws.specs.Questions.{SameVoters}
use Rattle.quorum_laws.proofs.Checks.{distinct_rows}
use Rattle.quorum_laws.proofs.Members.{distinct_reordered}
use Rattle.quorum_laws.proofs.Votes.{result_reordered}

-- THE VOTERS in another order.
half_reordered : {xs ys : List ℕ} → Reordered xs ys → half_index xs ≡ half_index ys
unfolding half_index
half_reordered {xs} {ys} r = by_length xs ys r (length-reordered r)
  where
    by_length : (xs ys : List ℕ) → Reordered xs ys → length xs ≡ length ys → half_index xs ≡ half_index ys
    by_length [] [] r l = refl
    by_length [] (y ∷ ys) r l = let z : ⊥ = omega arith in absurd z
    by_length (x ∷ xs) [] r l = let z : ⊥ = omega arith in absurd z
    by_length (x ∷ xs) (y ∷ ys) r l = cc (committed_reordered (omega arith) r)

module _ {v w : Voters} (same : SameVoters v w) where
  check_voters : voters_check v ≡ voters_check w
  check_voters = rw (distinct_reordered same.reordered, same.as_many)

  module _ (peers : List Peer) where
    index_of_voters : half_index (acks_of peers v) ≡ half_index (acks_of peers w)
    index_of_voters = half_reordered (map_reordered _ same.reordered)

    result_of_voters : result_of (votes_of peers v) ≡ result_of (votes_of peers w)
    result_of_voters = result_reordered (map_reordered _ same.reordered)

    pub committed_index_voters : committed_index v peers ≡ committed_index w peers
    unfolding committed_index
    committed_index_voters = cc (check_voters, index_of_voters)

    pub vote_result_voters : vote_result v peers ≡ vote_result w peers
    unfolding vote_result
    vote_result_voters = cc (check_voters, result_of_voters)

module _ {c d : JointConfig} (in-same : SameVoters c.incoming d.incoming) (out-same : SameVoters c.outgoing d.outgoing) (peers : List Peer) where
  pub joint_index_voters : joint_committed_index c peers ≡ joint_committed_index d peers
  unfolding joint_committed_index
  joint_index_voters = cc (check_voters in-same, check_voters out-same, index_of_voters in-same peers, index_of_voters out-same peers)

  pub joint_verdict_voters : joint_vote_result c peers ≡ joint_vote_result d peers
  unfolding joint_vote_result
  joint_verdict_voters = cc (check_voters in-same, check_voters out-same, result_of_voters in-same peers, result_of_voters out-same peers)

-- THE ROWS in another order.
two_rows : (p q : Peer) (peers : List Peer) (id : ℕ) → row_of (p ∷ q ∷ peers) id ≡ cond (eqb (id_of p) id) p (cond (eqb (id_of q) id) q (row_of peers id))
two_rows p q peers id = row_cons p (q ∷ peers) id ∙ ap (cond (eqb (id_of p) id) p) (row_cons q peers id)

-- Two rows of different ids may change places.
first_either : (a b : Bool) (p q other : Peer) → a && b ≡ false → cond a p (cond b q other) ≡ cond b q (cond a p other)
first_either true true p q other e = cc
first_either true false p q other e = refl
first_either false b p q other e = refl

not_both : (x y id : ℕ) (a b : Bool) → eqb x id ≡ a → eqb y id ≡ b → eqb y x ≡ false → a && b ≡ false
not_both x y id true true e f n = sym (eq-eqb y x (eqb-true y id f ∙ sym (eqb-true x id e))) ∙ n
not_both x y id true false e f n = refl
not_both x y id false b e f n = refl

apart : (e a d : Bool) → not (e || a) && d ≡ true → e ≡ false
apart true a d h = sym h
apart false a d h = refl

behind_distinct : (x : ℕ) (xs : List ℕ) → distinct (x ∷ xs) ≡ true → distinct xs ≡ true
unfolding distinct
behind_distinct x xs h = ((and-eq-true_iff (not (has x xs)) (distinct xs)).0 h).1

heads_apart : (x y : ℕ) (xs : List ℕ) → distinct (x ∷ y ∷ xs) ≡ true → eqb y x ≡ false
unfolding distinct
heads_apart x y xs h = apart (eqb y x) (has x xs) (distinct (y ∷ xs)) (rw (sym (has_cons x y xs)) h)

row_reordered : {peers others : List Peer} → Reordered peers others → distinct (map id_of peers) ≡ true → (id : ℕ) → row_of peers id ≡ row_of others id
row_reordered none h id = refl
row_reordered (keep p {xs} {ys} r) h id = row_cons p xs id ∙ ap (cond (eqb (id_of p) id) p) (row_reordered r (behind_distinct (id_of p) (map id_of xs) h) id) ∙ sym (row_cons p ys id)
row_reordered (swap p q peers) h id =
    two_rows p q peers id
    ∙ first_either (eqb (id_of p) id) (eqb (id_of q) id) p q (row_of peers id) (not_both (id_of p) (id_of q) id _ _ refl refl (heads_apart (id_of p) (id_of q) (map id_of peers) h))
    ∙ sym (two_rows q p peers id)
row_reordered (then r s) h id = row_reordered r h id ∙ row_reordered s (sym (distinct_reordered (map_reordered id_of r)) ∙ h) id

module _ {peers others : List Peer} (r : Reordered peers others) where
  rows_check_lem : rows_check peers ≡ rows_check others
  rows_check_lem = rw (length-reordered r, distinct_reordered (map_reordered id_of r))

  -- One half: each voter reads the same row.
  module _ (k : Check) (passed : both_checks k (rows_check peers) ≡ fine) where
    same_row : (id : ℕ) → row_of peers id ≡ row_of others id
    same_row = row_reordered r (distinct_rows peers ((both_fine k (rows_check peers)).0 passed).1)

    acks_read : (v : Voters) → acks_of peers v ≡ acks_of others v
    acks_read v = map_congr_left {l = voters_of v} (λ id m. ap (λ (p : Peer). ack_number p.ack) (same_row id))

    votes_read : (v : Voters) → votes_of peers v ≡ votes_of others v
    votes_read v = map_congr_left {l = voters_of v} (λ id m. ap (λ (p : Peer). p.vote) (same_row id))

  -- A question that reads the rows by its check and by its voters.
  answer_rows : {A : Type 0} (k : Check) {x y : Answer A} → (both_checks k (rows_check peers) ≡ fine → x ≡ y) → unless (both_checks k (rows_check peers)) x ≡ unless (both_checks k (rows_check others)) y
  answer_rows k e = sym (answered_alike k (sym rows_check_lem) (λ passed. sym (e passed)))

  pub committed_index_rows : (v : Voters) → committed_index v peers ≡ committed_index v others
  unfolding committed_index
  committed_index_rows v = answer_rows (voters_check v) (λ e. cc (acks_read (voters_check v) e v))

  pub vote_result_rows : (v : Voters) → vote_result v peers ≡ vote_result v others
  unfolding vote_result
  vote_result_rows v = answer_rows (voters_check v) (λ e. cc (votes_read (voters_check v) e v))

  pub joint_index_rows : (c : JointConfig) → joint_committed_index c peers ≡ joint_committed_index c others
  unfolding joint_committed_index
  joint_index_rows c = answer_rows (config_check c) (λ e. cc (acks_read (config_check c) e c.incoming, acks_read (config_check c) e c.outgoing))

  pub joint_verdict_rows : (c : JointConfig) → joint_vote_result c peers ≡ joint_vote_result c others
  unfolding joint_vote_result
  joint_verdict_rows c = answer_rows (config_check c) (λ e. cc (votes_read (config_check c) e c.incoming, votes_read (config_check c) e c.outgoing))
