-- From the rules to the promises: an answer of a quorum question is fixed by the rule, and refused exactly if a check refuses.
use Prim.Native.Nat.{ℕ, zero, suc, ◌≤◌, ◌<◌}
use mathlib.Core.Path.{◌≡◌, refl, sym, ap, subst, ◌∙◌}
use mathlib.Core.Bool.{Bool, true, false}
use mathlib.Core.List.{List, [], ◌∷◌, map, map-eq-nil_iff}
use mathlib.Core.Logic.Iff
use mathlib.Core.Logic.{◌↔◌, ◌⊎◌, ⊎_map}
use native.Mathlib.Omega.{arith}
use lib.ListN.{length, get_or, length-map}
use Rattle.std.specs.Prelude.{Ok, Err}
use Rattle.units.specs.Units.{word_max, index_of}
use Rattle.units.specs.Refusals.{both_checks, Check, fine}
use Rattle.units.specs.declared.refusal.Refusal.{Refusal}
use Rattle.units.specs.declared.refusal.Refusal.TheVariants as refusal
use Rattle.units.specs.declared.Index.{Index}
use Rattle.units.proofs.Never.{never}
use Rattle.rules.specs.Majority.{Commits}
use Rattle.rules.proofs.Majority.{committed_commits, commits_committed}
use Rattle.quorum.specs.Rows.{nobody, id_of, ack_number}
use Rattle.quorum.specs.Ids.{position}
use Rattle.quorum.specs.Voters.{voters_of, voters_check}
use Rattle.quorum.specs.Votes.{result_of, joint_result}
use Rattle.quorum.specs.Half.{half_index, joined}
use Rattle.quorum.specs.Majority.{index_unless, result_unless, acks_of, votes_of, committed_index, vote_result, match_index}
use Rattle.quorum.specs.Joint.{one_set, config_check, joint_committed_index, joint_vote_result, is_singleton, contains_of, joint_ids}
use Rattle.quorum.specs.declared.VoteResult.{VoteResult}
use Rattle.quorum.specs.declared.VoteResult.TheVariants as result
use Rattle.quorum.specs.declared.half.Half.{Half}
use Rattle.quorum.specs.declared.majority.Voters.{Voters}
use Rattle.quorum.specs.declared.joint.JointConfig.{JointConfig}
use Rattle.quorum.specs.declared.rows.Peer.{Peer}
use Rattle.quorum_laws.specs.JointRule.{JointCommits, Wins, Loses}
use Rattle.quorum_laws.specs.Questions.{Whole, JointWhole, Words, WordRows, NoVoters, JointWins, JointLoses}
use Rattle.quorum_laws.proofs.Checks.{voters_twelve, config_twelve, with_rows_twelve, refused_by_twelve}
use Rattle.quorum_laws.proofs.Votes.{pending_if_neither, half_won, half_lost, both_won, either_lost}
use Rattle.quorum_laws.proofs.Joint.{joint_unique, index_fits, joined_commits, joined_free, joined_one_set}
use Rattle.quorum_laws.proofs.Made.{empty_fine}

-- An answer that is no refusal: the check is fine, and the values are the half's, or the vote's.
pub at_exactly_if : (k : Check) (h : Half) (n : ℕ) (b : Bool) → (index_unless k h ≡ Ok (index_of n, b)) ↔ ((k ≡ fine) × ((h.index ≡ n) × (h.free ≡ b)))
at_exactly_if (Ok _) h n b = ((λ e. let same : (index_of h.index, h.free) ≡ (index_of n, b) = cc in (refl, (ap (λ (p : Index × Bool). p.0.0) same, ap (λ (p : Index × Bool). p.1) same))), (λ e. cc (e.1.0, e.1.1)))
at_exactly_if (Err m) h n b = ((λ e. ((cc), ((cc), (cc)))), (λ e. cc e.0))

stands_exactly_if : (k : Check) (r s : VoteResult) → (result_unless k r ≡ Ok s) ↔ ((k ≡ fine) × (r ≡ s))
stands_exactly_if (Ok _) r s = ((λ e. (refl, (cc))), (λ e. ap Ok e.1))
stands_exactly_if (Err m) r s = ((λ e. ((cc), (cc))), (λ e. cc e.0))

-- Something is read of the voters where somebody is one.
somebody_read : {A : Type 0} (f : ℕ → A) (ids : List ℕ) → (0 < length (map f ids)) ↔ (0 < length ids)
somebody_read f ids = rw (length-map ids f) Iff.rfl

-- ONE SET. Where it has voters, the index is the largest that a majority of them has reached; where it has none, it is the largest word.
some_index : (acks : List ℕ) (n : ℕ) → (((half_index acks).index ≡ n) × ((half_index acks).free ≡ false)) ↔ ((0 < length acks) × Commits acks n)
unfolding half_index
some_index [] n = ((λ e. never (cc e.1)), (λ e. let w : ⊥ = omega (arith, e.0) in absurd w))
some_index (a ∷ acks) n = ((λ e. (omega arith, rw (sym e.0) (committed_commits (a ∷ acks) (omega arith)))), (λ e. (sym (commits_committed (a ∷ acks) n e.0 e.1), refl)))

no_index : (acks : List ℕ) (n : ℕ) → (((half_index acks).index ≡ n) × ((half_index acks).free ≡ true)) ↔ ((acks ≡ []) × (n ≡ word_max))
unfolding half_index
no_index [] n = ((λ e. (refl, sym e.0)), (λ e. (sym e.1, refl)))
no_index (a ∷ acks) n = ((λ e. ((cc e.1), (cc e.1))), (λ e. ((cc e.0), (cc e.0))))

module _ (v : Voters) (peers : List Peer) where
  pub index_answer : (n : ℕ) → (committed_index v peers ≡ Ok (index_of n, false)) ↔ (Whole v peers × ((0 < length (voters_of v)) × Commits (acks_of peers v) n))
  unfolding committed_index
  index_answer n = Iff.trans (at_exactly_if _ _ n false) (Iff.and Iff.rfl (Iff.trans (some_index (acks_of peers v) n) (Iff.and (somebody_read _ (voters_of v)) Iff.rfl)))

  pub nobody_answer : (n : ℕ) → (committed_index v peers ≡ Ok (index_of n, true)) ↔ (Whole v peers × ((voters_of v ≡ []) × (n ≡ word_max)))
  unfolding committed_index
  nobody_answer n = Iff.trans (at_exactly_if _ _ n true) (Iff.and Iff.rfl (Iff.trans (no_index (acks_of peers v) n) (Iff.and (map-eq-nil_iff _) Iff.rfl)))

  pub index_refused : (n : Refusal) → (committed_index v peers ≡ Err n) ↔ ((¬ Whole v peers) × (n ≡ refusal.BrokenSet))
  unfolding committed_index
  index_refused n = refused_by_twelve _ _ (with_rows_twelve (voters_check v) peers (voters_twelve v)) n

  pub vote_answer : (r : VoteResult) → (vote_result v peers ≡ Ok r) ↔ (Whole v peers × (result_of (votes_of peers v) ≡ r))
  unfolding vote_result
  vote_answer r = stands_exactly_if _ _ r

  pub won_answer : (vote_result v peers ≡ Ok result.Won) ↔ (Whole v peers × Wins (votes_of peers v))
  won_answer = Iff.trans (vote_answer result.Won) (Iff.and Iff.rfl (half_won (votes_of peers v)))

  pub lost_answer : (vote_result v peers ≡ Ok result.Lost) ↔ (Whole v peers × Loses (votes_of peers v))
  lost_answer = Iff.trans (vote_answer result.Lost) (Iff.and Iff.rfl (half_lost (votes_of peers v)))

  pub pending_answer : (vote_result v peers ≡ Ok result.Pending) ↔ (Whole v peers × ((¬ Wins (votes_of peers v)) × (¬ Loses (votes_of peers v))))
  pending_answer = Iff.trans (vote_answer result.Pending) (Iff.and Iff.rfl (pending_if_neither _ (half_won (votes_of peers v)) (half_lost (votes_of peers v))))

  pub vote_refused : (n : Refusal) → (vote_result v peers ≡ Err n) ↔ ((¬ Whole v peers) × (n ≡ refusal.BrokenSet))
  unfolding vote_result
  vote_refused n = refused_by_twelve _ _ (with_rows_twelve (voters_check v) peers (voters_twelve v)) n

-- BOTH HALVES. Where each acknowledgement in the rows is a number of 64 bits, so is each that a voter reads there.
row_word : (peers : List Peer) → WordRows peers → (at : ℕ) → ack_number (get_or peers at nobody).ack ≤ word_max
row_word [] w at = omega arith
row_word (p ∷ peers) w zero = w.0
row_word (p ∷ peers) w (suc at) = row_word peers w.1 at

read_words : (peers : List Peer) → WordRows peers → (ids : List ℕ) → Words (map (match_index peers) ids)
read_words peers w [] = tt
read_words peers w (id ∷ ids) = (row_word peers w (position id (map id_of peers)), read_words peers w ids)

same_flag : (a b : Bool) → (a ≡ true) ↔ (b ≡ true) → a ≡ b
same_flag true b h = sym (h.0 refl)
same_flag false true h = h.1 refl
same_flag false false h = refl

joint_values : (xs ys : List ℕ) → Words xs → Words ys → (n : ℕ) (b : Bool)
    → (((joined (half_index xs) (half_index ys)).index ≡ n) × ((joined (half_index xs) (half_index ys)).free ≡ b)) ↔ (JointCommits xs ys n × ((b ≡ true) ↔ ((xs ≡ []) × (ys ≡ []))))
joint_values xs ys v w n b = (
  (λ e. (subst (JointCommits xs ys) e.0 (joined_commits xs ys v w), subst (λ (t : Bool). (t ≡ true) ↔ ((xs ≡ []) × (ys ≡ []))) e.1 (joined_free xs ys))),
  (λ e. (joint_unique (joined_commits xs ys v w) e.0, same_flag _ b (Iff.trans (joined_free xs ys) (Iff.symm e.1)))),
)

either_of : {A B C D : Type 0} → A ↔ C → B ↔ D → (A ⊎ B) ↔ (C ⊎ D)
either_of h k = (⊎_map h.0 k.0, ⊎_map h.1 k.1)

module _ (c : JointConfig) (peers : List Peer) where
  pub joint_index_answer : WordRows peers → (n : ℕ) (b : Bool)
      → (joint_committed_index c peers ≡ Ok (index_of n, b)) ↔ (JointWhole c peers × (JointCommits (acks_of peers c.incoming) (acks_of peers c.outgoing) n × ((b ≡ true) ↔ NoVoters c)))
  unfolding joint_committed_index
  joint_index_answer w n b =
      Iff.trans (at_exactly_if _ _ n b)
      (Iff.and Iff.rfl
      (Iff.trans (joint_values _ _ (read_words peers w (voters_of c.incoming)) (read_words peers w (voters_of c.outgoing)) n b)
      (Iff.and Iff.rfl (same_right (Iff.and (map-eq-nil_iff _) (map-eq-nil_iff _))))))
    where
      same_right : {A B C : Type 0} → B ↔ C → (A ↔ B) ↔ (A ↔ C)
      same_right e = ((λ f. Iff.trans f e), (λ f. Iff.trans f (Iff.symm e)))

  pub joint_index_refused : (n : Refusal) → (joint_committed_index c peers ≡ Err n) ↔ ((¬ JointWhole c peers) × (n ≡ refusal.BrokenSet))
  unfolding joint_committed_index
  joint_index_refused n = refused_by_twelve _ _ (with_rows_twelve (config_check c) peers (config_twelve c)) n

  pub joint_vote_answer : (r : VoteResult) → (joint_vote_result c peers ≡ Ok r) ↔ (JointWhole c peers × (joint_result (result_of (votes_of peers c.incoming)) (result_of (votes_of peers c.outgoing)) ≡ r))
  unfolding joint_vote_result
  joint_vote_answer r = stands_exactly_if _ _ r

  joint_won : (joint_result (result_of (votes_of peers c.incoming)) (result_of (votes_of peers c.outgoing)) ≡ result.Won) ↔ JointWins c peers
  joint_won = Iff.trans (both_won _ _) (Iff.and (half_won (votes_of peers c.incoming)) (half_won (votes_of peers c.outgoing)))

  joint_lost : (joint_result (result_of (votes_of peers c.incoming)) (result_of (votes_of peers c.outgoing)) ≡ result.Lost) ↔ JointLoses c peers
  joint_lost = Iff.trans (either_lost _ _) (either_of (half_lost (votes_of peers c.incoming)) (half_lost (votes_of peers c.outgoing)))

  pub joint_won_answer : (joint_vote_result c peers ≡ Ok result.Won) ↔ (JointWhole c peers × JointWins c peers)
  joint_won_answer = Iff.trans (joint_vote_answer result.Won) (Iff.and Iff.rfl joint_won)

  pub joint_lost_answer : (joint_vote_result c peers ≡ Ok result.Lost) ↔ (JointWhole c peers × JointLoses c peers)
  joint_lost_answer = Iff.trans (joint_vote_answer result.Lost) (Iff.and Iff.rfl joint_lost)

  pub joint_pending_answer : (joint_vote_result c peers ≡ Ok result.Pending) ↔ (JointWhole c peers × ((¬ JointWins c peers) × (¬ JointLoses c peers)))
  joint_pending_answer = Iff.trans (joint_vote_answer result.Pending) (Iff.and Iff.rfl (pending_if_neither _ joint_won joint_lost))

  pub joint_vote_refused : (n : Refusal) → (joint_vote_result c peers ≡ Err n) ↔ ((¬ JointWhole c peers) × (n ≡ refusal.BrokenSet))
  unfolding joint_vote_result
  joint_vote_refused n = refused_by_twelve _ _ (with_rows_twelve (config_check c) peers (config_twelve c)) n

-- A configuration of one set answers as the set does.
then_fine : (k : Check) → both_checks k fine ≡ k
then_fine (Ok _) = refl
then_fine (Err n) = refl

then_won : (r : VoteResult) → joint_result r result.Won ≡ r
then_won result.Pending = refl
then_won result.Lost = refl
then_won result.Won = refl

one_set_check : (v : Voters) → config_check (one_set v) ≡ voters_check v
one_set_check v = ap (both_checks (voters_check v)) empty_fine ∙ then_fine (voters_check v)

module _ (v : Voters) (peers : List Peer) where
  pub one_set_index : WordRows peers → joint_committed_index (one_set v) peers ≡ committed_index v peers
  unfolding joint_committed_index committed_index
  one_set_index w = cc (one_set_check v, joined_one_set (acks_of peers v) (index_fits (acks_of peers v) (read_words peers w (voters_of v))))

  pub one_set_vote : joint_vote_result (one_set v) peers ≡ vote_result v peers
  unfolding joint_vote_result vote_result
  one_set_vote = cc (one_set_check v, then_won (result_of (votes_of peers v)))

-- The other questions of a configuration read no rows, and refuse where a half is broken.
module _ (c : JointConfig) where
  pub singleton_refused : (n : Refusal) → (is_singleton c ≡ Err n) ↔ ((¬ (config_check c ≡ fine)) × (n ≡ refusal.BrokenSet))
  singleton_refused n = refused_by_twelve _ (config_check c) (config_twelve c) n

  pub contains_refused : (id : ℕ) (n : Refusal) → (contains_of c id ≡ Err n) ↔ ((¬ (config_check c ≡ fine)) × (n ≡ refusal.BrokenSet))
  contains_refused id n = refused_by_twelve _ (config_check c) (config_twelve c) n

  pub ids_refused : (n : Refusal) → (joint_ids c ≡ Err n) ↔ ((¬ (config_check c ≡ fine)) × (n ≡ refusal.BrokenSet))
  ids_refused n = refused_by_twelve _ (config_check c) (config_twelve c) n
