-- A vote of somebody is won exactly if it is sure, lost exactly if it is hopeless: the fewest and the most yes that it can end with are the two sums that the computation compares with the quorum.
use Prim.Native.Nat.{suc, ◌+◌, ◌≤◌, ◌<◌}
use mathlib.Core.Path.{◌≡◌, refl, sym, ap, ◌∙◌}
use mathlib.Core.Bool.{Bool, true, false, cond}
use mathlib.Core.List.{List, [], ◌∷◌}
use mathlib.Core.Logic.{◌↔◌, ◌⊎◌, inl, inr, ⊎_elim}
use native.Mathlib.Omega.{arith}
use lib.ListN.{length}
use lib.Dec.{eqb, leb}
use borrow.Author.Tests.{le-leb, lt-leb, ne_eqb}
use Rattle.std.specs.Prelude.{Some, None, Option}
use Rattle.units.proofs.Cond.{both_ends}
use Rattle.units.proofs.Never.{never}
use Rattle.units.proofs.Numbers.{below_or_not}
use Rattle.rules.specs.Count.{count, Reordered}
use Rattle.rules.specs.Majority.{quorum}
use Rattle.rules.proofs.Count.{length-reordered, count_reordered}
use Rattle.quorum.specs.Votes.{is_yes, is_missing, result_of, Ends, none, yea, nay, free, yes_in, Sure, Hopeless, joint_result}
use Rattle.quorum.specs.declared.VoteResult.{VoteResult}
use Rattle.quorum.specs.declared.VoteResult.TheVariants as result
use Rattle.quorum_laws.specs.JointRule.{Wins, Loses}

-- However it ends, yes has at least those that said so, and at most those and the missing.
fewest : {votes : List (Option Bool)} {ends : List Bool} → Ends votes ends → count is_yes votes ≤ yes_in ends
unfolding count
fewest none = omega arith
fewest (yea e) = omega (arith, fewest e)
fewest (nay e) = fewest e
fewest (free true e) = omega (arith, fewest e)
fewest (free false e) = fewest e

most : {votes : List (Option Bool)} {ends : List Bool} → Ends votes ends → yes_in ends ≤ count is_yes votes + count is_missing votes
unfolding count
most none = omega arith
most (yea e) = omega (arith, most e)
most (nay e) = most e
most (free true e) = omega (arith, most e)
most (free false e) = omega (arith, most e)

-- Both are met: every missing vote becomes a no, or every one a yes.
unfoldable filled : Bool → List (Option Bool) → List Bool
filled b [] = []
filled b (None ∷ votes) = b ∷ filled b votes
filled b (Some true ∷ votes) = true ∷ filled b votes
filled b (Some false ∷ votes) = false ∷ filled b votes

filled_ends : (b : Bool) (votes : List (Option Bool)) → Ends votes (filled b votes)
unfolding filled
filled_ends b [] = none
filled_ends b (None ∷ votes) = free b (filled_ends b votes)
filled_ends b (Some true ∷ votes) = yea (filled_ends b votes)
filled_ends b (Some false ∷ votes) = nay (filled_ends b votes)

all_no : (votes : List (Option Bool)) → yes_in (filled false votes) ≡ count is_yes votes
unfolding filled count
all_no [] = refl
all_no (None ∷ votes) = all_no votes
all_no (Some true ∷ votes) = ap suc (all_no votes)
all_no (Some false ∷ votes) = all_no votes

all_yes : (votes : List (Option Bool)) → yes_in (filled true votes) ≡ count is_yes votes + count is_missing votes
unfolding filled count
all_yes [] = omega arith
all_yes (None ∷ votes) = omega (arith, all_yes votes)
all_yes (Some true ∷ votes) = omega (arith, all_yes votes)
all_yes (Some false ∷ votes) = all_yes votes

-- What the computation leaves open once one of its two tests is known.
not_won : (b : Bool) → cond b result.Pending result.Lost ≡ result.Won → ⊥
not_won b = both_ends (λ r. r ≡ result.Won → ⊥) b (λ e. never cc) (λ e. never cc)

not_lost : (b : Bool) → cond b result.Won result.Pending ≡ result.Lost → ⊥
not_lost b = both_ends (λ r. r ≡ result.Lost → ⊥) b (λ e. never cc) (λ e. never cc)

-- Whatever won and lost amount to, pending is neither.
module _ {W L : Type 0} where
  neither : (r : VoteResult) → (r ≡ result.Won → W) → (r ≡ result.Lost → L) → (¬ W) × (¬ L) → r ≡ result.Pending
  neither result.Pending w l n = refl
  neither result.Lost w l n = absurd (n.1 (l refl))
  neither result.Won w l n = absurd (n.0 (w refl))

  pub pending_if_neither : (r : VoteResult) → (r ≡ result.Won) ↔ W → (r ≡ result.Lost) ↔ L → (r ≡ result.Pending) ↔ ((¬ W) × (¬ L))
  pending_if_neither r won lost = ((λ e. ((λ w. never (cc (won.1 w))), (λ l. never (cc (lost.1 l))))), neither r won.0 lost.0)

module _ (votes : List (Option Bool)) (some : 0 < length votes) where
  somebody : eqb (length votes) 0 ≡ false
  somebody = ne_eqb (length votes) 0 (λ e. omega arith)

  below : count is_yes votes < quorum (length votes) → result_of votes ≡ cond (leb (quorum (length votes)) (count is_yes votes + count is_missing votes)) result.Pending result.Lost
  below h = rw (somebody, lt-leb (quorum (length votes)) (count is_yes votes) h)

  within_reach : quorum (length votes) ≤ count is_yes votes + count is_missing votes → result_of votes ≡ cond (leb (quorum (length votes)) (count is_yes votes)) result.Won result.Pending
  within_reach h = rw (somebody, le-leb (quorum (length votes)) (count is_yes votes + count is_missing votes) h)

  sure_won : Sure votes → result_of votes ≡ result.Won
  sure_won s = rw (somebody, le-leb (quorum (length votes)) (count is_yes votes) (omega (arith, s (filled false votes) (filled_ends false votes), all_no votes)))

  won_sure : result_of votes ≡ result.Won → Sure votes
  won_sure e ends p =
      ⊎_elim (λ h. absurd (not_won (leb (quorum (length votes)) (count is_yes votes + count is_missing votes)) (sym (below h) ∙ e))) (λ h. omega (arith, fewest p)) (below_or_not (count is_yes votes) (quorum (length votes)))

  hopeless_lost : Hopeless votes → result_of votes ≡ result.Lost
  hopeless_lost h =
      let g : count is_yes votes + count is_missing votes < quorum (length votes) = omega (arith, h (filled true votes) (filled_ends true votes), all_yes votes) in
      below (omega arith) ∙ rw (lt-leb (quorum (length votes)) (count is_yes votes + count is_missing votes) g)

  lost_hopeless : result_of votes ≡ result.Lost → Hopeless votes
  lost_hopeless e ends p =
      ⊎_elim (λ h. omega (arith, most p)) (λ h. absurd (not_lost (leb (quorum (length votes)) (count is_yes votes)) (sym (within_reach h) ∙ e))) (below_or_not (count is_yes votes + count is_missing votes) (quorum (length votes)))

  -- THE THEOREMS
  pub won_exactly_if_sure : (result_of votes ≡ result.Won) ↔ Sure votes
  won_exactly_if_sure = (won_sure, sure_won)

  pub lost_exactly_if_hopeless : (result_of votes ≡ result.Lost) ↔ Hopeless votes
  lost_exactly_if_hopeless = (lost_hopeless, hopeless_lost)

  pub pending_exactly_if_neither : (result_of votes ≡ result.Pending) ↔ ((¬ Sure votes) × (¬ Hopeless votes))
  pending_exactly_if_neither = pending_if_neither (result_of votes) won_exactly_if_sure lost_exactly_if_hopeless

-- 01: "an empty set is Won". The rule itself can't say so: no list reaches the quorum of nobody, which is 1.
pub nobody_wins : result_of [] ≡ result.Won
nobody_wins = refl

-- The order of the votes doesn't matter.
pub result_reordered : {votes others : List (Option Bool)} → Reordered votes others → result_of votes ≡ result_of others
result_reordered r = rw (length-reordered r, count_reordered is_yes r, count_reordered is_missing r)

-- One half of a joint configuration, which may be empty.
pub half_won : (votes : List (Option Bool)) → (result_of votes ≡ result.Won) ↔ Wins votes
half_won [] = ((λ e some. let z : ⊥ = omega arith in absurd z), (λ w. nobody_wins))
half_won (v ∷ votes) =
    let e : (result_of (v ∷ votes) ≡ result.Won) ↔ Sure (v ∷ votes) = won_exactly_if_sure (v ∷ votes) (omega arith) in
    ((λ won some. e.0 won), (λ w. e.1 (w (omega arith))))

pub half_lost : (votes : List (Option Bool)) → (result_of votes ≡ result.Lost) ↔ Loses votes
half_lost [] = ((λ e. never cc), (λ l. let w : ⊥ = omega (arith, l.0) in absurd w))
half_lost (v ∷ votes) =
    let e : (result_of (v ∷ votes) ≡ result.Lost) ↔ Hopeless (v ∷ votes) = lost_exactly_if_hopeless (v ∷ votes) (omega arith) in
    ((λ lost. (omega arith, e.0 lost)), (λ l. e.1 l.1))

-- Both halves.
pub both_won : (a b : VoteResult) → (joint_result a b ≡ result.Won) ↔ ((a ≡ result.Won) × (b ≡ result.Won))
both_won result.Won b = ((λ e. (refl, e)), (λ e. e.1))
both_won result.Lost b = ((λ e. ((cc), (cc))), (λ e. cc))
both_won result.Pending result.Won = ((λ e. ((cc), (cc))), (λ e. cc))
both_won result.Pending result.Lost = ((λ e. ((cc), (cc))), (λ e. cc))
both_won result.Pending result.Pending = ((λ e. ((cc), (cc))), (λ e. cc))

pub either_lost : (a b : VoteResult) → (joint_result a b ≡ result.Lost) ↔ ((a ≡ result.Lost) ⊎ (b ≡ result.Lost))
either_lost result.Won b = ((λ e. inr e), ⊎_elim (λ e. cc) (λ e. e))
either_lost result.Lost b = ((λ e. inl refl), (λ e. refl))
either_lost result.Pending result.Won = ((λ e. inl (cc)), ⊎_elim (λ e. cc) (λ e. cc))
either_lost result.Pending result.Lost = ((λ e. inr refl), (λ e. refl))
either_lost result.Pending result.Pending = ((λ e. inl (cc)), ⊎_elim (λ e. cc) (λ e. cc))
