-- How a vote stands. A reader must know: the rule is `Sure` and `Hopeless`, over every way in which the missing votes can still come in; `result_of` computes it, as document 01 words it.
-- That the second is the first is proved in the crate quorum_laws.
use Rattle.std.specs.Prelude.{ℕ, ◌+◌, ◌≤◌, ◌<◌, Bool, true, false, cond, List, [], ◌∷◌, length, eqb, leb, Some, None, Option}
use Rattle.rules.specs.Count.{count}
use Rattle.rules.specs.Majority.{quorum}
use Rattle.quorum.specs.declared.VoteResult.{VoteResult}
use Rattle.quorum.specs.declared.VoteResult.TheVariants as result

-- THE COMPUTATION, from how many voters there are, how many said yes and how many are missing.
-- 01, Majority: "an empty set is Won; otherwise Won if yes reaches the quorum, else Pending if yes plus missing reaches it, else Lost."
abbrev pub tally : ℕ → ℕ → ℕ → VoteResult
tally voters said missing =
    cond (eqb voters 0) result.Won
    (cond (leb (quorum voters) said) result.Won
    (cond (leb (quorum voters) (said + missing)) result.Pending result.Lost))

-- The vote is a yes. For "Won if yes reaches the quorum".
abbrev pub is_yes : Option Bool → Bool
is_yes None = false
is_yes (Some true) = true
is_yes (Some false) = false

-- The vote is missing. For "else Pending if yes plus missing reaches it".
abbrev pub is_missing : Option Bool → Bool
is_missing None = true
is_missing (Some true) = false
is_missing (Some false) = false

-- The same, from the votes themselves. 01: "its vote as missing, yes or no".
abbrev pub result_of : List (Option Bool) → VoteResult
result_of votes = tally (length votes) (count is_yes votes) (count is_missing votes)

-- THE RULE. The ways in which a vote can end: each missing vote becomes a yes or a no, every other stays. For `Sure` and `Hopeless`, 01's Won and Lost.
pub data Ends : List (Option Bool) → List Bool → Type 0 where
  none : Ends [] []
  yea : {votes : List (Option Bool)} {ends : List Bool} → Ends votes ends → Ends (Some true ∷ votes) (true ∷ ends)
  nay : {votes : List (Option Bool)} {ends : List Bool} → Ends votes ends → Ends (Some false ∷ votes) (false ∷ ends)
  free : (b : Bool) {votes : List (Option Bool)} {ends : List Bool} → Ends votes ends → Ends (None ∷ votes) (b ∷ ends)

-- How many have said yes in the end. For "yes reaches the quorum".
abbrev pub yes_in : List Bool → ℕ
yes_in ends = count (λ b. b) ends

-- Won: a majority says yes, however it ends. The paper, 5.2: "A candidate wins an election if it receives votes from a majority of the servers in the full cluster".
abbrev pub Sure : List (Option Bool) → Type 0
Sure votes = (ends : List Bool) → Ends votes ends → quorum (length votes) ≤ yes_in ends

-- Lost: no majority says yes, however it ends. 01, Majority: "else Pending if yes plus missing reaches it, else Lost."
abbrev pub Hopeless : List (Option Bool) → Type 0
Hopeless votes = (ends : List Bool) → Ends votes ends → yes_in ends < quorum (length votes)

-- THE PROMISE of `joint_result`. 01, Joint: "Won if Won in both, Lost if Lost in either, else Pending."
abbrev pub joint_result : VoteResult → VoteResult → VoteResult
joint_result result.Won b = b
joint_result result.Lost b = result.Lost
joint_result result.Pending result.Won = result.Pending
joint_result result.Pending result.Lost = result.Lost
joint_result result.Pending result.Pending = result.Pending
