-- The joint rule, as statements that know nothing of how it is computed. A reader must know: `JointCommits incoming outgoing n` says what the joint committed index of two halves is; `Wins` and `Loses` say it of the vote of one half.
-- That at most one number meets the first, and that the computations meet all three, is proved in proofs/Joint.antt and proofs/Votes.antt.
use Rattle.std.specs.Prelude.{ℕ, ◌≤◌, ◌<◌, List, length, Option, Bool}
use Rattle.units.specs.Units.{word_max}
use Rattle.rules.specs.Majority.{MajorityReached}
use Rattle.quorum.specs.Votes.{Sure, Hopeless}

-- A half backs m where nobody is in it, or a majority of it has acknowledged m or more. The paper, 6: "Agreement (for elections and entry commitment) requires separate majorities from both the old and new configurations."
abbrev pub Backs : List ℕ → ℕ → Type 0
Backs acks m = 0 < length acks → MajorityReached m acks

-- 01, Joint: "It is the largest number that a majority of every nonempty half has reached, u64::MAX if both are empty." The largest number of 64 bits, that is: where both are empty, every number is backed.
pub record JointCommits (incoming outgoing : List ℕ) (n : ℕ) : Type 0 where
  pub fits : n ≤ word_max
  pub by_incoming : Backs incoming n
  pub by_outgoing : Backs outgoing n
  pub largest : (m : ℕ) → m ≤ word_max → Backs incoming m → Backs outgoing m → m ≤ n

-- A half wins where nobody is in it, or a majority of it says yes, however the vote ends. 01, Majority: "an empty set is Won; otherwise Won if yes reaches the quorum".
abbrev pub Wins : List (Option Bool) → Type 0
Wins votes = 0 < length votes → Sure votes

-- It loses where somebody is in it, and no majority says yes, however the vote ends. 01, Majority: "else Pending if yes plus missing reaches it, else Lost."
abbrev pub Loses : List (Option Bool) → Type 0
Loses votes = (0 < length votes) × Hopeless votes
