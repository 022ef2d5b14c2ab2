-- What the theorems about the quorum questions speak of. A reader must know: `Whole` and `JointWhole` say that nothing is wrong with what was asked; `WordRows` is all that is granted of rows; `SameVoters` says that two sets differ in nothing but their order.
-- The rest is said of both halves at once.
use Rattle.std.specs.Prelude.{ℕ, ◌≤◌, ◌≡◌, List, [], map, ◌⊎◌}
use Rattle.units.specs.Units.{word_max}
use Rattle.units.specs.Refusals.{both_checks, fine}
use Rattle.units.specs.Lists.{Each}
use Rattle.rules.specs.Count.{Reordered}
use Rattle.quorum.specs.Rows.{ack_number, rows_check}
use Rattle.quorum.specs.Voters.{voters_of, voters_check}
use Rattle.quorum.specs.Majority.{votes_of}
use Rattle.quorum.specs.Joint.{config_check}
use Rattle.quorum.specs.declared.majority.Voters.{Voters}
use Rattle.quorum.specs.declared.joint.JointConfig.{JointConfig}
use Rattle.quorum.specs.declared.rows.Peer.{Peer}
use Rattle.quorum_laws.specs.JointRule.{Wins, Loses}

-- Nothing is wrong with the set, nor with the rows: none of what the table of 01 names in line 12, "over 7 voters, a repeated voter id, over 64 rows, a repeated row id".
abbrev pub Whole : Voters → List Peer → Type 0
Whole v peers = both_checks (voters_check v) (rows_check peers) ≡ fine

-- The same of a configuration. 01, Joint: "Two sets, incoming and outgoing."
abbrev pub JointWhole : JointConfig → List Peer → Type 0
JointWhole c peers = both_checks (config_check c) (rows_check peers) ≡ fine

-- Each acknowledgement is a number of 64 bits, as the code's are: at most the index of nobody, which 01, Joint, names: "u64::MAX if both are empty".
abbrev pub Words : List ℕ → Type 0
Words acks = Each (λ a. a ≤ word_max) acks

-- Each acknowledgement in the rows is such a number. 01: "A peer row holds its acknowledgement as missing or a number".
abbrev pub WordRows : List Peer → Type 0
WordRows peers = Words (map (λ p. ack_number p.ack) peers)

-- Nobody is a voter of either half. 01, Joint: "u64::MAX if both are empty".
abbrev pub NoVoters : JointConfig → Type 0
NoVoters c = (voters_of c.incoming ≡ []) × (voters_of c.outgoing ≡ [])

-- 01, Joint: "Won if Won in both".
abbrev pub JointWins : JointConfig → List Peer → Type 0
JointWins c peers = Wins (votes_of peers c.incoming) × Wins (votes_of peers c.outgoing)

-- 01, Joint: "Lost if Lost in either".
abbrev pub JointLoses : JointConfig → List Peer → Type 0
JointLoses c peers = Loses (votes_of peers c.incoming) ⊎ Loses (votes_of peers c.outgoing)

-- The same voters in another order. 01, "What must change shape": "`HashSet`: a duplicate-free array with a count." (The count is a word of its own beside the ids, so it is named too.)
pub record SameVoters (v w : Voters) : Type 0 where
  pub as_many : v.count ≡ w.count
  pub reordered : Reordered (voters_of v) (voters_of w)
