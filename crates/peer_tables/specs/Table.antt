-- Peer rows by value. 01 has no such call: its questions "read a lent list of peer rows". A table holds the rows in an array and lends them on (docs/DECISIONS.md, 11), so that programs that hold rows run the lent calls.
-- A reader must know: the rows of a table are the first `count`; over the limit every question is refused with 12, and else its answer is that of the lent rows.
use Rattle.std.specs.Prelude.{◌+◌, min, Bool, cond, List, take, set, replicate, ltb, Ok, Err}
use Rattle.units.specs.declared.refusal.Refusal.TheVariants as refusal
use Rattle.units.specs.Refusals.{Answer}
use Rattle.units.specs.declared.Index.{Index}
use Rattle.quorum.specs.Limits.{row_limit}
use Rattle.quorum.specs.Rows.{nobody}
use Rattle.quorum.specs.Majority.{committed_index, vote_result}
use Rattle.quorum.specs.Joint.{joint_committed_index, joint_vote_result}
use Rattle.quorum.specs.declared.joint.JointConfig.{JointConfig}
use Rattle.quorum.specs.declared.majority.Voters.{Voters}
use Rattle.quorum.specs.declared.rows.Peer.{Peer}
use Rattle.peer_tables.specs.declared.Table.{Table}
use Rattle.quorum.specs.declared.VoteResult.{VoteResult}

-- THE PROMISE of `empty`: none is counted, and every row is nobody's, "missing everywhere".
abbrev pub no_rows : Table
no_rows = record { peers = replicate row_limit nobody; count = 0 }

-- THE PROMISE of `with`: the row stands behind the others, and one more is counted. In a full table there is no place to `set`, so the rows stay, and the count stops at one over the limit, which says "over 64 rows".
abbrev pub with_row : Table → Peer → Table
with_row t p = record { peers = set t.peers t.count p; count = min t.count row_limit + 1 }

-- The rows of a table, as they are lent on: "a lent list of peer rows".
abbrev pub rows_in : Table → List Peer
rows_in t = take t.count t.peers

-- 01, refusal 12: "over 64 rows".
abbrev pub too_many : Table → Bool
too_many t = ltb row_limit t.count

-- THE PROMISE of `rows`: refusal 12, "over 64 rows", else the rows, lent on.
abbrev pub rows_lent : Table → Answer (List Peer)
rows_lent t = cond (too_many t) (Err refusal.BrokenSet) (Ok (rows_in t))

-- THE PROMISE of `majority::committed_index`: refusal 12, "over 64 rows", else the answer of the lent ones; 01's sentence stands beside `committed_index` (quorum/specs/Majority.antt).
abbrev pub table_committed_index : Voters → Table → Answer (Index × Bool)
table_committed_index v t = cond (too_many t) (Err refusal.BrokenSet) (committed_index v (rows_in t))

-- THE PROMISE of `majority::vote_result`: the same by `vote_result`, there.
abbrev pub table_vote_result : Voters → Table → Answer VoteResult
table_vote_result v t = cond (too_many t) (Err refusal.BrokenSet) (vote_result v (rows_in t))

-- THE PROMISE of `joint::committed_index`: the same by `joint_committed_index` (quorum/specs/Joint.antt).
abbrev pub table_joint_committed_index : JointConfig → Table → Answer (Index × Bool)
table_joint_committed_index c t = cond (too_many t) (Err refusal.BrokenSet) (joint_committed_index c (rows_in t))

-- THE PROMISE of `joint::vote_result`: the same by `joint_vote_result`, there.
abbrev pub table_joint_vote_result : JointConfig → Table → Answer VoteResult
table_joint_vote_result c t = cond (too_many t) (Err refusal.BrokenSet) (joint_vote_result c (rows_in t))
