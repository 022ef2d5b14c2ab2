-- `matched` meets its contract: where the previous record matches, the log holds it.
use Rattle.std.proofs.Common.{sym, arith}
use Rattle.raft_log.proofs.Appending.{held_within}
use Rattle.raft_log.proofs.Searching.{same_not}
use Rattle.raft_log.proofs.append.matched.Goals as goal

pub first_conflict-k-requires : goal.first_conflict-k-requires
first_conflict-k-requires c =
    held_within _ _ _ _ _ c.args.held.good (sym c.if-is_outside.ensures) (same_not (omega arith))
