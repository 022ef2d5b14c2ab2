-- `next_entries_bounds_since` meets its contract: where there is a next record, s is below the largest number.
use Rattle.std.proofs.Common.{sym, arith}
use Rattle.raft_log.proofs.Slices.{next_true}
use Rattle.raft_log.proofs.Log.next_entries_bounds_since.Goals as goal

pub overflow_add-s : goal.overflow_add-s
overflow_add-s c = omega (arith, (next_true c.in_ok-held.held.log c.args.s.0 (sym c.if-not-has_next.ensures)).0)
