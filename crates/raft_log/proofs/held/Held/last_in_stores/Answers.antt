-- `last_in_stores` meets its contract: the search in pending is the log's past the settled records, and where it finds nothing the log's goes on from there.
use Rattle.std.proofs.Common.{◌+◌, ◌-◌, ◌≤◌, arith}
use Rattle.raft_log.proofs.Downwards.{over_pending, over_within, over_hit, over_none}
use Rattle.raft_log.proofs.held.Held.last_in_stores.Goals as goal

pub overflow_add-result : goal.overflow_add-result
overflow_add-result c =
    let within : c.args.self.log.offset.0 - 1 + c.last_at_most-k.result ≤ c.args.i =
    over_within (over_pending c.args.self.good _ c.args.t (omega arith)) (omega arith) c.last_at_most-k.ensures in
    omega arith

pub returns-then-k-gt0 : goal.returns-then-k-gt0
returns-then-k-gt0 c =
    over_hit (over_pending c.args.self.good _ c.args.t (omega arith)) (omega arith) c.last_at_most-k.ensures (omega arith)

pub returns : goal.returns
returns c =
    over_none (over_pending c.args.self.good _ c.args.t (omega arith)) (omega arith) c.last_at_most-k.ensures (omega arith) c.last_in_settled-2.ensures
