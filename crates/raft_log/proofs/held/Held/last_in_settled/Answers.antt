-- `last_in_settled` meets its contract: the search in settled is the log's past the start, and where it finds nothing the log's goes on from there.
use Rattle.std.proofs.Common.{◌+◌, ◌≤◌, arith}
use Rattle.raft_log.proofs.Downwards.{over_settled, over_within, over_hit, over_none}
use Rattle.raft_log.proofs.held.Held.last_in_settled.Goals as goal

pub overflow_add-result : goal.overflow_add-result
overflow_add-result c =
    let within : c.args.self.log.start.0 + c.last_at_most-k.result ≤ c.args.i =
    over_within (over_settled c.args.self.good _ c.args.t (omega arith)) (omega arith) c.last_at_most-k.ensures in
    omega arith

pub returns-then-k-gt0 : goal.returns-then-k-gt0
returns-then-k-gt0 c =
    over_hit (over_settled c.args.self.good _ c.args.t (omega arith)) (omega arith) c.last_at_most-k.ensures (omega arith)

pub returns : goal.returns
returns c =
    over_none (over_settled c.args.self.good _ c.args.t (omega arith)) (omega arith) c.last_at_most-k.ensures (omega arith) c.last_below-2.ensures
