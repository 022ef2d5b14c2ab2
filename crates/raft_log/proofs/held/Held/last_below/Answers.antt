-- `last_below` meets its contract: the search has passed every index above `j`.
use Rattle.std.proofs.Common.{arith}
use Rattle.raft_log.proofs.Downwards.{down_next, down_hit, down_end, at_most_lem, above}
use Rattle.raft_log.proofs.held.Held.last_below.Goals as goal

pub returns-then-term-t : goal.returns-then-term-t
returns-then-term-t c =
    down_hit c.loop-j.invariant c.loop-j-test.true (at_most_lem _ _ _ _ _ c.term.ensures (omega arith))

pub loop-j-preserved : goal.loop-j-preserved
loop-j-preserved c =
    down_next c.loop-j.invariant c.loop-j-test.true (above _ _ _ _ _ c.term.ensures (omega arith))

pub returns : goal.returns
returns c = down_end c.loop-j.invariant (omega arith)
