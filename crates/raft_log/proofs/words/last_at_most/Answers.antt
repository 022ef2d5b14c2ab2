-- `last_at_most` meets its contract: the search has passed every record past the first `k`.
use Rattle.std.proofs.Common.{◌≡◌, ◌+◌, ◌-◌, ◌∙◌, arith}
use borrow.Author.Tests.{le-leb, lt-leb}
use Rattle.raft_log.specs.Words.{store_term}
use Rattle.raft_log.proofs.Downwards.{down_next, down_hit, down_end}
use Rattle.raft_log.proofs.words.last_at_most.Goals as goal

pub returns-then-store_term-t : goal.returns-then-store_term-t
returns-then-store_term-t c =
    let k = c.loop-k.k in
    let e : k - 1 + 1 ≡ k = omega arith in
    e ∙ down_hit c.loop-k.invariant (omega arith) (le-leb (store_term c.args.store.now (k - 1)) c.args.t (omega arith))

pub loop-k-preserved : goal.loop-k-preserved
loop-k-preserved c =
    let k = c.loop-k.k in
    down_next c.loop-k.invariant (omega arith) (lt-leb (store_term c.args.store.now (k - 1)) c.args.t (omega arith))

pub returns : goal.returns
returns c = down_end c.loop-k.invariant (omega arith)
