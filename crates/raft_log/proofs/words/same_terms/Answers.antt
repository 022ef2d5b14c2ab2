-- `same_terms` meets its contract: its loop is the search for the first other term.
use Rattle.raft_log.proofs.Searching.{seek_next, seek_hit, seek_end, same_not, other_not}
use Rattle.raft_log.proofs.words.same_terms.Goals as goal

pub returns-then-run_term-store_term : goal.returns-then-run_term-store_term
returns-then-run_term-store_term c =
    seek_hit c.loop-i.invariant c.loop-i-test.true (other_not (λ e. c.if-run_term-store_term.true cc))

pub loop-i-preserved : goal.loop-i-preserved
loop-i-preserved c = seek_next c.loop-i.invariant c.loop-i-test.true (same_not cc)

pub returns : goal.returns
returns c = seek_end c.loop-i.invariant c.loop-i-test.false
