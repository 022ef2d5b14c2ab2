-- `put_run` meets its contract: its loop keeps `Putting`.
use Rattle.raft_log.proofs.Putting.{put_next, put_end}
use Rattle.raft_log.proofs.words.put_run.Goals as goal

pub loop-i-preserved : goal.loop-i-preserved
loop-i-preserved c = put_next c.loop-i.invariant c.loop-i-test.true c.put_record.ensures

pub returns : goal.returns
returns c = put_end c.loop-i.invariant c.loop-i-test.false
