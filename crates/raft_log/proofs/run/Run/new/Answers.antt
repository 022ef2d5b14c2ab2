-- A run that passed the checks is whole, within the limit, and has no zero term.
use Rattle.std.proofs.Common.{sym, arith}
use Rattle.raft_log.proofs.Runs.{run_passed}
use Rattle.raft_log.proofs.run.Run.new.Goals as goal

pub invariant_of-result : goal.invariant_of-result
invariant_of-result c =
    let p = run_passed c.args.words.now c.args.after (sym c.in_ok-count.ensures) in
    record { whole = omega arith; limited = omega arith; terms_set = p.set }
