use Rattle.std.proofs.Common.{eqb, arith}
use Rattle.rules.proofs.Count.{count_within}
use Rattle.quorum.proofs.half.result_of.Goals as goal

pub tally-requires : goal.tally-requires
tally-requires c = (
  omega (arith, c.count_of-yes.ensures, count_within (eqb 1) c.args.votes.now),
  omega (arith, c.count_of-missing.ensures, count_within (eqb 0) c.args.votes.now),
  omega arith,
)
