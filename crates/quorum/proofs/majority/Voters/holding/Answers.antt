use Rattle.quorum.specs.Limits.{voter_limit}
use Rattle.quorum.proofs.Padded.{sets_zeros}
use Rattle.quorum.proofs.majority.Voters.holding.Goals as goal

pub returns : goal.returns
returns c = cc (sets_zeros voter_limit c.args.ids.now)
