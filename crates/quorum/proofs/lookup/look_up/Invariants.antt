-- Where a turn begins, what the first i voters said stands at the front.
use Rattle.std.proofs.Common.{◌≡◌, map, take}
use Rattle.quorum.proofs.lookup.look_up.Given as goal

abbrev pub invariant-loop-i : goal.invariant-loop-i
invariant-loop-i g l = take l.i l.all ≡ map (g.R.PeerRows.said l.rows) (take l.i l.voters)
