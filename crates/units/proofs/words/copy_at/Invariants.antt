use Rattle.std.proofs.Common.{◌-◌}
use Rattle.units.proofs.Copying.{Copying}
use Rattle.units.proofs.words.copy_at.Given as goal

abbrev pub invariant-loop-i : goal.invariant-loop-i
invariant-loop-i l = Copying l.fn.to l.at l.from l.to l.i

abbrev pub decreases-loop-i : goal.decreases-loop-i
decreases-loop-i l = l.end - l.i
