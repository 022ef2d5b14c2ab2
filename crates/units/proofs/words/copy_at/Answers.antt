-- `copy_at` meets its contract: each turn copies one word more.
use Rattle.std.proofs.Common.{arith}
use Rattle.units.proofs.Copying.{copy_start, copy_next, copy_end}
use Rattle.units.proofs.words.copy_at.Goals as goal

pub loop-i-init : goal.loop-i-init
loop-i-init c = copy_start _ _ _

pub loop-i-preserved : goal.loop-i-preserved
loop-i-preserved c = copy_next c.loop-i.invariant (omega arith)

pub returns : goal.returns
returns c = copy_end c.loop-i.invariant (λ h. omega arith)
