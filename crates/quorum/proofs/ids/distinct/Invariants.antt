-- Where a turn begins, whether the list is distinct is whether what is left of it is.
use Rattle.std.proofs.Common.{◌≡◌, length}
use Rattle.quorum.specs.Ids.{distinct}
use Rattle.quorum.proofs.ids.distinct.Given as goal

abbrev pub invariant-loop-id : goal.invariant-loop-id
invariant-loop-id l = distinct l.left ≡ distinct l.ids

abbrev pub decreases-loop-id : goal.decreases-loop-id
decreases-loop-id l = length l.left
