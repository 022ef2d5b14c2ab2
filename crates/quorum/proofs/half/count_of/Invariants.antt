-- Where a turn begins, the words before it are counted.
use Rattle.std.proofs.Common.{◌≡◌, eqb, take}
use Rattle.std.specs.List.{count_by}
use Rattle.quorum.proofs.half.count_of.Given as goal

abbrev pub invariant-loop-w : goal.invariant-loop-w
invariant-loop-w l = l.n ≡ count_by (eqb l.word) (take l.w-index l.words)
