use Rattle.inflights.proofs.Leading.{Walked}
use Rattle.inflights.proofs.ring.lead.Given as goal

abbrev pub invariant-loop-i : goal.invariant-loop-i
invariant-loop-i l = Walked l.start l.count l.ring l.to l.at l.i
