-- `lead` meets its contract: the loop walks the flights, and `Walked` says how far. The ends of the walk are found by the lemmas that the function names.
use Rattle.std.proofs.Common.{rules, ◌<◌, length}
use Rattle.inflights.proofs.Leading.{walk_begins, walk_inside, walk_goes_on}
use Rattle.inflights.proofs.ring.lead.Goals as goal

pub loop-i-init : goal.loop-i-init
loop-i-init c = walk_begins _ _ _ _ c.requires

-- The place that is read lies in the ring.
pub offset_bounds-ring-at : goal.offset_bounds-ring-at
offset_bounds-ring-at c = let h : c.loop-i.at < length c.args.ring.now = walk_inside _ _ _ _ _ _ c.requires c.loop-i.invariant c.loop-i-test.true in search rules

pub bounds-ring-at : goal.bounds-ring-at
bounds-ring-at c = walk_inside _ _ _ _ _ _ c.requires c.loop-i.invariant c.loop-i-test.true

pub next-at-requires : goal.next-at-requires
next-at-requires c = walk_inside _ _ _ _ _ _ c.requires c.loop-i.invariant c.loop-i-test.true

pub loop-i-preserved : goal.loop-i-preserved
loop-i-preserved c = walk_goes_on _ _ _ _ _ _ _ c.loop-i.invariant c.loop-i-test.true c.if-to-ring.false c.next-at.ensures
