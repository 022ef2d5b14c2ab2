-- Where a turn begins, whether the ids are distinct is whether those of the rows that are left are.
use Rattle.std.proofs.Common.{◌≡◌, ◌-◌, ◌≤◌, drop}
use Rattle.quorum.specs.Ids.{distinct}
use Rattle.exports.specs.Rows.{BetweenRows, row_ids}
use Rattle.exports.proofs.halves.distinct.Given as goal

abbrev pub invariant-loop-at : goal.invariant-loop-at
invariant-loop-at l = record {
  within : l.at ≤ l.end;
  between : BetweenRows l.at;
  left : distinct (row_ids (drop l.at l.words)) ≡ distinct (row_ids l.words);
}

abbrev pub decreases-loop-at : goal.decreases-loop-at
decreases-loop-at l = l.end - l.at
