-- Where a turn begins, the rows that are left have the id at what is left of the place.
use Rattle.std.proofs.Common.{◌≡◌, ◌+◌, ◌-◌, ◌*◌, ◌≤◌, drop}
use Rattle.quorum.specs.Ids.{position}
use Rattle.exports.specs.Rows.{row_length, BetweenRows, row_ids}
use Rattle.exports.proofs.halves.place.Given as goal

abbrev pub invariant-loop-at : goal.invariant-loop-at
invariant-loop-at l = record {
  within : l.at ≤ l.end;
  between : BetweenRows l.at;
  left : l.at + position l.id (row_ids (drop l.at l.words)) * row_length ≡ l.from + position l.id (row_ids (drop l.from l.words)) * row_length;
}

abbrev pub decreases-loop-at : goal.decreases-loop-at
decreases-loop-at l = l.end - l.at
