-- Where a turn begins, the first i rows are laid into the two arrays.
use Rattle.std.proofs.Common.{◌≡◌, map, take}
use Rattle.quorum.specs.Limits.{row_limit}
use Rattle.quorum.specs.Ids.{padded}
use Rattle.quorum.specs.Rows.{id_of, value_for}
use Rattle.quorum.proofs.rows.gather.Given as goal

abbrev pub invariant-loop-i : goal.invariant-loop-i
invariant-loop-i l = record {
  ids : l.ids ≡ padded row_limit (map id_of (take l.i l.peers));
  values : l.values ≡ padded row_limit (map (value_for l.question) (take l.i l.peers));
}
