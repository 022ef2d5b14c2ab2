use Rattle.std.proofs.Common.{◌≡◌, ℕ, ◌+◌, ◌*◌, ◌≤◌, ◌<◌, true, false, List, length, get_or, drop, length-drop, sym, ap, ◌∙◌, arith}
use Rattle.quorum.specs.Ids.{position, distinct}
use Rattle.quorum.proofs.IdLaws.{distinct_twice, distinct_once}
use Rattle.exports.specs.Rows.{row_length, rows_end, BetweenRows, row_ids}
use Rattle.exports.proofs.RowWords.{ids_count, ids_next, ids_end}
use Rattle.exports.proofs.halves.distinct.Goals as goal

-- p is what `place` answered of the rows behind the one at a place, and e is where the rows end.
module _ (words : List ℕ) (at p e : ℕ) (h : at + row_length ≤ length words) (between : BetweenRows at) (ends : e ≡ rows_end words) where
  abbrev others : List ℕ
  others = drop (at + row_length) words

  module _ (placed : p ≡ at + row_length + position (get_or words at 0) (row_ids others) * row_length) where
    twice : p < e → distinct (row_ids (drop at words)) ≡ false
    twice l = ap distinct (ids_next words at h) ∙ distinct_twice (get_or words at 0) (row_ids others) (omega (arith, ids_count others, length-drop (at + row_length) words))

    once : e ≤ p → distinct (row_ids (drop at words)) ≡ distinct (row_ids others)
    once l = ap distinct (ids_next words at h) ∙ distinct_once (get_or words at 0) (row_ids others) (omega (arith, ids_count others, length-drop (at + row_length) words))

none : (words : List ℕ) (at : ℕ) → length words < at + row_length → distinct (row_ids (drop at words)) ≡ true
unfolding distinct
none words at h = ap distinct (ids_end words at h)

pub returns-then-place-end : goal.returns-then-place-end
returns-then-place-end c =
    sym (twice c.args.words.now c.loop-at.at _ _ (omega arith) c.loop-at.invariant.between c.rows_end-end.ensures c.place.ensures c.if-place-end.true) ∙ c.loop-at.invariant.left

pub loop-at-preserved : goal.loop-at-preserved
loop-at-preserved c = record {
  within = omega arith;
  between = omega arith;
  left = sym (once c.args.words.now c.loop-at.at _ _ (omega arith) c.loop-at.invariant.between c.rows_end-end.ensures c.place.ensures c.if-place-end.false) ∙ c.loop-at.invariant.left;
}

pub returns : goal.returns
returns c = sym (none c.args.words.now c.loop-at.at (omega arith)) ∙ c.loop-at.invariant.left
