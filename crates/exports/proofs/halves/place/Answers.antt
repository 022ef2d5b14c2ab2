use Rattle.std.proofs.Common.{◌≡◌, ℕ, suc, ◌+◌, ◌≤◌, ◌<◌, List, length, get_or, drop, ap, ◌∙◌, arith}
use Rattle.quorum.specs.Ids.{position}
use Rattle.quorum.proofs.IdLaws.{position_here, position_next}
use Rattle.exports.specs.Rows.{row_length, row_ids}
use Rattle.exports.proofs.RowWords.{ids_next, ids_end}
use Rattle.exports.proofs.halves.place.Goals as goal

-- The place of the id among the rows that are left, by the row there.
module _ (words : List ℕ) (id at : ℕ) where
  here : at + row_length ≤ length words → get_or words at 0 ≡ id → position id (row_ids (drop at words)) ≡ 0
  here h e = ap (position id) (ids_next words at h) ∙ position_here id (get_or words at 0) (row_ids (drop (at + row_length) words)) e

  further : at + row_length ≤ length words → (get_or words at 0 ≡ id → ⊥) → position id (row_ids (drop at words)) ≡ suc (position id (row_ids (drop (at + row_length) words)))
  further h e = ap (position id) (ids_next words at h) ∙ position_next id (get_or words at 0) (row_ids (drop (at + row_length) words)) e

  nowhere : length words < at + row_length → position id (row_ids (drop at words)) ≡ 0
  unfolding position
  nowhere h = ap (position id) (ids_end words at h)

pub returns-then-words-at : goal.returns-then-words-at
returns-then-words-at c = omega (arith, here c.args.words.now c.args.id c.loop-at.at (omega arith) c.if-words-at.true)

pub loop-at-preserved : goal.loop-at-preserved
loop-at-preserved c = record {
  within = omega arith;
  between = omega arith;
  left = omega (arith, further c.args.words.now c.args.id c.loop-at.at (omega arith) c.if-words-at.false);
}

pub returns : goal.returns
returns c = omega (arith, nowhere c.args.words.now c.args.id c.loop-at.at (omega arith))
