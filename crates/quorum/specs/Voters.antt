-- A voter set: an array of ids with a count. A reader must know: the voters are the first `count` ids; the set is broken (refusal 12) where the count is over the limit or an id repeats.
use Rattle.std.specs.Prelude.{ℕ, cond, List, [], length, take, Ok, Err}
use Rattle.units.specs.declared.refusal.Refusal.TheVariants as refusal
use Rattle.units.specs.Refusals.{Answer, Check}
use Rattle.quorum.specs.Limits.{voter_limit}
use Rattle.quorum.specs.Ids.{few_distinct, fine_if, padded}
use Rattle.quorum.specs.declared.majority.Voters.{Voters}

-- The ids of a voter set, which is "a duplicate-free array with a count" (01, "What must change shape"): the first `count`.
abbrev pub voters_of : Voters → List ℕ
voters_of v = take v.count v.ids

-- THE PROMISE of `checked`; of `set_of`, that of `ids_checked`. Refusal 12 of a voter set: "over 7 voters, a repeated voter id".
abbrev pub voters_check : Voters → Check
voters_check v = fine_if (few_distinct v.count voter_limit (voters_of v))

-- THE PROMISE of `holding`: a list of ids as such an "array with a count". Unused words are 0; ids over the limit are counted and not kept.
abbrev pub set_of : List ℕ → Voters
set_of ids = record { ids = padded voter_limit ids; count = length ids }

-- THE PROMISE of `empty`: the set of nobody, 01's "empty set".
abbrev pub no_voters : Voters
no_voters = set_of []

-- THE PROMISE of `new`. 01, Majority: "A voter set of 0 to 7 different ids." Others are refusal 12.
abbrev pub made : List ℕ → Answer Voters
made ids = cond (few_distinct (length ids) voter_limit ids) (Ok (set_of ids)) (Err refusal.BrokenSet)
