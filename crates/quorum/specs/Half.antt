-- One half: the questions over what its voters have acknowledged or voted. A reader must know: one voter set is a half, and a joint configuration has two; what holds of both halves is said here, once.
use Rattle.std.specs.Prelude.{ℕ, min, true, false, ◌&&◌, List, [], ◌∷◌, length, get_or, eqb}
use Rattle.units.specs.Units.{word_max}
use Rattle.rules.specs.Count.{count}
use Rattle.rules.specs.Majority.{committed}
use Rattle.quorum.specs.Ids.{position}
use Rattle.quorum.specs.Votes.{tally}
use Rattle.quorum.specs.declared.half.Half.{Half}
use Rattle.quorum.specs.declared.VoteResult.{VoteResult}

-- THE PROMISE of `index_of`, which leaves `falling` of the words. 01, Majority: "An empty set gives (u64::MAX, true); any other gives (index, false)."
unfoldable pub half_index : List ℕ → Half
half_index [] = record { index = word_max; free = true }
half_index (a ∷ acks) = record { index = committed (a ∷ acks); free = false }

-- THE PROMISE of `joined`. 01, Joint: "The index is the smaller of the two, the flag is true only if both are."
abbrev pub joined : Half → Half → Half
joined a b = record { index = min a.index b.index; free = a.free && b.free }

-- The value of an id among gathered rows, 0 where no row has it: "a voter without a row is missing everywhere", and missing is 0.
abbrev pub value_in : List ℕ → List ℕ → ℕ → ℕ
value_in ids values id = get_or values (position id ids) 0

-- THE PROMISE of `result_of`: how a vote stands whose votes are numbers (0 missing, 1 yes, 2 no). 01, Majority: "Won if yes reaches the quorum, else Pending if yes plus missing reaches it, else Lost."
abbrev pub numbers_result : List ℕ → VoteResult
numbers_result votes = tally (length votes) (count (eqb 1) votes) (count (eqb 0) votes)
