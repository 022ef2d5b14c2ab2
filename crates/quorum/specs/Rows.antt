-- Peer rows. A reader must know: a quorum question reads the rows through `row_of`, the row of a voter by its id; a voter without a row is missing everywhere.
use Rattle.std.specs.Prelude.{ℕ, List, map, length, get_or, take, Some, None, Option, Bool, true, false}
use Rattle.units.specs.Refusals.{Check}
use Rattle.units.specs.declared.Index.{Index}
use Rattle.quorum.specs.Limits.{row_limit}
use Rattle.quorum.specs.Ids.{position, few_distinct, fine_if, padded}
use Rattle.quorum.specs.declared.rows.Peer.{Peer}
use Rattle.quorum.specs.declared.rows.Question.{Question}
use Rattle.quorum.specs.declared.rows.Question.TheVariants as question
use Rattle.quorum.specs.declared.rows.Rows.{Rows}

-- 01: "a voter without a row is missing everywhere": the row that such a voter reads.
abbrev pub nobody : Peer
nobody = record { id = 0; ack = None; vote = None }

-- The id of a row. 01, "Where each language form goes": "a lent slice of peer structs, looked up by id".
abbrev pub id_of : Peer → ℕ
id_of p = p.id

-- The row of an id: the first that has it, nobody's where none has. 01: "Quorum questions read a lent list of peer rows, at most 64; a voter without a row is missing everywhere."
abbrev pub row_of : List Peer → ℕ → Peer
row_of peers id = get_or peers (position id (map id_of peers)) nobody

-- THE PROMISE of `ack_number`. 01, Majority: "a missing one counts as 0".
abbrev pub ack_number : Option Index → ℕ
ack_number None = 0
ack_number (Some index) = index.0

-- THE PROMISE of `vote_number`. 01: "its vote as missing, yes or no", as the numbers 0, 1 and 2 for the gathered rows.
abbrev pub vote_number : Option Bool → ℕ
vote_number None = 0
vote_number (Some true) = 1
vote_number (Some false) = 2

-- Refusal 12 of the rows: "over 64 rows, a repeated row id".
abbrev pub rows_check : List Peer → Check
rows_check peers = fine_if (few_distinct (length peers) row_limit (map id_of peers))

-- THE PROMISE of `value`: what a question reads of a row, "its acknowledgement" or "its vote" (01, "State and stores"), as a number.
abbrev pub value_for : Question → Peer → ℕ
value_for question.Index p = ack_number p.ack
value_for question.Vote p = vote_number p.vote

-- THE PROMISE of `gather`. 01, "Where each language form goes": "thin calls above a core over plain values": the rows laid into two arrays for one question; `count` is how many there were, also where they did not fit.
abbrev pub gathered : Question → List Peer → Rows
gathered q peers = record { ids = padded row_limit (map id_of peers); values = padded row_limit (map (value_for q) peers); count = length peers }

-- The ids of gathered rows: the first `count`. For refusal 12, "a repeated row id".
abbrev pub ids_of : Rows → List ℕ
ids_of r = take r.count r.ids

-- The values beside them: what the core "over plain values" reads.
abbrev pub values_of : Rows → List ℕ
values_of r = take r.count r.values

-- THE PROMISE of `checked`. Refusal 12 of rows in arrays: "over 64 rows, a repeated row id".
abbrev pub plain_check : Rows → Check
plain_check r = fine_if (few_distinct r.count row_limit (ids_of r))
