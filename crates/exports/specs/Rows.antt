-- Voters and peer rows as words. A reader must know: the words of a slice of voters are their ids, and four words of a slice of rows are a row.
-- Nothing is judged here: too many or repeated ids (12) are refused by each question of crate quorum, by the set and the rows that the words say.
use Rattle.std.specs.Prelude.{ℕ, ◌*◌, ◌/◌, ◌≡◌, Bool, true, false, cond, Option, Some, None, List, [], ◌∷◌, map, eqb, length}
use Rattle.units.specs.Units.{index_of}
use Rattle.units.specs.declared.Index.{Index}
use Rattle.quorum.specs.Rows.{id_of, row_of, value_for}
use Rattle.quorum.specs.Voters.{set_of}
use Rattle.quorum.specs.declared.joint.JointConfig.{JointConfig}
use Rattle.quorum.specs.declared.rows.Peer.{Peer}
use Rattle.quorum.specs.declared.rows.Question.{Question}

-- Words of 01's "peer row": its id, whether an acknowledgement is there, that, the vote.
abbrev pub row_length : ℕ
row_length = 4

-- 01, "State and stores": "A peer row holds its acknowledgement as missing or a number, and its vote as missing, yes or no."
-- A word 0 says that the acknowledgement is missing; the number is then not read.
abbrev pub ack_from : ℕ → ℕ → Option Index
ack_from known index = cond (eqb known 0) None (Some (index_of index))

-- "its vote as missing, yes or no": 1 is a yes, 2 a no, and any other word says that the vote is missing.
abbrev pub vote_from : ℕ → Option Bool
vote_from said = cond (eqb said 1) (Some true) (cond (eqb said 2) (Some false) None)

-- The row of four words, in the order of `row_length`.
abbrev pub peer_from : ℕ → ℕ → ℕ → ℕ → Peer
peer_from id known index said = record { id = id; ack = ack_from known index; vote = vote_from said }

-- "a lent list of peer rows": those that the words say, four words each. Words after the last whole row say nothing.
unfoldable pub peers_from : List ℕ → List Peer
peers_from [] = []
peers_from (id ∷ []) = []
peers_from (id ∷ known ∷ []) = []
peers_from (id ∷ known ∷ index ∷ []) = []
peers_from (id ∷ known ∷ index ∷ said ∷ words) = peer_from id known index said ∷ peers_from words

-- Where the words of the last row end. For the rows that are "looked up by id".
abbrev pub rows_end : List ℕ → ℕ
rows_end words = length words / row_length * row_length

-- A place between rows: the words before it are whole rows. For the walk that looks a row up.
abbrev pub BetweenRows : ℕ → Type 0
BetweenRows at = at ≡ at / row_length * row_length

-- The ids of the rows. For refusal 12: "a repeated row id".
abbrev pub row_ids : List ℕ → List ℕ
row_ids words = map id_of (peers_from words)

-- What a question reads of the row of an id: "a voter without a row is missing everywhere".
abbrev pub read_of : Question → List ℕ → ℕ → ℕ
read_of q words id = value_for q (row_of (peers_from words) id)

-- "Two sets, incoming and outgoing": those that two slices of ids say.
abbrev pub config_from : List ℕ → List ℕ → JointConfig
config_from incoming outgoing = record { incoming = set_of incoming; outgoing = set_of outgoing }
