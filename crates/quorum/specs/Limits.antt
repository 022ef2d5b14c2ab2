-- The limits of document 01. A reader must know: each stands here once, and in `Voters::LIMIT` and `Rows::LIMIT` of the source; other limits change these numbers and nothing else.
use Rattle.std.specs.Prelude.{ℕ, ◌+◌}

-- 01, Majority: "A voter set of 0 to 7 different ids."
abbrev pub voter_limit : ℕ
voter_limit = 7

-- 01, "State and stores": "a lent list of peer rows, at most 64".
abbrev pub row_limit : ℕ
row_limit = 64

-- 01, Joint: "the ids of both, each once": no more than both sets may have.
abbrev pub id_limit : ℕ
id_limit = voter_limit + voter_limit
