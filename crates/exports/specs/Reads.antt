-- The exported calls that only read the log. A reader must know: each is the call of crate raft_log on the log whose state the slice `log` begins with, and writes `answer` alone.
-- The result is 0 or the refusal's number. A refusal leaves `answer` as it was.
use Rattle.std.specs.Prelude.{ℕ, ◌≡◌, ◌+◌, ◌-◌, ◌*◌, ◌≤◌, true, false, cond, Option, Some, None, Ok, Err, List, [], ◌∷◌, eqb, get_or, take, drop}
use Rattle.units.specs.Refusals.{Answer, number_of}
use Rattle.units.specs.declared.Index.{Index}
use Rattle.units.specs.declared.Term.{Term}
use Rattle.raft_log.specs.Words.{record_words, room}
use Rattle.raft_log.specs.Look.{look_term, first_index, last_index, last_term, commit_info, is_up_to_date, find_conflict_by_term}
use Rattle.raft_log.specs.Slice.{slice_bounds, entries_bounds, next_entries_bounds_since, has_next_entries_since}
use Rattle.raft_log.specs.declared.Log.{Log}
use Rattle.raft_log.specs.declared.Bounds.{Bounds}
use Rattle.raft_log.specs.declared.Bounds.TheVariants as bounds
use Rattle.exports.specs.Words.{log_length, single_length, pair_length, triple_length, part_length, log_from, flag_word, Outcome, values_leave, yes_or_no_leaves, reading}

-- What an answer with a term leaves of `answer`: the term.
abbrev pub looked_leaves : Answer Term → List ℕ → Outcome
looked_leaves = values_leave (λ term. term.0 ∷ [])

-- What an answer with an index leaves of `answer`: the index.
abbrev pub placed_leaves : Answer Index → List ℕ → Outcome
placed_leaves = values_leave (λ index. index.0 ∷ [])

-- What an answer with an index and a term leaves of `answer`: "committed and its term".
abbrev pub info_leaves : Answer (Index × Term) → List ℕ → Outcome
info_leaves = values_leave (λ (index, term). index.0 ∷ term.0 ∷ [])

-- The values of an index, and of a term if there is one: the index, whether a term goes with it, the term. 01: "i with no term if i > last".
abbrev pub by_term_words : Index × Option Term → List ℕ
by_term_words (index, Some term) = index.0 ∷ flag_word true ∷ term.0 ∷ []
by_term_words (index, None) = index.0 ∷ flag_word false ∷ 0 ∷ []

-- What the answer of `find_conflict_by_term` leaves of `answer`: these.
abbrev pub by_term_leaves : Answer (Index × Option Term) → List ℕ → Outcome
by_term_leaves = values_leave by_term_words

-- 01, `slice`: "A run is a part of whichever store holds it, settled or pending, never a copy." So an answer names the part: the store's number, the first index, the index after the last, the part's first word in the store, how many words.
-- The store's first record is at index first. What a caller finds there is `part_of` (proofs/Parts.antt).
abbrev pub part_words : ℕ → ℕ → ℕ → ℕ → List ℕ
part_words store first low high = store ∷ low ∷ high ∷ (low - first) * record_words ∷ (high - low) * record_words ∷ []

-- The number of the settled store. For "whichever store holds it, settled or pending".
abbrev pub in_settled : ℕ
in_settled = 1

-- The number of the pending store, for the same; 0 is neither.
abbrev pub in_pending : ℕ
in_pending = 2

-- The values of bounds. 01, "State and stores": "settled holds indices start+1 to offset-1, pending holds offset to last".
abbrev pub bounds_words : Log → Bounds → List ℕ
bounds_words l bounds.Empty = 0 ∷ 0 ∷ 0 ∷ 0 ∷ 0 ∷ []
bounds_words l (bounds.Settled low high) = part_words in_settled (l.start.0 + 1) low.0 high.0
bounds_words l (bounds.Pending low high) = part_words in_pending l.offset.0 low.0 high.0

-- What an answer with bounds leaves of `answer`: these.
abbrev pub bounds_leaves : Answer Bounds → Log → List ℕ → Outcome
bounds_leaves said l answer = values_leave (bounds_words l) said answer

-- THE PROMISE of `log_term`: what it leaves of `answer`, "the record's term; the start's term at start; 0 outside [start, last]". So for the others below.
abbrev pub term_leaves : List ℕ → List ℕ → List ℕ → ℕ → List ℕ → Outcome
term_leaves log settled pending i answer = reading log log_length single_length answer (looked_leaves (look_term (log_from log) settled pending i) answer)

-- THE PROMISE of `log_first_index`: the index after the start, "before its first record".
abbrev pub first_index_leaves : List ℕ → List ℕ → List ℕ → List ℕ → Outcome
first_index_leaves log settled pending answer = reading log log_length single_length answer (placed_leaves (first_index (log_from log) settled pending) answer)

-- THE PROMISE of `log_last_index`: "offset plus the pending count, minus 1".
abbrev pub last_index_leaves : List ℕ → List ℕ → List ℕ → List ℕ → Outcome
last_index_leaves log settled pending answer = reading log log_length single_length answer (placed_leaves (last_index (log_from log) settled pending) answer)

-- THE PROMISE of `log_last_term`: the term there, 01's "last term".
abbrev pub last_term_leaves : List ℕ → List ℕ → List ℕ → List ℕ → Outcome
last_term_leaves log settled pending answer = reading log log_length single_length answer (looked_leaves (last_term (log_from log) settled pending) answer)

-- THE PROMISE of `log_commit_info`: "committed and its term".
abbrev pub commit_info_leaves : List ℕ → List ℕ → List ℕ → List ℕ → Outcome
commit_info_leaves log settled pending answer = reading log log_length pair_length answer (info_leaves (commit_info (log_from log) settled pending) answer)

-- THE PROMISE of `log_is_up_to_date`: "t > last term, or equal and i >= last".
abbrev pub is_up_to_date_leaves : List ℕ → List ℕ → List ℕ → ℕ → ℕ → List ℕ → Outcome
is_up_to_date_leaves log settled pending i t answer = reading log log_length single_length answer (yes_or_no_leaves (is_up_to_date (log_from log) settled pending i t) answer)

-- THE PROMISE of `log_find_conflict_by_term`: "i with no term if i > last; else the largest j <= i with term(j) <= t, and that term".
abbrev pub find_conflict_by_term_leaves : List ℕ → List ℕ → List ℕ → ℕ → ℕ → List ℕ → Outcome
find_conflict_by_term_leaves log settled pending i t answer = reading log log_length triple_length answer (by_term_leaves (find_conflict_by_term (log_from log) settled pending i t) answer)

-- THE PROMISE of `log_slice`: "a run from low, ending at high or at the store boundary, whichever comes first".
abbrev pub slice_leaves : List ℕ → List ℕ → List ℕ → ℕ → ℕ → List ℕ → Outcome
slice_leaves log settled pending low high answer = reading log log_length part_length answer (bounds_leaves (slice_bounds (log_from log) settled pending low high) (log_from log) answer)

-- THE PROMISE of `log_entries`: "empty if i > last, else the slice from i to last + 1".
abbrev pub entries_leaves : List ℕ → List ℕ → List ℕ → ℕ → List ℕ → Outcome
entries_leaves log settled pending i answer = reading log log_length part_length answer (bounds_leaves (entries_bounds (log_from log) settled pending i) (log_from log) answer)

-- THE PROMISE of `log_next_entries_since`: "gives that range as a slice, or nothing".
abbrev pub next_entries_since_leaves : List ℕ → List ℕ → List ℕ → ℕ → List ℕ → Outcome
next_entries_since_leaves log settled pending s answer = reading log log_length part_length answer (bounds_leaves (next_entries_bounds_since (log_from log) settled pending s) (log_from log) answer)

-- THE PROMISE of `log_has_next_entries_since`: "min(committed, persisted) + 1 > max(s + 1, start + 1). For s = u64::MAX we answer no (added)."
abbrev pub has_next_entries_since_leaves : List ℕ → List ℕ → List ℕ → ℕ → List ℕ → Outcome
has_next_entries_since_leaves log settled pending s answer = reading log log_length single_length answer (yes_or_no_leaves (has_next_entries_since (log_from log) settled pending s) answer)

-- The store that a number names, "settled or pending". (Of an empty part, whose number is 0, no word is taken.)
abbrev pub store_at : ℕ → List ℕ → List ℕ → List ℕ
store_at number settled pending = cond (eqb number in_settled) settled pending

-- What a caller finds by the five words: so many words of the store that the first one names, from a word on: "never a copy".
abbrev pub part_at : List ℕ → List ℕ → List ℕ → List ℕ
part_at answer settled pending = take (get_or answer 4 0) (drop (get_or answer 3 0) (store_at (get_or answer 0 0) settled pending))

-- A store whose first record is at index first holds the records from low up to, not including, high. For "whichever store holds it".
pub record StoreHolds (store : List ℕ) (first low high : ℕ) : Type 0 where
  pub above : first ≤ low
  pub order : low ≤ high
  pub below : high - first ≤ room store

-- What is so of every answer of the three calls (proofs/Parts.antt): the store that it names "holds it", and 0 is no refusal's number.
abbrev pub NamesHeld : Answer Bounds → Log → List ℕ → List ℕ → Type 0
NamesHeld (Ok bounds.Empty) l settled pending = Unit {0}
NamesHeld (Ok (bounds.Settled low high)) l settled pending = StoreHolds settled (l.start.0 + 1) low.0 high.0
NamesHeld (Ok (bounds.Pending low high)) l settled pending = StoreHolds pending l.offset.0 low.0 high.0
NamesHeld (Err r) l settled pending = number_of r ≡ 0 → ⊥
