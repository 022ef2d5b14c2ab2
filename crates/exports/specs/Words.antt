-- Words across the boundary. A reader must know: a lent slice of words begins with a state, of a log or of a window, or with the values of an answer; what stands behind them is never read and stays as it is.
-- The length of each state and of the values of each answer stands here, and nowhere else.
use Rattle.std.specs.Prelude.{ℕ, ◌+◌, Bool, cond, Ok, Err, List, [], ◌∷◌, length, get_or, ltb}
use Rattle.std.proofs.lemmas.List.Edits.{sets}
use Rattle.units.specs.Refusals.{Answer, number_of}
use Rattle.units.specs.Units.{index_of, as_term}
use Rattle.units.specs.declared.refusal.Refusal.TheVariants as refusal
use Rattle.quorum.specs.Limits.{id_limit}
use Rattle.raft_log.specs.declared.Log.{Log}

-- 01, "State and stores": "A log has a start (index, term) before its first record; offset, the index of the first pending record; committed, persisted, applied", and the pending count.
abbrev pub log_length : ℕ
log_length = 7

-- The log whose state a slice begins with, in the order of `log_words`: the numbers of that sentence.
unfoldable pub log_from : List ℕ → Log
log_from words = record {
  start = index_of (get_or words 0 0);
  startterm = as_term (get_or words 1 0);
  offset = index_of (get_or words 2 0);
  count = get_or words 3 0;
  committed = index_of (get_or words 4 0);
  persisted = index_of (get_or words 5 0);
  applied = index_of (get_or words 6 0);
}

-- The state of a log as words, the same numbers. That `log_from` reads back what these say is proved in proofs/ReadBack.antt.
abbrev pub log_words : Log → List ℕ
log_words l = l.start.0 ∷ l.startterm.0 ∷ l.offset.0 ∷ l.count ∷ l.committed.0 ∷ l.persisted.0 ∷ l.applied.0 ∷ []

-- A window's start, count, cap, whether a smaller cap is deferred, and that cap, which 01, refusal 13, names: "count above cap, cap above the ring, a start outside the ring, or a deferred cap". What each word says stands in WindowCalls.antt.
abbrev pub window_length : ℕ
window_length = 5

-- The value of an answer that has one: `term(i)`, "the record's term", an index, a yes or a no, how a vote stands, a count.
abbrev pub single_length : ℕ
single_length = 1

-- The values of an answer that has two: "conflict and idx + count", "committed and its term", "(index, false)".
abbrev pub pair_length : ℕ
pair_length = 2

-- The values of an answer that has three: an index, whether a term goes with it, the term; 01: "i with no term if i > last".
abbrev pub triple_length : ℕ
triple_length = 3

-- The values of an answer that names "a part of whichever store holds it". What each says stands in Reads.antt.
abbrev pub part_length : ℕ
part_length = 5

-- The values of an answer that lists "the ids of both, each once": how many, and a word for each that there can be.
abbrev pub ids_length : ℕ
ids_length = id_limit + 1

-- A yes or a no as a word, 1 or 0. For the flag of "(index, false)", and for answers that are "yes exactly if".
abbrev pub flag_word : Bool → ℕ
flag_word b = cond b 1 0

-- A slice with its first words replaced: "every other word stays".
abbrev pub put : List ℕ → List ℕ → List ℕ
put slice words = sets slice 0 words

-- What a call leaves: its result, 0 or the refusal's number, and the slices that it may write, whole: the store, the state, the values, in this order and as far as it is lent them. 01: "its whole answer, the new state and every word of each lent buffer, refusals included".
pub record Outcome : Type 0 where
  pub result : ℕ
  pub slices : List (List ℕ)

-- The same, by its two parts.
abbrev pub leaves : ℕ → List (List ℕ) → Outcome
leaves result slices = record { result = result; slices = slices }

-- What an answer leaves of the slices that the call may write: what is written of its values, or the refusal's number as the result. 01, "Refusals": "Every refusal returns its number alone and changes nothing."
abbrev pub answer_leaves : {A : Type 0} → (A → List (List ℕ)) → Answer A → List (List ℕ) → Outcome
answer_leaves written (Ok a) slices = leaves 0 (written a)
answer_leaves written (Err r) slices = leaves (number_of r) slices

-- The same of an answer that is written into `answer` alone: the words of its values, or the refusal likewise.
abbrev pub values_leave : {A : Type 0} → (A → List ℕ) → Answer A → List ℕ → Outcome
values_leave words said answer = answer_leaves (λ a. put answer (words a) ∷ []) said (answer ∷ [])

-- What an answer yes or no leaves of `answer`: the flag.
abbrev pub yes_or_no_leaves : Answer Bool → List ℕ → Outcome
yes_or_no_leaves = values_leave (λ b. flag_word b ∷ [])

-- An outcome with the store that the call writes: "the records it adds or copies".
abbrev pub with_store : List ℕ → Outcome → Outcome
with_store store out = leaves out.result (store ∷ out.slices)

-- 01, refusal 1: "state rules or store lengths broken". So is a slice that is shorter than the words that it is for; all slices are then as they were.
unfoldable pub unless_short : List ℕ → ℕ → List (List ℕ) → Outcome → Outcome
unless_short slice words slices out = cond (ltb (length slice) words) (leaves (number_of refusal.BrokenState) slices) out

-- What a call that only reads leaves of its answer, where its slices are long enough for the state's words and for the answer's; else 1, as above.
abbrev pub reading : List ℕ → ℕ → ℕ → List ℕ → Outcome → Outcome
reading state state_words words answer out = unless_short state state_words (answer ∷ []) (unless_short answer words (answer ∷ []) out)
