-- Where a record stands in a store and in a run. A reader must know: a store holds its records one after the other, two words each, term then body; a run holds triples, index, term, body.
-- The record's width stands here, in `record_words`, `run_words` and the accessors; above this crate `store_body` of log_laws (a body's place), `as_run` of two_ends (a run's triples) and the examples that are written out follow it. In all these files `cond test a b` is a where the test says yes, else b.
use Rattle.std.specs.Prelude.{ℕ, zero, suc, ◌+◌, ◌*◌, ◌/◌, Bool, not, cond, List, [], ◌∷◌, length, get_or, eqb}
use Rattle.std.proofs.lemmas.List.Edits.{sets}

-- 01: "Two lent stores of u64, two words a record, term then body number".
abbrev pub record_words : ℕ
record_words = 2

-- 01: "the run is (index, term, body) triples".
abbrev pub run_words : ℕ
run_words = 3

-- How many whole records a store has room for. 01: "both stores long enough"; that is "words divided by the width, rounded down; a spare word is never written" (open points).
abbrev pub room : List ℕ → ℕ
room s = length s / record_words

-- The term of record k of a store, counted from 0; 0 past its end. 01: "two words a record, term then body number".
abbrev pub store_term : List ℕ → ℕ → ℕ
store_term s k = get_or s (k * record_words) 0

-- How many whole records a run has: the count of 01's "idx + count".
abbrev pub run_count : List ℕ → ℕ
run_count run = length run / run_words

-- The index of record k of a run, the first of its "(index, term, body)".
abbrev pub run_index : List ℕ → ℕ → ℕ
run_index run k = get_or run (k * run_words) 0

-- The term of record k of a run, the second of its "(index, term, body)".
abbrev pub run_term : List ℕ → ℕ → ℕ
run_term run k = get_or run (k * run_words + 1) 0

-- The body of record k of a run, the third of its "(index, term, body)".
abbrev pub run_body : List ℕ → ℕ → ℕ
run_body run k = get_or run (k * run_words + 2) 0

-- Record k of a run as a store's words, "term then body number".
abbrev pub record_of : List ℕ → ℕ → List ℕ
record_of run k = run_term run k ∷ run_body run k ∷ []

-- A store with record `at` replaced: "every other word stays".
abbrev pub put_record : List ℕ → ℕ → List ℕ → List ℕ
put_record s at words = sets s (at * record_words) words

-- A store with the n records of a run from record k on in place of its own from record `at` on. 01: "A call writes only the records it adds or copies; every other word stays."
unfoldable pub put_run : List ℕ → ℕ → List ℕ → ℕ → ℕ → List ℕ
put_run s at run k zero = s
put_run s at run k (suc n) = put_run (put_record s at (record_of run k)) (at + 1) run (k + 1) n

-- THE ONE SEARCH: the first of the n positions from k on that p holds of, k + n where it holds of none. For "the first run record whose term differs from term(its index)", and for refusals 2 and 3.
unfoldable pub first_from : (ℕ → Bool) → ℕ → ℕ → ℕ
first_from p k zero = k
first_from p k (suc n) = cond (p k) k (first_from p (k + 1) n)

-- p holds of no position below n. For refusals 2 and 3: "indices not rising by one from idx + 1", "a zero term in a run, or in settled at set-up".
abbrev pub none : (ℕ → Bool) → ℕ → Bool
none p n = eqb (first_from p 0 n) n

-- Term k is 0, of the terms of a run or of a store. 01, refusal 3: "a zero term in a run, or in settled at set-up".
abbrev pub zero_at : (ℕ → ℕ) → ℕ → Bool
zero_at term k = eqb (term k) 0

-- Record k + i of a run has another term than record at + i of a store. For "the first run record whose term differs from term(its index)", among the records of one store.
abbrev pub other_term : List ℕ → ℕ → List ℕ → ℕ → ℕ → Bool
other_term s at run k i = not (eqb (run_term run (k + i)) (store_term s (at + i)))
