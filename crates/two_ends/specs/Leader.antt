-- The leader: "One leader has a whole list from index 1 that only grows; messages cut from it reach a follower". A reader must know: `cut` is what it sends, and `CutFrom` says that a message is such a one, with any commit number.
use Rattle.std.specs.Prelude.{ℕ, ◌+◌, ◌≤◌, ◌≡◌, List, [], ◌∷◌, length}
use Rattle.rules.specs.Log.{Entry, whole_list, records_after, term_of}
use Rattle.two_ends.specs.Follower.{Message}

-- Records as a run, the first at index i: "(index, term, body) triples".
unfoldable pub as_run : ℕ → List Entry → List ℕ
as_run i [] = []
as_run i (e ∷ es) = i ∷ e.term ∷ e.body ∷ as_run (i + 1) es

-- The request's "messages cut from it": the n records after idx, and any commit number. The previous term at idx 0 is 0: "(0,0) comes before every list".
unfoldable pub cut : List Entry → ℕ → ℕ → ℕ → Message
cut xs idx n commit = record { idx = idx; term = term_of (whole_list xs) idx; commit = commit; run = as_run (idx + 1) (records_after xs idx n) }

-- "messages cut from it": the message is the cut of so many records, all of which the list has.
pub record CutFrom (xs : List Entry) (m : Message) : Type 0 where
  pub count : ℕ
  pub inside : m.idx + count ≤ length xs
  pub is : m ≡ cut xs m.idx count m.commit
