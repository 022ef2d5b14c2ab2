-- A log as the paper has it: records in order, each with its term. A reader must know: a log may begin with a start (index, term) in place of its earliest records (01, "State and stores"); the paper's log is the one that starts with (0, 0).
-- What it means that two logs agree is here too.
use Rattle.std.specs.Prelude.{ℕ, ◌+◌, ◌-◌, ◌<◌, ◌≤◌, ◌≡◌, cond, List, ◌∷◌, ltb, length, get_or, take, drop}

-- The paper, figure 2, "log[]": "each entry contains command for state machine, and term when entry was received by leader (first index is 1)". The command is its body's number; the index is its place.
pub record Entry : Type 0 where
  pub term : ℕ
  pub body : ℕ

-- A record, by its term and its body. 01: "two words a record, term then body number".
abbrev pub entry : ℕ → ℕ → Entry
entry t b = record { term = t; body = b }

-- What is read where there is no record. 01, `term(i)`: "0 outside [start, last]".
abbrev pub nothing : Entry
nothing = entry 0 0

-- 01: "A log has a start (index, term) before its first record". `entries` are the records at start + 1, start + 2, ..
pub record Log : Type 0 where
  pub start : ℕ
  pub start_term : ℕ
  pub entries : List Entry

-- A list as a log: it starts with (0, 0), which "comes before every list".
abbrev pub whole_list : List Entry → Log
whole_list xs = record { start = 0; start_term = 0; entries = xs }

-- The n records of a list after its first k. For what a leader sends, "messages cut from it" (the request), and for `slice`, which "gives a run from low" (01).
abbrev pub records_after : List Entry → ℕ → ℕ → List Entry
records_after entries k n = take n (drop k entries)

-- The index of the last record, the start's where there is none: the last of 01's "[start, last]".
abbrev pub last : Log → ℕ
last l = l.start + length l.entries

-- 01: "the start counts as a held record, compared by index and term alone": its body is not known, reads as 0 and is never compared. Outside [start, last] stands `nothing`, of term 0.
unfoldable pub entry_at : Log → ℕ → Entry
entry_at l i =
    cond (ltb i l.start) nothing
    (get_or (entry l.start_term 0 ∷ l.entries) (i - l.start) nothing)

-- 01, `term(i)`: "the record's term; the start's term at start; 0 outside [start, last]".
abbrev pub term_of : Log → ℕ → ℕ
term_of l i = (entry_at l i).term

-- The body at an index, 01's "body number"; 0 outside the log, and at the start, which is "compared by index and term alone".
abbrev pub body_of : Log → ℕ → ℕ
body_of l i = (entry_at l i).body

-- The log has a record at i, its start among them: 01, "the start counts as a held record".
abbrev pub Holds : Log → ℕ → Type 0
Holds l i = (l.start ≤ i) × (i ≤ last l)

-- The two logs have the same record at i. Where i is the start of one, terms alone are compared: 01, "the start counts as a held record, compared by index and term alone".
pub record Same (a b : Log) (i : ℕ) : Type 0 where
  pub terms : term_of a i ≡ term_of b i
  pub bodies : a.start < i → b.start < i → body_of a i ≡ body_of b i

-- The paper, figure 3, Log Matching: "if two logs contain an entry with the same index and term, then the logs are identical in all entries up through the given index" (as far as both hold them).
unfoldable pub Matching : Log → Log → Type 0
Matching a b =
    (i : ℕ) → Holds a i → Holds b i → term_of a i ≡ term_of b i → (j : ℕ) → j ≤ i → Holds a j → Holds b j → Same a b j

-- Both reach k, and from a's start up to k, a has exactly b's records. The request: "from its start to there the follower then holds exactly the leader's records".
pub record Agree (a b : Log) (k : ℕ) : Type 0 where
  pub here : Holds a k
  pub there : k ≤ last b
  pub same : (j : ℕ) → a.start ≤ j → j ≤ k → Same a b j
