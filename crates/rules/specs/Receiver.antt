-- AppendEntries at the receiver: the Raft paper (extended version), figure 2, "Receiver implementation", steps 2 to 5, each in its own words and in order.
-- A reader must know: `receiver` is the four steps; it knows nothing of stores, of room, or of what the code refuses. (Step 1 compares leaders' terms and is out of scope.)
use Rattle.std.specs.Prelude.{ℕ, ◌+◌, ◌-◌, min, Bool, not, ◌&&◌, cond, List, [], ◌∷◌, ◌++◌, eqb, leb, ltb, length, take, drop}
use Rattle.rules.specs.Log.{Entry, Log, last, term_of}

-- The arguments of figure 2: "prevLogIndex: index of log entry immediately preceding new ones", "prevLogTerm", "entries[]: log entries to store", the first at prevLogIndex + 1, "leaderCommit".
pub record AppendEntries : Type 0 where
  pub prev_log_index : ℕ
  pub prev_log_term : ℕ
  pub entries : List Entry
  pub leader_commit : ℕ

-- "Reply false", or the log and the commitIndex after the steps.
pub data Answer : Type 0 where
  reply_false : Answer
  success : Log → ℕ → Answer

-- The log with these records after its start. For steps 3 and 4, which delete and append records and leave the start.
abbrev pub with_entries : Log → List Entry → Log
with_entries l es = record { start = l.start; start_term = l.start_term; entries = es }

-- Step 2: "Reply false if log doesn't contain an entry at prevLogIndex whose term matches prevLogTerm". The start counts as contained.
unfoldable pub contains : Log → ℕ → ℕ → Bool
contains l i t = leb l.start i && leb i (last l) && eqb (term_of l i) t

-- Step 3: "If an existing entry conflicts with a new one (same index but different terms), ..": the entry at i and the new one e.
abbrev pub conflicts : Log → ℕ → Entry → Bool
conflicts l i e = ltb l.start i && leb i (last l) && not (eqb e.term (term_of l i))

-- ".. delete the existing entry and all that follow it".
abbrev pub delete_from : Log → ℕ → Log
delete_from l i = with_entries l (take (i - l.start - 1) l.entries)

-- Step 3, whole, for the new ones at i, i + 1, ..: the first that conflicts deletes "the existing entry and all that follow it", and then no later one has an existing entry to conflict with.
unfoldable pub step_3 : Log → ℕ → List Entry → Log
step_3 l i [] = l
step_3 l i (e ∷ es) = cond (conflicts l i e) (delete_from l i) (step_3 l (i + 1) es)

-- Step 4: "Append any new entries not already in the log": those above its last index. The new ones come after prev.
unfoldable pub step_4 : Log → ℕ → List Entry → Log
step_4 l prev es = with_entries l (l.entries ++ drop (last l - prev) es)

-- Step 5: "If leaderCommit > commitIndex, set commitIndex = min(leaderCommit, index of last new entry)".
unfoldable pub step_5 : ℕ → ℕ → ℕ → ℕ
step_5 commit_index leader_commit last_new = cond (ltb commit_index leader_commit) (min leader_commit last_new) commit_index

-- Step 5's "index of last new entry"; prevLogIndex where there is none.
abbrev pub last_new : AppendEntries → ℕ
last_new m = m.prev_log_index + length m.entries

-- THE STEPS, in order: "Reply false" by step 2, else what the other steps leave.
unfoldable pub receiver : Log → ℕ → AppendEntries → Answer
receiver l commit_index m =
    cond (contains l m.prev_log_index m.prev_log_term)
    (success
    (step_4 (step_3 l (m.prev_log_index + 1) m.entries) m.prev_log_index m.entries)
    (step_5 commit_index m.leader_commit (last_new m)))
    reply_false
