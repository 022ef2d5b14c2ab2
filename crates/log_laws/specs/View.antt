-- What the state and the words of both stores stand for: a log of the rules (rules/specs/Log.antt). A reader must know: `view_of` lists the settled records, then the pending ones; no promise of a call cites it, it is for what is proved of them.
use Rattle.std.specs.Prelude.{ℕ, ◌+◌, ◌*◌, List, ◌++◌, get_or}
use Rattle.units.specs.Lists.{listed}
use Rattle.rules.specs.Log.{Entry, Log as Abstract, entry}
use Rattle.rules.specs.Receiver.{AppendEntries}
use Rattle.raft_log.specs.declared.Log.{Log}
use Rattle.raft_log.specs.State.{settled_count}
use Rattle.raft_log.specs.Words.{record_words, store_term, run_count, run_term, run_body}

-- The body of record k of a store. 01: "two words a record, term then body number".
abbrev pub store_body : List ℕ → ℕ → ℕ
store_body s k = get_or s (k * record_words + 1) 0

-- Record k of a store: "term then body number".
abbrev pub store_entry : List ℕ → ℕ → Entry
store_entry s k = entry (store_term s k) (store_body s k)

-- Record k of a run: term and body of its "(index, term, body)".
abbrev pub run_entry : List ℕ → ℕ → Entry
run_entry run k = entry (run_term run k) (run_body run k)

-- The first n records of a store: "two words a record".
abbrev pub records : ℕ → List ℕ → List Entry
records n s = listed (store_entry s) 0 n

-- The records of a run: "the run is (index, term, body) triples".
abbrev pub run_entries : List ℕ → List Entry
run_entries run = listed (run_entry run) 0 (run_count run)

-- 01: "settled holds indices start+1 to offset-1, pending holds offset to last".
unfoldable pub view_of : Log → List ℕ → List ℕ → Abstract
view_of l settled pending = record {
  start = l.start.0;
  start_term = l.startterm.0;
  entries = records (settled_count l) settled ++ records l.count pending;
}

-- What the arguments of `maybe_append(idx, term, commit, run)` stand for: the message of the paper, figure 2, "prevLogIndex", "prevLogTerm", "entries[]", "leaderCommit".
abbrev pub message_of : ℕ → ℕ → ℕ → List ℕ → AppendEntries
message_of idx term commit run = record {
  prev_log_index = idx;
  prev_log_term = term;
  entries = run_entries run;
  leader_commit = commit;
}
