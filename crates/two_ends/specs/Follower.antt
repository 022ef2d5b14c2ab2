-- The follower: a log of crate `raft_log` with the words of its two stores, and what its calls make of them. A reader must know: every function used here is one that a contract of `raft_log` cites, so what is proved of these steps is proved of the code.
use Rattle.std.specs.Prelude.{ℕ, ◌+◌, ◌≡◌, false, List, [], ◌∷◌, Ok, Err, Some, None, Option}
use Rattle.units.specs.Refusals.{Answer}
use Rattle.units.specs.declared.Index.{Index}
use Rattle.rules.specs.Log.{Log as Abstract}
use Rattle.raft_log.specs.declared.Log.{Log}
use Rattle.raft_log.specs.declared.Appended.{Appended}
use Rattle.raft_log.specs.Words.{run_count}
use Rattle.raft_log.specs.Run.{misnumbered, zero_term_in}
use Rattle.raft_log.specs.Append.{after_message, overfull, maybe_append, maybe_append_store, alike_before}
use Rattle.raft_log.specs.Extend.{append_run, append_run_store}
use Rattle.raft_log.specs.Commit.{commit_to, applied_to, maybe_commit, maybe_persist}
use Rattle.raft_log.specs.Settle.{stable_entries, stable_entries_store}
use Rattle.raft_log.specs.Setup.{new_log}
use Rattle.log_laws.specs.View.{view_of}

-- A follower: the state of its log, and the words of both stores. 01: "Two lent stores of u64".
pub record Follower : Type 0 where
  pub log : Log
  pub settled : List ℕ
  pub pending : List ℕ

-- The records that it holds, as a list after its start: "all that the follower holds".
abbrev pub held : Follower → Abstract
held f = view_of f.log f.settled f.pending

-- How far it holds its records as committed: "all that the follower holds as committed".
abbrev pub committed : Follower → ℕ
committed f = f.log.committed.0

-- The state after an answer of `maybe_append`: the one it carries; where it carries none, nothing changed. 01: "Every refusal returns its number alone and changes nothing."
abbrev pub log_appended : Answer Appended → Log → Log
log_appended (Ok said) before = said.log
log_appended (Err number) before = before

-- The state after an answer of `append`, likewise.
abbrev pub log_extended : Answer (Index × Log) → Log → Log
log_extended (Ok (last, after)) before = after
log_extended (Err number) before = before

-- The state after an answer of `commit_to`, `applied_to` or `stable_entries`, likewise.
abbrev pub log_changed : Answer Log → Log → Log
log_changed (Ok after) before = after
log_changed (Err number) before = before

-- The state after an answer of `maybe_commit` or `maybe_persist`, likewise; a no carries none either.
abbrev pub log_decided : Answer (Option Log) → Log → Log
log_decided (Ok (Some after)) before = after
log_decided (Ok None) before = before
log_decided (Err number) before = before

-- ---- a message arrives

-- As `maybe_append(idx, term, commit, run)` is handed it: the run is words, "(index, term, body) triples" where it is well-formed.
pub record Message : Type 0 where
  pub idx : ℕ
  pub term : ℕ
  pub commit : ℕ
  pub run : List ℕ

-- "the message's last index": idx + count.
abbrev pub last_index_of : Message → ℕ
last_index_of m = m.idx + run_count m.run

-- "a well-formed message": neither refusal 2 nor 3 is given to it.
abbrev pub WellFormed : Message → Type 0
WellFormed m = (misnumbered m.run m.idx ≡ false) × (zero_term_in m.run ≡ false)

-- What comes of a message: the answer, which "names the message's last index", and what "the follower then holds".
pub record Reception : Type 0 where
  pub answer : Answer Appended
  pub follower : Follower

-- A way to take a message in. The promise is stated of any, and proved of the engine's: "An engine that turns everything down .. has to be caught by these promises."
abbrev pub Receiver : Type 0
Receiver = Follower → Message → Reception

-- The answer that `maybe_append` promises: "conflict and idx + count", or the refusal.
abbrev pub answer_to : Follower → Message → Answer Appended
answer_to f m = maybe_append f.log f.settled f.pending m.idx m.term m.commit m.run

-- An answer, and the follower after it: its pending store is the one that `maybe_append` promises beside that answer, where "every other word stays".
abbrev pub reception_of : Follower → Message → Answer Appended → Reception
reception_of f m a = record { answer = a; follower = record { log = log_appended a f.log; settled = f.settled; pending = maybe_append_store a f.pending m.idx m.run } }

-- THE ENGINE'S way to take a message in: what `maybe_append` promises. Demand 3 is proved of it.
unfoldable pub engine : Receiver
engine f m = reception_of f m (answer_to f m)

-- How many of the message's records come before "the first run record whose term differs" from what is held. For `HasRoom`.
abbrev pub alike : Follower → Message → ℕ
alike f m = alike_before f.log f.settled f.pending m.idx m.run (run_count m.run)

-- "and has room": the table's rule 7, "pending after the call longer than its store", does not hold.
abbrev pub HasRoom : Follower → Message → Type 0
HasRoom f m = overfull (after_message f.log m.idx (run_count m.run) (alike f m) m.commit) f.pending ≡ false

-- ---- what the follower does between messages: "the follower only reads, settles, persists and applies", by any arguments

-- What it may do: "reads, settles, persists and applies". The arguments of a call are any numbers; that the call is refused is one of the things that may happen.
pub data Between : Type 0 where
  -- stable_entries(i, t)
  settles : ℕ → ℕ → Between
  -- maybe_persist(i, t)
  persists : ℕ → ℕ → Between
  -- applied_to(i)
  applies : ℕ → Between
  -- any call that answers no log: they take the state by value and the stores to read
  reads : Between

-- The follower with another state and the same stores, for the calls that write none: "every other word stays".
abbrev pub with_log : Follower → Log → Follower
with_log f l = record { log = l; settled = f.settled; pending = f.pending }

-- After `stable_entries`, whose answer is a: "pending is copied to settled".
abbrev pub settled_by : Follower → Answer Log → Follower
settled_by f a = record { log = log_changed a f.log; settled = stable_entries_store a f.log f.settled f.pending; pending = f.pending }

-- The follower after what it does: it "settles, persists and applies", or reads and stays as it is.
unfoldable pub does : Follower → Between → Follower
does f (settles i t) = settled_by f (stable_entries f.log f.settled f.pending i t)
does f (persists i t) = with_log f (log_decided (maybe_persist f.log f.settled f.pending i t) f.log)
does f (applies i) = with_log f (log_changed (applied_to f.log f.settled f.pending i) f.log)
does f reads = f

-- ---- what happens at the follower, and the follower after it, the first first

-- A message arrives, or the follower does something "between them".
pub data Event : Type 0 where
  arrives : Message → Event
  between : Between → Event

-- The follower after one event: "messages .. reach a follower", and "between them" it does one thing more.
abbrev pub step : Receiver → Follower → Event → Follower
step rcv f (arrives m) = (rcv f m).follower
step rcv f (between b) = does f b

-- The follower after several events, the first first. For "and keeps them", which speaks of all that comes later.
unfoldable pub follow : Receiver → Follower → List Event → Follower
follow rcv f [] = f
follow rcv f (e ∷ es) = follow rcv (step rcv f e) es

-- ---- "a log that set-up and these calls made" (01): reachable by `new` and the calls of raft_log

-- After `append`, whose answer is a: its pending store is the one that `append` promises beside it, where "every other word stays".
abbrev pub extended_by : Follower → List ℕ → Answer (Index × Log) → Follower
extended_by f run a = record { log = log_extended a f.log; settled = f.settled; pending = append_run_store a f.pending run }

-- "a log that set-up and these calls made": what set-up makes, and what each call makes of what was made; the calls that only look change nothing.
pub data Made : Follower → Type 0 where
  set_up : (start startterm last : ℕ) (settled pending : List ℕ) (l : Log) → new_log start startterm last settled ≡ Ok l → Made (record { log = l; settled = settled; pending = pending })
  by_maybe_append : (f : Follower) → Made f → (m : Message) → Made (engine f m).follower
  by_between : (f : Follower) → Made f → (b : Between) → Made (does f b)
  by_append : (f : Follower) → Made f → (run : List ℕ) → Made (extended_by f run (append_run f.log f.settled f.pending run))
  by_commit_to : (f : Follower) → Made f → (i : ℕ) → Made (with_log f (log_changed (commit_to f.log f.settled f.pending i) f.log))
  by_maybe_commit : (f : Follower) → Made f → (i t : ℕ) → Made (with_log f (log_decided (maybe_commit f.log f.settled f.pending i t) f.log))
