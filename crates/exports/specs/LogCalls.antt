-- The exported calls of the log. A reader must know: each is the call of crate raft_log on the log whose state the slice `log` begins with; a slice too short for the state or for the values of the answer is refusal 1.
-- The result is 0 or the refusal's number. A refusal leaves every slice as it was.
use Rattle.std.specs.Prelude.{ℕ, true, false, Option, Some, None, List, [], ◌∷◌}
use Rattle.units.specs.Refusals.{Answer}
use Rattle.units.specs.declared.Index.{Index}
use Rattle.raft_log.specs.Append.{maybe_append, maybe_append_store}
use Rattle.raft_log.specs.Commit.{commit_to, applied_to, maybe_commit, maybe_persist}
use Rattle.raft_log.specs.Extend.{append_run, append_run_store}
use Rattle.raft_log.specs.Settle.{stable_entries, stable_entries_store}
use Rattle.raft_log.specs.Setup.{new_log}
use Rattle.raft_log.specs.declared.Appended.{Appended}
use Rattle.raft_log.specs.declared.Log.{Log}
use Rattle.exports.specs.Words.{log_length, single_length, pair_length, log_from, log_words, flag_word, put, Outcome, answer_leaves, values_leave, with_store, unless_short}

-- Into `log` goes the state after it, and into `answer` conflict and last: "conflict and idx + count".
abbrev pub appended_writes : List ℕ → List ℕ → Appended → List (List ℕ)
appended_writes log answer a = put log (log_words a.log) ∷ put answer (a.conflict.0 ∷ a.last.0 ∷ []) ∷ []

-- What an answer of `maybe_append` leaves of `log` and `answer`: that.
abbrev pub appended_leaves : Answer Appended → List ℕ → List ℕ → Outcome
appended_leaves said log answer = answer_leaves (appended_writes log answer) said (log ∷ answer ∷ [])

-- THE PROMISE of `log_maybe_append`: what it leaves of `pending`, `log` and `answer`. 01's sentences stand in raft_log/specs/Append.antt.
abbrev pub maybe_append_leaves : List ℕ → List ℕ → List ℕ → ℕ → ℕ → ℕ → List ℕ → List ℕ → Outcome
maybe_append_leaves log settled pending idx term commit run answer =
    let said = maybe_append (log_from log) settled pending idx term commit run in
    let slices = pending ∷ log ∷ answer ∷ [] in
    unless_short log log_length slices
    (unless_short answer pair_length slices
    (with_store (maybe_append_store said pending idx run) (appended_leaves said log answer)))

-- ---- The other calls that write

-- Into `log` goes the state after it, and into `answer` "the new last".
abbrev pub extended_writes : List ℕ → List ℕ → Index × Log → List (List ℕ)
extended_writes log answer (last, after) = put log (log_words after) ∷ put answer (last.0 ∷ []) ∷ []

-- What an answer of `append` leaves of `log` and `answer`: that.
abbrev pub extended_leaves : Answer (Index × Log) → List ℕ → List ℕ → Outcome
extended_leaves said log answer = answer_leaves (extended_writes log answer) said (log ∷ answer ∷ [])

-- What an answer without values leaves of `log`: the state after it.
abbrev pub changed_leaves : Answer Log → List ℕ → Outcome
changed_leaves = values_leave log_words

-- Into `log` goes the state after a yes, while a no leaves it as it was; and into `answer` goes yes or no.
abbrev pub decided_writes : List ℕ → List ℕ → Option Log → List (List ℕ)
decided_writes log answer (Some l) = put log (log_words l) ∷ put answer (flag_word true ∷ []) ∷ []
decided_writes log answer None = log ∷ put answer (flag_word false ∷ []) ∷ []

-- What an answer yes or no leaves of `log` and `answer`: that.
abbrev pub decided_leaves : Answer (Option Log) → List ℕ → List ℕ → Outcome
decided_leaves said log answer = answer_leaves (decided_writes log answer) said (log ∷ answer ∷ [])

-- THE PROMISE of `log_new`: what it leaves of `log`, whose words it does not read: "committed = applied = start, persisted = last, offset = last + 1". "any pending store will do" (open points).
abbrev pub new_log_leaves : ℕ → ℕ → ℕ → List ℕ → List ℕ → Outcome
new_log_leaves start startterm last settled log = unless_short log log_length (log ∷ []) (changed_leaves (new_log start startterm last settled) log)

-- THE PROMISE of `log_append`: what it leaves of `pending`, `log` and `answer`: "the cut above from its own first index, no term compared; answers the new last".
abbrev pub append_leaves : List ℕ → List ℕ → List ℕ → List ℕ → List ℕ → Outcome
append_leaves log settled pending run answer =
    let said = append_run (log_from log) settled pending run in
    let slices = pending ∷ log ∷ answer ∷ [] in
    unless_short log log_length slices
    (unless_short answer single_length slices
    (with_store (append_run_store said pending run) (extended_leaves said log answer)))

-- THE PROMISE of `log_commit_to`: what it leaves of `log`: "nothing if i <= committed, else committed is i".
abbrev pub commit_to_leaves : List ℕ → List ℕ → List ℕ → ℕ → Outcome
commit_to_leaves log settled pending i = unless_short log log_length (log ∷ []) (changed_leaves (commit_to (log_from log) settled pending i) log)

-- THE PROMISE of `log_maybe_commit`: what it leaves of `log` and `answer`: "yes exactly if committed < i <= last (the upper bound is added) and term(i) = t, then commits".
abbrev pub maybe_commit_leaves : List ℕ → List ℕ → List ℕ → ℕ → ℕ → List ℕ → Outcome
maybe_commit_leaves log settled pending i t answer =
    unless_short log log_length (log ∷ answer ∷ [])
    (unless_short answer single_length (log ∷ answer ∷ [])
    (decided_leaves (maybe_commit (log_from log) settled pending i t) log answer))

-- THE PROMISE of `log_applied_to`: what it leaves of `log`: "`applied_to(0)` does nothing; `applied_to(i)` makes applied i".
abbrev pub applied_to_leaves : List ℕ → List ℕ → List ℕ → ℕ → Outcome
applied_to_leaves log settled pending i = unless_short log log_length (log ∷ []) (changed_leaves (applied_to (log_from log) settled pending i) log)

-- THE PROMISE of `log_maybe_persist`: what it leaves of `log` and `answer`: "yes exactly if persisted < i < offset and the settled term at i is t; then persisted is i".
abbrev pub maybe_persist_leaves : List ℕ → List ℕ → List ℕ → ℕ → ℕ → List ℕ → Outcome
maybe_persist_leaves log settled pending i t answer =
    unless_short log log_length (log ∷ answer ∷ [])
    (unless_short answer single_length (log ∷ answer ∷ [])
    (decided_leaves (maybe_persist (log_from log) settled pending i t) log answer))

-- THE PROMISE of `log_stable_entries`: what it leaves of `settled` and `log`: "pending is copied to settled .. and offset becomes i + 1".
abbrev pub stable_entries_leaves : List ℕ → List ℕ → List ℕ → ℕ → ℕ → Outcome
stable_entries_leaves log settled pending i t =
    let said = stable_entries (log_from log) settled pending i t in
    unless_short log log_length (settled ∷ log ∷ [])
    (with_store (stable_entries_store said (log_from log) settled pending) (changed_leaves said log))
