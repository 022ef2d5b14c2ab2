-- Two ends to try the promise on, and receivers that must not keep it. A reader must know: each of these is the engine with one thing wrong; that `Theorem` fails of it is proved in proofs/Wrong.antt.
use Rattle.std.specs.Prelude.{ℕ, ◌+◌, min, max, true, cond, List, [], ◌∷◌, eqb, Ok, Err}
use Rattle.units.specs.Units.{index_of, as_term}
use Rattle.units.specs.declared.refusal.Refusal.TheVariants as refusal
use Rattle.units.specs.Refusals.{Answer}
use Rattle.rules.specs.Log.{Entry, entry}
use Rattle.raft_log.specs.declared.Log.{Log}
use Rattle.raft_log.specs.declared.Appended.{Appended}
use Rattle.raft_log.specs.Words.{run_count}
use Rattle.raft_log.specs.State.{broken}
use Rattle.raft_log.specs.Run.{misnumbered, zero_term_in}
use Rattle.raft_log.specs.Append.{with_committed, cut_if, commit_up, mismatched, decide}
use Rattle.raft_log.specs.Commit.{with_persisted}
use Rattle.raft_log.specs.Setup.{fresh}
use Rattle.two_ends.specs.Follower.{Follower, committed, Message, Receiver, answer_to, reception_of, alike}
use Rattle.two_ends.specs.Leader.{cut}

-- ---- two ends

-- A "whole list from index 1": records 1 to 4, of terms 1, 1, 2, 2 and bodies 11 to 14.
abbrev pub leader : List Entry
leader = entry 1 11 ∷ entry 1 12 ∷ entry 2 13 ∷ entry 2 14 ∷ []

-- A log that starts with (0, 0) and has applied 1, by the four numbers that a message moves: offset, count, committed, persisted.
abbrev pub log_with : ℕ → ℕ → ℕ → ℕ → Log
log_with offset count committed persisted = record {
  start = index_of 0;
  startterm = as_term 0;
  offset = index_of offset;
  count = count;
  committed = index_of committed;
  persisted = index_of persisted;
  applied = index_of 1;
}

-- The words of a follower whose third record is another leader's: (1, 99), where the leader has (2, 13); and room for one record more.
abbrev pub settled_words : List ℕ
settled_words = 1 ∷ 11 ∷ 1 ∷ 12 ∷ 1 ∷ 99 ∷ 0 ∷ 0 ∷ []

-- The follower that has these settled, committed up to 1 and persisted up to 3, and nothing pending; old words in its pending store.
abbrev pub follower : Follower
follower = record { log = log_with 4 0 1 3; settled = settled_words; pending = 1 ∷ 99 ∷ 0 ∷ 0 ∷ [] }

-- One that starts with the leader's second record, (2, 1), and has that other third record settled.
abbrev pub late : Follower
late = record { log = fresh 2 1 3; settled = 1 ∷ 99 ∷ []; pending = 0 ∷ 0 ∷ 0 ∷ 0 ∷ [] }

-- A message of the leader's: its third record, commit number 9.
abbrev pub third : Message
third = cut leader 2 1 9

-- A message of the leader's: its third and fourth record, commit number 0.
abbrev pub third_and_fourth : Message
third_and_fourth = cut leader 2 2 0

-- A message of the leader's: no record after the first, commit number 3.
abbrev pub heartbeat : Message
heartbeat = cut leader 1 0 3

-- A message of the leader's: no record after (0, 0), commit number 0.
abbrev pub from_zero : Message
from_zero = cut leader 0 0 0

-- What the engine must make of the follower by `third`. 01: "if the conflict is below offset, pending is cleared and offset becomes the conflict; persisted becomes the smaller of itself and conflict - 1".
abbrev pub corrected : Follower
corrected = record { log = log_with 3 1 3 2; settled = settled_words; pending = 2 ∷ 13 ∷ 0 ∷ 0 ∷ [] }

-- ---- wrong receivers

-- Another answer where the engine accepts; its refusals stay. For the wrong receivers below.
abbrev pub accepting : (Appended → Answer Appended) → Answer Appended → Answer Appended
accepting other (Ok said) = other said
accepting other (Err number) = Err number

-- The engine's answer with another log after it. For the same.
abbrev pub with_its : Appended → Log → Answer Appended
with_its said log = Ok (record { conflict = said.conflict; last = said.last; log = log })

-- "An engine that turns everything down ..
abbrev pub refuses_all : Receiver
refuses_all f m = reception_of f m (Err refusal.Mismatch)

-- .. or says yes and stores nothing, has to be caught by these promises."
abbrev pub stores_nothing : Receiver
stores_nothing f m = reception_of f m (accepting (λ said. Ok (record { conflict = index_of 0; last = said.last; log = f.log })) (answer_to f m))

-- 01: "one that cuts on every message": after idx, also where its run matches.
abbrev pub cuts_always : Receiver
cuts_always f m =
    reception_of f m (accepting (λ said. Ok (record { conflict = index_of (m.idx + 1); last = said.last; log = commit_up (cut_if true f.log (m.idx + 1) said.last.0) m.commit said.last.0 })) (answer_to f m))

-- 01, tempting mistakes: "committing to `commit` without the minimum".
abbrev pub commits_blindly : Receiver
commits_blindly f m = reception_of f m (accepting (λ said. with_its said (with_committed said.log (max (committed f) m.commit))) (answer_to f m))

-- 01, tempting mistakes: "cutting everything after idx when the run already matches": only the run's records stay.
abbrev pub cuts_behind_match : Receiver
cuts_behind_match f m =
    reception_of f m (accepting (λ said. with_its said (cut_if (eqb (alike f m) (run_count m.run)) said.log (said.last.0 + 1) said.last.0)) (answer_to f m))

-- 01, tempting mistakes: "taking term 0 as "absent, so no match" in ordinary lookups": the previous record is then another (5).
abbrev pub zero_is_absent : Receiver
zero_is_absent f m = reception_of f m (accepting (λ said. cond (eqb m.term 0) (Err refusal.Mismatch) (Ok said)) (answer_to f m))

-- 01, tempting mistakes: "lowering persisted when there is no conflict": to idx, as if the first record were one.
abbrev pub lowers_persisted : Receiver
lowers_persisted f m = reception_of f m (accepting (λ said. with_its said (with_persisted said.log (min f.log.persisted.0 m.idx))) (answer_to f m))

-- Leaves persisted where it was on a conflict, without "persisted becomes the smaller of itself and conflict - 1".
abbrev pub persisted_stays : Receiver
persisted_stays f m = reception_of f m (accepting (λ said. with_its said (with_persisted said.log f.log.persisted.0)) (answer_to f m))

-- Does not give 4, "previous term 0 and idx outside [start, last]": the table of `maybe_append` without that line.
abbrev pub no_refusal_4 : Receiver
no_refusal_4 f m =
    reception_of f m
    (cond (broken f.log f.settled f.pending) (Err refusal.BrokenState)
    (cond (misnumbered m.run m.idx) (Err refusal.MisnumberedRun)
    (cond (zero_term_in m.run) (Err refusal.ZeroTerm)
    (cond (mismatched f.log f.settled f.pending m.idx m.term) (Err refusal.Mismatch)
    (decide f.log f.pending m.idx m.commit (run_count m.run) (alike f m))))))
