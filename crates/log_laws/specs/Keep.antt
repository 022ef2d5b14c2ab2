-- What a call keeps: where its answer carries a log, P holds of that log over the stores as they then are. (Where it carries none, nothing changed.)
-- A reader must know: P is the state rules (`Good` of raft_log/specs/State.antt) or `TermsSet`, below; that each call keeps them is proved in proofs/Keep.antt and proofs/Terms.antt.
use Rattle.std.specs.Prelude.{List, ℕ, ◌≤◌, ◌<◌, Option}
use Rattle.std.specs.Result.{IfOk}
use Rattle.std.specs.Option.{IfSome}
use Rattle.units.specs.Refusals.{Answer}
use Rattle.units.specs.declared.Index.{Index}
use Rattle.rules.specs.Log.{Log as Abstract, last, term_of}
use Rattle.raft_log.specs.declared.Log.{Log}
use Rattle.raft_log.specs.declared.Appended.{Appended}
use Rattle.log_laws.specs.View.{view_of}

module _ (P : Log → List ℕ → List ℕ → Type 0) where
  -- P holds after an answer that is a new log; a refusal "changes nothing".
  abbrev pub AfterChanged : Answer Log → List ℕ → List ℕ → Type 0
  AfterChanged answer settled pending = IfOk answer (λ after. P after settled pending)

  -- P holds after an answer that is a yes with a new log; a no leaves the log as it was, and a refusal "changes nothing".
  abbrev pub AfterDecided : Answer (Option Log) → List ℕ → List ℕ → Type 0
  AfterDecided answer settled pending = IfOk answer (λ said. IfSome said (λ after. P after settled pending))

  -- P holds after an answer of `append`, which "answers the new last".
  abbrev pub AfterExtended : Answer (Index × Log) → List ℕ → List ℕ → Type 0
  AfterExtended answer settled pending = IfOk answer (λ (last, after). P after settled pending)

  -- P holds after an answer of `maybe_append`: "conflict and idx + count".
  abbrev pub AfterAppended : Answer Appended → List ℕ → List ℕ → Type 0
  AfterAppended answer settled pending = IfOk answer (λ said. P said.log settled pending)

-- 01, refusal 3: "a zero term in a run, or in settled at set-up"; "Set-up (`new`) also checks that settled terms are nonzero". That keeps zero terms out: each record behind the start has a nonzero term.
abbrev pub NonzeroTerms : Abstract → Type 0
NonzeroTerms l = (i : ℕ) → l.start < i → i ≤ last l → 0 < term_of l i

-- The same of the list that the state and the words stand for. For "settled terms are nonzero".
abbrev pub TermsSet : Log → List ℕ → List ℕ → Type 0
TermsSet l settled pending = NonzeroTerms (view_of l settled pending)
