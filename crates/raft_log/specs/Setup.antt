-- Set-up, `new`: handed the start (index, term), the last settled index and both stores. A reader must know: refusal 1 where they break the state rules, then 3 for a zero term in settled.
use Rattle.std.specs.Prelude.{ℕ, ◌+◌, ◌-◌, Bool, not, ◌&&◌, cond, List, eqb, leb, Ok, Err}
use Rattle.units.specs.Units.{index_of, as_term, index_limit}
use Rattle.units.specs.declared.refusal.Refusal.TheVariants as refusal
use Rattle.units.specs.Refusals.{Answer}
use Rattle.raft_log.specs.declared.Log.{Log}
use Rattle.raft_log.specs.Words.{room, store_term, none, zero_at}
use Rattle.raft_log.specs.State.{agree}

-- "committed = applied = start, persisted = last, offset = last + 1"
abbrev pub fresh : ℕ → ℕ → ℕ → Log
fresh start startterm last = record {
  start = index_of start;
  startterm = as_term startterm;
  offset = index_of (last + 1);
  count = 0;
  committed = index_of start;
  persisted = index_of last;
  applied = index_of start;
}

-- What set-up is handed meets the state rules: "start index 0 exactly if start term 0"; else 1. "A last below start or above the limit is 1; a settled store too short is 1; any pending store will do" (open points).
unfoldable pub setup_ok : ℕ → ℕ → ℕ → List ℕ → Bool
setup_ok start startterm last settled =
    agree (eqb start 0) (eqb startterm 0)
    && leb start last
    && leb last index_limit
    && leb (last - start) (room settled)

-- "Set-up (`new`) also checks that settled terms are nonzero": one of its first n records has term 0.
abbrev pub settled_zero : List ℕ → ℕ → Bool
settled_zero settled n = not (none (zero_at (store_term settled)) n)

-- THE PROMISE of `new`: 1, then 3, "a zero term .. in settled at set-up", else the log above.
unfoldable pub new_log : ℕ → ℕ → ℕ → List ℕ → Answer Log
new_log start startterm last settled =
    cond (not (setup_ok start startterm last settled)) (Err refusal.BrokenState)
    (cond (settled_zero settled (last - start)) (Err refusal.ZeroTerm) (Ok (fresh start startterm last)))
