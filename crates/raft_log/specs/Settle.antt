-- `stable_entries` of document 01: "pending's last record must be (i, t); pending is copied to settled .. and offset becomes i + 1".
-- A reader must know: `stable_entries` is the answer with the whole new log; `stable_entries_store` is the settled store after it.
use Rattle.std.specs.Prelude.{ℕ, ◌+◌, ◌-◌, ◌*◌, Bool, not, ◌&&◌, cond, List, eqb, ltb, Ok, Err}
use Rattle.std.proofs.Math.Seq.{paste}
use Rattle.units.specs.declared.refusal.Refusal.TheVariants as refusal
use Rattle.units.specs.Refusals.{Answer}
use Rattle.raft_log.specs.declared.Log.{Log}
use Rattle.raft_log.specs.Words.{record_words, room}
use Rattle.raft_log.specs.State.{last_of, settled_count, broken, term_at}
use Rattle.raft_log.specs.Append.{with_pending}

-- The log with nothing pending any more: "offset becomes i + 1".
abbrev pub settled_log : Log → Log
settled_log l = with_pending l (last_of l + 1) 0 l.persisted.0

-- 7: "no room: .. settled likewise in `stable_entries`"
abbrev pub settled_overfull : Log → List ℕ → Bool
settled_overfull l settled = ltb (room settled) (last_of l - l.start.0)

-- "pending's last record must be (i, t)", else 10: "`stable_entries` with nothing pending or another last record"
abbrev pub is_last : Log → List ℕ → List ℕ → ℕ → ℕ → Bool
is_last l settled pending i t = not (eqb l.count 0) && eqb i (last_of l) && eqb (term_at l settled pending i) t

-- THE PROMISE of `stable_entries(i, t)`: 1, 7, then 10 ("The lowest number wins"), else the log above.
unfoldable pub stable_entries : Log → List ℕ → List ℕ → ℕ → ℕ → Answer Log
stable_entries l settled pending i t =
    cond (broken l settled pending) (Err refusal.BrokenState)
    (cond (settled_overfull l settled) (Err refusal.NoRoom)
    (cond (not (is_last l settled pending i t)) (Err refusal.NotPending) (Ok (settled_log l))))

-- The settled store after an answer: "pending is copied to settled", behind its own records; every other word as it was.
unfoldable pub stable_entries_store : Answer Log → Log → List ℕ → List ℕ → List ℕ
stable_entries_store (Err number) l settled pending = settled
stable_entries_store (Ok after) l settled pending = paste settled (settled_count l * record_words) pending (l.count * record_words)
