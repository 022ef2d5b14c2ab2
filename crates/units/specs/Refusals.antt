-- The table of refusals of document 01. A reader must know: a promise that refuses names the refusal (`refusal.BrokenState` and so on, one for each line of the table), and `number_of` has the number of each beside its line ("Given exactly when"). `src/refusal.rt` has the same names for the code.
use Rattle.std.specs.Prelude.{ℕ, Bool, cond, Result, Ok, Err}
use Rattle.units.specs.declared.refusal.Refusal.{Refusal}
use Rattle.units.specs.declared.refusal.Refusal.TheVariants as refusal

-- What a call answers: a value, or the refusal. 01: "Every refusal returns its number alone and changes nothing."
abbrev pub Answer : Type 0 → Type 0
Answer A = Result A Refusal

-- What a check answers: nothing wrong, or the refusal.
abbrev pub Check : Type 0
Check = Answer (Unit {0})

-- Nothing is wrong.
abbrev pub fine : Check
fine = Ok tt

-- THE PROMISE of `number`: the number of a refusal. 01: "Every refusal returns its number alone".
abbrev pub number_of : Refusal → ℕ
-- 1: "state rules or store lengths broken"
number_of refusal.BrokenState = 1
-- 2: "run length not a multiple of three, indices not rising by one from idx + 1, `append` starting at 0, or idx + count (for `append` its last index) above the limit"
number_of refusal.MisnumberedRun = 2
-- 3: "a zero term in a run, or in settled at set-up"
number_of refusal.ZeroTerm = 3
-- 4: "previous term 0 and idx outside [start, last] (added)"
number_of refusal.OutsideLog = 4
-- 5: "previous record doesn't match (the crate's `None`)"
number_of refusal.Mismatch = 5
-- 6: "nonzero conflict, or `append` start, at or below committed"
number_of refusal.CutsCommitted = 6
-- 7: "no room: pending after the call longer than its store; settled likewise in `stable_entries`; a window cap above the ring's length"
number_of refusal.NoRoom = 7
-- 8: "`commit_to` above last; a nonzero `applied_to` above min(committed, persisted) or below applied; low > high; high > last + 1; `append` leaving a gap or starting at or below persisted (the latter added)"
number_of refusal.OutOfRange = 8
-- 9: "low below the first index"
number_of refusal.BelowFirst = 9
-- 10: "`stable_entries` with nothing pending or another last record"
number_of refusal.NotPending = 10
-- 11: "`add` to a full window"
number_of refusal.WindowFull = 11
-- 12: "over 7 voters, a repeated voter id, over 64 rows, a repeated row id"
number_of refusal.BrokenSet = 12
-- 13: "window state broken: count above cap, cap above the ring, a start outside the ring, or a deferred cap that is not below cap or stands beside an empty queue"
number_of refusal.BrokenWindow = 13

-- THE PROMISE of `code`: the number that a check refuses by, 0 where it finds nothing wrong. 01: "Every refusal returns its number alone and changes nothing."
abbrev pub refusal_of : Check → ℕ
refusal_of (Ok _) = 0
refusal_of (Err r) = number_of r

-- Two checks, one after the other, and the first that refuses. 01: "An answer that is a refusal ends the call there."
abbrev pub both_checks : Check → Check → Check
both_checks (Ok _) next = next
both_checks (Err r) next = Err r

-- The check of one rule: nothing wrong where it holds, else its refusal, which is "Given exactly when" the rule is broken.
abbrev pub fine_or : Bool → Refusal → Check
fine_or holds r = cond holds fine (Err r)

-- 01: "An answer that is a refusal ends the call there." The answer where the check finds nothing wrong, else the refusal.
abbrev pub unless : {A : Type 0} → Check → Answer A → Answer A
unless (Ok _) answer = answer
unless (Err r) answer = Err r
