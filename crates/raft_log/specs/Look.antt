-- The calls that only look: `term`, `first_index`, `last_index`, `last_term`, `find_conflict_by_term`, `is_up_to_date`, `commit_info`. A reader must know: each answers refusal 1, or what the definition says.
use Rattle.std.specs.Prelude.{ℕ, zero, suc, ◌+◌, ◌-◌, Bool, ◌&&◌, ◌||◌, cond, List, eqb, leb, ltb, Ok, Err, Some, None, Option}
use Rattle.units.specs.Units.{index_of, as_term}
use Rattle.units.specs.declared.refusal.Refusal.TheVariants as refusal
use Rattle.units.specs.Refusals.{Answer}
use Rattle.units.specs.declared.Index.{Index}
use Rattle.units.specs.declared.Term.{Term}
use Rattle.raft_log.specs.declared.Log.{Log}
use Rattle.raft_log.specs.Words.{store_term}
use Rattle.raft_log.specs.State.{last_of, broken, term_at}

-- THE PROMISE of `term(i)`: "the record's term; the start's term at start; 0 outside [start, last]".
unfoldable pub look_term : Log → List ℕ → List ℕ → ℕ → Answer Term
look_term l settled pending i = cond (broken l settled pending) (Err refusal.BrokenState) (Ok (as_term (term_at l settled pending i)))

-- THE PROMISE of `first_index`: the index after the start, "before its first record".
unfoldable pub first_index : Log → List ℕ → List ℕ → Answer Index
first_index l settled pending = cond (broken l settled pending) (Err refusal.BrokenState) (Ok (index_of (l.start.0 + 1)))

-- THE PROMISE of `last_index`: "Last is offset plus the pending count, minus 1."
unfoldable pub last_index : Log → List ℕ → List ℕ → Answer Index
last_index l settled pending = cond (broken l settled pending) (Err refusal.BrokenState) (Ok (index_of (last_of l)))

-- THE PROMISE of `last_term`: the term there, 01's "last term" in `is_up_to_date`.
unfoldable pub last_term : Log → List ℕ → List ℕ → Answer Term
last_term l settled pending = cond (broken l settled pending) (Err refusal.BrokenState) (Ok (as_term (term_at l settled pending (last_of l))))

-- The term at j is at most t: "term(j) <= t".
abbrev pub at_most : Log → List ℕ → List ℕ → ℕ → ℕ → Bool
at_most l settled pending t j = leb (term_at l settled pending j) t

-- Record k of a store, counted from 1, has a term that is at most t: "term(j) <= t", among the records of one store.
abbrev pub record_at_most : List ℕ → ℕ → ℕ → Bool
record_at_most s t k = leb (store_term s (k - 1)) t

-- The largest number from i down that p holds of, 0 where it holds of none above. For "the largest j <= i with term(j) <= t".
unfoldable pub last_down : (ℕ → Bool) → ℕ → ℕ
last_down p zero = zero
last_down p (suc j) = cond (p (suc j)) (suc j) (last_down p j)

-- j and its term: "the largest j .. and that term".
abbrev pub found_at : Log → List ℕ → List ℕ → ℕ → Answer (Index × Option Term)
found_at l settled pending j = Ok (index_of j, Some (as_term (term_at l settled pending j)))

-- "i with no term if i > last; else the largest j <= i with term(j) <= t, and that term. Below start the term is 0."
unfoldable pub by_term_in : Log → List ℕ → List ℕ → ℕ → ℕ → Answer (Index × Option Term)
by_term_in l settled pending i t =
    cond (ltb (last_of l) i) (Ok (index_of i, None)) (found_at l settled pending (last_down (at_most l settled pending t) i))

-- THE PROMISE of `find_conflict_by_term(i, t)`: that, or 1: "state rules or store lengths broken".
unfoldable pub find_conflict_by_term : Log → List ℕ → List ℕ → ℕ → ℕ → Answer (Index × Option Term)
find_conflict_by_term l settled pending i t = cond (broken l settled pending) (Err refusal.BrokenState) (by_term_in l settled pending i t)

-- "t > last term, or equal and i >= last"
abbrev pub up_to_date : Log → List ℕ → List ℕ → ℕ → ℕ → Bool
up_to_date l settled pending i t = ltb (term_at l settled pending (last_of l)) t || (eqb t (term_at l settled pending (last_of l)) && leb (last_of l) i)

-- THE PROMISE of `is_up_to_date(i, t)`: that, or 1: "state rules or store lengths broken".
unfoldable pub is_up_to_date : Log → List ℕ → List ℕ → ℕ → ℕ → Answer Bool
is_up_to_date l settled pending i t = cond (broken l settled pending) (Err refusal.BrokenState) (Ok (up_to_date l settled pending i t))

-- THE PROMISE of `commit_info`: "committed and its term".
unfoldable pub commit_info : Log → List ℕ → List ℕ → Answer (Index × Term)
commit_info l settled pending = cond (broken l settled pending) (Err refusal.BrokenState) (Ok (index_of l.committed.0, as_term (term_at l settled pending l.committed.0)))
