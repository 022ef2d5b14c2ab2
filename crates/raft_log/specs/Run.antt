-- What refusals 2 and 3 say of a run. A reader must know: `misnumbered` and `zero_term_in` are the two tests; `idx` is the index that the run follows on.
use Rattle.std.specs.Prelude.{ℕ, ◌+◌, ◌%◌, Bool, not, ◌&&◌, cond, List, eqb, leb, length, Ok, Err}
use Rattle.units.specs.Units.{index_limit}
use Rattle.units.specs.declared.refusal.Refusal.TheVariants as refusal
use Rattle.units.specs.Refusals.{Answer, Check, fine}
use Rattle.raft_log.specs.Words.{run_words, run_count, run_index, run_term, none, zero_at}

-- Record k does not have the index that its place after idx asks: "indices not rising by one from idx + 1".
abbrev pub misplaced : List ℕ → ℕ → ℕ → Bool
misplaced run idx k = not (eqb (run_index run k) (idx + 1 + k))

-- No part of refusal 2 holds of a run after idx: "run length not a multiple of three, indices not rising by one from idx + 1, .. or idx + count .. above the limit".
unfoldable pub numbered : List ℕ → ℕ → Bool
numbered run idx =
    eqb (length run % run_words) 0
    && leb (idx + run_count run) index_limit
    && none (misplaced run idx) (run_count run)

-- Refusal 2 of a run after idx: a part of that line of the table holds.
abbrev pub misnumbered : List ℕ → ℕ → Bool
misnumbered run idx = not (numbered run idx)

-- No record of a run has term 0. For refusal 3, "a zero term in a run".
unfoldable pub terms_set : List ℕ → Bool
terms_set run = none (zero_at (run_term run)) (run_count run)

-- Refusal 3 of a run: "a zero term in a run".
abbrev pub zero_term_in : List ℕ → Bool
zero_term_in run = not (terms_set run)

-- Inner: what the code's one pass over a run finds: 2 before 3, since "The lowest number wins".
unfoldable pub scan_run : List ℕ → ℕ → ℕ → Check
scan_run run idx n = cond (none (misplaced run idx) n) (cond (none (zero_at (run_term run)) n) fine (Err refusal.ZeroTerm)) (Err refusal.MisnumberedRun)

-- Inner: the check of a run, 2 before 3, since "The lowest number wins"; or how many records it has.
unfoldable pub check_run : List ℕ → ℕ → Answer ℕ
check_run run idx = cond (numbered run idx) (cond (terms_set run) (Ok (run_count run)) (Err refusal.ZeroTerm)) (Err refusal.MisnumberedRun)
