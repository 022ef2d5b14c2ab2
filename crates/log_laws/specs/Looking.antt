-- What `find_conflict_by_term` finds, said of a list of records. A reader must know: proofs/Looking.antt shows that where the call finds something in a good log, it is `FoundBelow`.
use Rattle.std.specs.Prelude.{ℕ, ◌≤◌, ◌<◌, ◌≡◌}
use Rattle.rules.specs.Log.{Log, term_of}

-- 01: "the largest j <= i with term(j) <= t, and that term". "Below start the term is 0", so that there always is one.
pub record FoundBelow (log : Log) (i t j found : ℕ) : Type 0 where
  pub within : j ≤ i
  pub its_term : found ≡ term_of log j
  pub low : found ≤ t
  pub largest : (k : ℕ) → j < k → k ≤ i → t < term_of log k
