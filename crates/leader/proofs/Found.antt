-- The step for an index already found: taken as itself, a refusal is handed on as it was.
use Prim.Native.Nat.{ℕ}
use mathlib.Core.Path.{◌≡◌, refl}
use mathlib.Core.Bool.{Bool}
use mathlib.Core.List.{List}
use Rattle.std.specs.Prelude.{Ok, Err}
use Rattle.units.specs.Refusals.{Answer}
use Rattle.units.specs.declared.Index.{Index}
use Rattle.raft_log.specs.Commit.{maybe_commit}
use Rattle.raft_log.specs.declared.Log.{Log}
use Rattle.leader.specs.Leader.{told_as, commit_found, commit_found_as}

told_itself : {A : Type 0} (said : Answer A) → told_as (λ r. r) said ≡ said
told_itself (Ok said) = refl
told_itself (Err refusal) = refl

pub as_itself : (l : Log) (settled pending : List ℕ) (term : ℕ) (found : Answer (Index × Bool)) → commit_found_as (λ r. r) l settled pending term found ≡ commit_found l settled pending term found
as_itself l settled pending term (Ok (index, free)) = told_itself (maybe_commit l settled pending index.0 term)
as_itself l settled pending term (Err refused) = refl
