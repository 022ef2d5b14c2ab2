-- What the theorems say that a caller may read off a result and the five words of a part. A reader must know: `Tells` is proved of every exported call (proofs/Results.antt), `Names` of the three that answer a part of a store (proofs/Parts.antt).
use Rattle.std.specs.Prelude.{ℕ, ◌+◌, ◌≤◌, ◌≡◌, Err, List, [], length, get_or}
use Rattle.units.specs.Refusals.{Answer}
use Rattle.units.specs.declared.refusal.Refusal.{Refusal}
use Rattle.raft_log.specs.Slice.{part_of}
use Rattle.raft_log.specs.declared.Log.{Log}
use Rattle.raft_log.specs.declared.Bounds.{Bounds}
use Rattle.exports.specs.Words.{Outcome}
use Rattle.exports.specs.Reads.{store_at, part_at}

-- 01, "Refusals": "Every refusal returns its number alone and changes nothing." So the result tells what happened: other than 0, these slices are as they were; 0, what the call below said is no refusal.
pub record Tells {A : Type 0} (said : Answer A) (slices : List (List ℕ)) (out : Outcome) : Type 0 where
  pub keeps : (out.result ≡ 0 → ⊥) → out.slices ≡ slices
  pub taken : out.result ≡ 0 → (r : Refusal) → said ≡ Err r → ⊥

-- 01, `slice`: "A run is a part of whichever store holds it, settled or pending, never a copy." So the words that an answer names are those that the bounds name, and the store has all of them.
pub record Named (said : Answer Bounds) (l : Log) (settled pending answer : List ℕ) : Type 0 where
  pub part : part_at answer settled pending ≡ part_of said l settled pending
  pub inside : get_or answer 3 0 + get_or answer 4 0 ≤ length (store_at (get_or answer 0 0) settled pending)

-- A result of 0 leaves an answer that names "a part of whichever store holds it".
abbrev pub Names : Log → List ℕ → List ℕ → Answer Bounds → Outcome → Type 0
Names l settled pending said out = out.result ≡ 0 → Named said l settled pending (get_or out.slices 0 [])
