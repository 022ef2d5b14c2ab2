-- The values of the voters as `look_up` lays them: as many as there are voters, at the front of the array.
use Prim.Native.Nat.{ℕ, ◌≤◌}
use mathlib.Core.Path.{◌≡◌, sym, ◌∙◌}
use mathlib.Core.List.{List, map}
use lib.ListN.{length-map}
use mir.Val.{Val}
use denote.Laws.{Is}
use Rattle.quorum.specs.Limits.{voter_limit}
use Rattle.quorum.specs.Ids.{padded}
use Rattle.quorum.specs.Voters.{voters_of}
use Rattle.quorum.specs.declared.majority.Voters.{Voters}
use Rattle.quorum.proofs.Padded.{Laid, laid}
use Rattle.quorum.proofs.Sizes.{voters_front}
use Rattle.quorum.specs.contracts.majority.Voters as Vo

pub values_laid : (v : Voters) {vs : List Val} → Is Vo.the_row v vs → v.count ≤ voter_limit → (f : ℕ → ℕ) (all : List ℕ) → all ≡ padded voter_limit (map f (voters_of v)) → Laid all v.count (map f (voters_of v))
values_laid v owned few f all e = laid voter_limit v.count (map f (voters_of v)) all e (length-map (voters_of v) f ∙ sym (voters_front v owned few).counted) few
