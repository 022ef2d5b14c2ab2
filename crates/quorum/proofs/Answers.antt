-- The answers of the quorum questions, by their check: its refusal, or what the halves say. Each question is one of these under its own promise.
use mathlib.Core.Path.{◌≡◌, sym}
use Rattle.std.specs.Prelude.{Ok, Err}
use Rattle.units.specs.Units.{index_of}
use Rattle.units.proofs.Checks.{unless_refused}
use Rattle.units.specs.Refusals.{Check, fine}
use Rattle.units.specs.declared.refusal.Refusal.{Refusal}
use Rattle.quorum.specs.Majority.{index_unless, result_unless}
use Rattle.quorum.specs.declared.VoteResult.{VoteResult}
use Rattle.quorum.specs.declared.half.Half.{Half}

-- k is the check, h or r what the halves say
module _ (k : Check) (h : Half) where
  pub index_refused : (n : Refusal) → k ≡ Err n → Err n ≡ index_unless k h
  index_refused n e = sym (unless_refused _ e)

  pub index_at : (found : Half) → k ≡ fine → found ≡ h → Ok (index_of found.index, found.free) ≡ index_unless k h
  index_at found e f = rw (e, f)

module _ (k : Check) (r : VoteResult) where
  pub result_refused : (n : Refusal) → k ≡ Err n → Err n ≡ result_unless k r
  result_refused n e = sym (unless_refused _ e)

  pub result_stands : (found : VoteResult) → k ≡ fine → found ≡ r → Ok found ≡ result_unless k r
  result_stands found e f = rw (e, f)
