-- What the constructor of a voter set gives: a set of the ids that it was handed, and one that no later call refuses.
use Prim.Native.Nat.{ℕ}
use mathlib.Core.Path.{◌≡◌, refl, sym, ap, ◌∙◌}
use mathlib.Core.Bool.{Bool, true}
use mathlib.Core.List.{List}
use lib.ListN.{length}
use Rattle.std.specs.Prelude.{Ok}
use Rattle.units.proofs.Cond.{taken}
use Rattle.units.proofs.Never.{never}
use Rattle.units.specs.Refusals.{fine}
use Rattle.quorum.specs.Limits.{voter_limit}
use Rattle.quorum.specs.Ids.{distinct, few_distinct}
use Rattle.quorum.specs.Voters.{voters_of, voters_check, set_of, no_voters, made}
use Rattle.quorum.proofs.Checks.{within, set_check_lem}
use Rattle.quorum.proofs.Padded.{take-padded}
use Rattle.quorum.specs.declared.majority.Voters.{Voters}

pub empty_fine : voters_check no_voters ≡ fine
unfolding distinct
empty_fine = refl

module _ (ids : List ℕ) where
  abbrev fits : Bool
  fits = few_distinct (length ids) voter_limit ids

  set_voters : fits ≡ true → voters_of (set_of ids) ≡ ids
  set_voters e = take-padded voter_limit ids (within (length ids) voter_limit ids (rw e))

  set_fine : fits ≡ true → voters_check (set_of ids) ≡ fine
  set_fine e = set_check_lem ids ∙ rw e

  -- what it answers, it answers of ids that fit
  module _ {set : Voters} (answers : made ids ≡ Ok set) where
    fitting : (fits ≡ true) × (set_of ids ≡ set)
    fitting = let t = taken fits (λ e. never cc) answers in (t.0, cc t.1)

    pub made_voters : voters_of set ≡ ids
    made_voters = ap voters_of (sym fitting.1) ∙ set_voters fitting.0

    pub made_fine : voters_check set ≡ fine
    made_fine = ap voters_check (sym fitting.1) ∙ set_fine fitting.0
