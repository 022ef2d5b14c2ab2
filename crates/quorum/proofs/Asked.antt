-- A set whose count is within the limit is checked as the list of its ids is: why the questions over sets may ask those over lists.
use Prim.Native.Nat.{ℕ, ◌<◌}
use mathlib.Core.Path.{◌≡◌, sym, ap, ◌∙◌}
use mathlib.Core.List.{List}
use lib.ListN.{length}
use Rattle.std.specs.Prelude.{Err}
use Rattle.units.specs.declared.refusal.Refusal.TheVariants as refusal
use Rattle.quorum.specs.Limits.{voter_limit}
use Rattle.quorum.specs.Ids.{few_distinct, fine_if}
use Rattle.quorum.specs.Voters.{voters_of, voters_check, set_of}
use Rattle.quorum.specs.declared.majority.Voters.{Voters}
use Rattle.quorum.proofs.Checks.{over_limit, set_check_lem}

pub over : (v : Voters) → voter_limit < v.count → voters_check v ≡ Err refusal.BrokenSet
over v h = over_limit v.count voter_limit (voters_of v) h

pub checked_as_ids : (v : Voters) (ids : List ℕ) → ids ≡ voters_of v → length ids ≡ v.count → voters_check v ≡ voters_check (set_of ids)
checked_as_ids v ids e n =
    ap (λ (k : ℕ). fine_if (few_distinct k voter_limit (voters_of v))) (sym n)
    ∙ ap (λ (xs : List ℕ). fine_if (few_distinct (length ids) voter_limit xs)) (sym e)
    ∙ sym (set_check_lem ids)
