-- Set-up stands for the records that its settled store holds, after the start that it was handed.
use Prim.Native.Nat.{ℕ, ◌+◌, ◌-◌}
use mathlib.Core.Path.{◌≡◌, ap, ◌∙◌}
use mathlib.Core.List.{List, append-nil}
use native.Mathlib.Omega.{arith}
use Rattle.units.specs.Lists.{listed}
use Rattle.rules.specs.Log.{Entry, Log as Abstract}
use Rattle.raft_log.specs.declared.Log.{Log}
use Rattle.raft_log.specs.Setup.{fresh, new_log}
use Rattle.log_laws.specs.View.{records, view_of}
use Rattle.log_laws.specs.Keep.{AfterChanged}
use Rattle.log_laws.proofs.After.{after_new}

module _ (start startterm last : ℕ) (settled pending : List ℕ) where
  abbrev held : List Entry → Abstract
  held entries = record { start = start; start_term = startterm; entries = entries }

  pub fresh_view : view_of (fresh start startterm last) settled pending ≡ held (records (last - start) settled)
  unfolding view_of listed
  fresh_view =
      let number : last + 1 - 1 - start ≡ last - start = omega arith in
      ap held (append-nil (records (last + 1 - 1 - start) settled) ∙ ap (λ (n : ℕ). records n settled) number)

  -- A log over its stores stands for these records.
  abbrev pub Stands : Log → List ℕ → List ℕ → Type 0
  Stands a settled' pending' = view_of a settled' pending' ≡ held (records (last - start) settled)

  pub new_view : AfterChanged Stands (new_log start startterm last settled) settled pending
  new_view = after_new Stands start startterm last settled pending (λ s z. fresh_view)
