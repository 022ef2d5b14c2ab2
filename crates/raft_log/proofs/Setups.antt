-- The laws of specs/Setup.antt: what set-up is handed meets the rules, as a test and as facts; and one law for each answer of `new`.
use mathlib.Core.Path.{◌≡◌}
use mathlib.Core.Bool.{true, false, and-eq-true_iff}
use mathlib.Core.List.{List}
use Prim.Native.Nat.{ℕ, ◌-◌, ◌≤◌, ◌<◌}
use native.Mathlib.Omega.{arith}
use borrow.Author.Tests.{le-leb, leb-true, eq-eqb, ne_eqb}
use lib.Dec.{eqb, leb}
use Rattle.units.specs.Units.{index_limit}
use Rattle.units.specs.declared.refusal.Refusal.TheVariants as refusal
use Rattle.raft_log.specs.Words.{room, store_term, first_from, zero_at}
use Rattle.raft_log.specs.State.{agree}
use Rattle.raft_log.specs.Setup.{fresh, setup_ok, new_log}
use Rattle.raft_log.proofs.States.{refuted}
use Rattle.raft_log.proofs.Searching.{found}
use Rattle.std.specs.Prelude.{Ok, Err}

module _ (start startterm last : ℕ) (settled : List ℕ) where
  pub record SetsUp : Type 0 where
    pub starts : agree (eqb start 0) (eqb startterm 0) ≡ true
    pub start_le_last : start ≤ last
    pub last_le_limit : last ≤ index_limit
    pub settled_room : last - start ≤ room settled

  pub ok_sets_up : setup_ok start startterm last settled ≡ true → SetsUp
  unfolding setup_ok
  ok_sets_up h =
      let a = (and-eq-true_iff _ _).0 h in
      let b = (and-eq-true_iff _ _).0 a.0 in
      let d = (and-eq-true_iff _ _).0 b.0 in
      record {
        starts = d.0;
        start_le_last = leb-true _ _ d.1;
        last_le_limit = leb-true _ _ b.1;
        settled_room = leb-true _ _ a.1;
      }

  -- where a rule is broken
  pub bad_setup : (SetsUp → ⊥) → setup_ok start startterm last settled ≡ false
  bad_setup h = refuted _ (λ e. h (ok_sets_up e))

  -- where only the room is left to be seen
  pub room_left : agree (eqb start 0) (eqb startterm 0) ≡ true → start ≤ last → last ≤ index_limit
      → setup_ok start startterm last settled ≡ leb (last - start) (room settled)
  unfolding setup_ok
  room_left a b d = simp (a, le-leb _ _ b, le-leb _ _ d)

  pub setup_broken : setup_ok start startterm last settled ≡ false → new_log start startterm last settled ≡ Err refusal.BrokenState
  unfolding new_log
  setup_broken h = simp h

  module _ (first : ℕ) (e : first ≡ first_from (zero_at (store_term settled)) 0 (last - start)) where
    pub setup_zero : setup_ok start startterm last settled ≡ true → first < last - start
        → new_log start startterm last settled ≡ Err refusal.ZeroTerm
    unfolding new_log
    setup_zero h z =
        simp (h, ne_eqb (first_from (zero_at (store_term settled)) 0 (last - start)) (last - start) (omega arith))

    pub setup_done : setup_ok start startterm last settled ≡ true → last - start ≤ first
        → new_log start startterm last settled ≡ Ok (fresh start startterm last)
    unfolding new_log
    setup_done h z =
        let within = (found (zero_at (store_term settled)) 0 (last - start)).within in
        simp (h, eq-eqb (first_from (zero_at (store_term settled)) 0 (last - start)) (last - start) (omega arith))
