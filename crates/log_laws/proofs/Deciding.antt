-- The calls that move one number, and settling, decide by the view: on a good log each answers what its rule says of the list of records. (That they leave the list as it is stands in Unmoved.antt and AfterCalls.antt.)
use Prim.Native.Nat.{ℕ, ◌-◌, min}
use mathlib.Core.Path.{◌≡◌, sym, ap, ap₂, ◌∙◌}
use mathlib.Core.Bool.{Bool, not, ◌&&◌, ◌||◌, cond}
use mathlib.Core.List.{List}
use mathlib.Core.Logic.{⊎_elim}
use native.Mathlib.Omega.{arith}
use borrow.Author.Tests.{lt-ltb, le-ltb}
use lib.Dec.{eqb, leb, ltb}
use Rattle.units.specs.declared.refusal.Refusal.TheVariants as refusal
use Rattle.units.proofs.Numbers.{below_or_not}
use Rattle.rules.specs.Log.{Log as Abstract, last, term_of}
use Rattle.raft_log.specs.declared.Log.{Log}
use Rattle.raft_log.specs.Words.{room, store_term}
use Rattle.raft_log.specs.State.{Good, term_at}
use Rattle.raft_log.specs.Append.{with_committed}
use Rattle.raft_log.specs.Commit.{with_applied, with_persisted, commit_to, applied_to, maybe_commit, maybe_persist}
use Rattle.raft_log.specs.Settle.{settled_log, stable_entries}
use Rattle.raft_log.proofs.States.{good_whole, term_settled}
use Rattle.log_laws.specs.View.{view_of}
use Rattle.log_laws.proofs.Views.{view_last, view_start, view_term}
use Rattle.std.specs.Prelude.{Ok, Err, Some, None}

module _ (l : Log) (settled pending : List ℕ) (good : Good l settled pending) where
  abbrev view : Abstract
  view = view_of l settled pending

  -- "nothing if i <= committed, else committed is i"; 8 above last
  pub commit_to_rule : (i : ℕ) → commit_to l settled pending i ≡ cond (leb i l.committed.0) (Ok l) (cond (ltb (last view) i) (Err refusal.OutOfRange) (Ok (with_committed l i)))
  unfolding commit_to
  commit_to_rule i = simp (good_whole l settled pending good) (ap (λ (n : ℕ). cond (leb i l.committed.0) (Ok l) (cond (ltb n i) (Err refusal.OutOfRange) (Ok (with_committed l i)))) (sym (view_last l settled pending good)))

  -- "`applied_to(0)` does nothing; `applied_to(i)` makes applied i"; 8 above min(committed, persisted) or below applied: it reads no record
  pub applied_to_rule : (i : ℕ) → applied_to l settled pending i
      ≡ cond (eqb i 0) (Ok l) (cond (ltb (min l.committed.0 l.persisted.0) i || ltb i l.applied.0) (Err refusal.OutOfRange) (Ok (with_applied l i)))
  unfolding applied_to
  applied_to_rule i = simp (good_whole l settled pending good)

  -- "yes exactly if committed < i <= last and term(i) = t, then commits"
  pub maybe_commit_rule : (i t : ℕ) → maybe_commit l settled pending i t ≡ cond (ltb l.committed.0 i && leb i (last view) && eqb (term_of view i) t) (Ok (Some (with_committed l i))) (Ok None)
  unfolding maybe_commit
  maybe_commit_rule i t = simp (good_whole l settled pending good) (ap₂ (λ (n x : ℕ). cond (ltb l.committed.0 i && leb i n && eqb x t) (Ok (Some (with_committed l i))) (Ok None)) (sym (view_last l settled pending good)) (sym (view_term l settled pending good i)))

  -- "yes exactly if persisted < i < offset and the settled term at i is t": a settled record's term is the view's
  settled_term : (i t : ℕ) → (ltb l.persisted.0 i && ltb i l.offset.0 && eqb (store_term settled (i - l.start.0 - 1)) t) ≡ (ltb l.persisted.0 i && ltb i l.offset.0 && eqb (term_of view i) t)
  settled_term i t =
      ⊎_elim
      (λ above. ⊎_elim
      (λ below. ap (λ (x : ℕ). ltb l.persisted.0 i && ltb i l.offset.0 && eqb x t) (sym (term_settled l settled pending i (omega (arith, good.start_le_applied, good.applied_le_persisted)) below) ∙ sym (view_term l settled pending good i)))
      (λ beyond. simp (lt-ltb l.persisted.0 i above, le-ltb i l.offset.0 beyond))
      (below_or_not i l.offset.0))
      (λ not_above. simp (le-ltb l.persisted.0 i not_above))
      (below_or_not l.persisted.0 i)

  pub maybe_persist_rule : (i t : ℕ) → maybe_persist l settled pending i t ≡ cond (ltb l.persisted.0 i && ltb i l.offset.0 && eqb (term_of view i) t) (Ok (Some (with_persisted l i))) (Ok None)
  unfolding maybe_persist
  maybe_persist_rule i t = simp (good_whole l settled pending good) (ap (λ (b : Bool). cond b (Ok (Some (with_persisted l i))) (Ok None)) (settled_term i t))

  -- "pending's last record must be (i, t)" (10); 7 where the settled store has no room for all records
  pub stable_entries_rule : (i t : ℕ) → stable_entries l settled pending i t
      ≡ cond (ltb (room settled) (last view - view.start)) (Err refusal.NoRoom) (cond (not (not (eqb l.count 0) && eqb i (last view) && eqb (term_of view i) t)) (Err refusal.NotPending) (Ok (settled_log l)))
  unfolding stable_entries
  stable_entries_rule i t =
      simp (good_whole l settled pending good)
      (ap₂ (λ (n k : ℕ). cond (ltb (room settled) (n - k)) (Err refusal.NoRoom) (cond (not (not (eqb l.count 0) && eqb i n && eqb (term_at l settled pending i) t)) (Err refusal.NotPending) (Ok (settled_log l)))) (sym (view_last l settled pending good)) (sym (view_start l settled pending))
      ∙ ap (λ (x : ℕ). cond (ltb (room settled) (last view - view.start)) (Err refusal.NoRoom) (cond (not (not (eqb l.count 0) && eqb i (last view) && eqb x t)) (Err refusal.NotPending) (Ok (settled_log l)))) (sym (view_term l settled pending good i)))
