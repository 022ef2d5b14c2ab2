-- What the calls that move one number of the state answer, by what holds of the log.
use mathlib.Core.Path.{◌≡◌}
use mathlib.Core.Bool.{false}
use mathlib.Core.List.{List}
use Prim.Native.Nat.{ℕ, ◌-◌, ◌<◌, ◌≤◌, min}
use borrow.Author.Tests.{lt-ltb, le-ltb, le-leb, lt-leb, eq-eqb, ne_eqb}
use Rattle.units.specs.declared.refusal.Refusal.TheVariants as refusal
use Rattle.raft_log.specs.declared.Log.{Log}
use Rattle.raft_log.specs.Words.{store_term}
use Rattle.raft_log.specs.State.{last_of, broken, term_at}
use Rattle.raft_log.specs.Append.{with_committed}
use Rattle.raft_log.specs.Commit.{with_applied, with_persisted, commit_to, applied_to, maybe_commit, maybe_persist}
use Rattle.std.specs.Prelude.{Ok, Err, Some, None}

-- where the state rules hold
module _ (l : Log) (settled pending : List ℕ) (h : broken l settled pending ≡ false) (i : ℕ) where
  pub commit_below : i ≤ l.committed.0 → commit_to l settled pending i ≡ Ok l
  unfolding commit_to
  commit_below a = simp (h, le-leb _ _ a)

  pub commit_beyond : l.committed.0 < i → last_of l < i → commit_to l settled pending i ≡ Err refusal.OutOfRange
  unfolding commit_to
  commit_beyond a b = simp (h, lt-leb _ _ a, lt-ltb _ _ b)

  pub commit_up_lem : l.committed.0 < i → i ≤ last_of l → commit_to l settled pending i ≡ Ok (with_committed l i)
  unfolding commit_to
  commit_up_lem a b = simp (h, lt-leb _ _ a, le-ltb _ _ b)

  pub applied_zero : i ≡ 0 → applied_to l settled pending i ≡ Ok l
  unfolding applied_to
  applied_zero a = simp (h, eq-eqb i 0 a)

  pub applied_beyond : (i ≡ 0 → ⊥) → min l.committed.0 l.persisted.0 < i → applied_to l settled pending i ≡ Err refusal.OutOfRange
  unfolding applied_to
  applied_beyond a b = simp (h, ne_eqb i 0 a, lt-ltb _ _ b)

  pub applied_back : (i ≡ 0 → ⊥) → i ≤ min l.committed.0 l.persisted.0 → i < l.applied.0 → applied_to l settled pending i ≡ Err refusal.OutOfRange
  unfolding applied_to
  applied_back a b d = simp (h, ne_eqb i 0 a, le-ltb _ _ b, lt-ltb _ _ d)

  pub applied_up : (i ≡ 0 → ⊥) → i ≤ min l.committed.0 l.persisted.0 → l.applied.0 ≤ i → applied_to l settled pending i ≡ Ok (with_applied l i)
  unfolding applied_to
  applied_up a b d = simp (h, ne_eqb i 0 a, le-ltb _ _ b, le-ltb _ _ d)

  module _ (t : ℕ) where
    pub no_commit_below : i ≤ l.committed.0 → maybe_commit l settled pending i t ≡ Ok None
    unfolding maybe_commit
    no_commit_below a = simp (h, le-ltb _ _ a)

    pub no_commit_beyond : l.committed.0 < i → last_of l < i → maybe_commit l settled pending i t ≡ Ok None
    unfolding maybe_commit
    no_commit_beyond a b = simp (h, lt-ltb _ _ a, lt-leb _ _ b)

    pub no_commit_term : l.committed.0 < i → i ≤ last_of l → (term_at l settled pending i ≡ t → ⊥) → maybe_commit l settled pending i t ≡ Ok None
    unfolding maybe_commit
    no_commit_term a b d = simp (h, lt-ltb _ _ a, le-leb _ _ b, ne_eqb _ _ d)

    pub commits : l.committed.0 < i → i ≤ last_of l → term_at l settled pending i ≡ t → maybe_commit l settled pending i t ≡ Ok (Some (with_committed l i))
    unfolding maybe_commit
    commits a b d = simp (h, lt-ltb _ _ a, le-leb _ _ b, eq-eqb _ _ d)

    pub no_persist_below : i ≤ l.persisted.0 → maybe_persist l settled pending i t ≡ Ok None
    unfolding maybe_persist
    no_persist_below a = simp (h, le-ltb _ _ a)

    pub no_persist_pending : l.persisted.0 < i → l.offset.0 ≤ i → maybe_persist l settled pending i t ≡ Ok None
    unfolding maybe_persist
    no_persist_pending a b = simp (h, lt-ltb _ _ a, le-ltb _ _ b)

    pub no_persist_term : l.persisted.0 < i → i < l.offset.0 → (store_term settled (i - l.start.0 - 1) ≡ t → ⊥) → maybe_persist l settled pending i t ≡ Ok None
    unfolding maybe_persist
    no_persist_term a b d = simp (h, lt-ltb _ _ a, lt-ltb _ _ b, ne_eqb _ _ d)

    pub persists : l.persisted.0 < i → i < l.offset.0 → store_term settled (i - l.start.0 - 1) ≡ t → maybe_persist l settled pending i t ≡ Ok (Some (with_persisted l i))
    unfolding maybe_persist
    persists a b d = simp (h, lt-ltb _ _ a, lt-ltb _ _ b, eq-eqb _ _ d)
