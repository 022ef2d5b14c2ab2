-- What the looking calls answer of a good log, said of the list of records that the state and the words stand for.
use Prim.Native.Nat.{ℕ, zero, suc, ◌+◌, ◌≤◌, ◌<◌}
use mathlib.Core.Path.{◌≡◌, sym, ap, ◌∙◌}
use mathlib.Core.Bool.{Bool, true, false, ◌&&◌, ◌||◌}
use mathlib.Core.List.{List}
use mathlib.Core.Logic.{⊎_elim}
use native.Mathlib.Omega.{arith}
use lib.Dec.{eqb, leb, ltb}
use borrow.Author.Tests.{leb-true, leb-false, le-leb}
use Rattle.units.specs.declared.Index.{Index}
use Rattle.units.specs.declared.Term.{Term}
use Rattle.units.specs.Units.{index_of, as_term}
use Rattle.units.proofs.Cond.{either_end, both_ends, past}
use Rattle.units.proofs.Never.{never}
use Rattle.units.proofs.Numbers.{below_or_not}
use Rattle.rules.specs.Log.{last, term_of}
use Rattle.raft_log.specs.declared.Log.{Log}
use Rattle.raft_log.specs.State.{Good, last_of, term_at}
use Rattle.raft_log.specs.Look.{look_term, first_index, last_index, last_term, commit_info, is_up_to_date, last_down, at_most, found_at, by_term_in, find_conflict_by_term}
use Rattle.raft_log.proofs.States.{good_whole, zero_start, term_below, term_start}
use Rattle.log_laws.specs.View.{view_of}
use Rattle.log_laws.specs.Looking.{FoundBelow}
use Rattle.log_laws.proofs.Views.{view_start, view_last, view_term}
use Rattle.std.specs.Prelude.{Ok, Some, None, Option}

-- The largest number from i down that p holds of: p holds there, and of none above it.
module _ (p : ℕ → Bool) where
  down_within : (i : ℕ) → last_down p i ≤ i
  unfolding last_down
  down_within zero = omega arith
  down_within (suc i) = let low = down_within i in both_ends (λ (x : ℕ). x ≤ suc i) (p (suc i)) (omega arith) (omega arith)

  down_hit : (i : ℕ) → p 0 ≡ true → p (last_down p i) ≡ true
  unfolding last_down
  down_hit zero h = h
  down_hit (suc i) h = either_end (λ (x : ℕ). p x ≡ true) (p (suc i)) (λ here. here) (λ _. down_hit i h)

  down_miss : (i k : ℕ) → last_down p i < k → k ≤ i → p k ≡ false
  unfolding last_down
  down_miss zero k = λ h g. absurd (omega arith)
  down_miss (suc i) k =
      either_end (λ (x : ℕ). x < k → k ≤ suc i → p k ≡ false) (p (suc i))
      (λ _ h g. absurd (omega arith))
      (λ miss h g. ⊎_elim (λ a. down_miss i k h (omega arith)) (λ a. let same : k ≡ suc i = omega arith in ap p same ∙ miss) (below_or_not k (suc i)))

-- An index with no term is none with a term.
not_none : {i j : Index} {u : Term} → ◌≡◌ {A = Index × Option Term} (i, None) (j, Some u) → ⊥
not_none e =
    let none = ap (λ (x : Index × Option Term). x.1) e in
    never cc

module _ (l : Log) (settled pending : List ℕ) (good : Good l settled pending) where
  last_term_lem : term_at l settled pending (last_of l) ≡ term_of (view_of l settled pending) (last (view_of l settled pending))
  last_term_lem = sym (view_term l settled pending good (last_of l)) ∙ ap (term_of (view_of l settled pending)) (sym (view_last l settled pending good))

  -- THE LAWS, one a call.
  pub term_view : (i : ℕ) → look_term l settled pending i ≡ Ok (as_term (term_of (view_of l settled pending) i))
  unfolding look_term
  term_view i = rw (good_whole l settled pending good, sym (view_term l settled pending good i))

  pub first_index_view : first_index l settled pending ≡ Ok (index_of ((view_of l settled pending).start + 1))
  unfolding first_index
  first_index_view = rw (good_whole l settled pending good, view_start l settled pending)

  pub last_index_view : last_index l settled pending ≡ Ok (index_of (last (view_of l settled pending)))
  unfolding last_index
  last_index_view = rw (good_whole l settled pending good, view_last l settled pending good)

  pub last_term_view : last_term l settled pending ≡ Ok (as_term (term_of (view_of l settled pending) (last (view_of l settled pending))))
  unfolding last_term
  last_term_view = rw (good_whole l settled pending good, last_term_lem)

  pub commit_info_view : commit_info l settled pending ≡ Ok (l.committed, as_term (term_of (view_of l settled pending) l.committed.0))
  unfolding commit_info
  commit_info_view = rw (good_whole l settled pending good, sym (view_term l settled pending good l.committed.0))

  -- the term at 0 is 0: below the start, or at a start of (0, 0)
  pub at_zero : term_at l settled pending 0 ≡ 0
  at_zero =
      ⊎_elim (λ h. term_below l settled pending 0 h)
      (λ h.
      let none : l.start.0 ≡ 0 = omega arith in
      term_start l settled pending 0 (sym none) ∙ (zero_start l settled pending good).0 none)
      (below_or_not 0 l.start.0)

  module _ (i t : ℕ) where
    abbrev low_enough : ℕ → Bool
    low_enough = at_most l settled pending t

    abbrev down : ℕ
    down = last_down low_enough i

    found_below : FoundBelow (view_of l settled pending) i t down (term_at l settled pending down)
    found_below = record {
      within = down_within low_enough i;
      its_term = sym (view_term l settled pending good down);
      low = leb-true (term_at l settled pending down) t (down_hit low_enough i (ap (λ (n : ℕ). leb n t) at_zero ∙ le-leb 0 t (omega arith)));
      largest = λ k h g. omega (arith, leb-false (term_at l settled pending k) t (down_miss low_enough i k h g), view_term l settled pending good k);
    }

    pub find_conflict_view : (j : Index) (u : Term) → find_conflict_by_term l settled pending i t ≡ Ok (j, Some u) → FoundBelow (view_of l settled pending) i t j.0 u.0
    unfolding find_conflict_by_term by_term_in
    find_conflict_view j u e =
        let inside : found_at l settled pending down ≡ Ok (j, Some u) = (past (ltb (last_of l) i) (λ far. not_none {i = index_of i} {j = j} {u = u} (cc far)) (rw (good_whole l settled pending good) at e)).1 in
        let same : (index_of down, Some (as_term (term_at l settled pending down))) ≡ (j, Some u) = cc in
        let p : index_of down ≡ j = ap (λ (x : Index × Option Term). x.0) same in
        let q : as_term (term_at l settled pending down) ≡ u = cc (ap (λ (x : Index × Option Term). x.1) same) in
        rw (sym p, sym q) found_below

  pub up_to_date_view : (i t : ℕ) → is_up_to_date l settled pending i t ≡ Ok (ltb (term_of (view_of l settled pending) (last (view_of l settled pending))) t || (eqb t (term_of (view_of l settled pending) (last (view_of l settled pending))) && leb (last (view_of l settled pending)) i))
  unfolding is_up_to_date
  up_to_date_view i t = rw (good_whole l settled pending good, sym (view_term l settled pending good (last_of l)), view_last l settled pending good)
