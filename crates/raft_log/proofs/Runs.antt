-- The check of a run: what its one pass keeps, and what its answer says of the two tests, each with facts in place of the tests.
use mathlib.Core.Path.{◌≡◌, refl, sym, ap, subst, ◌∙◌}
use mathlib.Core.Bool.{Bool, true, false, not, ◌||◌, cond, and-eq-true_iff}
use mathlib.Core.List.{List}
use mathlib.Core.Logic.{◌⊎◌, inl, inr}
use Prim.Native.Nat.{ℕ, ◌+◌, ◌%◌, ◌≤◌, ◌<◌}
use native.Mathlib.Omega.{arith}
use lib.ListN.{length}
use borrow.Author.Tests.{eq-eqb, ne_eqb, le-leb, eqb-true, leb-true}
use Rattle.units.specs.Units.{index_limit}
use Rattle.units.specs.declared.refusal.Refusal.TheVariants as refusal
use Rattle.units.proofs.Checks.{met_else_refused}
use Rattle.units.proofs.Never.{never}
use Rattle.raft_log.specs.Words.{run_words, run_count, run_index, run_term, first_from, none, zero_at}
use Rattle.raft_log.specs.Run.{misplaced, numbered, terms_set, misnumbered, zero_term_in, scan_run, check_run}
use Rattle.raft_log.proofs.States.{refuted}
use Rattle.raft_log.proofs.Searching.{Seek, seek_start, seek_next, seek_hit, seek_end, same_not}
use Rattle.std.specs.Prelude.{Ok, Err}
use Rattle.units.specs.Refusals.{Answer, fine, unless}
use Rattle.units.specs.declared.refusal.Refusal.{Refusal}

-- ---- the pass

by_mark : (mark : Bool) → cond (not mark) fine (Err refusal.ZeroTerm) ≡ cond mark (Err refusal.ZeroTerm) fine
by_mark true = refl
by_mark false = refl

-- whether p held of a position below k: of none, or of its first
pub data Marks (p : ℕ → Bool) (n k : ℕ) : Bool → Type 0 where
  clean : Seek p n k → Marks p n k false
  seen : (first_from p 0 n ≡ n → ⊥) → Marks p n k true

marks_next : {p : ℕ → Bool} {n k : ℕ} {mark : Bool} (b : Bool) → Marks p n k mark → k < n → p k ≡ b → Marks p n (k + 1) (mark || b)
marks_next true (clean s) h e =
    seen (λ q.
    let hit = seek_hit s h e in
    omega arith)
marks_next false (clean s) h e = clean (seek_next s h e)
marks_next b (seen x) h e = seen x

marks_end : {p : ℕ → Bool} {n k : ℕ} {mark : Bool} → Marks p n k mark → n ≤ k → none p n ≡ not mark
marks_end (clean s) h = eq-eqb _ _ (sym (seek_end s h))
marks_end (seen x) h = ne_eqb _ _ x

-- what the pass keeps
pub record Scanning (run : List ℕ) (idx n k : ℕ) (mark : Bool) : Type 0 where
  pub placed : Seek (misplaced run idx) n k
  pub terms : Marks (zero_at (run_term run)) n k mark

pub scan_start : (run : List ℕ) (idx n : ℕ) → Scanning run idx n 0 false
scan_start run idx n = record { placed = seek_start _ _; terms = clean (seek_start _ _) }

pub scan_next : {run : List ℕ} {idx n k : ℕ} {mark : Bool} → Scanning run idx n k mark → k < n → run_index run k ≡ idx + 1 + k
    → Scanning run idx n (k + 1) (mark || zero_at (run_term run) k)
scan_next {run} {idx} {n} {k} {mark} s h i = record {
  placed = seek_next s.placed h (same_not i);
  terms = marks_next (zero_at (run_term run) k) s.terms h refl;
}

module _ (run : List ℕ) (idx n : ℕ) where
  pub scan_misplaced : {k : ℕ} → k < n → k ≡ first_from (misplaced run idx) 0 n → scan_run run idx n ≡ Err refusal.MisnumberedRun
  unfolding scan_run
  scan_misplaced h e = simp (ne_eqb (first_from (misplaced run idx) 0 n) n (omega arith))

  pub scan_end : {k : ℕ} {mark : Bool} → Scanning run idx n k mark → n ≤ k → scan_run run idx n ≡ cond mark (Err refusal.ZeroTerm) fine
  unfolding scan_run
  scan_end {k} {mark} s h = simp (eq-eqb _ _ (sym (seek_end s.placed h)), marks_end s.terms h) (by_mark mark)

-- ---- the check by the pass

-- both go by the same two tests, so the check is what the pass found
by_pass : (a b : Bool) (x : Answer ℕ)
    → cond a (cond b x (Err refusal.ZeroTerm)) (Err refusal.MisnumberedRun) ≡ unless (cond a (cond b fine (Err refusal.ZeroTerm)) (Err refusal.MisnumberedRun)) x
by_pass true true x = refl
by_pass true false x = refl
by_pass false b x = refl

module _ (run : List ℕ) (idx : ℕ) (whole : length run % run_words ≡ 0) (limited : idx + run_count run ≤ index_limit) where
  pub check_pass : check_run run idx ≡ unless (scan_run run idx (run_count run)) (Ok (run_count run))
  unfolding check_run numbered terms_set scan_run
  check_pass =
      simp (eq-eqb _ _ whole, le-leb _ _ limited)
      (by_pass (none (misplaced run idx) (run_count run)) (none (zero_at (run_term run)) (run_count run)) (Ok (run_count run)))

  pub run_bad : {r : Refusal} → scan_run run idx (run_count run) ≡ Err r → check_run run idx ≡ Err r
  run_bad h = check_pass ∙ rw h

  pub run_good : scan_run run idx (run_count run) ≡ fine → check_run run idx ≡ Ok (run_count run)
  run_good h = check_pass ∙ rw h

-- ---- the check and the two tests

-- a run that is not misnumbered, as facts
pub record Rises (run : List ℕ) (idx : ℕ) : Type 0 where
  pub whole : length run % run_words ≡ 0
  pub limited : idx + run_count run ≤ index_limit
  pub placed : first_from (misplaced run idx) 0 (run_count run) ≡ run_count run

-- a checked run: both tests passed, and n is how many records it has
pub record Passed (run : List ℕ) (idx n : ℕ) : Type 0 where
  pub count : n ≡ run_count run
  pub numbers : misnumbered run idx ≡ false
  pub terms : zero_term_in run ≡ false
  pub rises : Rises run idx
  pub set : first_from (zero_at (run_term run)) 0 n ≡ n

or_refused : (a b : Bool) (n : ℕ) {r : Refusal} → cond a (cond b (Ok n) (Err refusal.ZeroTerm)) (Err refusal.MisnumberedRun) ≡ Err r
    → ((not a ≡ true) × (r ≡ refusal.MisnumberedRun)) ⊎ ((not a ≡ false) × (not b ≡ true) × (r ≡ refusal.ZeroTerm))
or_refused true true n h = never cc
or_refused true false n h = inr (refl, refl, cc)
or_refused false b n h = inl (refl, cc)

module _ (run : List ℕ) (idx : ℕ) where
  pub numbered_rises : numbered run idx ≡ true → Rises run idx
  unfolding numbered
  numbered_rises h =
      let a = (and-eq-true_iff _ _).0 h in
      let b = (and-eq-true_iff _ _).0 a.0 in
      record { whole = eqb-true _ _ b.0; limited = leb-true _ _ b.1; placed = eqb-true _ _ a.1 }

  pub run_misnumbered : (Rises run idx → ⊥) → check_run run idx ≡ Err refusal.MisnumberedRun
  unfolding check_run
  run_misnumbered h = simp (refuted _ (λ e. h (numbered_rises e)))

  pub run_passed : {n : ℕ} → check_run run idx ≡ Ok n → Passed run idx n
  unfolding check_run terms_set
  run_passed {n} h =
      let a = met_else_refused (numbered run idx) _ h in
      let b = met_else_refused (terms_set run) _ a.1 in
      let e : run_count run ≡ n = cc in
      record {
        count = sym e;
        numbers = ap not a.0;
        terms = ap not b.0;
        rises = numbered_rises a.0;
        set = subst (λ (x : ℕ). first_from (zero_at (run_term run)) 0 x ≡ x) e (eqb-true _ _ b.0);
      }

  -- a refused run: the first of the two tests that failed gives the number
  pub run_refused : {r : Refusal} → check_run run idx ≡ Err r
      → ((misnumbered run idx ≡ true) × (r ≡ refusal.MisnumberedRun)) ⊎ ((misnumbered run idx ≡ false) × (zero_term_in run ≡ true) × (r ≡ refusal.ZeroTerm))
  unfolding check_run
  run_refused h = or_refused (numbered run idx) (terms_set run) (run_count run) h
