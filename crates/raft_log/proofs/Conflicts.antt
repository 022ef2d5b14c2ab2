-- The first record of a run that differs from the log: each store is compared where the run's records would stand in it, and past the last record all differ.
use mathlib.Core.Path.{◌≡◌, sym, ap, subst, ◌∙◌}
use mathlib.Core.List.{List}
use mathlib.Core.Logic.{⊎_elim, inr}
use Prim.Native.Nat.{ℕ, ◌+◌, ◌-◌, ◌≤◌, ◌<◌, min}
use native.Mathlib.Nat.{zero-add}
use native.Mathlib.Omega.{arith}
use borrow.Author.Tests.{eq-eqb, eqb-true, eqb-false, not-false}
use Rattle.raft_log.specs.declared.Log.{Log}
use Rattle.raft_log.specs.Words.{run_term, store_term, first_from, zero_at, other_term}
use Rattle.raft_log.specs.State.{Good, last_of, term_at}
use Rattle.raft_log.specs.Append.{differs, alike_before}
use Rattle.raft_log.proofs.States.{not_both, term_settled, term_pending, no_term}
use Rattle.raft_log.proofs.Searching.{Found, found, found_is, none_below, same_not, other_not}
use Rattle.units.proofs.Numbers.{below_or_not}

-- the previous record is held, and the run's n terms are set
pub record Held (l : Log) (settled pending : List ℕ) (idx : ℕ) (run : List ℕ) (n : ℕ) : Type 0 where
  pub good : Good l settled pending
  pub within : (l.start.0 ≤ idx) × (idx ≤ last_of l)
  pub set : first_from (zero_at (run_term run)) 0 n ≡ n

-- record j of the run has the log's term
abbrev agrees : Log → List ℕ → List ℕ → ℕ → List ℕ → ℕ → Type 0
agrees l settled pending idx run j = run_term run j ≡ term_at l settled pending (idx + 1 + j)

-- m records of the run from k on were compared: the first r of them agree, and the next, if one is left, does not
record Stretch (l : Log) (settled pending : List ℕ) (idx : ℕ) (run : List ℕ) (k m r : ℕ) : Type 0 where
  within : r ≤ m
  same : (i : ℕ) → i < r → agrees l settled pending idx run (k + i)
  other : r < m → agrees l settled pending idx run (k + r) → ⊥

-- a search in a store whose records are the log's
compared : {l : Log} {settled pending : List ℕ} {idx : ℕ} {run : List ℕ} {r : ℕ} (store : List ℕ) (at k m : ℕ)
    → r ≡ first_from (other_term store at run k) 0 m
    → ((i : ℕ) → i < m → term_at l settled pending (idx + 1 + (k + i)) ≡ store_term store (at + i))
    → Stretch l settled pending idx run k m r
compared {l} {settled} {pending} {idx} {run} {r} store at k m e there =
    let f : Found (other_term store at run k) 0 m r = subst (Found (other_term store at run k) 0 m) (sym e) (found (other_term store at run k) 0 m) in
    let long : r ≤ m = omega (arith, f.within) in
    record {
      within = long;
      same = λ i h. eqb-true _ _ (not-false _ (f.passed i (omega arith) h)) ∙ sym (there i (omega arith));
      other = λ h q. not_both (f.hit (omega arith)) (same_not (q ∙ there r h));
    }

module _ {l : Log} {settled pending : List ℕ} {idx : ℕ} {run : List ℕ} {n : ℕ} (held : Held l settled pending idx run n) where
  is_first : {r : ℕ} → r ≤ n → ((j : ℕ) → j < r → agrees l settled pending idx run j) → (r < n → agrees l settled pending idx run r → ⊥)
      → r ≡ alike_before l settled pending idx run n
  is_first {r} w before at =
      found_is
      (record {
        within = omega arith;
        hit = λ h. other_not (at (omega arith));
        passed = λ j h v. same_not (before j v);
      })
      (found (differs l settled pending idx run) 0 n)

  -- past the last record the log's term is 0, and the run's is not
  beyond : {r : ℕ} → r < n → last_of l ≤ idx + r → agrees l settled pending idx run r → ⊥
  beyond {r} h w q =
      eqb-false _ _ (none_below (zero_at (run_term run)) n (eq-eqb _ _ held.set) r h)
      (q ∙ no_term l settled pending held.good (idx + 1 + r) (inr (omega arith)))

  -- so the log holds every record before the first that differs
  pub alike_held : idx + alike_before l settled pending idx run n ≤ last_of l
  alike_held =
      let k : ℕ = alike_before l settled pending idx run n in
      let f = found (differs l settled pending idx run) 0 n in
      ⊎_elim
      (λ far.
      let high = held.within.1 in
      let before : k - 1 < k = omega arith in
      absurd (beyond {r = k - 1} (omega (arith, f.within)) (omega arith) (eqb-true _ _ (not-false _ (f.passed (k - 1) (omega arith) before)))))
      (λ near. near)
      (below_or_not (last_of l) (idx + k))

  in_settled_lem : {r : ℕ} (m : ℕ) → idx + 1 + m ≤ l.offset.0 → r ≡ first_from (other_term settled (idx - l.start.0) run 0) 0 m
      → Stretch l settled pending idx run 0 m r
  in_settled_lem m w e =
      compared settled (idx - l.start.0) 0 m e (λ i h.
      let s = held.within.0 in
      let q : idx + 1 + (0 + i) - l.start.0 - 1 ≡ idx - l.start.0 + i = omega arith in
      term_settled l settled pending (idx + 1 + (0 + i)) (omega arith) (omega arith) ∙ ap (store_term settled) q)

  in_pending_lem : {r : ℕ} (at k m : ℕ) → l.offset.0 + at ≡ idx + 1 + k → k + m ≤ last_of l - idx → r ≡ first_from (other_term pending at run k) 0 m
      → Stretch l settled pending idx run k m r
  in_pending_lem at k m p w e =
      compared pending at k m e (λ i h.
      let o = held.good.start_lt_offset in
      let q : idx + 1 + (k + i) - l.offset.0 ≡ at + i = omega arith in
      term_pending l settled pending (idx + 1 + (k + i)) (omega arith) (omega arith) (omega arith) ∙ ap (store_term pending) q)

  -- the records before k agree; so the first that differs is the one that a stretch from k on ends at
  module _ {k m r : ℕ} (before : (j : ℕ) → j < k → agrees l settled pending idx run j) (s : Stretch l settled pending idx run k m r) where
    all_agree : (j : ℕ) → j < k + r → agrees l settled pending idx run j
    all_agree j h =
        ⊎_elim
        (before j)
        (λ le.
        let q : k + (j - k) ≡ j = omega arith in
        subst (agrees l settled pending idx run) q (s.same (j - k) (omega arith)))
        (below_or_not j k)

    ends_within : r < m → k + m ≤ n → k + r ≡ alike_before l settled pending idx run n
    ends_within h w = is_first (omega arith) all_agree (λ v. s.other h)

    -- or past it, where it reaches the run's last record or the log's
    ends : k + m ≡ min n (last_of l - idx) → k + r ≡ alike_before l settled pending idx run n
    ends e =
        ⊎_elim
        (λ lt. ends_within lt (omega arith))
        (λ le.
        let long = s.within in
        let high = held.within.1 in
        is_first (omega arith) all_agree (λ v. beyond v (omega arith)))
        (below_or_not r m)

  nothing_before : (j : ℕ) → j < 0 → agrees l settled pending idx run j
  nothing_before j h = absurd (omega arith)

  -- all the records to compare are settled
  pub conflict_held : {r : ℕ} (m : ℕ) → m ≡ min n (last_of l - idx) → idx + 1 + m ≤ l.offset.0
      → r ≡ first_from (other_term settled (idx - l.start.0) run 0) 0 m
      → r ≡ alike_before l settled pending idx run n
  conflict_held {r} m d w e = sym (zero-add r) ∙ ends nothing_before (in_settled_lem m w e) (zero-add m ∙ d)

  -- a settled one differs
  pub conflict_settled : {r : ℕ} (m : ℕ) → m ≤ n → idx + 1 + m ≤ l.offset.0
      → r ≡ first_from (other_term settled (idx - l.start.0) run 0) 0 m → r < m
      → r ≡ alike_before l settled pending idx run n
  conflict_settled {r} m v w e h = sym (zero-add r) ∙ ends_within nothing_before (in_settled_lem m w e) h (omega arith)

  -- the settled ones agree, and the others are pending
  pub conflict_over : {k r : ℕ} (gap m : ℕ) → gap + m ≡ min n (last_of l - idx) → idx + 1 + gap ≡ l.offset.0
      → k ≡ first_from (other_term settled (idx - l.start.0) run 0) 0 gap → gap ≤ k
      → r ≡ first_from (other_term pending 0 run gap) 0 m
      → gap + r ≡ alike_before l settled pending idx run n
  conflict_over gap m d o f h e =
      ends
      (λ j w. all_agree nothing_before (in_settled_lem gap (omega arith) f) j (omega arith))
      (in_pending_lem 0 gap m (omega arith) (omega arith) e)
      d

  -- all are pending
  pub conflict_pending : {r : ℕ} (at m : ℕ) → m ≡ min n (last_of l - idx) → l.offset.0 + at ≡ idx + 1
      → r ≡ first_from (other_term pending at run 0) 0 m
      → r ≡ alike_before l settled pending idx run n
  conflict_pending {r} at m d p e = sym (zero-add r) ∙ ends nothing_before (in_pending_lem at 0 m (omega arith) (omega arith) e) (zero-add m ∙ d)
