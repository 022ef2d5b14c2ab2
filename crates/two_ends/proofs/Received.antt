-- What the paper's steps 3 and 4 leave of a log that contains the message's previous entry, index by index: up to some index its own records, from there on the message's.
use Prim.Native.Nat.{ℕ, suc, ◌+◌, ◌-◌, ◌≤◌, ◌<◌}
use mathlib.Core.Path.{◌≡◌, refl, sym, ap, subst, ◌∙◌}
use mathlib.Core.Bool.{Bool, true, false, not, cond, ◌&&◌, and-eq-true_iff}
use mathlib.Core.List.{List, ◌∷◌}
use mathlib.Core.Logic.{◌⊎◌, ⊎_elim, inl, inr}
use native.Mathlib.Omega.{arith}
use borrow.Author.Tests.{lt-ltb, le-ltb, le-leb, leb-true, eqb-true, eqb-false, not-true, not-false}
use lib.Dec.{ltb, leb, eqb}
use lib.ListN.{length, get_or, take, drop, length-append, length-drop, get_or-append}
use lib.Seq.{get_or-take, get_or-drop, get_or-append-add}
use Rattle.rules.specs.Log.{Entry, entry, nothing, Log, last, entry_at, term_of}
use Rattle.rules.specs.Receiver.{contains, conflicts, delete_from, step_3, step_4}
use Rattle.rules.proofs.Receiver.{contains_holds, conflict_at, step_3_keeps, step_3_deletes, delete_none, cut_on, cut_length, steps}
use Rattle.raft_log.specs.Words.{first_from}
use Rattle.raft_log.proofs.Searching.{found}
use Rattle.units.proofs.Numbers.{below_or_not}

pub record Received (l : Log) (idx : ℕ) (es : List Entry) (after : Log) : Type 0 where
  -- the first record that is the message's: its first that differs from the one held, or the one after the last held
  pub from : ℕ
  pub above : idx < from
  pub reach : from ≤ last l + 1
  pub alike : (k : ℕ) → k < length es → idx + 1 + k < from → (get_or es k nothing).term ≡ term_of l (idx + 1 + k)
  pub differs : (k : ℕ) → k < length es → from ≡ idx + 1 + k → from ≤ last l → (get_or es k nothing).term ≡ term_of l from → ⊥
  pub before : (j : ℕ) → j < from → entry_at after j ≡ entry_at l j
  pub new : (k : ℕ) → k < length es → from ≤ idx + 1 + k → entry_at after (idx + 1 + k) ≡ get_or es k nothing
  -- the message's last record is the last then; or all of them were held, and nothing changed
  pub end : ((from ≤ idx + length es) × (last after ≡ idx + length es)) ⊎ ((from ≡ last l + 1) × ((idx + length es < from) × (last after ≡ last l)))
  pub same_start : (after.start ≡ l.start) × (after.start_term ≡ l.start_term)

-- ---- a log cut before an index, and the records that follow the cut

module _ (l : Log) (from : ℕ) (low : l.start < from) (high : from ≤ last l + 1) where
  -- the records with the start before them: all, and those that stay
  abbrev whole : List Entry
  whole = entry l.start_term 0 ∷ l.entries

  abbrev kept : List Entry
  kept = take (suc (from - l.start - 1)) whole

  module _ (es : List Entry) where
    -- its last index, and what stands before the cut and from it on
    last_cut : last (cut_on l from es) + 1 ≡ from + length es
    last_cut = omega (arith, length-append (delete_from l from).entries es, cut_length l from low high)

    before_cut : (j : ℕ) → j < from → entry_at (cut_on l from es) j ≡ entry_at l j
    unfolding entry_at
    before_cut j h =
        ap (cond (ltb j l.start) nothing)
        (get_or-append kept es nothing (j - l.start) (omega (arith, cut_length l from low high)) ∙ get_or-take (suc (from - l.start - 1)) whole (j - l.start) nothing (omega arith))

    from_cut : (j : ℕ) → entry_at (cut_on l from es) (from + j) ≡ get_or es j nothing
    unfolding entry_at
    from_cut j =
        let e : from + j - l.start ≡ length kept + j = omega (arith, cut_length l from low high) in
        rw (le-ltb (from + j) l.start (omega arith), e) (get_or-append-add kept es j nothing)

-- ---- what a conflict says

module _ (l : Log) (i : ℕ) (e : Entry) where
  -- where the log has a record at i and e does not conflict with it, their terms are equal
  no_conflict : l.start < i → i ≤ last l → conflicts l i e ≡ false → e.term ≡ term_of l i
  no_conflict a b h = eqb-true _ _ (not-false _ (rw (lt-ltb l.start i a, le-leb i (last l) b) at h))

  -- where e conflicts, the log has a record at i, of another term
  conflict : conflicts l i e ≡ true → (i ≤ last l) × (e.term ≡ term_of l i → ⊥)
  conflict h =
      let both = (and-eq-true_iff (ltb l.start i && leb i (last l)) (not (eqb e.term (term_of l i)))).0 h in
      (leb-true _ _ ((and-eq-true_iff (ltb l.start i) (leb i (last l))).0 both.0).1, eqb-false _ _ (not-true _ both.1))

-- ---- the steps

module _ (l : Log) (idx : ℕ) (es : List Entry) (low : l.start ≤ idx) (high : idx ≤ last l) where
  abbrev result : Log
  result = step_4 (step_3 l (idx + 1) es) idx es

  -- the new entry k conflicts
  abbrev hits : ℕ → Bool
  hits = conflict_at l (idx + 1) es

  -- `from` is where step 3 deletes: the first index in conflict, or the one after the last
  module _ (from : ℕ) (above : idx < from) (reach : from ≤ last l + 1) where
    abbrev rest : List Entry
    rest = drop (from - (idx + 1)) es

    new_there : (k : ℕ) → from ≤ idx + 1 + k → entry_at (cut_on l from rest) (idx + 1 + k) ≡ get_or es k nothing
    new_there k h =
        let j : ℕ = idx + 1 + k - from in
        let e : idx + 1 + k ≡ from + j = omega arith in
        ap (entry_at (cut_on l from rest)) e ∙ from_cut l from (omega arith) reach rest j
        ∙ get_or-drop (from - (idx + 1)) es j nothing ∙ ap (λ (x : ℕ). get_or es x nothing) (omega arith)

    -- it is enough to know of step 3 what it leaves, that no new entry before `from` conflicts, that the one there does, and that `from` is past the new entries only at the log's end
    made : step_3 l (idx + 1) es ≡ delete_from l from → ((k : ℕ) → k < length es → idx + 1 + k < from → hits k ≡ false)
        → ((k : ℕ) → from ≡ idx + 1 + k → from ≤ last l → hits k ≡ true) → (idx + length es < from → from ≡ last l + 1) → Received l idx es result
    made s passed hit past =
        let top = last_cut l from (omega arith) reach rest in
        let long = length-drop (from - (idx + 1)) es in
        subst (Received l idx es) (sym (steps l from (omega arith) reach idx es low above s)) (record {
          from = from;
          above = above;
          reach = reach;
          alike = λ k a b. no_conflict l (idx + 1 + k) (get_or es k nothing) (omega arith) (omega arith) (passed k a b);
          differs = λ k a b c e. (conflict l (idx + 1 + k) (get_or es k nothing) (hit k b c)).1 (e ∙ ap (term_of l) b);
          before = before_cut l from (omega arith) reach rest;
          new = λ k a b. new_there k b;
          end = ⊎_elim (λ a. let e = past a in inr (e, (a, omega arith))) (λ a. inl (a, omega arith)) (below_or_not (idx + length es) from);
          same_start = (refl, refl);
        })

  -- no new entry conflicts
  all_alike : ((k : ℕ) → k < length es → hits k ≡ false) → Received l idx es result
  all_alike none =
      made (last l + 1) (omega arith) (omega arith) (step_3_keeps l (idx + 1) es none ∙ sym (delete_none l)) (λ k a b. none k a) (λ k a b. absurd (omega arith)) (λ a. refl)

  -- the new entry r is the first that does
  first_differs : (r : ℕ) → r < length es → ((k : ℕ) → k < r → hits k ≡ false) → hits r ≡ true → Received l idx es result
  first_differs r less passed hit =
      made (idx + 1 + r) (omega arith) (omega (arith, (conflict l (idx + 1 + r) (get_or es r nothing) hit).0)) (step_3_deletes l (idx + 1) r es less passed hit)
      (λ k a b. passed k (omega arith)) (λ k a b. let e : k ≡ r = omega arith in ap hits e ∙ hit) (λ a. omega arith)

-- STEPS 3 AND 4, by the search for the first new entry that conflicts.
pub received : (l : Log) (idx term : ℕ) (es : List Entry) → contains l idx term ≡ true → Received l idx es (step_4 (step_3 l (idx + 1) es) idx es)
received l idx term es there =
    let (low, high) = ((contains_holds l idx term).0 there).0 in
    let r : ℕ = first_from (conflict_at l (idx + 1) es) 0 (length es) in
    let first = found (conflict_at l (idx + 1) es) 0 (length es) in
    ⊎_elim
    (λ a. first_differs l idx es low high r a (λ k b. first.passed k (omega arith) b) (first.hit (omega arith)))
    (λ a. all_alike l idx es low high (λ k b. first.passed k (omega arith) (omega arith)))
    (below_or_not r (length es))
