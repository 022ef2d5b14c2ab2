-- THE THEOREM about `maybe_append`: where it takes a message, it did the receiver's steps of the paper (rules/specs/Receiver.antt) on the log that its stores stand for; where it refuses by 4 or 5, step 2 replies false.
-- One difference from the paper: committed never falls, so it is the larger of itself and what step 5 says.
use mathlib.Core.Path.{◌≡◌, refl, sym, ap, ap₂, subst, ◌∙◌}
use mathlib.Core.Bool.{Bool, true, false, not, ◌&&◌, ◌||◌, false≢true, cond, and-false, not-not}
use mathlib.Core.Logic.{◌⊎◌, ⊎_elim, inl, inr}
use mathlib.Core.List.{List, ◌++◌, append-nil}
use Prim.Native.Nat.{ℕ, ◌+◌, ◌-◌, ◌≤◌, ◌<◌, min, max}
use native.Mathlib.Omega.{arith}
use borrow.Author.Tests.{lt-ltb, le-ltb, le-leb, lt-leb, ne_eqb, eqb-true, ltb-false, not-false}
use lib.Dec.{ltb, eqb, leb}
use lib.ListN.{length, get_or, drop, drop_of_length-le}
use Rattle.rules.specs.Log.{Entry, nothing, Log as Abstract, last}
use Rattle.rules.specs.Receiver.{Answer as Reply, reply_false, success, contains, conflicts, with_entries, delete_from, step_3, step_4, step_5, receiver}
use Rattle.rules.proofs.Receiver.{conflict_at, step_3_keeps, step_3_deletes, delete_none, cut_on, steps, raised}
use Rattle.units.specs.Units.{index_of}
use Rattle.units.specs.declared.Index.{Index}
use Rattle.units.specs.declared.refusal.Refusal.{Refusal}
use Rattle.units.specs.declared.refusal.Refusal.TheVariants as refusal
use Rattle.units.specs.Lists.{listed}
use Rattle.units.proofs.Cond.{both_ends, past}
use Rattle.units.proofs.Checks.{other_refusal}
use Rattle.units.proofs.Never.{never}
use Rattle.units.proofs.Numbers.{below_or_not}
use Rattle.units.proofs.Lists.{length-listed, at_listed, drop-listed}
use Rattle.raft_log.specs.declared.Log.{Log}
use Rattle.raft_log.specs.declared.Appended.{Appended}
use Rattle.raft_log.specs.Words.{room, run_count, run_term, first_from, zero_at, put_run}
use Rattle.raft_log.specs.State.{Good, last_of, broken, term_at}
use Rattle.raft_log.specs.Run.{misnumbered, zero_term_in, terms_set}
use Rattle.raft_log.specs.Append.{accepted, decide, match_run, maybe_append, outside, mismatched, differs, cut_if, commit_up, after_message, overfull, maybe_append_store, alike_before}
use Rattle.log_laws.specs.View.{run_entry, run_entries, view_of, message_of}
use Rattle.raft_log.proofs.States.{refuted, neither, whole_good}
use Rattle.raft_log.proofs.Searching.{found}
use Rattle.raft_log.proofs.Conflicts.{alike_held}
use Rattle.raft_log.proofs.Appending.{decide_refuses, far_refused, held_within, done_passed}
use Rattle.log_laws.proofs.Cutting.{view_cut}
use Rattle.log_laws.proofs.Views.{view_last, view_term}
use Rattle.std.specs.Prelude.{Ok, Err}
use Rattle.std.specs.Result.{IfOk}
use Rattle.units.specs.Refusals.{Answer, number_of}

-- ---- step 2

module _ (l : Log) (settled pending : List ℕ) (good : Good l settled pending) (idx term : ℕ) where
  contains_is : contains (view_of l settled pending) idx term
      ≡ (leb l.start.0 idx && leb idx (last_of l) && eqb (term_at l settled pending idx) term)
  unfolding contains view_of
  contains_is =
      ap₂ (λ (x y : ℕ). leb l.start.0 idx && leb idx x && eqb y term) (view_last l settled pending good) (view_term l settled pending good idx)

  not_there : leb l.start.0 idx && leb idx (last_of l) ≡ false → outside l idx term || mismatched l settled pending idx term ≡ true
      → contains (view_of l settled pending) idx term ≡ not (outside l idx term || mismatched l settled pending idx term)
  not_there h k = contains_is ∙ ap (λ (b : Bool). b && eqb (term_at l settled pending idx) term) h ∙ ap not (sym k)

  here : l.start.0 ≤ idx → idx ≤ last_of l
      → contains (view_of l settled pending) idx term ≡ not (outside l idx term || mismatched l settled pending idx term)
  unfolding outside
  here a b =
      contains_is
      ∙ simp (
        le-leb _ _ a,
        le-leb _ _ b,
        le-ltb _ _ a,
        le-ltb _ _ b,
        and-false,
        not-not,
      )

  -- STEP 2 replies false exactly where 4 or 5 refuses.
  pub step_2_is : contains (view_of l settled pending) idx term ≡ not (outside l idx term || mismatched l settled pending idx term)
  step_2_is =
      ⊎_elim
      (λ a. not_there (simp (lt-leb l.start.0 idx a)) (far_refused l settled pending idx term good (inl a)))
      (λ a.
      ⊎_elim
      (λ b. not_there (simp (lt-leb idx (last_of l) b, and-false)) (far_refused l settled pending idx term good (inr b)))
      (λ b. here a b)
      (below_or_not (last_of l) idx))
      (below_or_not idx l.start.0)

-- ---- steps 3 and 4

module _ (l : Log) (settled pending : List ℕ) (good : Good l settled pending) (idx : ℕ) (run : List ℕ)
    (start≤idx : l.start.0 ≤ idx) (idx≤last : idx ≤ last_of l) (set : first_from (zero_at (run_term run)) 0 (run_count run) ≡ run_count run) where
  -- how many records the run has, and how many of them come before the first that differs
  abbrev n : ℕ
  n = run_count run

  abbrev k : ℕ
  k = alike_before l settled pending idx run n

  abbrev v : Abstract
  v = view_of l settled pending

  abbrev es : List Entry
  es = run_entries run

  es_length : length es ≡ n
  es_length = length-listed (run_entry run) 0 n

  k_le_n : k ≤ n
  k_le_n = omega (arith, (found (differs l settled pending idx run) 0 n).within)

  conflict_is : (j : ℕ) → j < n
      → conflict_at v (idx + 1) es j ≡ (ltb l.start.0 (idx + 1 + j) && leb (idx + 1 + j) (last_of l) && differs l settled pending idx run j)
  unfolding view_of
  conflict_is j h =
      let same : get_or es j nothing ≡ run_entry run j = at_listed (run_entry run) 0 n j nothing h ∙ ap (run_entry run) (omega arith) in
      ap (λ (e : Entry). conflicts v (idx + 1 + j) e) same
      ∙ ap₂ (λ (x y : ℕ). ltb l.start.0 (idx + 1 + j) && leb (idx + 1 + j) x && not (eqb (run_term run j) y)) (view_last l settled pending good) (view_term l settled pending good (idx + 1 + j))

  before : (j : ℕ) → j < k → conflict_at v (idx + 1) es j ≡ false
  before j h =
      let within : j < n = omega (arith, k_le_n) in
      conflict_is j within
      ∙ ap (λ (b : Bool). ltb l.start.0 (idx + 1 + j) && leb (idx + 1 + j) (last_of l) && b) ((found (differs l settled pending idx run) 0 n).passed j (omega arith) h)
      ∙ and-false (ltb l.start.0 (idx + 1 + j) && leb (idx + 1 + j) (last_of l))

  beyond : (j : ℕ) → j < n → last_of l < idx + 1 + j → conflict_at v (idx + 1) es j ≡ false
  beyond j h b = conflict_is j h ∙ simp (lt-leb _ _ b, and-false)

  hit : k < n → idx + 1 + k ≤ last_of l → conflict_at v (idx + 1) es k ≡ true
  hit h b =
      let differ = (found (differs l settled pending idx run) 0 n).hit (omega arith) in
      conflict_is k h
      ∙ ap (λ (d : Bool). ltb l.start.0 (idx + 1 + k) && leb (idx + 1 + k) (last_of l) && d) differ
      ∙ simp (lt-ltb l.start.0 (idx + 1 + k) (omega arith), le-leb _ _ b)

  held : idx + k ≤ last_of l
  held = alike_held {run = run} (record { good = good; within = (start≤idx, idx≤last); set = set })

  -- step 3 leaves the log before the first record that differs, or all of it where that comes after the last
  deletes : k < n → step_3 v (idx + 1) es ≡ delete_from v (idx + 1 + k)
  deletes h =
      ⊎_elim
      (λ b.
      let next : last v + 1 ≡ idx + 1 + k = omega (arith, view_last l settled pending good, held) in
      step_3_keeps v (idx + 1) es (λ j q. ⊎_elim (λ a. before j a) (λ a. beyond j (omega (arith, es_length)) (omega arith)) (below_or_not j k))
      ∙ sym (delete_none v) ∙ ap (delete_from v) next)
      (λ b. step_3_deletes v (idx + 1) k es (omega (arith, es_length)) before (hit h b))
      (below_or_not (last_of l) (idx + 1 + k))

  steps_cut : k < n → step_4 (step_3 v (idx + 1) es) idx es ≡ cut_on v (idx + 1 + k) (drop k es)
  unfolding view_of
  steps_cut h =
      let same : idx + 1 + k - (idx + 1) ≡ k = omega arith in
      steps v (idx + 1 + k) (omega arith) (omega (arith, view_last l settled pending good, held)) idx es start≤idx (omega arith) (deletes h)
      ∙ ap (λ (x : ℕ). cut_on v (idx + 1 + k) (drop x es)) same

  steps_none : n ≤ k → step_4 (step_3 v (idx + 1) es) idx es ≡ v
  unfolding step_4
  steps_none h =
      let step : step_3 v (idx + 1) es ≡ v = step_3_keeps v (idx + 1) es (λ j q. before j (omega (arith, es_length))) in
      let past : length es ≤ last v - idx = omega (arith, es_length, held, view_last l settled pending good) in
      ap (λ (d : Abstract). step_4 d idx es) step
      ∙ ap (λ (x : List Entry). with_entries v (v.entries ++ x)) (drop_of_length-le es past)
      ∙ ap (with_entries v) (append-nil v.entries)

  -- ---- the whole answer

  module _ (commit : ℕ) where
    -- the log after the message, and the pending store, by whether there is a conflict
    abbrev after : Bool → Log
    after b = commit_up (cut_if b l (idx + 1 + k) (idx + n)) commit (idx + n)

    abbrev result : Bool → Abstract
    result b =
        view_of (after b) settled
        (maybe_append_store (Ok (record { conflict = index_of (cond b (idx + 1 + k) 0); last = index_of (idx + n); log = after b })) pending idx run)

    result_none : v ≡ result false
    unfolding maybe_append_store view_of
    result_none = refl

    result_cut : k < n → (after true).count ≤ room pending → cut_on v (idx + 1 + k) (drop k es) ≡ result true
    unfolding maybe_append_store view_of
    result_cut h r =
        let conflict : ℕ = idx + 1 + k in
        let from : ℕ = conflict - idx - 1 in
        let many : ℕ = idx + n + 1 - conflict in
        let store : List ℕ = put_run pending (conflict - min l.offset.0 conflict) run from many in
        let rest : drop k es ≡ listed (run_entry run) from many =
        drop-listed (run_entry run) 0 n k k_le_n ∙ ap₂ (listed (run_entry run)) (omega arith) (omega arith) in
        ap (cut_on v conflict) rest
        ∙ sym (view_cut l settled pending good conflict (omega arith) (omega (arith, held)) run from many (idx + n) (min l.persisted.0 (conflict - 1)) (omega arith) r)
        ∙ ap (λ (b : Bool). view_of (after true) settled (cond b pending store)) (sym (ne_eqb conflict 0 (omega arith)))

    -- STEPS 3 AND 4 on the view are the cut and the write.
    steps_are : overfull (after_message l idx n k commit) pending ≡ false → step_4 (step_3 v (idx + 1) es) idx es ≡ result (ltb k n)
    steps_are r =
        ⊎_elim
        (λ h.
        let cuts : ltb k n ≡ true = lt-ltb k n h in
        let fits : (after (ltb k n)).count ≤ room pending = ltb-false _ _ r in
        steps_cut h ∙ result_cut h (rw cuts at fits) ∙ ap result (sym cuts))
        (λ h. steps_none h ∙ result_none ∙ ap result (sym (le-ltb k n h)))
        (below_or_not k n)

-- ---- the theorem

cut_committed : (b : Bool) (l : Log) (conflict last : ℕ) → (cut_if b l conflict last).committed ≡ l.committed
cut_committed b l conflict last = both_ends (λ (x : Log). x.committed ≡ l.committed) b refl refl

module _ (l : Log) (settled pending : List ℕ) (idx term commit : ℕ) (run : List ℕ) where
  -- what the paper's receiver answers
  abbrev pub by_the_paper : Reply
  by_the_paper = receiver (view_of l settled pending) l.committed.0 (message_of idx term commit run)

  -- A log and a pending store after the message are what the steps say; and committed is not lowered.
  pub record Taken (after : Log) (store : List ℕ) : Type 0 where
    pub commit_index : ℕ
    pub steps : by_the_paper ≡ success (view_of after settled store) commit_index
    pub committed : after.committed.0 ≡ max l.committed.0 commit_index

  abbrev TakenBy : Answer Appended → Type 0
  TakenBy answer = IfOk answer (λ a. Taken a.log (maybe_append_store (Ok a) pending idx run))

  abbrev count : ℕ
  count = run_count run

  abbrev alike : ℕ
  alike = alike_before l settled pending idx run count

  accepted_taken : Good l settled pending → outside l idx term ≡ false → mismatched l settled pending idx term ≡ false → terms_set run ≡ true
      → overfull (after_message l idx count alike commit) pending ≡ false → TakenBy (accepted idx count alike (after_message l idx count alike commit))
  unfolding receiver terms_set
  accepted_taken good inside matches terms fits =
      let w = held_within l settled pending idx term good inside matches in
      let there = step_2_is l settled pending good idx term ∙ ap₂ (λ (x y : Bool). not (x || y)) inside matches in
      let long : idx + count ≡ idx + length (run_entries run) = ap (λ (x : ℕ). idx + x) (sym (length-listed (run_entry run) 0 count)) in
      let index : ℕ = step_5 l.committed.0 commit (idx + length (run_entries run)) in
      record {
        commit_index = index;
        steps =
            ap
            (λ (b : Bool). cond b (success (step_4 (step_3 (view_of l settled pending) (idx + 1) (run_entries run)) idx (run_entries run)) index) reply_false)
            there
            ∙ ap (λ (d : Abstract). success d index) (steps_are l settled pending good idx run w.0 w.1 (eqb-true _ _ terms) commit fits);
        committed =
            ap (λ (x : Index). max x.0 (min commit (idx + count))) (cut_committed (ltb alike count) l (idx + 1 + alike) (idx + count))
            ∙ ap (λ (x : ℕ). max l.committed.0 (min commit x)) long
            ∙ sym (raised l.committed.0 commit (idx + length (run_entries run)));
      }

  -- THE THEOREM, where the message is taken: the steps of the paper, in order.
  pub taken : (a : Appended) → maybe_append l settled pending idx term commit run ≡ Ok a → Taken a.log (maybe_append_store (Ok a) pending idx run)
  taken a h =
      let (passed, answer) = done_passed l settled pending idx term commit run h in
      let good = whole_good l settled pending passed.whole in
      subst TakenBy answer (accepted_taken good passed.inside passed.matches (not-false _ passed.formed.1) passed.room)

  -- and where it is refused by 4 or 5: step 2 replies false
  pub refused : (s : Refusal) → (s ≡ refusal.OutsideLog) ⊎ (s ≡ refusal.Mismatch) → maybe_append l settled pending idx term commit run ≡ Err s → by_the_paper ≡ reply_false
  unfolding maybe_append match_run decide receiver
  refused s w h =
      let low : 4 ≤ number_of s = ⊎_elim (λ e. omega (arith, ap number_of e)) (λ e. omega (arith, ap number_of e)) w in
      let high : number_of s ≤ 5 = ⊎_elim (λ e. omega (arith, ap number_of e)) (λ e. omega (arith, ap number_of e)) w in
      let b1 = past (broken l settled pending) (other_refusal (λ q. omega arith)) h in
      let b2 = past (misnumbered run idx) (other_refusal (λ q. omega arith)) b1.1 in
      let b3 = past (zero_term_in run) (other_refusal (λ q. omega arith)) b2.1 in
      let good = whole_good l settled pending b1.0 in
      let gone : contains (view_of l settled pending) idx term ≡ false = refuted _ (λ there.
      let both = neither (outside l idx term) (mismatched l settled pending idx term) (sym (step_2_is l settled pending good idx term) ∙ there) in
      let decided = sym (ap₂ (λ (x y : Bool). cond x (Err refusal.OutsideLog) (cond y (Err refusal.Mismatch) (decide l pending idx commit count alike))) both.0 both.1) ∙ b3.1 in
      ⊎_elim (λ e. omega (arith, ap number_of e)) (λ e. omega (arith, ap number_of e)) (decide_refuses l pending idx commit count alike decided)) in
      ap
      (λ (b : Bool). cond b (success (step_4 (step_3 (view_of l settled pending) (idx + 1) (run_entries run)) idx (run_entries run)) (step_5 l.committed.0 commit (idx + length (run_entries run)))) reply_false)
      gone

  tests : (a b : Bool) → outside l idx term ≡ a → mismatched l settled pending idx term ≡ b → not (a || b) ≡ false
      → broken l settled pending ≡ false → misnumbered run idx ≡ false → zero_term_in run ≡ false
      → (maybe_append l settled pending idx term commit run ≡ Err refusal.OutsideLog) ⊎ (maybe_append l settled pending idx term commit run ≡ Err refusal.Mismatch)
  unfolding maybe_append match_run
  tests true b o p h h1 h2 h3 = inl (simp (h1, h2, h3, o))
  tests false true o p h h1 h2 h3 = inr (simp (h1, h2, h3, o, p))
  tests false false o p h h1 h2 h3 = absurd (false≢true (sym h))

  -- and back: where step 2 replies false to a message that 1, 2 and 3 let through, it is refused by 4 or 5
  pub refuses : broken l settled pending ≡ false → misnumbered run idx ≡ false → zero_term_in run ≡ false → by_the_paper ≡ reply_false
      → (maybe_append l settled pending idx term commit run ≡ Err refusal.OutsideLog) ⊎ (maybe_append l settled pending idx term commit run ≡ Err refusal.Mismatch)
  unfolding receiver
  refuses h1 h2 h3 h =
      let good = whole_good l settled pending h1 in
      tests (outside l idx term) (mismatched l settled pending idx term) refl refl
      (sym (step_2_is l settled pending good idx term) ∙ (past (contains (view_of l settled pending) idx term) (λ said. never cc) h).0)
      h1 h2 h3
