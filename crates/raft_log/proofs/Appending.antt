-- The answer of `maybe_append`: one law for each answer, on the closed functions of specs/Append.antt; the table read backwards; and what an answer with a conflict says to the copy.
use mathlib.Core.Path.{◌≡◌, sym, ap}
use mathlib.Core.Bool.{true, false, ◌||◌, or-true}
use mathlib.Core.List.{List}
use mathlib.Core.Logic.{◌⊎◌, ⊎_elim, inl, inr}
use Prim.Native.Nat.{ℕ, ◌+◌, ◌-◌, ◌≤◌, ◌<◌, min, max}
use native.Mathlib.Omega.{arith}
use native.Mathlib.Nat.{eq-zero-or-pos}
use lib.Dec.{ltb}
use borrow.Author.Tests.{eq-eqb, ne_eqb, le-leb, lt-leb, lt-ltb, le-ltb, ltb-false, not-false}
use Rattle.units.specs.Units.{index_limit, index_of}
use Rattle.units.specs.declared.refusal.Refusal.TheVariants as refusal
use Rattle.units.specs.declared.Index.{Index}
use Rattle.raft_log.specs.declared.Log.{Log}
use Rattle.raft_log.specs.declared.Appended.{Appended}
use Rattle.raft_log.specs.Words.{room, run_count, put_run}
use Rattle.raft_log.specs.State.{Good, broken, term_at, last_of}
use Rattle.raft_log.specs.Run.{misnumbered, zero_term_in, check_run}
use Rattle.raft_log.specs.Append.{with_pending, with_committed, after_message, outside, mismatched, cuts, overfull, conflict_of, accepted, decide, match_run, maybe_append, maybe_append_store, alike_before}
use Rattle.raft_log.proofs.States.{not_both, no_term}
use Rattle.raft_log.proofs.Searching.{same_not, other_not}
use Rattle.raft_log.proofs.Runs.{run_passed, run_refused, numbered_rises}
use Rattle.units.proofs.Cond.{both_ends}
use Rattle.units.proofs.Checks.{past_refusal}
use Rattle.units.proofs.Never.{never}
use Rattle.units.proofs.Numbers.{below_or_not}
use Rattle.std.specs.Prelude.{Ok, Err}
use Rattle.units.specs.Refusals.{Answer}
use Rattle.units.specs.declared.refusal.Refusal.{Refusal}

-- ---- the decision

module _ (l : Log) (pending : List ℕ) (idx commit n k : ℕ) where
  pub decide_same : {moved : ℕ} → n ≤ k → l.count ≤ room pending → moved ≡ max l.committed.0 (min commit (idx + n))
      → decide l pending idx commit n k ≡ Ok (record { conflict = index_of 0; last = index_of (idx + n); log = with_committed l moved })
  unfolding decide
  decide_same h r e = simp (le-ltb _ _ h, le-ltb _ _ r, e)

  pub decide_cuts : k < n → idx + 1 + k ≤ l.committed.0 → decide l pending idx commit n k ≡ Err refusal.CutsCommitted
  unfolding decide
  decide_cuts h c = simp (lt-ltb _ _ h, le-leb _ _ c)

  pub decide_full : k < n → l.committed.0 < idx + 1 + k → room pending < idx + n + 1 - min l.offset.0 (idx + 1 + k)
      → decide l pending idx commit n k ≡ Err refusal.NoRoom
  unfolding decide
  decide_full h c r = simp (lt-ltb _ _ h, lt-leb _ _ c, lt-ltb _ _ r)

  pub decide_done : {moved first persisted : ℕ}
      → k < n → l.committed.0 < idx + 1 + k
      → first ≡ min l.offset.0 (idx + 1 + k)
      → idx + n + 1 - first ≤ room pending
      → moved ≡ max l.committed.0 (min commit (idx + n))
      → persisted ≡ min l.persisted.0 (idx + 1 + k - 1)
      → decide l pending idx commit n k
      ≡ Ok (record { conflict = index_of (idx + 1 + k); last = index_of (idx + n); log = with_committed (with_pending l first (idx + n + 1 - first) persisted) moved })
  unfolding decide
  decide_done h c f r m p = simp (lt-ltb _ _ h, lt-leb _ _ c, le-ltb _ _ (rw f at r), f, m, p)

  -- and no other refusal is given by it
  pub decide_refuses : {r : Refusal} → decide l pending idx commit n k ≡ Err r → (r ≡ refusal.CutsCommitted) ⊎ (r ≡ refusal.NoRoom)
  unfolding decide
  decide_refuses {r} =
      let Given : Answer Appended → Type 0 = λ x. x ≡ Err r → (r ≡ refusal.CutsCommitted) ⊎ (r ≡ refusal.NoRoom) in
      both_ends Given (cuts l idx n k) (λ h. inl cc)
      (both_ends Given (overfull (after_message l idx n k commit) pending) (λ h. inr cc) (λ h. never cc))

-- ---- the previous record

module _ (l : Log) (settled pending : List ℕ) (idx term commit : ℕ) (run : List ℕ) (n : ℕ) where
  pub match_outside : outside l idx term ≡ true → match_run l settled pending idx term commit run n ≡ Err refusal.OutsideLog
  unfolding match_run
  match_outside h = simp h

  pub match_mismatch : outside l idx term ≡ false → (term_at l settled pending idx ≡ term → ⊥)
      → match_run l settled pending idx term commit run n ≡ Err refusal.Mismatch
  unfolding match_run
  match_mismatch h e = simp (h, other_not e)

  pub match_on : outside l idx term ≡ false → term_at l settled pending idx ≡ term
      → match_run l settled pending idx term commit run n
      ≡ decide l pending idx commit n (alike_before l settled pending idx run n)
  unfolding match_run
  match_on h e = simp (h, same_not e)

-- an index outside the log is refused by 4 or 5, since the term there is 0
module _ (l : Log) (settled pending : List ℕ) (idx term : ℕ) (g : Good l settled pending) where
  pub far_refused : (idx < l.start.0) ⊎ (last_of l < idx) → outside l idx term || mismatched l settled pending idx term ≡ true
  unfolding outside
  far_refused w =
      let far : ltb idx l.start.0 || ltb (last_of l) idx ≡ true = ⊎_elim (λ h. simp (lt-ltb idx l.start.0 h)) (λ h. simp (lt-ltb (last_of l) idx h, or-true)) w in
      ⊎_elim
      (λ z. simp (far, eq-eqb term 0 z))
      (λ z. simp (no_term l settled pending g idx w, ne_eqb term 0 (omega arith), ne_eqb 0 term (omega arith)))
      (eq-zero-or-pos term)

  -- so where neither is given, the log holds it
  pub held_within : outside l idx term ≡ false → mismatched l settled pending idx term ≡ false → (l.start.0 ≤ idx) × (idx ≤ last_of l)
  held_within u e =
      let near : (idx < l.start.0) ⊎ (last_of l < idx) → ⊥ = λ w. not_both (far_refused w) (simp (u, e)) in
      (⊎_elim (λ h. absurd (near (inl h))) (λ h. h) (below_or_not idx l.start.0), ⊎_elim (λ h. absurd (near (inr h))) (λ h. h) (below_or_not (last_of l) idx))

-- ---- the whole table

module _ (l : Log) (settled pending : List ℕ) (idx term commit : ℕ) (run : List ℕ) where
  pub answer_run : {r : Refusal} → broken l settled pending ≡ false → check_run run idx ≡ Err r
      → maybe_append l settled pending idx term commit run ≡ Err r
  unfolding maybe_append
  answer_run h e =
      ⊎_elim
      (λ m. simp (h, m.0, m.1))
      (λ t. simp (h, t.0, t.1, t.2))
      (run_refused run idx e)

  pub answer_on : {n : ℕ} → broken l settled pending ≡ false → check_run run idx ≡ Ok n
      → maybe_append l settled pending idx term commit run ≡ match_run l settled pending idx term commit run n
  unfolding maybe_append
  answer_on h e =
      let p = run_passed run idx e in
      simp (h, p.numbers, p.terms, p.count)

-- ---- the table read backwards: what an answer that takes the message says

module _ (l : Log) (settled pending : List ℕ) (idx term commit : ℕ) (run : List ℕ) where
  -- how many records the run has, how many of them come before the first that differs, and the log after them
  abbrev n : ℕ
  n = run_count run

  abbrev alike : ℕ
  alike = alike_before l settled pending idx run n

  abbrev after : Log
  after = after_message l idx n alike commit

  -- no test of the table holds
  pub record AllPassed : Type 0 where
    pub whole : broken l settled pending ≡ false
    pub formed : (misnumbered run idx ≡ false) × (zero_term_in run ≡ false)
    pub inside : outside l idx term ≡ false
    pub matches : mismatched l settled pending idx term ≡ false
    pub spares : cuts l idx n alike ≡ false
    pub room : overfull after pending ≡ false

  -- so it is where a message is taken, and the answer is the table's last line
  pub done_passed : {a : Appended} → maybe_append l settled pending idx term commit run ≡ Ok a → AllPassed × (accepted idx n alike after ≡ Ok a)
  unfolding maybe_append match_run decide
  done_passed h =
      let t1 = past_refusal (broken l settled pending) _ h in
      let t2 = past_refusal (misnumbered run idx) _ t1.1 in
      let t3 = past_refusal (zero_term_in run) _ t2.1 in
      let t4 = past_refusal (outside l idx term) _ t3.1 in
      let t5 = past_refusal (mismatched l settled pending idx term) _ t4.1 in
      let t6 = past_refusal (cuts l idx n alike) _ t5.1 in
      let t7 = past_refusal (overfull after pending) _ t6.1 in
      (record { whole = t1.0; formed = (t2.0, t3.0); inside = t4.0; matches = t5.0; spares = t6.0; room = t7.0 }, t7.1)

-- ---- what an answer with a conflict says

-- the records from the conflict up to last are within the run, and those from offset on have their places
pub record Cut (places idx n : ℕ) (a : Appended) : Type 0 where
  pub follows : idx < a.conflict.0
  pub within : a.conflict.0 ≤ idx + n
  pub last : a.last.0 ≡ idx + n
  pub kept : a.log.offset.0 ≤ a.conflict.0
  pub fits : a.last.0 + 1 - a.log.offset.0 ≤ places
  pub limited : idx + n ≤ index_limit

-- what an answer that takes the message says
abbrev pub said : ℕ → ℕ → ℕ → Log → Appended
said idx n k after = record { conflict = index_of (conflict_of idx n k); last = index_of (idx + n); log = after }

accepted_cut : (l : Log) (pending : List ℕ) (idx commit n k : ℕ) {a : Appended}
    → idx + n ≤ index_limit → overfull (after_message l idx n k commit) pending ≡ false → accepted idx n k (after_message l idx n k commit) ≡ Ok a
    → (a.conflict.0 ≡ 0 → ⊥) → Cut (room pending) idx n a
accepted_cut l pending idx commit n k {a} limit room_left answer z =
    let same : said idx n k (after_message l idx n k commit) ≡ a = cc in
    let conflict : index_of (conflict_of idx n k) ≡ a.conflict = ap (λ (x : Appended). x.conflict) same in
    let log : after_message l idx n k commit ≡ a.log = ap (λ (x : Appended). x.log) same in
    let f : idx + n ≡ a.last.0 = ap (λ (x : Appended). x.last.0) same in
    ⊎_elim
    (λ lt.
    let t : ltb k n ≡ true = lt-ltb k n lt in
    let places : idx + n + 1 - min l.offset.0 (idx + 1 + k) ≤ room pending = ltb-false _ _ (simp t at room_left) in
    let e : idx + 1 + k ≡ a.conflict.0 = ap (λ (x : Index). x.0) (simp t at conflict) in
    let g : min l.offset.0 (idx + 1 + k) ≡ a.log.offset.0 = ap (λ (x : Log). x.offset.0) (simp t at log) in
    record { follows = omega arith; within = omega arith; last = sym f; kept = omega arith; fits = omega arith; limited = limit })
    (λ le.
    let none : index_of 0 ≡ a.conflict = simp (le-ltb k n le) at conflict in
    absurd (z (sym (ap (λ (x : Index). x.0) none))))
    (below_or_not k n)

pub answer_cut : (l : Log) (settled pending : List ℕ) (idx term commit : ℕ) (run : List ℕ) {a : Appended}
    → maybe_append l settled pending idx term commit run ≡ Ok a → (a.conflict.0 ≡ 0 → ⊥)
    → Cut (room pending) idx (run_count run) a
answer_cut l settled pending idx term commit run h z =
    let p = done_passed l settled pending idx term commit run h in
    accepted_cut l pending idx commit (run_count run) _ (numbered_rises run idx (not-false _ p.0.formed.0)).limited p.0.room p.1 z

-- ---- the store

module _ (pending : List ℕ) (idx : ℕ) (run : List ℕ) where
  pub store_refused : {a : Answer Appended} {r : Refusal} → a ≡ Err r → pending ≡ maybe_append_store a pending idx run
  unfolding maybe_append_store
  store_refused e = sym (ap (λ (a : Answer Appended). maybe_append_store a pending idx run) e)

  pub store_same : (a : Appended) → a.conflict.0 ≡ 0 → pending ≡ maybe_append_store (Ok a) pending idx run
  unfolding maybe_append_store
  store_same a e = simp (eq-eqb _ _ e)

  pub store_cut : (a : Appended) → (a.conflict.0 ≡ 0 → ⊥)
      → put_run pending (a.conflict.0 - a.log.offset.0) run (a.conflict.0 - idx - 1) (a.last.0 + 1 - a.conflict.0) ≡ maybe_append_store (Ok a) pending idx run
  unfolding maybe_append_store
  store_cut a e = simp (ne_eqb _ _ e)
