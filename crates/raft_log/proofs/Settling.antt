-- The laws of specs/Settle.antt: one for each answer of `stable_entries`, what an answer that is no refusal tells, and the settled store after each.
use mathlib.Core.Path.{◌≡◌, sym, ap, ◌∙◌}
use mathlib.Core.Bool.{true, false, not, and-eq-true_iff}
use mathlib.Core.List.{List, ◌++◌}
use Prim.Native.Nat.{ℕ, ◌+◌, ◌-◌, ◌*◌, ◌≤◌, ◌<◌}
use native.Mathlib.Omega.{arith}
use lib.ListN.{length, take, drop}
use lib.Seq.{sets, sets-eq, paste, length-take-le}
use borrow.Author.Tests.{eq-eqb, ne_eqb, lt-ltb, le-ltb, eqb-true, eqb-false, ltb-false, not-true}
use Rattle.units.specs.declared.refusal.Refusal.TheVariants as refusal
use Rattle.raft_log.specs.declared.Log.{Log}
use Rattle.raft_log.specs.Words.{room, record_words}
use Rattle.raft_log.specs.State.{Good, settled_count, broken, term_at, last_of}
use Rattle.raft_log.specs.Append.{with_pending}
use Rattle.raft_log.specs.Settle.{is_last, settled_overfull, settled_log, stable_entries, stable_entries_store}
use Rattle.raft_log.proofs.States.{refuted, whole_good}
use Rattle.units.proofs.Checks.{past_refusal}
use Rattle.std.specs.Prelude.{Ok, Err}
use Rattle.units.specs.Refusals.{Answer}
use Rattle.units.specs.declared.refusal.Refusal.{Refusal}

module _ (l : Log) (settled pending : List ℕ) (i t : ℕ) where
  -- (i, t) is the last of some pending records
  pub record IsLast : Type 0 where
    pub some : l.count ≡ 0 → ⊥
    pub there : i ≡ last_of l
    pub same : term_at l settled pending i ≡ t

  last_test : IsLast → is_last l settled pending i t ≡ true
  last_test h = simp (ne_eqb _ _ h.some, eq-eqb _ _ h.there, eq-eqb _ _ h.same)

  test_last : is_last l settled pending i t ≡ true → IsLast
  test_last h =
      let a = (and-eq-true_iff _ _).0 h in
      let b = (and-eq-true_iff _ _).0 a.0 in
      record { some = eqb-false _ _ (not-true _ b.0); there = eqb-true _ _ b.1; same = eqb-true _ _ a.1 }

  module _ (h : broken l settled pending ≡ false) where
    pub settle_full : room settled < last_of l - l.start.0 → stable_entries l settled pending i t ≡ Err refusal.NoRoom
    unfolding stable_entries
    settle_full r = simp (h, lt-ltb _ _ r)

    pub settle_other : last_of l - l.start.0 ≤ room settled → (IsLast → ⊥) → stable_entries l settled pending i t ≡ Err refusal.NotPending
    unfolding stable_entries
    settle_other r f = simp (h, le-ltb _ _ r, refuted (is_last l settled pending i t) (λ e. f (test_last e)))

    pub settle_done : (last : ℕ) → last ≡ last_of l → last_of l - l.start.0 ≤ room settled → IsLast
        → stable_entries l settled pending i t ≡ Ok (with_pending l (last + 1) 0 l.persisted.0)
    unfolding stable_entries
    settle_done last e r g = simp (e, h, le-ltb _ _ r, last_test g)

-- the first n words of one store, stored into another that has room for them
sets_paste : (to : List ℕ) (at : ℕ) (from : List ℕ) (n : ℕ) → at + n ≤ length to → n ≤ length from → sets to at (take n from) ≡ paste to at from n
sets_paste to at from n here there =
    let long = length-take-le n from there in
    sets-eq (take n from) to at (omega arith) ∙ ap (λ (k : ℕ). take at to ++ take n from ++ drop (at + k) to) long

module _ (l : Log) (settled pending : List ℕ) where
  -- where the answer is a log no test held, and it is the log with all records settled
  pub settle_room : (i t : ℕ) {a : Log} → stable_entries l settled pending i t ≡ Ok a
      → Good l settled pending × (last_of l - l.start.0 ≤ room settled) × (settled_log l ≡ a)
  unfolding stable_entries
  settle_room i t h =
      let s = past_refusal (broken l settled pending) _ h in
      let r = past_refusal (settled_overfull l settled) _ s.1 in
      let e = past_refusal (not (is_last l settled pending i t)) _ r.1 in
      (whole_good l settled pending s.0, ltb-false _ _ r.0, cc e.1)

  pub settled_kept : {x : Answer Log} {r : Refusal} → x ≡ Err r → settled ≡ stable_entries_store x l settled pending
  unfolding stable_entries_store
  settled_kept e = sym (ap (λ (x : Answer Log). stable_entries_store x l settled pending) e)

  pub settled_copied : {x : Answer Log} {a : Log} → x ≡ Ok a → settled_count l * record_words + l.count * record_words ≤ length settled → l.count * record_words ≤ length pending
      → sets settled (settled_count l * record_words) (take (l.count * record_words) pending) ≡ stable_entries_store x l settled pending
  unfolding stable_entries_store
  settled_copied e here there = sets_paste settled _ pending _ here there ∙ sym (ap (λ (x : Answer Log). stable_entries_store x l settled pending) e)
