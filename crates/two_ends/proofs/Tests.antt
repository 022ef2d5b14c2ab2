-- The engine's answer to a message, by the table of `maybe_append` read backwards: which tests an answer says were passed; and what holds after the message, whatever the answer.
use Prim.Native.Nat.{ℕ}
use mathlib.Core.Path.{◌≡◌, refl, sym, ap, subst}
use mathlib.Core.Bool.{Bool, true, false, cond}
use mathlib.Core.List.{List}
use mathlib.Core.Logic.{◌⊎◌, inl, inr, ⊎_elim}
use Rattle.units.specs.declared.refusal.Refusal.{Refusal}
use Rattle.units.specs.declared.refusal.Refusal.TheVariants as refusal
use Rattle.units.proofs.Cond.{past, taken}
use Rattle.units.proofs.Never.{never}
use Rattle.rules.specs.Log.{Entry}
use Rattle.raft_log.specs.declared.Log.{Log}
use Rattle.raft_log.specs.declared.Appended.{Appended}
use Rattle.raft_log.specs.Words.{run_count}
use Rattle.raft_log.specs.State.{broken}
use Rattle.raft_log.specs.Run.{misnumbered, zero_term_in}
use Rattle.raft_log.specs.Append.{after_message, outside, mismatched, cuts, overfull, accepted, decide, match_run, maybe_append, maybe_append_store}
use Rattle.raft_log.proofs.Appending.{decide_refuses}
use Rattle.raft_log.proofs.Appending as appending
use Rattle.two_ends.specs.Follower.{Follower, Message, WellFormed, reception_of, engine, alike}
use Rattle.two_ends.specs.Leader.{CutFrom}
use Rattle.two_ends.specs.TwoEnds.{Possible}
use Rattle.std.specs.Prelude.{Ok, Err}
use Rattle.units.specs.Refusals.{Answer}

module _ (f : Follower) (m : Message) where
  abbrev n : ℕ
  n = run_count m.run

  abbrev pub after : Log
  after = after_message f.log m.idx n (alike f m) m.commit

  abbrev answer : Answer Appended
  answer = (engine f m).answer

  -- No test of the table holds.
  abbrev pub AllPassed : Type 0
  AllPassed = appending.AllPassed f.log f.settled f.pending m.idx m.term m.commit m.run

  pub done_passed : (a : Appended) → answer ≡ Ok a → AllPassed × (accepted m.idx n (alike f m) after ≡ Ok a)
  unfolding engine
  done_passed a = appending.done_passed f.log f.settled f.pending m.idx m.term m.commit m.run

  pub passed_done : AllPassed → answer ≡ accepted m.idx n (alike f m) after
  unfolding engine maybe_append match_run decide
  passed_done p = simp (p.whole, p.formed.0, p.formed.1, p.inside, p.matches, p.spares, p.room)

  -- 6 is given only where 4 and 5 are not, and the conflict is at or below committed; 1 only where a state rule is broken
  pub six_cuts : answer ≡ Err refusal.CutsCommitted
      → (outside f.log m.idx m.term ≡ false) × (mismatched f.log f.settled f.pending m.idx m.term ≡ false) × (cuts f.log m.idx n (alike f m) ≡ true)
  unfolding engine maybe_append match_run decide
  six_cuts e =
      let t1 = past (broken f.log f.settled f.pending) (λ q. never cc) e in
      let t2 = past (misnumbered m.run m.idx) (λ q. never cc) t1.1 in
      let t3 = past (zero_term_in m.run) (λ q. never cc) t2.1 in
      let t4 = past (outside f.log m.idx m.term) (λ q. never cc) t3.1 in
      let t5 = past (mismatched f.log f.settled f.pending m.idx m.term) (λ q. never cc) t4.1 in
      (t4.0, t5.0, (taken (cuts f.log m.idx n (alike f m)) (λ h. let taken_in = (past (overfull after f.pending) (λ q. never cc) h).1 in never cc) t5.1).0)

  pub one_broken : answer ≡ Err refusal.BrokenState → broken f.log f.settled f.pending ≡ true
  unfolding engine maybe_append match_run decide
  one_broken e = (taken (broken f.log f.settled f.pending) rest e).0
    where
      rest : cond (misnumbered m.run m.idx) (Err refusal.MisnumberedRun) (cond (zero_term_in m.run) (Err refusal.ZeroTerm) (match_run f.log f.settled f.pending m.idx m.term m.commit m.run n)) ≡ Err refusal.BrokenState → ⊥
      rest h =
          let t2 = past (misnumbered m.run m.idx) (λ q. never cc) h in
          let t3 = past (zero_term_in m.run) (λ q. never cc) t2.1 in
          let t4 = past (outside f.log m.idx m.term) (λ q. never cc) t3.1 in
          let t5 = past (mismatched f.log f.settled f.pending m.idx m.term) (λ q. never cc) t4.1 in
          ⊎_elim (λ q. never cc) (λ q. never cc) (decide_refuses f.log f.pending m.idx m.commit n (alike f m) t5.1)

  -- a malformed message gets 2 or 3, where the state rules hold
  pub malformed_refused : broken f.log f.settled f.pending ≡ false → (WellFormed m → ⊥) → (answer ≡ Err refusal.MisnumberedRun) ⊎ (answer ≡ Err refusal.ZeroTerm)
  malformed_refused whole bad = by_tests (misnumbered m.run m.idx) (zero_term_in m.run) refl refl
    where
      by_tests : (a b : Bool) → misnumbered m.run m.idx ≡ a → zero_term_in m.run ≡ b → (answer ≡ Err refusal.MisnumberedRun) ⊎ (answer ≡ Err refusal.ZeroTerm)
      by_tests true b p q = inl (unfold engine maybe_append in simp (whole, p))
      by_tests false true p q = inr (unfold engine maybe_append in simp (whole, p, q))
      by_tests false false p q = absurd (bad (p, q))

  -- a refused message changes nothing
  pub refused_unchanged : (s : Refusal) → answer ≡ Err s → (engine f m).follower ≡ f
  unfolding engine maybe_append_store
  refused_unchanged s e = ap (λ (a : Answer Appended). (reception_of f m a).follower) e

  -- What holds of the follower as it was, and after the message where it is taken, holds after the message.
  pub after_message_lem : (P : Follower → Type 0) → P f → ((a : Appended) → answer ≡ Ok a → P (engine f m).follower) → P (engine f m).follower
  after_message_lem P same done = by_answer answer refl
    where
      by_answer : (x : Answer Appended) → answer ≡ x → P (engine f m).follower
      by_answer (Ok a) e = done a e
      by_answer (Err s) e = subst P (sym (refused_unchanged s e)) same

  -- a message that is taken is the leader's
  pub taken_cut : {xs : List Entry} → Possible xs m → (a : Appended) → answer ≡ Ok a → CutFrom xs m
  taken_cut possible a e = ⊎_elim (λ cut. cut) (λ bad. absurd (bad (done_passed a e).0.formed)) possible
