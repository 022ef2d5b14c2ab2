-- A message of the leader's at the follower: when it is accepted, and that what stands between the two ends stands after it, and what the follower had of the leader's it keeps.
use Prim.Native.Nat.{ℕ, ◌+◌, ◌≤◌, ◌<◌, min, max}
use mathlib.Core.Path.{◌≡◌, refl, sym, ap, ap₂, subst, ◌∙◌}
use mathlib.Core.Bool.{Bool, true, false, not, ◌||◌, and-eq-true_iff}
use mathlib.Core.List.{List}
use mathlib.Core.Logic.{⊎_elim}
use native.Mathlib.Omega.{arith}
use borrow.Author.Tests.{ltb-true, leb-true}
use lib.ListN.{length, get_or}
use Rattle.units.specs.Units.{index_limit}
use Rattle.units.proofs.Cond.{taken as first-end}
use Rattle.units.proofs.Never.{never}
use Rattle.units.proofs.Numbers.{below_or_not}
use Rattle.units.proofs.Lists.{length-listed, at_listed}
use Rattle.rules.specs.Log.{Entry, nothing, Log as Abstract, whole_list, last, entry_at, term_of, Matching, Agree}
use Rattle.rules.specs.Receiver.{success, contains, receiver}
use Rattle.rules.proofs.Receiver.{contains_holds, raised}
use Rattle.raft_log.specs.declared.Appended.{Appended}
use Rattle.raft_log.specs.Words.{run_count, run_term}
use Rattle.raft_log.specs.State.{Good, term_at}
use Rattle.raft_log.specs.Append.{differs, cuts, outside, mismatched, match_run, maybe_append}
use Rattle.raft_log.proofs.Searching.{found, same_not}
use Rattle.raft_log.proofs.States.{refuted, not_both, neither, good_whole}
use Rattle.log_laws.specs.View.{run_entry, run_entries}
use Rattle.log_laws.specs.Keep.{NonzeroTerms}
use Rattle.log_laws.proofs.Views.{view_term}
use Rattle.log_laws.proofs.Receiving.{taken, step_2_is}
use Rattle.two_ends.specs.Follower.{Follower, held, committed, Message, last_index_of, reception_of, answer_to, engine, alike, HasRoom}
use Rattle.two_ends.specs.Leader.{CutFrom}
use Rattle.two_ends.specs.TwoEnds.{Premises, HoldsPrevious, Keeps}
use Rattle.two_ends.proofs.Received.{Received, received}
use Rattle.two_ends.proofs.Agreeing.{agree_down, new_agree, agree_below, keep_agree, keep_matching}
use Rattle.two_ends.proofs.Cuts.{records_length, records_at, cut_term, cut_count, cut_entries, cut_well_formed}
use Rattle.two_ends.proofs.Tests.{AllPassed}
use Rattle.two_ends.proofs.Carried.{Sound, received_sound, made_sound}
use Rattle.std.specs.Prelude.{Ok}
use Rattle.units.specs.Refusals.{Answer}

-- What stands between the two ends at every moment.
pub record Standing (xs : List Entry) (f : Follower) : Type 0 where
  pub sound : Sound f
  pub matching : Matching (held f) (whole_list xs)
  pub has_committed : Agree (held f) (whole_list xs) (committed f)

-- What is granted at the start stands then.
pub premises_standing : {xs : List Entry} {f : Follower} → Premises xs f → Standing xs f
unfolding Matching
premises_standing {xs} {f} p = record { sound = made_sound f p.made; matching = p.matching; has_committed = p.has_committed }

pub keeps_refl : (xs : List Entry) (f : Follower) → Keeps xs f f
keeps_refl xs f = record { rises = omega arith; kept = λ i s h. refl; keeps = λ k g. g; same_start = (refl, refl) }

pub keeps_trans : (xs : List Entry) (f g h : Follower) → Keeps xs f g → Keeps xs g h → Keeps xs f h
keeps_trans xs f g h a b = record {
  rises = omega (arith, a.rises, b.rises);
  kept = λ i s le. b.kept i (omega (arith, a.same_start.0)) (omega (arith, a.rises)) ∙ a.kept i s le;
  keeps = λ k e. b.keeps k (a.keeps k e);
  same_start = (b.same_start.0 ∙ a.same_start.0, b.same_start.1 ∙ a.same_start.1);
}

-- ---- a message that is taken in: the paper's steps

success_is : {d e : Abstract} {i j : ℕ} → success d i ≡ success e j → (d ≡ e) × (i ≡ j)
success_is h = (cc, cc)

-- the message's last index is that of its last record
pub named : (m : Message) → last_index_of m ≡ m.idx + length (run_entries m.run)
named m = ap (λ (n : ℕ). m.idx + n) (sym (length-listed (run_entry m.run) 0 (run_count m.run)))

module _ (f : Follower) (m : Message) where
  abbrev es : List Entry
  es = run_entries m.run

  pub record Took (g : Follower) : Type 0 where
    pub contained : contains (held f) m.idx m.term ≡ true
    pub got : Received (held f) m.idx es (held g)
    pub committed_is : committed g ≡ max (committed f) (min m.commit (last_index_of m))

  took_done : (a : Appended) → answer_to f m ≡ Ok a → Took (reception_of f m (Ok a)).follower
  unfolding receiver maybe_append match_run
  took_done a e =
      let t = taken f.log f.settled f.pending m.idx m.term m.commit m.run a e in
      let s = first-end (contains (held f) m.idx m.term) (λ h. never cc) t.steps in
      let is = success_is s.1 in
      record {
        contained = s.0;
        got = subst (Received (held f) m.idx es) is.0 (received (held f) m.idx m.term es s.0);
        committed_is =
            t.committed ∙ ap (λ (x : ℕ). max (committed f) x) (sym is.1)
            ∙ raised (committed f) m.commit _ ∙ ap (λ (x : ℕ). max (committed f) (min m.commit x)) (sym (named m));
      }

  pub took : (a : Appended) → (engine f m).answer ≡ Ok a → Took (engine f m).follower
  unfolding engine
  took a e = subst (λ (x : Answer Appended). Took (reception_of f m x).follower) (sym e) (took_done a e)

-- ---- a message of the leader's
module _ (xs : List Entry) (leader_terms : NonzeroTerms (whole_list xs)) (leader_limit : length xs ≤ index_limit) (f : Follower) (st : Standing xs f) (m : Message) (cut : CutFrom xs m) where
  abbrev leader : Abstract
  leader = whole_list xs

  abbrev new : List Entry
  new = run_entries m.run

  good : Good f.log f.settled f.pending
  good = st.sound.0

  new_length : length new ≡ cut.count
  new_length = ap (λ (e : List Entry). length e) (cut_entries cut) ∙ records_length xs m.idx cut.count cut.inside

  new_inside : m.idx + length new ≤ last leader
  new_inside = omega (arith, new_length, cut.inside)

  new_at : (k : ℕ) → k < length new → get_or new k nothing ≡ entry_at leader (m.idx + 1 + k)
  new_at k h = ap (λ (e : List Entry). get_or e k nothing) (cut_entries cut) ∙ records_at xs m.idx cut.count k cut.inside (omega (arith, new_length))

  -- a conflict is above committed, since up to there the follower has the leader's records
  pub spared : HoldsPrevious f m → cuts f.log m.idx (run_count m.run) (alike f m) ≡ false
  spared h = refuted _ (λ e.
      let t = (and-eq-true_iff _ _).0 e in
      let some : alike f m < run_count m.run = ltb-true _ _ t.0 in
      let low : m.idx + 1 + alike f m ≤ committed f = leb-true _ _ t.1 in
      let long : alike f m < length new = omega (arith, new_length, cut_count cut) in
      let hit = (found (differs f.log f.settled f.pending m.idx m.run) 0 (run_count m.run)).hit (omega arith) in
      let same : run_term m.run (alike f m) ≡ term_at f.log f.settled f.pending (m.idx + 1 + alike f m) =
      ap (run_term m.run) (omega arith)
      ∙ ap (λ (e : Entry). e.term) (sym (at_listed (run_entry m.run) 0 (run_count m.run) (alike f m) nothing some) ∙ new_at (alike f m) long)
      ∙ sym (st.has_committed.same (m.idx + 1 + alike f m) (omega (arith, h.0.0)) low).terms
      ∙ view_term f.log f.settled f.pending good (m.idx + 1 + alike f m) in
      not_both hit (same_not same))

  -- tests 4 and 5 are step 2's
  pub tests_hold : outside f.log m.idx m.term ≡ false → mismatched f.log f.settled f.pending m.idx m.term ≡ false → HoldsPrevious f m
  tests_hold a b = (contains_holds (held f) m.idx m.term).0 (step_2_is f.log f.settled f.pending good m.idx m.term ∙ ap₂ (λ (x y : Bool). not (x || y)) a b)

  pub accepted_if : HoldsPrevious f m → HasRoom f m → AllPassed f m
  accepted_if h room =
      let b = neither (outside f.log m.idx m.term) (mismatched f.log f.settled f.pending m.idx m.term) (sym (step_2_is f.log f.settled f.pending good m.idx m.term) ∙ (contains_holds (held f) m.idx m.term).1 h) in
      record { whole = good_whole f.log f.settled f.pending good; formed = cut_well_formed leader_terms leader_limit cut; inside = b.0; matches = b.1; spares = spared h; room = room }

  module _ (a : Appended) (e : (engine f m).answer ≡ Ok a) where
    abbrev after : Follower
    after = (engine f m).follower

    t : Took f m after
    t = took f m a e

    pub held_before : HoldsPrevious f m
    held_before = (contains_holds (held f) m.idx m.term).0 t.contained

    previous : term_of (held f) m.idx ≡ term_of leader m.idx
    previous = held_before.1 ∙ cut_term cut

    -- "from its start to there the follower then holds exactly the leader's records"
    pub then_agree : Agree (held after) leader (last_index_of m)
    then_agree = subst (Agree (held after) leader) (sym (named m)) (new_agree (held f) (held after) leader m.idx new t.got refl new_inside new_at st.matching held_before.0 previous)

    keep : (j : ℕ) → Agree (held f) leader j → Agree (held after) leader j
    keep = keep_agree (held f) (held after) leader m.idx new t.got refl new_inside new_at st.matching held_before.0 previous

    rises : committed f ≤ committed after
    rises = omega (arith, t.committed_is)

    agree_committed : Agree (held after) leader (committed after)
    agree_committed =
        ⊎_elim
        (λ higher. agree_down (held after) leader (committed after) (last_index_of m) (omega (arith, st.has_committed.here.0, t.got.same_start.0)) (omega (arith, t.committed_is)) then_agree)
        (λ level. subst (Agree (held after) leader) (omega (arith, rises)) (keep (committed f) st.has_committed))
        (below_or_not (committed f) (committed after))

    pub message_standing : Standing xs after
    message_standing = record {
      sound = received_sound f st.sound m;
      matching = keep_matching (held f) (held after) leader m.idx new t.got refl new_inside new_at st.matching held_before.0 previous;
      has_committed = agree_committed;
    }

    pub message_keeps : Keeps xs f after
    message_keeps = record {
      rises = rises;
      kept = λ i s h. t.got.before i (omega (arith, agree_below (held f) (held after) leader m.idx new t.got refl new_inside new_at st.matching held_before.0 previous (committed f) st.has_committed));
      keeps = keep;
      same_start = t.got.same_start;
    }
