-- DEMAND 3: the engine keeps the promise of TwoEnds.antt. What stands between the two ends at the start stands after every event.
use Prim.Native.Nat.{ℕ, ◌≤◌}
use mathlib.Core.Path.{◌≡◌, refl, sym, ap, subst, ◌∙◌}
use mathlib.Core.Bool.{false}
use mathlib.Core.List.{List, [], ◌∷◌}
use mathlib.Core.Logic.{inl, ⊎_elim}
use lib.ListN.{length}
use Rattle.units.specs.Units.{index_limit}
use Rattle.units.specs.declared.refusal.Refusal.TheVariants as refusal
use Rattle.rules.specs.Log.{Entry, whole_list, Agree}
use Rattle.raft_log.specs.declared.Appended.{Appended}
use Rattle.raft_log.specs.State.{broken}
use Rattle.raft_log.proofs.States.{not_both, good_whole}
use Rattle.units.proofs.Never.{never}
use Rattle.log_laws.specs.Keep.{NonzeroTerms}
use Rattle.two_ends.specs.Follower.{Follower, held, Message, alike, last_index_of, Receiver, engine, HasRoom, Between, does, Event, arrives, between, follow}
use Rattle.two_ends.specs.Leader.{CutFrom}
use Rattle.two_ends.specs.TwoEnds.{Possible, Trace, HoldsPrevious, Accepts, OfMessage, Keeps, TwoEnds, Theorem, NeverDiffer}
use Rattle.two_ends.proofs.Agreeing.{same_third}
use Rattle.two_ends.proofs.Cuts.{cut_well_formed}
use Rattle.raft_log.specs.Words.{run_count}
use Rattle.raft_log.proofs.Appending.{said}
use Rattle.two_ends.proofs.Tests.{after, done_passed, passed_done, six_cuts, one_broken, malformed_refused, refused_unchanged, after_message_lem, taken_cut}
use Rattle.two_ends.proofs.Taking.{Standing, premises_standing, keeps_refl, keeps_trans, accepted_if, tests_hold, spared, held_before, then_agree, message_standing, message_keeps}
use Rattle.two_ends.proofs.Quiet.{quiet_keeps, between_alike, between_standing}
use Rattle.std.specs.Prelude.{Err}

module _ (xs : List Entry) (leader_terms : NonzeroTerms (whole_list xs)) (leader_limit : length xs ≤ index_limit) where
  -- The follower stands as it did, and has kept what it had.
  abbrev Stays : Follower → Follower → Type 0
  Stays f g = Standing xs g × Keeps xs f g

  whole : (f : Follower) → Standing xs f → broken f.log f.settled f.pending ≡ false
  whole f st = good_whole f.log f.settled f.pending st.sound.0

  -- ---- one message
  module _ (f : Follower) (st : Standing xs f) (m : Message) where
    message_stays : Possible xs m → Stays f (engine f m).follower
    message_stays possible =
        after_message_lem f m (Stays f) (st, keeps_refl xs f) (λ a e.
        let cut = taken_cut f m possible a e in
        (message_standing xs leader_terms leader_limit f st m cut a e, message_keeps xs leader_terms leader_limit f st m cut a e))

    -- accepted exactly when the previous record is held with that term, and there is room
    module _ (cut : CutFrom xs m) where
      accepts_if : HoldsPrevious f m × HasRoom f m → (k : ℕ) × Accepts (engine f m) k
      accepts_if h = (last_index_of m, (_, passed_done f m (accepted_if xs leader_terms leader_limit f st m cut h.0 h.1), refl))

      only_if : (k : ℕ) × Accepts (engine f m) k → HoldsPrevious f m × HasRoom f m
      only_if (k, (a, e, q)) = (held_before xs leader_terms leader_limit f st m cut a e, (done_passed f m a e).0.room)

      named : (k : ℕ) → Accepts (engine f m) k → k ≡ last_index_of m
      named k (a, e, q) =
          let (p, same) = done_passed f m a e in
          let index : said m.idx (run_count m.run) (alike f m) (after f m) ≡ a = cc same in
          sym q ∙ ap (λ (x : Appended). x.last.0) (sym index)

      no_six : (engine f m).answer ≡ Err refusal.CutsCommitted → ⊥
      no_six e =
          let t = six_cuts f m e in
          not_both t.2 (spared xs leader_terms leader_limit f st m cut (tests_hold xs leader_terms leader_limit f st m cut t.0 t.1))

    never_six : Possible xs m → (engine f m).answer ≡ Err refusal.CutsCommitted → ⊥
    never_six possible six = ⊎_elim (λ cut. no_six cut six) (λ bad. ⊎_elim (λ two. never cc) (λ three. never cc) (malformed_refused f m (whole f st) bad)) possible

    of_message : OfMessage engine xs f m
    of_message = record {
      accepts = λ cut. (only_if cut, accepts_if cut);
      names = named;
      no_conflict = never_six;
      no_broken = λ p e. not_both (one_broken f m e) (whole f st);
      refused_same = refused_unchanged f m;
      well_formed = cut_well_formed leader_terms leader_limit;
      malformed = malformed_refused f m (whole f st);
    }

  -- ---- any events
  between_stays : (f : Follower) → Standing xs f → (b : Between) → Stays f (does f b)
  between_stays f st b =
      let same = between_alike f b in
      (between_standing f st b, quiet_keeps xs f (does f b) same.0 same.1)

  follow_stays : (f : Follower) → Standing xs f → (es : List Event) → Trace xs es → Stays f (follow engine f es)
  unfolding follow
  follow_stays f st [] t = (st, keeps_refl xs f)
  follow_stays f st (arrives m ∷ es) t =
      let a = message_stays f st m t.0 in
      let b = follow_stays (engine f m).follower a.0 es t.1 in
      (b.0, keeps_trans xs f (engine f m).follower _ a.1 b.1)
  follow_stays f st (between b ∷ es) t =
      let a = between_stays f st b in
      let c = follow_stays (does f b) a.0 es t in
      (c.0, keeps_trans xs f (does f b) _ a.1 c.1)

  -- ---- the promise
  promise : (f : Follower) → Standing xs f → TwoEnds engine xs f
  promise f st = record {
    state_rules = λ es t. whole _ (now es t);
    terms = λ es t. (now es t).sound.1;
    has_committed = λ es t. (now es t).has_committed;
    of_message = λ es t m. of_message (follow engine f es) (now es t) m;
    holds = holds;
    ever_after = λ es t fs u. (follow_stays (follow engine f es) (now es t) fs u).1;
  }
    where
      now : (es : List Event) → Trace xs es → Standing xs (follow engine f es)
      now es t = (follow_stays f st es t).0

      holds : (es : List Event) → Trace xs es → (m : Message) → CutFrom xs m → (k : ℕ) → Accepts (engine (follow engine f es) m) k
          → (fs : List Event) → Trace xs fs → Agree (held (follow engine (engine (follow engine f es) m).follower fs)) (whole_list xs) k
      holds es t m cut k (a, e, q) fs u =
          let g = follow engine f es in
          let then = then_agree xs leader_terms leader_limit g (now es t) m cut a e in
          let stays = message_stays g (now es t) m (inl cut) in
          let kept = (follow_stays (engine g m).follower stays.0 fs u).1.keeps (last_index_of m) then in
          subst (Agree (held (follow engine (engine g m).follower fs)) (whole_list xs)) (sym (named g (now es t) m cut k (a, e, q))) kept

-- THE THEOREM
pub two_ends : Theorem engine
unfolding Theorem
two_ends xs f p = promise xs p.leader_terms p.leader_limit f (premises_standing p)

-- any receiver that keeps the promise keeps two followers of one leader from differing
pub never_differ : (rcv : Receiver) → Theorem rcv → NeverDiffer rcv
unfolding Theorem NeverDiffer
never_differ rcv promised xs f g p q es fs t u i a b c d =
    same_third (held (follow rcv f es)) (held (follow rcv g fs)) (whole_list xs) i refl (((promised xs f p).has_committed es t).same i a c) (((promised xs g q).has_committed fs u).same i b d)
