-- CATCHING UP: the engine does what specs/CatchUp.antt says. Each round's message finds its previous record held, so with room it is taken in; what else happens in the round takes nothing of it away, puts nothing above the leader's list and commits no more than the leader has.
use Prim.Native.Nat.{ℕ, ◌+◌, ◌≤◌, min, max}
use mathlib.Core.Path.{◌≡◌, refl, sym, ap, ap₂, subst, ◌∙◌}
use mathlib.Core.List.{List, [], ◌∷◌, ◌++◌}
use mathlib.Core.Logic.{⊎_elim}
use native.Mathlib.Omega.{arith}
use lib.ListN.{length, get_or, drop, length-drop}
use lib.Seq.{get_or-drop, ext_get_or}
use Rattle.rules.specs.Log.{Entry, entry, nothing, Log as Abstract, whole_list, last, Agree}
use Rattle.rules.specs.Receiver.{with_entries}
use Rattle.raft_log.specs.declared.Appended.{Appended}
use Rattle.log_laws.proofs.Views.{entry_after}
use Rattle.two_ends.specs.Follower.{Follower, held, committed, Message, last_index_of, Receiver, engine, HasRoom, Between, does, Event, arrives, between, step, follow}
use Rattle.two_ends.specs.Leader.{cut, CutFrom}
use Rattle.two_ends.specs.TwoEnds.{Premises, Possible, HoldsPrevious, Accepts}
use Rattle.two_ends.specs.CatchUp.{Besides, Round, total, message_for, sending, AtEach, CaughtUp, CatchUp}
use Rattle.two_ends.proofs.Cuts.{cut_term, cut_last, sent_cut}
use Rattle.two_ends.proofs.Tests.{passed_done, after_message_lem, taken_cut}
use Rattle.two_ends.proofs.Taking.{Standing, premises_standing, named, Took, took, accepted_if, then_agree, message_standing, message_keeps}
use Rattle.two_ends.proofs.Quiet.{between_alike, between_standing}
use Rattle.std.specs.Prelude.{Ok}

-- The follower after events, and then more of them.
follow_on : (rcv : Receiver) (f : Follower) (es fs : List Event) → follow rcv f (es ++ fs) ≡ follow rcv (follow rcv f es) fs
unfolding follow
follow_on rcv f [] fs = refl
follow_on rcv f (e ∷ es) fs = follow_on rcv (step rcv f e) es fs

-- A log that agrees with the list up to the list's last index, and ends there, has the list's records after its start.
all_of : (xs : List Entry) (l : Abstract) → Agree l (whole_list xs) (length xs) → last l ≡ length xs → l.entries ≡ drop l.start xs
all_of xs l g end = ext_get_or nothing l.entries (drop l.start xs) (omega (arith, length-drop l.start xs)) (λ k h.
    let i : ℕ = l.start + 1 + k in
    let same = g.same i (omega arith) (omega arith) in
    ap (λ (j : ℕ). get_or l.entries j nothing) (omega arith) ∙ sym (entry_after l i (omega arith))
    ∙ ap₂ entry same.terms (same.bodies (omega arith) (omega arith))
    ∙ entry_after (whole_list xs) i (omega arith) ∙ ap (λ (j : ℕ). get_or xs j nothing) (omega arith) ∙ sym (get_or-drop l.start xs k nothing))

module _ (xs : List Entry) (f : Follower) (p : Premises xs f) (commit : ℕ) where
  -- What was f is now the log l with committed c: it has the leader's records up to idx, committed as far as the leader has; no others came above the leader's list, and no more is committed than the leader has.
  record Upto (l : Abstract) (c idx : ℕ) : Type 0 where
    starts : (l.start ≡ (held f).start) × (l.start_term ≡ (held f).start_term)
    agrees : Agree l (whole_list xs) idx
    shorter : last (held f) ≤ length xs → last l ≤ length xs
    floor : max (committed f) (min commit idx) ≤ c
    ceiling : c ≤ max (committed f) (min commit (length xs))

  abbrev Now : Follower → ℕ → Type 0
  Now g idx = Standing xs g × Upto (held g) (committed g) idx

  module _ (g : Follower) (idx : ℕ) (now : Now g idx) (m : Message) where
    abbrev after : Follower
    after = (engine g m).follower

    -- ---- a message of the leader's that is taken in
    module _ (sent : CutFrom xs m) (low : m.commit ≤ commit) (a : Appended) (e : (engine g m).answer ≡ Ok a) where
      t : Took g m after
      t = took g m a e

      -- after it, for any index: it is enough that up to there the records are the leader's, and committed as the leader has
      counted : (i : ℕ) → Agree (held after) (whole_list xs) i → max (committed f) (min commit i) ≤ committed after → Now after i
      counted i agrees floor =
          let stands = message_standing xs p.leader_terms p.leader_limit g now.0 m sent a e in
          let same = t.got.same_start in
          let shorter : last (held f) ≤ length xs → last (held after) ≤ length xs =
          λ h. ⊎_elim (λ d. omega (arith, d.1, named m, cut_last sent, sent.inside)) (λ d. omega (arith, d.1.1, now.1.shorter h)) t.got.end in
          let ceiling : committed after ≤ max (committed f) (min commit (length xs)) = omega (arith, now.1.ceiling, t.committed_is, cut_last sent, sent.inside) in
          (stands, record { starts = (same.0 ∙ now.1.starts.0, same.1 ∙ now.1.starts.1); agrees = agrees; shorter = shorter; floor = floor; ceiling = ceiling })

      kept : Now after idx
      kept = counted idx ((message_keeps xs p.leader_terms p.leader_limit g now.0 m sent a e).keeps idx now.1.agrees) (omega (arith, now.1.floor, t.committed_is))

    -- ---- any message that may come
    message_now : Possible xs m → m.commit ≤ commit → Now after idx
    message_now possible low = after_message_lem g m (λ h. Now h idx) now (λ a e. kept (taken_cut g m possible a e) low a e)

  -- ---- the next message: the follower holds the leader's record before it
  next_message : (g : Follower) (m : Message) → Now g m.idx → CutFrom xs m → m.commit ≡ commit → HasRoom g m → Accepts (engine g m) (last_index_of m) × Now (engine g m).follower (last_index_of m)
  next_message g m now sent same room =
      let here = now.1.agrees in
      let previous : HoldsPrevious g m = (here.here, (here.same m.idx here.here.0 (omega arith)).terms ∙ sym (cut_term sent)) in
      let e = passed_done g m (accepted_if xs p.leader_terms p.leader_limit g now.0 m sent previous room) in
      let agrees = then_agree xs p.leader_terms p.leader_limit g now.0 m sent _ e in
      let low : m.commit ≤ commit = omega arith in
      ((_, e, refl), counted g m.idx now m sent low _ e (last_index_of m) agrees (omega (arith, now.1.floor, (took g m _ e).committed_is)))

  -- ---- what else happens
  between_now : (g : Follower) (idx : ℕ) → Now g idx → (b : Between) → Now (does g b) idx
  between_now g idx now b =
      let same = between_alike g b in
      let level = subst (λ (c : ℕ). Upto (held g) c idx) (sym same.1) now.1 in
      (between_standing g now.0 b, subst (λ (l : Abstract). Upto l (committed (does g b)) idx) (sym same.0) level)

  others_now : (g : Follower) (idx : ℕ) → Now g idx → (es : List Event) → Besides xs commit es → Now (follow engine g es) idx
  unfolding follow
  others_now g idx now [] b = now
  others_now g idx now (arrives m ∷ es) b = others_now (engine g m).follower idx (message_now g idx now m b.0 b.1) es b.2
  others_now g idx now (between d ∷ es) b = others_now (does g d) idx (between_now g idx now d) es b

  -- ---- the rounds, from idx on
  all_rounds : (g : Follower) (idx : ℕ) → Now g idx → (rounds : List (Round xs commit)) → idx + total rounds ≡ length xs → AtEach HasRoom engine g idx rounds
      → AtEach (λ h m. Accepts (engine h m) (last_index_of m)) engine g idx rounds × Now (follow engine g (sending idx rounds)) (length xs)
  unfolding follow cut sent_cut total sending AtEach
  all_rounds g idx now [] sum room = (tt, subst (Now g) (omega arith) now)
  all_rounds g idx now (r ∷ rs) sum room =
      let sent = sent_cut xs idx r.count commit (omega arith) in
      let a = next_message g (message_for idx r) now sent refl room.0 in
      let b = others_now _ (idx + r.count) (subst (Now _) (cut_last sent) a.1) r.others r.besides in
      let d = all_rounds (follow engine (engine g (message_for idx r)).follower r.others) (idx + r.count) b rs (omega arith) room.1 in
      ((a.0, d.0), subst (λ (h : Follower). Now h (length xs)) (sym (follow_on engine _ r.others (sending (idx + r.count) rs))) d.1)

  -- at first it has the leader's records up to committed; in the end, up to the list's last
  begin : Now f (committed f)
  begin = (premises_standing p, record { starts = (refl, refl); agrees = p.has_committed; shorter = λ h. h; floor = omega arith; ceiling = omega arith })

  end : (g : Follower) → Upto (held g) (committed g) (length xs) → CaughtUp xs commit f g
  end g u = record {
    holds = u.agrees;
    exactly = λ h.
        ap₂ (λ (s t : ℕ). record { start = s; start_term = t; entries = (held g).entries }) u.starts.0 u.starts.1
        ∙ ap (with_entries (held f)) (all_of xs (held g) u.agrees (omega (arith, u.shorter h, u.agrees.here.1)) ∙ ap (λ (s : ℕ). drop s xs) u.starts.0);
    commits = omega (arith, u.ceiling, u.floor);
    as_leader = λ low inside. omega (arith, u.ceiling, u.floor);
  }

-- THE THEOREM
pub catch_up : CatchUp engine
unfolding CatchUp
catch_up xs f p commit rounds sum room =
    let r = all_rounds xs f p commit f (committed f) (begin xs f p commit) rounds sum room in
    (r.0, end xs f p commit _ r.1.1)

-- ALL AT ONCE: one message with all the n records that are left.
pub at_once : (xs : List Entry) (f : Follower) → Premises xs f → (commit n : ℕ) → committed f + n ≡ length xs → HasRoom f (cut xs (committed f) n commit)
    → Accepts (engine f (cut xs (committed f) n commit)) (length xs) × CaughtUp xs commit f (engine f (cut xs (committed f) n commit)).follower
unfolding follow cut sent_cut total sending AtEach CatchUp
at_once xs f p commit n all room =
    let sent = sent_cut xs (committed f) n commit (omega arith) in
    let r = catch_up xs f p commit (record { count = n; others = []; besides = tt } ∷ []) (omega arith) (room, tt) in
    (subst (Accepts (engine f (cut xs (committed f) n commit))) (cut_last sent ∙ all) r.0.0, r.1)
