-- DEMAND 3 IN TIME: what a history of both ends brings to the follower is a trace over all that the leader's list comes to hold, so a receiver that keeps the promise of TwoEnds.antt keeps it in time. Nor is any trace left out.
use Prim.Native.Nat.{ℕ}
use mathlib.Core.Path.{◌≡◌, refl, sym, ap, subst, ◌∙◌}
use mathlib.Core.List.Memᴰ
use mathlib.Core.List.{List, [], ◌∷◌, ◌++◌, append_assoc, append-nil}
use mathlib.Core.Logic.{inl, inr, ⊎_elim, ⊎_map}
use Rattle.rules.specs.Log.{Entry, whole_list, Agree}
use Rattle.two_ends.specs.Follower.{Follower, held, Message, Receiver, engine, Event, arrives, between, follow}
use Rattle.two_ends.specs.Leader.{CutFrom}
use Rattle.two_ends.specs.TwoEnds.{Possible, Trace, Accepts, OfMessage, TwoEnds, Theorem}
use Rattle.two_ends.specs.World.{World, Happening, grows, sends, meets, next, May, history, History, AllCut, InTime, TheoremInTime, Happens, EveryTraceHappens}
use Rattle.two_ends.proofs.Cuts.{cut_grown, sent_cut}
use Rattle.two_ends.proofs.Main.{two_ends}
use Rattle.units.proofs.Never.{never}

-- ---- a list that only grows

-- zs is what xs comes to hold
abbrev pub GrowsTo : List Entry → List Entry → Type 0
GrowsTo xs zs = (ys : List Entry) × (zs ≡ xs ++ ys)

grows_refl : (xs : List Entry) → GrowsTo xs xs
grows_refl xs = ([], sym (append-nil xs))

grows_trans : (xs ys zs : List Entry) → GrowsTo xs ys → GrowsTo ys zs → GrowsTo xs zs
grows_trans xs ys zs (a, p) (b, q) = (a ++ b, q ∙ ap (λ (us : List Entry). us ++ b) p ∙ append_assoc xs a b)

-- what is cut from it stays cut from it
all_cut_grown : (xs zs : List Entry) (sent : List Message) → GrowsTo xs zs → AllCut xs sent → AllCut zs sent
all_cut_grown xs zs sent (ys, q) c m i = subst (λ (us : List Entry). CutFrom us m) (sym q) (cut_grown xs ys m (c m i))

-- a line with nothing on it will do at the start
pub none_sent : (xs : List Entry) → AllCut xs []
none_sent xs m i = absurd (Memᴰ.not-nil i)

-- What of a history happens at the follower.
unfoldable events : List Happening → List Event
events [] = []
events (grows es ∷ hs) = events hs
events (sends idx n commit ∷ hs) = events hs
events (meets e ∷ hs) = e ∷ events hs

module _ (rcv : Receiver) where
  -- ---- one happening: the list grows, and what is on the line stays cut from it
  next_grows : (w : World) (h : Happening) → GrowsTo w.list (next rcv w h).list
  unfolding next
  next_grows w (grows es) = (es, refl)
  next_grows w (sends idx n commit) = grows_refl w.list
  next_grows w (meets e) = grows_refl w.list

  next_cut : (w : World) (h : Happening) → May w h → AllCut w.list w.sent → AllCut (next rcv w h).list (next rcv w h).sent
  unfolding next May
  next_cut w (grows es) a c m i = cut_grown w.list es m (c m i)
  next_cut w (sends idx n commit) a c m i = ⊎_elim (λ q. subst (CutFrom w.list) (sym q) (sent_cut w.list idx n commit a)) (c m) (Memᴰ.cases_cons i)
  next_cut w (meets e) a c m i = c m i

  -- what arrives is possible, over all that the list comes to hold
  may_arrive : (w : World) (m : Message) → May w (meets (arrives m)) → AllCut w.list w.sent → (xs : List Entry) → GrowsTo w.list xs → Possible xs m
  unfolding May
  may_arrive w m a c xs g = ⊎_map (all_cut_grown w.list xs w.sent g c m) (λ bad. bad) a

  -- ---- a history: the list only grows
  pub history_grows : (w : World) (hs : List Happening) → GrowsTo w.list (history rcv w hs).list
  unfolding history
  history_grows w [] = grows_refl w.list
  history_grows w (h ∷ hs) = grows_trans w.list (next rcv w h).list _ (next_grows w h) (history_grows (next rcv w h) hs)

  -- the messages on the line are cut from it
  history_cut : (w : World) (hs : List Happening) → AllCut w.list w.sent → History rcv w hs → AllCut (history rcv w hs).list (history rcv w hs).sent
  unfolding history History
  history_cut w [] c a = c
  history_cut w (h ∷ hs) c a = history_cut (next rcv w h) hs (next_cut w h a.0 c) a.1

  -- the follower follows what happens at it
  history_follower : (w : World) (hs : List Happening) → (history rcv w hs).follower ≡ follow rcv w.follower (events hs)
  unfolding history events follow next
  history_follower w [] = refl
  history_follower w (grows es ∷ hs) = history_follower (next rcv w (grows es)) hs
  history_follower w (sends idx n commit ∷ hs) = history_follower (next rcv w (sends idx n commit)) hs
  history_follower w (meets e ∷ hs) = history_follower (next rcv w (meets e)) hs

  -- which is a trace over all that the list comes to hold
  history_trace : (w : World) (hs : List Happening) → AllCut w.list w.sent → History rcv w hs → (xs : List Entry) → GrowsTo (history rcv w hs).list xs → Trace xs (events hs)
  unfolding events history History
  history_trace w [] c a xs g = tt
  history_trace w (h ∷ hs) c a xs g = led_by h a.0 (history_trace (next rcv w h) hs (next_cut w h a.0 c) a.1 xs g)
    where
      led_by : (h : Happening) → May w h → Trace xs (events hs) → Trace xs (events (h ∷ hs))
      led_by (grows es) b t = t
      led_by (sends idx n commit) b t = t
      led_by (meets (arrives m)) b t = (may_arrive w m b c xs (grows_trans w.list _ xs (history_grows w (h ∷ hs)) g), t)
      led_by (meets (between s)) b t = t

  -- ---- the promise
  module _ (w : World) (hs gs ks : List Happening) where
    abbrev now : World
    now = history rcv w hs

    abbrev later : World
    later = history rcv now gs

    abbrev xs : List Entry
    xs = (history rcv later ks).list

    module _ (line : AllCut w.list w.sent) (first : History rcv w hs) (then : History rcv now gs) (promise : TwoEnds rcv xs w.follower) where
      now_cut : AllCut now.list now.sent
      now_cut = history_cut w hs line first

      now_grows : GrowsTo now.list xs
      now_grows = grows_trans now.list later.list xs (history_grows now gs) (history_grows later ks)

      first_trace : Trace xs (events hs)
      first_trace = history_trace w hs line first xs now_grows

      then_trace : Trace xs (events gs)
      then_trace = history_trace now gs now_cut then xs (history_grows later ks)

      now_is : now.follower ≡ follow rcv w.follower (events hs)
      now_is = history_follower w hs

      later_is : later.follower ≡ follow rcv (follow rcv w.follower (events hs)) (events gs)
      later_is = history_follower now gs ∙ ap (λ (f : Follower). follow rcv f (events gs)) now_is

      now_message : (m : Message) → OfMessage rcv xs now.follower m
      now_message = rw now_is (promise.of_message (events hs) first_trace)

      -- what is accepted is no malformed message
      accepted_cut : (m : Message) (k : ℕ) → Accepts (rcv now.follower m) k → Possible xs m → CutFrom xs m
      accepted_cut m k (a, e, q) = ⊎_elim (λ cut. cut) (λ bad. ⊎_elim (λ r. never cc) (λ r. never cc) ((now_message m).malformed bad))

      then_holds : (m : Message) (rest : List Happening) → gs ≡ meets (arrives m) ∷ rest → (k : ℕ) → Accepts (rcv now.follower m) k → Agree (held later.follower) (whole_list xs) k
      unfolding events follow
      then_holds m rest q k a =
          let t = subst (λ (us : List Happening). Trace xs (events us)) q then_trace in
          rw (later_is ∙ ap (λ (us : List Happening). follow rcv (follow rcv w.follower (events hs)) (events us)) q)
          (promise.holds (events hs) first_trace m (accepted_cut m k a t.0) k (rw now_is at a) (events rest) t.1)

      kept_in_time : InTime rcv xs now.sent now.follower later.follower gs
      kept_in_time = record {
        state_rules = rw now_is (promise.state_rules (events hs) first_trace);
        terms = rw now_is (promise.terms (events hs) first_trace);
        on_line = all_cut_grown now.list xs now.sent now_grows now_cut;
        of_message = now_message;
        holds = then_holds;
        ever_after = rw (later_is, now_is) (promise.ever_after (events hs) first_trace (events gs) then_trace);
      }

-- Whatever keeps the promise keeps it in time.
pub in_time_of : (rcv : Receiver) → Theorem rcv → TheoremInTime rcv
unfolding Theorem TheoremInTime
in_time_of rcv theorem w line hs gs ks first then last p = kept_in_time rcv w hs gs ks line first then (theorem _ w.follower p)

-- THE THEOREM, in time
pub in_time : TheoremInTime engine
in_time = in_time_of engine two_ends

-- ---- histories exist

-- over the list as it is: a message of the leader's is sent and then arrives, a malformed one arrives
trace_happens : (rcv : Receiver) (w : World) (es : List Event) → Trace w.list es → Happens rcv w w.list es
unfolding history History next May follow
trace_happens rcv w [] t = ([], tt, refl, refl)
trace_happens rcv w (arrives m ∷ es) (inl c, t) =
    let send = sends m.idx c.count m.commit in
    let r = trace_happens rcv (next rcv (next rcv w send) (meets (arrives m))) es t in
    (send ∷ meets (arrives m) ∷ r.0, (c.inside, (inl (Memᴰ.head c.is), r.1)), r.2, r.3)
trace_happens rcv w (arrives m ∷ es) (inr bad, t) =
    let r = trace_happens rcv (next rcv w (meets (arrives m))) es t in
    (meets (arrives m) ∷ r.0, (inr bad, r.1), r.2, r.3)
trace_happens rcv w (between b ∷ es) t =
    let r = trace_happens rcv (next rcv w (meets (between b))) es t in
    (meets (between b) ∷ r.0, (tt, r.1), r.2, r.3)

-- over what it grows to: it grows first
pub every_trace_happens : (rcv : Receiver) → EveryTraceHappens rcv
unfolding EveryTraceHappens history History next May
every_trace_happens rcv w ys es t =
    let r = trace_happens rcv (next rcv w (grows ys)) es t in
    (grows ys ∷ r.0, (tt, r.1), r.2, r.3)
