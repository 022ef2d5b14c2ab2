-- DEMAND 3 IN TIME: the leader's list grows while messages are on their way. A reader must know: `next` is what a happening makes of the two ends and the line between them, `May` when it can happen.
-- `InTime` is promised of every two moments of every history that the premises allow; its parts are those of TwoEnds.antt.
use Rattle.std.specs.Prelude.{ℕ, ◌+◌, ◌≤◌, ◌≡◌, false, ◌⊎◌, length}
use mathlib.Core.List.{List, [], ◌∷◌, ◌++◌, Memᴰ}
use Rattle.rules.specs.Log.{Entry, whole_list, Agree}
use Rattle.raft_log.specs.State.{broken}
use Rattle.log_laws.specs.Keep.{NonzeroTerms}
use Rattle.two_ends.specs.Follower.{Follower, held, Message, WellFormed, Receiver, Event, arrives, between, step, follow}
use Rattle.two_ends.specs.Leader.{cut, CutFrom}
use Rattle.two_ends.specs.TwoEnds.{Premises, Trace, Accepts, OfMessage, Keeps}

-- The two ends and the line between them: "One leader has a whole list ..; messages cut from it reach a follower".
pub record World : Type 0 where
  -- "One leader has a whole list from index 1"
  pub list : List Entry
  -- what it has sent. It stays on the line, so that each message may arrive never, once or often, before or after any other: "lost, repeated or in any order"
  pub sent : List Message
  -- "reach a follower"
  pub follower : Follower

-- What may happen to them, each beside its words of the request.
pub data Happening : Type 0 where
  -- the list "only grows": records come at its end
  grows : List Entry → Happening
  -- "messages cut from it": sends idx n commit, the n records after idx, with any commit number
  sends : ℕ → ℕ → ℕ → Happening
  -- something happens at the follower: a message arrives, "and between them the follower only reads, settles, persists and applies"
  meets : Event → Happening

-- The world after it. What is sent is cut from the list as it then is: one "that only grows; messages cut from it".
unfoldable pub next : Receiver → World → Happening → World
next rcv w (grows es) = record { list = w.list ++ es; sent = w.sent; follower = w.follower }
next rcv w (sends idx n commit) = record { list = w.list; sent = cut w.list idx n commit ∷ w.sent; follower = w.follower }
next rcv w (meets e) = record { list = w.list; sent = w.sent; follower = step rcv w.follower e }

-- When it can happen: the leader sends only what its list has, "messages cut from it"; what arrives was sent, or is malformed; all else at any time.
unfoldable pub May : World → Happening → Type 0
May w (grows es) = Unit {0}
May w (sends idx n commit) = idx + n ≤ length w.list
May w (meets (arrives m)) = Memᴰ m w.sent ⊎ (WellFormed m → ⊥)
May w (meets (between b)) = Unit {0}

-- The world after several, the first first. For "all that the list ever comes to hold".
unfoldable pub history : Receiver → World → List Happening → World
history rcv w [] = w
history rcv w (h ∷ hs) = history rcv (next rcv w h) hs

-- Each of them can happen when its turn comes: messages arrive "lost, repeated or in any order".
unfoldable pub History : Receiver → World → List Happening → Type 0
History rcv w [] = Unit {0}
History rcv w (h ∷ hs) = May w h × History rcv (next rcv w h) hs

-- Every message on the line is one of the "messages cut from it".
abbrev pub AllCut : List Entry → List Message → Type 0
AllCut xs sent = (m : Message) → Memᴰ m sent → CutFrom xs m

-- THE PROMISE, of two moments: the follower is `now`, and on the line is what was `sent` so far; then gs happens, and the follower is `later`. xs is "all that the list ever comes to hold".
pub record InTime (rcv : Receiver) (xs : List Entry) (sent : List Message) (now later : Follower) (gs : List Happening) : Type 0 where
  -- the state rules hold (so refusal 1 is never given), and no held record has term 0
  pub state_rules : broken now.log now.settled now.pending ≡ false
  pub terms : NonzeroTerms (held now)
  -- "messages cut from it": so is whatever is on the line ..
  pub on_line : AllCut xs sent
  -- .. and "a well-formed message is accepted exactly when the follower holds its previous record with that term and has room. Each acceptance names the message's last index"; "none is reported in conflict".
  -- A malformed one gets 2 or 3; a refusal changes nothing.
  pub of_message : (m : Message) → OfMessage rcv xs now m
  -- If m comes first of gs, and is accepted naming k: "from its start to there the follower then holds exactly the leader's records, and keeps them."
  pub holds : (m : Message) (rest : List Happening) → gs ≡ meets (arrives m) ∷ rest → (k : ℕ) → Accepts (rcv now m) k → Agree (held later) (whole_list xs) k
  -- "Committed never falls, no committed record changes"; what it once held of the leader's it keeps
  pub ever_after : Keeps xs now later

-- The theorem's statement, for a receiver: from w on hs happens, then gs, then ks, where nothing was on the line but what was cut from the list (or nothing at all).
-- "At the start, against all that the list ever comes to hold": the premises are granted of w's follower, against the list at the end. It is proved of `engine` in proofs/World.antt.
unfoldable pub TheoremInTime : Receiver → Type 0
TheoremInTime rcv =
    (w : World) → AllCut w.list w.sent → (hs gs ks : List Happening) →
    let now = history rcv w hs in
    let later = history rcv now gs in
    let xs = (history rcv later ks).list in
    History rcv w hs → History rcv now gs → History rcv later ks → Premises xs w.follower → InTime rcv xs now.sent now.follower later.follower gs

-- The events es happen, from w on, in some history in which the list becomes xs: "all that the list ever comes to hold".
abbrev pub Happens : Receiver → World → List Entry → List Event → Type 0
Happens rcv w xs es = (hs : List Happening) × History rcv w hs × ((history rcv w hs).list ≡ xs) × ((history rcv w hs).follower ≡ follow rcv w.follower es)

-- Nor does time leave anything out ("lost, repeated or in any order"): from any world, whatever ys its list is to grow by, each trace of TwoEnds.antt over the grown list happens in some history.
unfoldable pub EveryTraceHappens : Receiver → Type 0
EveryTraceHappens rcv = (w : World) (ys : List Entry) (es : List Event) → Trace (w.list ++ ys) es → Happens rcv w (w.list ++ ys) es
