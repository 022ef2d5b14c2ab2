-- CATCHING UP, a statement of its own beside demand 3. There nothing goes wrong, whatever arrives; here all comes right, where everything arrives. In words:
-- The leader sends everything from the follower's committed index on, in order, in as many messages as it likes, all with its commit number; and there is room for each as it comes. Then each is accepted, and in the end the follower holds the leader's whole list and has the leader's commit number as its own.
-- The paper, 5.3: "send the follower all of the leader's entries after that point". That point is committed, since up to there the follower has the leader's records; and each message that is accepted makes it hold the next one's previous record.
-- A reader must know: `sending` is what happens, `CaughtUp` what comes of it, `CatchUp` the theorem's statement for a receiver. It is proved of `engine` in proofs/CatchUp.antt.
use Rattle.std.specs.Prelude.{ℕ, ◌+◌, ◌≤◌, min, max, ◌≡◌, List, [], ◌∷◌, ◌++◌, length, drop}
use Rattle.rules.specs.Log.{Entry, whole_list, last, Agree}
use Rattle.rules.specs.Receiver.{with_entries}
use Rattle.two_ends.specs.Follower.{Follower, held, committed, Message, last_index_of, Receiver, HasRoom, Event, arrives, between, follow}
use Rattle.two_ends.specs.Leader.{cut}
use Rattle.two_ends.specs.TwoEnds.{Premises, Possible, Accepts}

-- What may happen besides: all that demand 3 lets happen, the leader's other messages late or "repeated" among it. None carries a larger commit number: the leader's only rises.
abbrev pub Besides : List Entry → ℕ → List Event → Type 0
Besides xs commit [] = Unit {0}
Besides xs commit (arrives m ∷ es) = Possible xs m × (m.commit ≤ commit) × Besides xs commit es
Besides xs commit (between b ∷ es) = Besides xs commit es

-- One round of "send the follower all of the leader's entries after that point": a message with the next `count` records (none, for a heartbeat), and what happens besides before the next one: the follower settles, say, which frees room.
pub record Round (xs : List Entry) (commit : ℕ) : Type 0 where
  pub count : ℕ
  pub others : List Event
  pub besides : Besides xs commit others

module _ {xs : List Entry} {commit : ℕ} where
  -- How many records the rounds send. For "all of the leader's entries after that point".
  unfoldable pub total : List (Round xs commit) → ℕ
  total [] = 0
  total (r ∷ rs) = r.count + total rs

  -- The round's message, where the records up to idx have been sent: one of the "messages cut from it".
  abbrev pub message_for : ℕ → Round xs commit → Message
  message_for idx r = cut xs idx r.count commit

  -- All that happens in the rounds from there on. For `CatchUp`.
  unfoldable pub sending : ℕ → List (Round xs commit) → List Event
  sending idx [] = []
  sending idx (r ∷ rs) = arrives (message_for idx r) ∷ r.others ++ sending (idx + r.count) rs

  -- P holds of each round's message and of the follower that it comes to. For `CatchUp`: it "has room", and accepts.
  unfoldable pub AtEach : (Follower → Message → Type 0) → Receiver → Follower → ℕ → List (Round xs commit) → Type 0
  AtEach P rcv f idx [] = Unit {0}
  AtEach P rcv f idx (r ∷ rs) = P f (message_for idx r) × AtEach P rcv (follow rcv f (arrives (message_for idx r) ∷ r.others)) (idx + r.count) rs

-- What has come of a follower that was f and is g: it "holds exactly the leader's records".
pub record CaughtUp (xs : List Entry) (commit : ℕ) (f g : Follower) : Type 0 where
  -- the leader's whole list: from its start on, exactly the leader's records, to the last
  pub holds : Agree (held g) (whole_list xs) (length xs)
  -- and no others, where it had none above the leader's last index (01, "Tempting mistakes: cutting everything after idx when the run already matches": what it had there stays where nothing conflicts)
  pub exactly : last (held f) ≤ length xs → held g ≡ with_entries (held f) (drop (held f).start xs)
  -- committed by step 5 of the last message, and never lowered: the leader's own number, where the leader has what it commits and the follower was not ahead
  pub commits : committed g ≡ max (committed f) (min commit (length xs))
  pub as_leader : committed f ≤ commit → commit ≤ length xs → committed g ≡ commit

-- THE STATEMENT, for a receiver: the rounds "send the follower all of the leader's entries after that point", and there is room for each message; then each is accepted, naming its last index, and the follower has caught up.
unfoldable pub CatchUp : Receiver → Type 0
CatchUp rcv =
    (xs : List Entry) (f : Follower) → Premises xs f → (commit : ℕ) (rounds : List (Round xs commit))
    → committed f + total rounds ≡ length xs → AtEach HasRoom rcv f (committed f) rounds
    → AtEach (λ now m. Accepts (rcv now m) (last_index_of m)) rcv f (committed f) rounds × CaughtUp xs commit f (follow rcv f (sending (committed f) rounds))
