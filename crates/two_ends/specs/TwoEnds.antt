-- DEMAND 3, as a statement. A reader must know: `Premises` is what the customer grants at the start, `TwoEnds` what is promised from then on; each part stands beside its words of the request. The list xs is "all that the list ever comes to hold"; that messages are cut from it while it grows is in World.antt.
use Rattle.std.specs.Prelude.{ℕ, ◌≤◌, ◌≡◌, false, ◌↔◌, ◌⊎◌, List, [], ◌∷◌, length, Ok, Err}
use Rattle.units.specs.Units.{index_limit}
use Rattle.units.specs.declared.refusal.Refusal.{Refusal}
use Rattle.units.specs.declared.refusal.Refusal.TheVariants as refusal
use Rattle.rules.specs.Log.{Entry, whole_list, entry_at, term_of, Holds, Same, Matching, Agree}
use Rattle.raft_log.specs.declared.Appended.{Appended}
use Rattle.raft_log.specs.State.{broken}
use Rattle.log_laws.specs.Keep.{NonzeroTerms}
use Rattle.two_ends.specs.Follower.{Follower, held, committed, Message, last_index_of, WellFormed, Reception, Receiver, HasRoom, Event, arrives, between, follow, Made}
use Rattle.two_ends.specs.Leader.{CutFrom}

-- "At the start, against all that the list ever comes to hold, ..
pub record Premises (xs : List Entry) (f : Follower) : Type 0 where
  -- (01: "The third demand begins from a log that set-up and these calls made")
  pub made : Made f
  -- .. equal index and term mean equal bodies and equal earlier records that both hold, ..
  pub matching : Matching (held f) (whole_list xs)
  -- .. and the leader has all that the follower holds as committed, its start included."
  pub has_committed : Agree (held f) (whole_list xs) (committed f)
  -- (01: "The leader's terms are nonzero and its indices within the limit.")
  pub leader_terms : NonzeroTerms (whole_list xs)
  pub leader_limit : length xs ≤ index_limit

-- A message that may arrive: "cut from it", or malformed. (Refusals 2 and 3 are for such.)
abbrev pub Possible : List Entry → Message → Type 0
Possible xs m = CutFrom xs m ⊎ (WellFormed m → ⊥)

-- "messages cut from it reach a follower lost, repeated or in any order, and between them the follower only reads, settles, persists and applies": any events, each message one that may arrive.
abbrev pub Trace : List Entry → List Event → Type 0
Trace xs [] = Unit {0}
Trace xs (arrives m ∷ es) = Possible xs m × Trace xs es
Trace xs (between b ∷ es) = Trace xs es

-- "the follower holds its previous record with that term"
abbrev pub HoldsPrevious : Follower → Message → Type 0
HoldsPrevious f m = Holds (held f) m.idx × (term_of (held f) m.idx ≡ m.term)

-- The message is accepted, and the answer names the index k: "Each acceptance names the message's last index".
abbrev pub Accepts : Reception → ℕ → Type 0
Accepts o k = (said : Appended) × (o.answer ≡ Ok said) × (said.last.0 ≡ k)

-- What is promised of a follower that is `now`, whatever the message m; the request's words stand beside the parts.
pub record OfMessage (rcv : Receiver) (xs : List Entry) (now : Follower) (m : Message) : Type 0 where
  -- "a well-formed message is accepted exactly when the follower holds its previous record with that term and has room. Each acceptance names the message's last index"
  pub accepts : CutFrom xs m → ((k : ℕ) × Accepts (rcv now m) k) ↔ (HoldsPrevious now m × HasRoom now m)
  pub names : CutFrom xs m → (k : ℕ) → Accepts (rcv now m) k → k ≡ last_index_of m
  -- "none is reported in conflict"; and the state rules are never found broken
  pub no_conflict : Possible xs m → (rcv now m).answer ≡ Err refusal.CutsCommitted → ⊥
  pub no_broken : Possible xs m → (rcv now m).answer ≡ Err refusal.BrokenState → ⊥
  -- a refusal changes nothing; a message of the leader's is well-formed, a malformed one gets 2 or 3
  pub refused_same : (n : Refusal) → (rcv now m).answer ≡ Err n → (rcv now m).follower ≡ now
  pub well_formed : CutFrom xs m → WellFormed m
  pub malformed : (WellFormed m → ⊥) → ((rcv now m).answer ≡ Err refusal.MisnumberedRun) ⊎ ((rcv now m).answer ≡ Err refusal.ZeroTerm)

-- What is promised of a follower that is `now`, and `later` after more of the same; the request's words stand beside the parts.
pub record Keeps (xs : List Entry) (now later : Follower) : Type 0 where
  -- "Committed never falls, ..
  pub rises : committed now ≤ committed later
  -- .. no committed record changes"
  pub kept : (i : ℕ) → (held now).start ≤ i → i ≤ committed now → entry_at (held later) i ≡ entry_at (held now) i
  -- what it once held of the leader's, from its start up to k, it keeps
  pub keeps : (k : ℕ) → Agree (held now) (whole_list xs) k → Agree (held later) (whole_list xs) k
  pub same_start : ((held later).start ≡ (held now).start) × ((held later).start_term ≡ (held now).start_term)

-- THE PROMISE, of a follower that begins as f: after any events `es`, and then any further events `fs`; the request's words stand beside the parts.
pub record TwoEnds (rcv : Receiver) (xs : List Entry) (f : Follower) : Type 0 where
  -- the state rules hold throughout (so refusal 1, whose test this is in every call, is never given), and no held record has term 0
  pub state_rules : (es : List Event) → Trace xs es → broken (follow rcv f es).log (follow rcv f es).settled (follow rcv f es).pending ≡ false
  pub terms : (es : List Event) → Trace xs es → NonzeroTerms (held (follow rcv f es))
  -- what it holds as committed is the leader's, from its start on
  pub has_committed : (es : List Event) → Trace xs es → Agree (held (follow rcv f es)) (whole_list xs) (committed (follow rcv f es))
  pub of_message : (es : List Event) → Trace xs es → (m : Message) → OfMessage rcv xs (follow rcv f es) m
  -- "from its start to there the follower then holds exactly the leader's records, and keeps them."
  pub holds : (es : List Event) → Trace xs es → (m : Message) → CutFrom xs m → (k : ℕ) → Accepts (rcv (follow rcv f es) m) k
      → (fs : List Event) → Trace xs fs → Agree (held (follow rcv (rcv (follow rcv f es) m).follower fs)) (whole_list xs) k
  pub ever_after : (es : List Event) → Trace xs es → (fs : List Event) → Trace xs fs → Keeps xs (follow rcv f es) (follow rcv (follow rcv f es) fs)

-- The theorem's statement, for a receiver: demand 3, "At the start .. Then a well-formed message is accepted exactly when ..". It is proved of `engine` in proofs/Main.antt.
unfoldable pub Theorem : Receiver → Type 0
Theorem rcv = (xs : List Entry) (f : Follower) → Premises xs f → TwoEnds rcv xs f

-- "If two sites differ on a committed record, a book goes to press hyphenated by the wrong language": two followers of one leader never do, whatever reached each of them, at any two moments.
unfoldable pub NeverDiffer : Receiver → Type 0
NeverDiffer rcv = (xs : List Entry) (f g : Follower) → Premises xs f → Premises xs g → (es fs : List Event) → Trace xs es → Trace xs fs
    → (i : ℕ) → (held (follow rcv f es)).start ≤ i → (held (follow rcv g fs)).start ≤ i → i ≤ committed (follow rcv f es) → i ≤ committed (follow rcv g fs)
    → Same (held (follow rcv f es)) (held (follow rcv g fs)) i
