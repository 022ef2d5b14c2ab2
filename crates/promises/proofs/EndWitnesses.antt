-- Premises that can be met, of the theorems about both ends and about the majority that holds: for each a value that meets it, and one that does not.
-- The leader's list and its followers are those of crate two_ends (specs/Sanity.antt): the list has terms 1, 1, 2, 2; `follower` has the leader's first two records and another leader's third. Its proofs/Sanity.antt has the premises themselves (`follower_premises`, `late_premises`). docs/TRUST.md has the table.
use Prim.Native.Nat.{ℕ, zero, suc}
use mathlib.Core.Path.{◌≡◌, refl, sym, ap, subst}
use mathlib.Core.Bool.{true, false}
use mathlib.Core.List.Memᴰ
use mathlib.Core.List.{List, [], ◌∷◌}
use mathlib.Core.Logic.{inl, ⊎_elim}
use native.Mathlib.Omega.{arith}
use lib.Dec.{lit<, lit≤}
use lib.ListN.{get_or}
use Rattle.units.specs.Lists.{listed}
use Rattle.rules.specs.Count.{count}
use Rattle.rules.specs.Log.{entry, whole_list, records_after, Same, Matching, Agree}
use Rattle.rules.proofs.Count.{count_none, count_miss}
use Rattle.quorum.specs.Ids.{position, has, distinct}
use Rattle.raft_log.specs.Settle.{stable_entries, stable_entries_store}
use Rattle.two_ends.specs.Follower.{Follower, held, Message, WellFormed, engine, HasRoom, settles, does, arrives, between, follow, Made}
use Rattle.two_ends.specs.Leader.{as_run, cut, CutFrom}
use Rattle.two_ends.specs.TwoEnds.{Premises, Possible, Trace, HoldsPrevious, Accepts, Keeps, TwoEnds, Theorem, NeverDiffer}
use Rattle.two_ends.specs.World.{World, sends, meets, next, May, history, History, AllCut, InTime, TheoremInTime}
use Rattle.two_ends.specs.CatchUp.{Round, total, sending, AtEach, CaughtUp, CatchUp}
use Rattle.two_ends.specs.Sanity.{leader, log_with, settled_words, follower, late, third, heartbeat, from_zero, corrected, refuses_all, commits_blindly}
use Rattle.two_ends.proofs.Carried.{made_sound}
use Rattle.raft_log.proofs.States.{refuted}
use Rattle.two_ends.proofs.Cuts.{sent_cut}
use Rattle.two_ends.proofs.Main.{two_ends}
use Rattle.two_ends.proofs.World.{none_sent, in_time}
use Rattle.two_ends.proofs.CatchUp.{catch_up}
use Rattle.two_ends.proofs.Sanity.{concrete, follower_premises, late_premises, third_cut, heartbeat_cut}
use Rattle.majority_holds.specs.MajorityHolds.{Acknowledged, Honest, HoldsUpTo, HeldByMajority, HeldByHalves, MayCount}
use Rattle.majority_holds.proofs.Main.{acknowledged_holds}
use Rattle.promises.specs.Cases.{ids_from, three_voters, acking}
use Rattle.units.proofs.Never.{never}

-- ---- two logs

-- The follower's second record is the leader's, its third is not; so it agrees up to its committed index, 1, and not up to 3.
pub same_second : Same (held follower) (whole_list leader) 2
unfolding concrete
same_second = record { terms = refl; bodies = λ p q. refl }

pub other_third : Same (held follower) (whole_list leader) 3 → ⊥
unfolding concrete
other_third s = let t = s.terms in omega arith

pub agrees : Agree (held follower) (whole_list leader) 1
agrees = follower_premises.has_committed

pub agrees_not : Agree (held follower) (whole_list leader) 3 → ⊥
unfolding concrete
agrees_not a = other_third (a.same 3 (lit≤ tt) (lit≤ tt))

-- The follower's log and the list match; two logs whose first records have one term and two bodies do not.
pub matching : Matching (held follower) (whole_list leader)
matching = follower_premises.matching

pub not_matching : Matching (whole_list (entry 1 1 ∷ [])) (whole_list (entry 1 2 ∷ [])) → ⊥
unfolding concrete
not_matching m = let b = (m 1 (lit≤ tt, lit≤ tt) (lit≤ tt, lit≤ tt) refl 1 (lit≤ tt) (lit≤ tt, lit≤ tt) (lit≤ tt, lit≤ tt)).bodies (lit< tt) (lit< tt) in omega arith

-- ---- the premises

-- Set-up and the calls make the follower; they make none whose persisted is not below offset.
pub made : Made follower
made = follower_premises.made

abbrev beyond_offset : Follower
beyond_offset = record { log = log_with 4 0 1 4; settled = settled_words; pending = [] }

pub not_made : Made beyond_offset → ⊥
not_made m = omega (arith, (made_sound beyond_offset m).0.persisted_lt_offset)

-- A follower that holds another leader's record as committed does not meet the premises.
abbrev committed_another : Follower
committed_another = record { log = log_with 4 0 3 3; settled = settled_words; pending = [] }

pub premises_fail : Premises leader committed_another → ⊥
unfolding concrete
premises_fail p = let t = (p.has_committed.same 3 (lit≤ tt) (lit≤ tt)).terms in omega arith

-- ---- messages

-- Well-formed, and not the leader's: another leader's third record.
abbrev foreign : Message
foreign = record { idx = 2; term = 1; commit = 1; run = 3 ∷ 1 ∷ 99 ∷ [] }

pub well_formed : WellFormed foreign
unfolding concrete
well_formed = (refl, refl)

pub malformed : WellFormed (record { idx = 2; term = 1; commit = 1; run = 3 ∷ [] }) → ⊥
unfolding concrete
malformed w = never (cc w.0)

no_such_run : (n : ℕ) → foreign.run ≡ as_run 3 (records_after leader 2 n) → ⊥
unfolding concrete
no_such_run zero e = let z : ◌≡◌ {A = ℕ} 1 0 = ap (λ (words : List ℕ). get_or words 1 0) e in omega arith
no_such_run (suc n) e = let z : ◌≡◌ {A = ℕ} 1 2 = ap (λ (words : List ℕ). get_or words 1 0) e in omega arith

pub not_cut : CutFrom leader foreign → ⊥
unfolding concrete
not_cut c = no_such_run c.count (ap (λ (m : Message). m.run) c.is)

-- So it may not arrive, and the leader's own third record may.
pub possible : Possible leader third
possible = inl third_cut

pub not_possible : Possible leader foreign → ⊥
not_possible = ⊎_elim not_cut (λ bad. bad well_formed)

pub trace : Trace leader (arrives third ∷ between (settles 3 2) ∷ [])
trace = (possible, tt)

pub no_trace : Trace leader (arrives foreign ∷ []) → ⊥
no_trace t = not_possible t.0

-- There is room for the third record, and none in a pending store of no words.
pub has_room : HasRoom follower third
unfolding concrete
has_room = refl

pub no_room_lem : HasRoom (record { log = follower.log; settled = follower.settled; pending = [] }) third → ⊥
unfolding concrete
no_room_lem h = never cc

-- The follower holds the record before it, and accepts it; one that starts later does not hold (0, 0), and accepts nothing that follows it.
pub holds_previous : HoldsPrevious follower third
unfolding concrete
holds_previous = ((lit≤ tt, lit≤ tt), refl)

pub not_previous : HoldsPrevious late from_zero → ⊥
unfolding concrete
not_previous h = let low = h.0.0 in omega arith

pub accepts : Accepts (engine follower third) 3
unfolding concrete
accepts = (_, refl, refl)

pub accepts_not : (k : ℕ) → Accepts (engine late from_zero) k → ⊥
unfolding concrete
accepts_not k (said, e, q) = never cc

-- ---- the promises

-- The engine keeps the promise at these two ends. What once was committed is not given up: `corrected` has committed 3, and may not become `follower`, which has 1.
pub two_ends_here : TwoEnds engine leader follower
unfolding Theorem
two_ends_here = two_ends leader follower follower_premises

pub keeps_not : Keeps leader corrected follower → ⊥
keeps_not k = omega (arith, k.rises)

-- A receiver that commits without the minimum lets two followers differ: one commits the third record as it has it, one as the leader has it.
pub differ : NeverDiffer commits_blindly → ⊥
unfolding NeverDiffer concrete
differ never =
    let same = never leader follower follower follower_premises follower_premises (arrives heartbeat ∷ []) (arrives third ∷ []) (inl heartbeat_cut, tt) (inl third_cut, tt) 3 (lit≤ tt) (lit≤ tt) (lit≤ tt) (lit≤ tt) in
    let t = same.terms in
    omega arith

-- ---- catching up

-- Two rounds from the follower's committed index, 1, on: the second and third record, after which it settles and the third comes once more; then the fourth.
unfoldable pub rounds : List (Round leader 4)
unfolding concrete
rounds =
    record { count = 2; others = between (settles 3 2) ∷ arrives (cut leader 2 1 0) ∷ []; besides = (inl (sent_cut leader 2 1 0 (lit≤ tt)), lit≤ tt, tt) }
    ∷ record { count = 1; others = []; besides = tt } ∷ []

rooms : AtEach HasRoom engine follower 1 rounds
unfolding concrete does stable_entries stable_entries_store AtEach rounds
rooms = (refl, (refl, tt))

pub caught_up : CaughtUp leader 4 follower (follow engine follower (sending 1 rounds))
unfolding concrete CatchUp total rounds
caught_up = (catch_up leader follower follower_premises 4 rounds refl rooms).1

-- As the follower was, it has not caught up; and one that turns everything down never does.
pub not_caught_up : CaughtUp leader 4 follower follower → ⊥
unfolding concrete
not_caught_up c = let long = c.holds.here.1 in omega arith

pub refusing_never_catches_up : CatchUp refuses_all → ⊥
unfolding concrete CatchUp AtEach total sending
refusing_never_catches_up c = not_caught_up (c leader follower follower_premises 4 (record { count = 3; others = []; besides = tt } ∷ []) refl (refl, tt)).1

-- ---- in time

-- The leader has its list and has sent nothing yet.
abbrev world : World
world = record { list = leader; sent = []; follower = follower }

-- Its third record may be on the line, another leader's may not.
pub line : AllCut leader (third ∷ [])
line m i = ⊎_elim (λ e. subst (CutFrom leader) (sym e) third_cut) (λ nowhere. absurd (Memᴰ.not-nil nowhere)) (Memᴰ.cases_cons i)

pub no_line : AllCut leader (foreign ∷ []) → ⊥
no_line a = not_cut (a foreign (Memᴰ.head refl))

-- It sends the third record, and that arrives; it can't arrive before it was sent.
pub happens : History engine world (sends 2 1 9 ∷ meets (arrives third) ∷ [])
unfolding concrete History May next
happens = (lit≤ tt, (inl (Memᴰ.head refl), tt))

pub happens_not : History engine world (meets (arrives third) ∷ []) → ⊥
unfolding concrete History May
happens_not h = ⊎_elim (λ nowhere. Memᴰ.not-nil nowhere) (λ bad. bad (refl, refl)) h.0

-- The promise holds of the moment before it arrives and the moment after, and not of the two exchanged. One that turns everything down does not keep it.
pub in_time_here : InTime engine leader (third ∷ []) follower corrected (meets (arrives third) ∷ [])
unfolding concrete TheoremInTime history History next May
in_time_here = in_time world (none_sent leader) (sends 2 1 9 ∷ []) (meets (arrives third) ∷ []) [] (happens.0, tt) happens.1 tt follower_premises

pub not_in_time : InTime engine leader [] corrected follower [] → ⊥
not_in_time t = keeps_not t.ever_after

pub refusing_not_in_time : TheoremInTime refuses_all → ⊥
unfolding concrete TheoremInTime history History next
refusing_not_in_time th =
    let here = th world (none_sent leader) [] [] [] tt tt tt follower_premises in
    let (k, (said, e, q)) = ((here.of_message third).accepts third_cut).1 (holds_previous, has_room) in
    never cc

-- ---- the majority that holds (majority_holds/proofs/Example.antt has honest rows, and what they lead to)

-- `late` starts with the leader's second record and holds another third: it holds the leader's records up to 2, and has never acknowledged 3.
pub holds_up_to : HoldsUpTo leader late 2
unfolding concrete
holds_up_to = late_premises.has_committed

pub holds_not_up_to : HoldsUpTo leader late 3 → ⊥
unfolding concrete
holds_not_up_to a = let t = (a.same 3 (lit≤ tt) (lit≤ tt)).terms in omega arith

pub not_acknowledged : Acknowledged leader late 3 → ⊥
unfolding concrete
not_acknowledged a = holds_not_up_to (acknowledged_holds leader late 3 a)

-- So a row that says so is not honest, and may not be counted; and where all three sites are like it, a majority holds 2, and none holds 3.
pub not_honest : Honest leader (λ id. late) (acking (3 ∷ [])) → ⊥
unfolding concrete position
not_honest h = not_acknowledged (h 1 (lit< tt))

pub may_not_count : MayCount leader (λ id. late) (acking (3 ∷ [])) → ⊥
unfolding concrete position
may_not_count m = holds_not_up_to (m.counted_held 1 (lit< tt))

pub held_by_majority : HeldByMajority leader (λ id. late) (ids_from 1 3) 2
unfolding listed position has distinct count
held_by_majority = record { none_twice = refl; holder = λ id. true; enough = lit≤ tt; hold = λ id h. holds_up_to }

pub not_held_by_majority : HeldByMajority leader (λ id. late) (ids_from 1 3) 3 → ⊥
unfolding listed count
not_held_by_majority m =
    let holds-none : (id : ℕ) → m.holder id ≡ false = λ id. refuted (m.holder id) (λ h. holds_not_up_to (m.hold id h)) in
    let h = m.enough in
    omega (arith, count_miss m.holder 1 (2 ∷ 3 ∷ []) (holds-none 1), count_miss m.holder 2 (3 ∷ []) (holds-none 2), count_miss m.holder 3 [] (holds-none 3), count_none m.holder)

pub not_held_by_halves : HeldByHalves leader (λ id. late) three_voters 3 → ⊥
unfolding listed
not_held_by_halves h = not_held_by_majority (h.by_incoming (lit< tt))
