-- Premises that can be met: for each record or predicate that a theorem asks for, a value that meets it; and one that does not, so that it asks for something.
-- Log A, the voters and the window are those of document 01's cases (specs/Cases.antt); the two ends are those of crate two_ends (specs/Sanity.antt). docs/TRUST.md has the table.
use Prim.Native.Nat.{ℕ, suc, ◌≤◌, ◌<◌}
use mathlib.Core.Path.{◌≡◌, refl, ap}
use mathlib.Core.Bool.{true, false}
use mathlib.Core.List.{List, [], ◌∷◌, ◌++◌}
use mathlib.Core.Logic.{inl, inr, ⊎_elim}
use native.Mathlib.Omega.{arith}
use lib.Dec.{eqb, lit<, lit≤}
use lib.ListN.{get_or}
use Rattle.units.specs.Units.{word_max, index_of, as_term}
use Rattle.units.specs.declared.refusal.Refusal.TheVariants as refusal
use Rattle.units.specs.Lists.{listed}
use Rattle.units.proofs.Never.{never}
use Rattle.rules.specs.Count.{Reordered, keep, swap, then}
use Rattle.rules.specs.Log.{Entry, nothing, Log as Abstract, entry_at, Holds}
use Rattle.rules.specs.Majority.{MajorityReached, Commits}
use Rattle.rules.proofs.Count.{count_reordered}
use Rattle.rules.proofs.Majority.{committed_commits}
use Rattle.quorum.specs.Voters.{set_of, no_voters}
use Rattle.quorum.specs.Votes.{Ends, free, yea, none as no-votes, Sure, Hopeless}
use Rattle.quorum.specs.Joint.{one_set}
use Rattle.quorum.specs.declared.joint.JointConfig.{JointConfig}
use Rattle.quorum.specs.declared.rows.Peer.{Peer}
use Rattle.quorum_laws.specs.JointRule.{Backs, JointCommits, Wins, Loses}
use Rattle.quorum_laws.specs.IdsRule.{Rising, ListsBoth}
use Rattle.quorum_laws.specs.Questions.{Whole, JointWhole, WordRows, NoVoters, SameVoters}
use Rattle.quorum_laws.proofs.Votes.{won_exactly_if_sure, lost_exactly_if_hopeless}
use Rattle.quorum_laws.proofs.Joint.{joint_unique, joined_commits}
use Rattle.quorum_laws.proofs.Ids.{both_ids_lem}
use Rattle.quorum_laws.proofs.Checks.{OnlyTwelve}
use Rattle.inflights.specs.State.{Waits, Sound}
use Rattle.inflights.specs.Ring.{InRing}
use Rattle.inflights.specs.Calls.{capped}
use Rattle.inflights.specs.Queue.{AllAtMost, BeginsAbove, Frees, IsFull, NeverBroken}
use Rattle.inflights.specs.InPlace.{step_of, Stored}
use Rattle.inflights.proofs.Facts.{window_sound}
use Rattle.inflights.proofs.Stays.{never_broken}
use Rattle.raft_log.specs.State.{Good}
use Rattle.raft_log.specs.Run.{check_run}
use Rattle.raft_log.specs.Append.{with_committed}
use Rattle.raft_log.specs.Setup.{setup_ok, new_log}
use Rattle.units.specs.Refusals.{fine, number_of}
use Rattle.raft_log.specs.declared.Bounds.TheVariants as bounds
use Rattle.raft_log.proofs.States.{ok_good}
use Rattle.raft_log.proofs.Setups.{SetsUp, ok_sets_up}
use Rattle.raft_log.proofs.Runs.{Rises, Passed, run_passed}
use Rattle.raft_log.proofs.Conflicts.{Held}
use Rattle.raft_log.proofs.Appending.{Cut, answer_cut}
use Rattle.raft_log.proofs.Extending.{Extends, extend_cut}
use Rattle.raft_log.proofs.Settling.{IsLast}
use Rattle.log_laws.specs.View.{view_of}
use Rattle.log_laws.specs.Keep.{TermsSet}
use Rattle.log_laws.specs.Looking.{FoundBelow}
use Rattle.log_laws.specs.Slicing.{records_from, Reads, Askable, Part, Gives}
use Rattle.log_laws.specs.Frame.{Elsewhere}
use Rattle.log_laws.proofs.Nonzero.{set_nonzero}
use Rattle.log_laws.proofs.Looking.{find_conflict_view}
use Rattle.log_laws.proofs.Slicing.{slice_gives}
use Rattle.leader.specs.Leader.{leader_commit}
use Rattle.leader.specs.Rule.{MayCommit}
use Rattle.leader.proofs.Backed.{commits_by_the_rule}
use Rattle.exports.specs.Words.{leaves}
use Rattle.exports.specs.Reads.{StoreHolds, NamesHeld}
use Rattle.exports.specs.LogCalls.{new_log_leaves}
use Rattle.exports.specs.Results.{Tells}
use Rattle.exports.proofs.Results.{log_new_tells}
use Rattle.two_ends.specs.Sanity.{log_with}
use Rattle.promises.specs.Cases.{log_a, settled_a, pending_a, message, voters_from, id_twice, acking, three_and_two, window, old, flown}
use Rattle.promises.proofs.Apart.{log_promises, quorum_promises, window_promises}
use Rattle.std.specs.Prelude.{Ok, Err, Some, None, Option, Bool}

-- ---- majorities

-- "acknowledgements 2,2,2,4,5"
abbrev five : List ℕ
five = 2 ∷ 2 ∷ 2 ∷ 4 ∷ 5 ∷ []

-- A majority of the five has acknowledged 2, and not 3.
pub majority_reached : MajorityReached 2 five
unfolding quorum_promises
majority_reached = lit≤ tt

pub majority_not_reached : MajorityReached 3 five → ⊥
unfolding quorum_promises
majority_not_reached h = omega arith

-- 2 is committed, and 4 is not; of nobody, no number is.
pub commits_two : Commits five 2
unfolding quorum_promises
commits_two = committed_commits five (lit< tt)

pub commits_not_four : Commits five 4 → ⊥
unfolding quorum_promises
commits_not_four c = let h = c.by_majority in omega arith

pub nobody_commits : (n : ℕ) → Commits [] n → ⊥
unfolding quorum_promises
nobody_commits n c = let h = c.by_majority in omega arith

-- Three ids in another order; and two lists that are not the same in any order.
pub another_order : Reordered {A = ℕ} (1 ∷ 2 ∷ 3 ∷ []) (2 ∷ 3 ∷ 1 ∷ [])
another_order = then (swap 1 2 (3 ∷ [])) (keep 2 (swap 1 3 []))

pub no_order : Reordered {A = ℕ} (1 ∷ []) (2 ∷ []) → ⊥
unfolding quorum_promises
no_order r = let same : ◌≡◌ {A = ℕ} 1 0 = count_reordered (eqb 1) r in omega arith

-- The same voters in another order; and sets of other sizes.
pub same_voters : SameVoters (set_of (1 ∷ 2 ∷ [])) (set_of (2 ∷ 1 ∷ []))
same_voters = record { as_many = refl; reordered = swap 1 2 [] }

pub other_voters : SameVoters (voters_from 1 2) (voters_from 1 3) → ⊥
unfolding listed
other_voters s = let same : ◌≡◌ {A = ℕ} 2 3 = s.as_many in omega arith

-- ---- votes

-- Two yes and one missing; two no and one missing; one yes and two missing.
abbrev sure_votes : List (Option Bool)
sure_votes = Some true ∷ Some true ∷ None ∷ []

abbrev lost_votes : List (Option Bool)
lost_votes = Some false ∷ Some false ∷ None ∷ []

abbrev open_votes : List (Option Bool)
open_votes = Some true ∷ None ∷ None ∷ []

-- The missing votes can end as a yes and a no; what was a yes can't end as a no.
pub may_end : Ends open_votes (true ∷ true ∷ false ∷ [])
may_end = yea (free true (free false no-votes))

-- Won however it ends, lost however it ends, and neither. Of nobody nothing is sure.
pub sure : Sure sure_votes
unfolding quorum_promises
sure = (won_exactly_if_sure sure_votes (lit< tt)).0 refl

pub not_sure : Sure open_votes → ⊥
unfolding quorum_promises
not_sure s = let h = s (true ∷ false ∷ false ∷ []) (yea (free false (free false no-votes))) in omega arith

pub nobody_sure : Sure [] → ⊥
unfolding quorum_promises
nobody_sure s = let h = s [] no-votes in omega arith

pub may_not_end : Ends (Some true ∷ []) (false ∷ []) → ⊥
unfolding quorum_promises
may_not_end e = let h = (won_exactly_if_sure (Some true ∷ []) (lit< tt)).0 refl (false ∷ []) e in omega arith

pub hopeless : Hopeless lost_votes
unfolding quorum_promises
hopeless = (lost_exactly_if_hopeless lost_votes (lit< tt)).0 refl

pub not_hopeless : Hopeless open_votes → ⊥
unfolding quorum_promises
not_hopeless h = let few = h (true ∷ true ∷ true ∷ []) (yea (free true (free true no-votes))) in omega arith

-- A half wins, or loses; one of nobody wins and does not lose.
pub wins : Wins sure_votes
wins some = sure

pub nobody_wins : Wins []
nobody_wins some = absurd (omega arith)

pub not_wins : Wins open_votes → ⊥
not_wins w = not_sure (w (lit< tt))

pub loses : Loses lost_votes
loses = (lit< tt, hopeless)

pub not_loses : Loses [] → ⊥
not_loses l = omega (arith, l.0)

-- ---- both halves

-- "incoming 5,4,3", "outgoing 3,8"
abbrev incoming : List ℕ
incoming = 5 ∷ 4 ∷ 3 ∷ []

abbrev outgoing : List ℕ
outgoing = 3 ∷ 8 ∷ []

-- A half backs what its majority has reached, and no more; a half of nobody backs any number.
pub backs : Backs incoming 4
unfolding quorum_promises
backs some = lit≤ tt

pub not_backs : Backs incoming 5 → ⊥
unfolding quorum_promises
not_backs b = let h : _ ≤ _ = b (lit< tt) in omega arith

pub nobody_backs : Backs [] 5
nobody_backs some = absurd (omega arith)

-- "joint 3", and not 4; u64::MAX where nobody has a say.
pub joint_commits : JointCommits incoming outgoing 3
unfolding quorum_promises
joint_commits = joined_commits incoming outgoing (lit≤ tt, (lit≤ tt, (lit≤ tt, tt))) (lit≤ tt, (lit≤ tt, tt))

pub joint_not_four : JointCommits incoming outgoing 4 → ⊥
joint_not_four c = let same = joint_unique c joint_commits in omega arith

pub nobody_joint : JointCommits [] [] word_max
unfolding quorum_promises
nobody_joint = joined_commits [] [] tt tt

-- Rows whose numbers have 64 bits, as all that the code reads; and a row that no code can hold.
pub word_rows : WordRows (acking incoming)
word_rows = (lit≤ tt, (lit≤ tt, (lit≤ tt, tt)))

pub no_word_rows : WordRows (acking (suc word_max ∷ [])) → ⊥
no_word_rows w = omega (arith, w.0)

-- Nothing is wrong with these sets and rows; a voter that stands twice is wrong. No check refuses by another number than 12.
pub whole : Whole (voters_from 1 5) (acking five)
unfolding quorum_promises
whole = refl

pub not_whole : Whole (set_of id_twice) [] → ⊥
unfolding quorum_promises
not_whole w = never cc

pub joint_whole : JointWhole three_and_two (acking five)
unfolding quorum_promises
joint_whole = refl

pub joint_not_whole : JointWhole three_and_two (acking five ++ acking five) → ⊥
unfolding quorum_promises
joint_not_whole w = never cc

pub not_only_twelve : OnlyTwelve (Err refusal.WindowFull) → ⊥
not_only_twelve twelve = let z : ◌≡◌ {A = ℕ} 11 12 = ap number_of (twelve refusal.WindowFull refl) in omega arith

-- A configuration of nobody, and one of five.
pub no_voters_lem : NoVoters (one_set no_voters)
no_voters_lem = (refl, refl)

pub some_voters : NoVoters three_and_two → ⊥
unfolding listed
some_voters empty = never (cc empty.0)

-- The ids of both halves, in rising order; in another order they are no such list.
pub lists_both : ListsBoth three_and_two (1 ∷ 2 ∷ 3 ∷ 4 ∷ 5 ∷ [])
unfolding quorum_promises
lists_both = both_ids_lem three_and_two

pub not_rising : Rising (2 ∷ 1 ∷ []) → ⊥
unfolding quorum_promises
not_rising r = omega (arith, r.0 1 refl)

pub lists_not_both : ListsBoth three_and_two [] → ⊥
unfolding quorum_promises
lists_not_both l = never (cc (l.members 1))

-- ---- the window

-- What the window and the laws of its queue compute through.
unfoldable windows : Unit {0}
unfolding window_promises AllAtMost BeginsAbove
windows = tt

-- "cap 4, flights 5,5,6: set_cap(2) defers": the state rules of the window hold there, a deferred cap below the cap among them.
pub window_rules : Sound (window 0 3 (Some 2)) 4
unfolding windows
window_rules = window_sound (window 0 3 (Some 2)) 4 refl

-- A start outside the ring; a deferred cap that is not below the cap.
pub start_outside : Sound (window 4 0 None) 4 → ⊥
start_outside s = omega (arith, s.start_ring)

pub not_waits : Waits (Some 4) 3 4 → ⊥
not_waits w = omega (arith, w.0)

-- The last word of a ring of 4, and a whole turn behind it; a start in no ring of 4.
pub in_ring : InRing 3 4 4
in_ring = record { start_ring = lit< tt; count_ring = lit≤ tt }

pub not_in_ring : InRing 4 0 4 → ⊥
not_in_ring r = omega (arith, r.start_ring)

-- "free_to(5) leaves 6": 5, 5 are gone. One 5 alone may not go.
pub frees : Frees 5 (5 ∷ 5 ∷ 6 ∷ []) (6 ∷ [])
unfolding windows
frees = record { gone = 5 ∷ 5 ∷ []; parts = refl; small = (lit≤ tt, (lit≤ tt, tt)); stops = lit< tt }

pub not_frees : Frees 5 (5 ∷ 5 ∷ 6 ∷ []) (5 ∷ 6 ∷ []) → ⊥
unfolding windows
not_frees f = let h = f.stops in omega arith

-- "set_cap(2) defers and is full"; after free_to(5) "not full".
pub is_full_lem : IsFull (window 0 3 (Some 2)) 3
is_full_lem = inr (lit≤ tt)

pub is_not_full : IsFull (window 2 1 (Some 2)) 1 → ⊥
is_not_full = ⊎_elim (λ e. omega arith) (λ r. omega arith)

-- No call refuses that window with 13; each refuses one whose start is outside.
pub window_stays : NeverBroken (window 0 3 (Some 2)) flown
unfolding windows
window_stays = never_broken (window 0 3 (Some 2)) flown refl

pub window_broken : NeverBroken (window 4 0 None) flown → ⊥
unfolding windows
window_broken n = n.count refl

-- In place: 0 and the new window are stored; the new window beside a refusal's number is not what is promised.
pub stored : Stored fine (window 0 3 (Some 2)) (step_of (window 0 3 None) (capped (window 0 3 None) 4 2))
unfolding windows
stored = (refl, refl)

pub not_stored : Stored (Err refusal.NoRoom) (window 0 3 (Some 2)) (step_of (window 0 3 None) (capped (window 0 3 None) 4 2)) → ⊥
unfolding windows
not_stored s = never cc

-- ---- log A

-- What the log and its view compute through.
unfoldable logs : Unit {0}
unfolding log_promises quorum_promises entry_at leader_commit listed view_of records_from
logs = tt

abbrev view_a : Abstract
view_a = view_of log_a settled_a pending_a

-- A meets the state rules; with persisted 4, not below offset 4, it does not.
pub good_A : Good log_a settled_a pending_a
unfolding logs
good_A = ok_good log_a settled_a pending_a refl

pub bad_A : Good (log_with 4 2 2 4) settled_a pending_a → ⊥
bad_A g = omega (arith, g.persisted_lt_offset)

-- A has a record at 5, and none at 6.
pub holds_five : Holds view_a 5
unfolding logs
holds_five = (lit≤ tt, lit≤ tt)

pub holds_not_six : Holds view_a 6 → ⊥
unfolding logs
holds_not_six h = omega (arith, h.1)

-- No term of A is zero; with a zero term in its last pending record one is.
pub terms_A : TermsSet log_a settled_a pending_a
unfolding logs
terms_A = set_nonzero view_a (lit< tt, (lit< tt, (lit< tt, (lit< tt, (lit< tt, tt)))))

pub zero_term_A : TermsSet log_a settled_a (2 ∷ 4 ∷ 0 ∷ 5 ∷ []) → ⊥
unfolding logs
zero_term_A t = let h : 0 < 0 = t 5 (lit< tt) (lit≤ tt) in omega arith

-- "find_conflict_by_term: (5,2) gives (4,2)"; 3, whose term is 2 too, is not the largest.
pub found_below : FoundBelow view_a 5 2 4 2
unfolding logs
found_below = find_conflict_view log_a settled_a pending_a good_A 5 2 (index_of 4) (as_term 2) refl

pub not_found_below : FoundBelow view_a 5 2 3 2 → ⊥
unfolding logs
not_found_below f = let h : 2 < 2 = f.largest 4 (lit< tt) (lit≤ tt) in omega arith

-- Records 3 to 5 may be asked for, and record 0 not. Of 3 to 5 the settled store holds the first; its words are that record's, and no other words are.
pub askable : Askable log_a settled_a pending_a 3 6
unfolding logs
askable = record { good = good_A; first = lit< tt; order = lit≤ tt; final = lit≤ tt }

pub not_askable : Askable log_a settled_a pending_a 0 3 → ⊥
unfolding logs
not_askable a = omega (arith, a.first)

pub part : Part log_a settled_a pending_a 3 6 4 (index_of 3) (index_of 4) (2 ∷ 3 ∷ [])
unfolding logs
part = slice_gives log_a settled_a pending_a 3 6

pub not_reads : Reads view_a 3 4 (2 ∷ 9 ∷ []) → ⊥
unfolding logs
not_reads r = let z : ◌≡◌ {A = ℕ} 9 3 = ap (λ (es : List Entry). (get_or es 0 nothing).body) r.same in omega arith

-- What may be asked for is given: a refusal is no answer to it.
pub not_gives : Gives log_a settled_a pending_a 3 6 ⊥ (Err refusal.OutOfRange) → ⊥
not_gives never = never askable

-- Word 1 belongs to the first record of a store, so it stays where the second is written; word 2 does not.
pub elsewhere : Elsewhere 1 1 1
elsewhere = inl (lit< tt)

pub not_elsewhere : Elsewhere 1 1 2 → ⊥
not_elsewhere = ⊎_elim (λ h. omega arith) (λ h. omega arith)

-- What the code's tests tell, as facts (raft_log/proofs): of set-up, of a run, of a run after a record that is held, of the answers that write, of the last pending record.
pub sets_up : SetsUp 0 0 3 settled_a
unfolding setup_ok
sets_up = ok_sets_up 0 0 3 settled_a refl

pub not_sets_up : SetsUp 0 1 3 settled_a → ⊥
not_sets_up s = never (cc s.starts)

pub passed : Passed message 3 3
unfolding logs check_run
passed = run_passed message 3 refl

pub not_rises : Rises message 4 → ⊥
unfolding logs
not_rises r = let z : ◌≡◌ {A = ℕ} 0 3 = r.placed in omega arith

pub held_before : Held log_a settled_a pending_a 3 message 3
unfolding logs
held_before = record { good = good_A; within = (lit≤ tt, lit≤ tt); set = refl }

pub not_held_before : Held log_a settled_a pending_a 6 [] 0 → ⊥
not_held_before h = omega (arith, h.within.1)

pub cut : Cut 4 3 3 (record { conflict = index_of 5; last = index_of 6; log = log_with 4 3 4 3 })
unfolding logs
cut = answer_cut log_a settled_a pending_a 3 2 4 message refl (λ e. omega arith)

pub not_cut : Cut 4 3 3 (record { conflict = index_of 0; last = index_of 6; log = log_with 4 3 4 3 }) → ⊥
not_cut c = omega (arith, c.follows)

pub extends : Extends 4 6 1 (log_with 4 3 2 3)
unfolding logs
extends = extend_cut log_a settled_a pending_a (6 ∷ 4 ∷ 8 ∷ []) refl (λ e. omega arith)

pub not_extends : Extends 2 6 1 (log_with 4 3 2 3) → ⊥
not_extends e = omega (arith, e.fits)

pub last_pending : IsLast log_a settled_a pending_a 5 3
unfolding logs
last_pending = record { some = λ e. omega arith; there = refl; same = refl }

pub not_last_pending : IsLast log_a settled_a pending_a 4 2 → ⊥
not_last_pending l = let z : ◌≡◌ {A = ℕ} 4 5 = l.there in omega arith

-- Everybody has acknowledged 4, a record of term 2: a leader of term 2 may commit it. Committed is 2, so 2 itself may not be committed again.
pub may_commit_lem : MayCommit log_a settled_a pending_a 2 three_and_two (acking (4 ∷ 4 ∷ 4 ∷ 4 ∷ 4 ∷ [])) 4
unfolding logs
may_commit_lem = (commits_by_the_rule log_a settled_a pending_a 2 three_and_two (acking (4 ∷ 4 ∷ 4 ∷ 4 ∷ 4 ∷ [])) (with_committed log_a 4) refl).1

pub may_not_commit : (term : ℕ) (config : JointConfig) (peers : List Peer) → MayCommit log_a settled_a pending_a term config peers 2 → ⊥
may_not_commit term config peers m = omega (arith, m.higher)

-- ---- words across the boundary

-- A's pending store begins at 4 and has records 4 and 5; it does not have 3.
pub store_holds : StoreHolds pending_a 4 4 6
store_holds = record { above = lit≤ tt; order = lit≤ tt; below = lit≤ tt }

pub store_holds_not : StoreHolds pending_a 4 3 6 → ⊥
store_holds_not h = omega (arith, h.above)

-- So bounds of it name a part that is there, and those of record 3 do not.
pub sound_bounds : NamesHeld (Ok (bounds.Pending (index_of 4) (index_of 6))) log_a settled_a pending_a
sound_bounds = store_holds

pub unsound_bounds : NamesHeld (Ok (bounds.Pending (index_of 3) (index_of 6))) log_a settled_a pending_a → ⊥
unsound_bounds = store_holds_not

-- A call that took all in leaves 0, which tells that it refused nothing; 0 beside a refusal would not tell it.
pub tells : Tells (new_log 0 0 3 settled_a) (old ∷ []) (new_log_leaves 0 0 3 settled_a old)
tells = log_new_tells 0 0 3 settled_a old

pub tells_not : Tells {A = Unit {0}} (Err refusal.BrokenState) (old ∷ []) (leaves 0 (old ∷ [])) → ⊥
tells_not t = t.taken refl refusal.BrokenState refl
