-- Receivers with one thing wrong do not keep the promise: each breaks a named part of it at the two ends of Sanity.antt.
use mathlib.Core.Path.{refl}
use mathlib.Core.List.{[], ◌∷◌}
use mathlib.Core.Logic.{inl}
use native.Mathlib.Omega.{arith}
use lib.Dec.{lit≤}
use Rattle.raft_log.proofs.States.{not_both}
use Rattle.units.proofs.Never.{never}
use Rattle.two_ends.specs.Follower.{arrives}
use Rattle.two_ends.specs.TwoEnds.{Theorem}
use Rattle.two_ends.specs.Sanity.{leader, follower, late, third, third_and_fourth, heartbeat, from_zero, refuses_all, stores_nothing, cuts_always, commits_blindly, cuts_behind_match, zero_is_absent, lowers_persisted, persisted_stays, no_refusal_4}
use Rattle.two_ends.proofs.Sanity.{concrete, follower_premises, late_premises, third_cut, third_and_fourth_cut, heartbeat_cut, from_zero_cut}

-- accepts: the previous record is held and there is room, but the message is refused.
pub refuses_all_fails : Theorem refuses_all → ⊥
unfolding Theorem concrete
refuses_all_fails th =
    let (k, (a, e, q)) = (((th leader follower follower_premises).of_message [] tt third).accepts third_cut).1 (((lit≤ tt, lit≤ tt), refl), refl) in
    never cc

-- holds: after the message the third record is still the other leader's.
pub stores_nothing_fails : Theorem stores_nothing → ⊥
unfolding Theorem concrete
stores_nothing_fails th =
    let g = (th leader follower follower_premises).holds [] tt third third_cut 3 (_, refl, refl) [] tt in
    let t = (g.same 3 (lit≤ tt) (lit≤ tt)).terms in
    omega arith

-- holds: a message that comes late takes away the fourth record, once accepted.
pub cuts_always_fails : Theorem cuts_always → ⊥
unfolding Theorem concrete
cuts_always_fails th =
    let g = (th leader follower follower_premises).holds [] tt third_and_fourth third_and_fourth_cut 4 (_, refl, refl) (arrives third ∷ []) (inl third_cut, tt) in
    let h = g.here.1 in
    omega arith

-- no-conflict: the other leader's third record counts as committed, and the leader's is then refused by 6.
pub commits_blindly_fails : Theorem commits_blindly → ⊥
unfolding Theorem concrete
commits_blindly_fails th =
    ((th leader follower follower_premises).of_message (arrives heartbeat ∷ []) (inl heartbeat_cut, tt) third).no_conflict (inl third_cut) refl

-- holds: so does one whose record is held already.
pub cuts_behind_match_fails : Theorem cuts_behind_match → ⊥
unfolding Theorem concrete
cuts_behind_match_fails th =
    let g = (th leader follower follower_premises).holds [] tt third_and_fourth third_and_fourth_cut 4 (_, refl, refl) (arrives third ∷ []) (inl third_cut, tt) in
    let h = g.here.1 in
    omega arith

-- accepts: the start is held and there is room, but the message is refused.
pub zero_is_absent_fails : Theorem zero_is_absent → ⊥
unfolding Theorem concrete
zero_is_absent_fails th =
    let (k, (a, e, q)) = (((th leader follower follower_premises).of_message [] tt from_zero).accepts from_zero_cut).1 (((lit≤ tt, lit≤ tt), refl), refl) in
    never cc

-- state-rules: persisted is then below applied.
pub lowers_persisted_fails : Theorem lowers_persisted → ⊥
unfolding Theorem concrete
lowers_persisted_fails th =
    not_both refl ((th leader follower follower_premises).state_rules (arrives from_zero ∷ []) (inl from_zero_cut, tt))

-- state-rules: persisted is then not below offset.
pub persisted_stays_fails : Theorem persisted_stays → ⊥
unfolding Theorem concrete
persisted_stays_fails th = not_both refl ((th leader follower follower_premises).state_rules (arrives third ∷ []) (inl third_cut, tt))

-- accepts: a message is accepted whose previous record is not held.
pub no_refusal_4_fails : Theorem no_refusal_4 → ⊥
unfolding Theorem concrete
no_refusal_4_fails th =
    let h = (((th leader late late_premises).of_message [] tt from_zero).accepts from_zero_cut).0 (0, (_, refl, refl)) in
    let low = h.0.0.0 in
    omega arith
