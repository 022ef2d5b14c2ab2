-- The premises of demand 3 can be met: by a follower whose third record is another leader's, and by one whose start is above 0; and what the engine makes of a message of the leader's there.
use Prim.Native.Nat.{ℕ, zero, suc, ◌≤◌}
use mathlib.Core.Path.{◌≡◌, refl, sym, ap, ◌∙◌}
use mathlib.Core.List.{[], ◌∷◌}
use mathlib.Core.Logic.{⊎_elim}
use native.Mathlib.Omega.{arith}
use lib.Dec.{lit<, lit≤}
use lib.ListN.{take}
use Rattle.units.specs.Units.{index_of}
use Rattle.units.specs.declared.refusal.Refusal.TheVariants as refusal
use Rattle.units.specs.Lists.{listed}
use Rattle.units.proofs.Numbers.{below_or_not}
use Rattle.rules.specs.Log.{Log, whole_list, last, entry_at, term_of, Same, Matching, Agree}
use Rattle.raft_log.specs.Words.{put_run, first_from}
use Rattle.raft_log.specs.State.{state_ok, term_at}
use Rattle.raft_log.specs.Run.{numbered, terms_set}
use Rattle.raft_log.specs.Append.{outside, decide, match_run, maybe_append, maybe_append_store}
use Rattle.raft_log.specs.Commit.{applied_to, maybe_persist}
use Rattle.raft_log.specs.Settle.{stable_entries, stable_entries_store}
use Rattle.raft_log.specs.Setup.{fresh, setup_ok, new_log}
use Rattle.log_laws.specs.View.{view_of}
use Rattle.log_laws.specs.Keep.{NonzeroTerms}
use Rattle.log_laws.proofs.Nonzero.{set_nonzero}
use Rattle.two_ends.specs.Follower.{Follower, held, Message, engine, settles, persists, applies, does, follow, Made, set_up, by_maybe_append, by_between}
use Rattle.two_ends.specs.Leader.{as_run, cut, CutFrom}
use Rattle.two_ends.specs.TwoEnds.{Premises}
use Rattle.two_ends.specs.Sanity.{leader, follower, late, third, third_and_fourth, heartbeat, from_zero, corrected}
use Rattle.two_ends.proofs.Agreeing.{agree_down}
use Rattle.two_ends.proofs.Cuts.{sent_cut}
use Rattle.std.specs.Prelude.{Ok, Err}

-- What the concrete facts compute through, all of it: to name this on an `unfolding` line is to open each.
unfoldable pub concrete : Unit {0}
unfolding entry_at Matching put_run first_from state_ok term_at numbered terms_set outside decide match_run maybe_append maybe_append_store listed view_of as_run cut engine follow
concrete = tt

-- ---- the calls that make the followers

-- Set up with the first two records, persisted, and room for four.
abbrev begun : Follower
begun = record { log = fresh 0 0 2; settled = 1 ∷ 11 ∷ 1 ∷ 12 ∷ 0 ∷ 0 ∷ 0 ∷ 0 ∷ []; pending = 0 ∷ 0 ∷ 0 ∷ 0 ∷ [] }

begun_made : Made begun
unfolding concrete new_log setup_ok
begun_made = set_up 0 0 2 _ _ _ refl

-- The other leader's third record; it has 1 committed.
abbrev others : Message
others = record { idx = 2; term = 1; commit = 1; run = 3 ∷ 1 ∷ 99 ∷ [] }

-- Then the record is settled and persisted, and the first is applied.
follower_made : Made follower
unfolding concrete does stable_entries stable_entries_store maybe_persist applied_to
follower_made = by_between _ (by_between _ (by_between _ (by_maybe_append begun begun_made others) (settles 3 1)) (persists 3 1)) (applies 1)

late_made : Made late
unfolding concrete new_log setup_ok
late_made = set_up 2 1 3 _ _ _ refl

-- ---- the premises

leader_terms : NonzeroTerms (whole_list leader)
unfolding concrete
leader_terms = set_nonzero (whole_list leader) (lit< tt, (lit< tt, (lit< tt, (lit< tt, tt))))

-- A log of three records that has the leader's up to the second, and a third of term 1, matches the leader's list: nothing is asked above the second.
matching_but_third : (a : Log) → last a ≡ 3 → term_of a 3 ≡ 1 → Agree a (whole_list leader) 2 → Matching a (whole_list leader)
unfolding concrete
matching_but_third a three other g i ha hb t j le ja jb =
    ⊎_elim
    (λ above.
    let e : i ≡ 3 = omega arith in
    let unlike : ◌≡◌ {A = ℕ} 1 2 = sym other ∙ ap (term_of a) (sym e) ∙ t ∙ ap (term_of (whole_list leader)) e in
    absurd (omega arith))
    (λ not_above. g.same j ja.0 (omega arith))
    (below_or_not 2 i)

follower_same : (j : ℕ) → j ≤ 2 → Same (held follower) (whole_list leader) j
unfolding concrete
follower_same zero h = record { terms = refl; bodies = λ p q. refl }
follower_same (suc zero) h = record { terms = refl; bodies = λ p q. refl }
follower_same (suc (suc zero)) h = record { terms = refl; bodies = λ p q. refl }
follower_same (suc (suc (suc j))) h = absurd (omega arith)

follower_agrees : Agree (held follower) (whole_list leader) 2
unfolding concrete
follower_agrees = record { here = (lit≤ tt, lit≤ tt); there = lit≤ tt; same = λ j low high. follower_same j high }

pub follower_premises : Premises leader follower
unfolding concrete
follower_premises = record {
  made = follower_made;
  matching = matching_but_third (held follower) refl refl follower_agrees;
  has_committed = agree_down (held follower) (whole_list leader) 1 2 (lit≤ tt) (lit≤ tt) follower_agrees;
  leader_terms = leader_terms;
  leader_limit = lit≤ tt;
}

-- the start is compared by its term alone
late_same : (j : ℕ) → 2 ≤ j → j ≤ 2 → Same (held late) (whole_list leader) j
unfolding concrete
late_same zero low high = absurd (omega arith)
late_same (suc zero) low high = absurd (omega arith)
late_same (suc (suc zero)) low high = record { terms = refl; bodies = λ p q. absurd (omega arith) }
late_same (suc (suc (suc j))) low high = absurd (omega arith)

late_agrees : Agree (held late) (whole_list leader) 2
unfolding concrete
late_agrees = record { here = (lit≤ tt, lit≤ tt); there = lit≤ tt; same = late_same }

pub late_premises : Premises leader late
unfolding concrete
late_premises = record {
  made = late_made;
  matching = matching_but_third (held late) refl refl late_agrees;
  has_committed = late_agrees;
  leader_terms = leader_terms;
  leader_limit = lit≤ tt;
}

-- ---- messages of the leader's

pub third_cut : CutFrom leader third
unfolding concrete
third_cut = sent_cut leader 2 1 9 (lit≤ tt)

pub third_and_fourth_cut : CutFrom leader third_and_fourth
unfolding concrete
third_and_fourth_cut = sent_cut leader 2 2 0 (lit≤ tt)

pub heartbeat_cut : CutFrom leader heartbeat
unfolding concrete
heartbeat_cut = sent_cut leader 1 0 3 (lit≤ tt)

pub from_zero_cut : CutFrom leader from_zero
unfolding concrete
from_zero_cut = sent_cut leader 0 0 0 (lit≤ tt)

-- The engine reports the conflict at 3, names 3, and has the leader's third record in place of the other.
pub third_received : engine follower third ≡ record { answer = Ok (record { conflict = index_of 3; last = index_of 3; log = corrected.log }); follower = corrected }
unfolding concrete
third_received = refl

pub corrected_holds : (held corrected).entries ≡ take 3 leader
unfolding concrete
corrected_holds = refl

-- Repeated, it is accepted without a conflict, and changes nothing.
pub third_repeated : engine corrected third ≡ record { answer = Ok (record { conflict = index_of 0; last = index_of 3; log = corrected.log }); follower = corrected }
unfolding concrete
third_repeated = refl

-- The follower that starts later does not hold (0, 0).
pub from_zero_refused : engine late from_zero ≡ record { answer = Err refusal.OutsideLog; follower = late }
unfolding concrete
from_zero_refused = refl
