-- What the follower does between messages leaves its records and committed as they were: so what stands between the two ends stands, and nothing is lost.
use Prim.Native.Nat.{ℕ}
use mathlib.Core.Path.{◌≡◌, refl, sym, ap, subst}
use mathlib.Core.List.{List}
use native.Mathlib.Omega.{arith}
use Rattle.rules.specs.Log.{Entry, Log as Abstract, whole_list, entry_at, Matching, Agree}
use Rattle.raft_log.specs.declared.Log.{Log}
use Rattle.raft_log.specs.Commit.{applied_to, maybe_persist}
use Rattle.raft_log.specs.Settle.{stable_entries, stable_entries_store}
use Rattle.raft_log.proofs.Settling.{settle_room}
use Rattle.log_laws.specs.View.{view_of}
use Rattle.log_laws.specs.Keep.{AfterChanged, AfterDecided}
use Rattle.log_laws.proofs.AfterCalls.{settled_view}
use Rattle.log_laws.proofs.After.{after_applied_to, after_maybe_persist, after_stable_entries}
use Rattle.two_ends.specs.Follower.{Follower, held, committed, Between, settles, persists, applies, reads, does}
use Rattle.two_ends.specs.TwoEnds.{Keeps}
use Rattle.two_ends.proofs.Carried.{Sound, between_sound, changed_carries, decided_carries, settled_carries}
use Rattle.two_ends.proofs.Taking.{Standing}

-- A follower with the same records and the same committed.
module _ (xs : List Entry) (f g : Follower) (same : held g ≡ held f) (level : committed g ≡ committed f) where
  quiet_standing : Standing xs f → Sound g → Standing xs g
  quiet_standing st sound = record {
    sound = sound;
    matching = subst (λ (l : Abstract). Matching l (whole_list xs)) (sym same) st.matching;
    has_committed = subst (Agree (held g) (whole_list xs)) (sym level) (subst (λ (l : Abstract). Agree l (whole_list xs) (committed f)) (sym same) st.has_committed);
  }

  pub quiet_keeps : Keeps xs f g
  quiet_keeps = record {
    rises = omega (arith, level);
    kept = λ i s h. ap (λ (l : Abstract). entry_at l i) same;
    keeps = λ k e. subst (λ (l : Abstract). Agree l (whole_list xs) k) (sym same) e;
    same_start = (ap (λ (l : Abstract). l.start) same, ap (λ (l : Abstract). l.start_term) same);
  }

-- A log over its stores has the records of l, and its committed.
abbrev Alike : Log → List ℕ → List ℕ → Log → List ℕ → List ℕ → Type 0
Alike l settled pending a settled' pending' = (view_of a settled' pending' ≡ view_of l settled pending) × (a.committed.0 ≡ l.committed.0)

module _ (l : Log) (settled pending : List ℕ) where
  persisted_alike : (i t : ℕ) → AfterDecided (Alike l settled pending) (maybe_persist l settled pending i t) settled pending
  unfolding view_of
  persisted_alike i t = after_maybe_persist (Alike l settled pending) l settled pending i t (λ good above below. (refl, refl))

  applied_alike : (i : ℕ) → AfterChanged (Alike l settled pending) (applied_to l settled pending i) settled pending
  unfolding view_of
  applied_alike i = after_applied_to (Alike l settled pending) l settled pending i (λ good. (refl, refl)) (λ good above within. (refl, refl))

  settled_alike : (i t : ℕ) → AfterChanged (Alike l settled pending) (stable_entries l settled pending i t) (stable_entries_store (stable_entries l settled pending i t) l settled pending) pending
  settled_alike i t =
      after_stable_entries (Alike l settled pending) l settled pending i t (λ a e.
      (settled_view l settled pending i t a e, ap (λ (x : Log). x.committed.0) (sym (settle_room l settled pending i t e).2)))

pub between_alike : (f : Follower) (b : Between) → (held (does f b) ≡ held f) × (committed (does f b) ≡ committed f)
unfolding does
between_alike f (settles i t) =
    settled_carries (Alike f.log f.settled f.pending) f.log f.settled f.pending (refl, refl) (stable_entries f.log f.settled f.pending i t) (settled_alike f.log f.settled f.pending i t)
between_alike f (persists i t) =
    decided_carries (Alike f.log f.settled f.pending) f.log f.settled f.pending (refl, refl) (maybe_persist f.log f.settled f.pending i t) (persisted_alike f.log f.settled f.pending i t)
between_alike f (applies i) =
    changed_carries (Alike f.log f.settled f.pending) f.log f.settled f.pending (refl, refl) (applied_to f.log f.settled f.pending i) (applied_alike f.log f.settled f.pending i)
between_alike f reads = (refl, refl)

-- so what stands between the two ends stands
pub between_standing : {xs : List Entry} (f : Follower) → Standing xs f → (b : Between) → Standing xs (does f b)
between_standing {xs} f st b =
    let same = between_alike f b in
    quiet_standing xs f (does f b) same.0 same.1 st (between_sound f st.sound b)
