-- Each call keeps the state rules: what an answer's tests let through is what the new log's rules ask.
use mathlib.Core.Path.{◌≡◌, refl, ap, subst}
use mathlib.Core.Bool.{Bool, true, false, not, ◌&&◌}
use mathlib.Core.Logic.{⊎_elim}
use mathlib.Core.List.{List}
use Prim.Native.Nat.{ℕ, ◌+◌, ◌-◌, ◌≤◌, ◌<◌, min, max}
use native.Mathlib.Omega.{arith}
use native.Mathlib.Nat.{eq-zero-or-pos}
use lib.Dec.{eqb, leb, ltb}
use lib.ListN.{length}
use borrow.Author.Tests.{ltb-true, ltb-false, leb-false, eqb-true, ne_eqb, not-false}
use Rattle.units.specs.Units.{index_limit}
use Rattle.raft_log.specs.declared.Log.{Log}
use Rattle.raft_log.specs.declared.Appended.{Appended}
use Rattle.raft_log.specs.Words.{room, run_count}
use Rattle.raft_log.specs.State.{Good, last_of}
use Rattle.raft_log.specs.Run.{terms_set, misnumbered, zero_term_in}
use Rattle.raft_log.specs.Append.{with_pending, with_committed, cut_log, cut_if, commit_up, after_message, outside, mismatched, cuts, overfull, maybe_append, maybe_append_store, alike_before}
use Rattle.raft_log.specs.Extend.{first_of, append_run, append_run_store}
use Rattle.raft_log.specs.Commit.{with_applied, commit_to, applied_to, maybe_commit, maybe_persist}
use Rattle.raft_log.specs.Settle.{stable_entries, stable_entries_store}
use Rattle.raft_log.specs.Setup.{new_log}
use Rattle.raft_log.proofs.States.{neither, whole_good}
use Rattle.raft_log.proofs.Runs.{numbered_rises}
use Rattle.raft_log.proofs.Conflicts.{Held, alike_held}
use Rattle.raft_log.proofs.Appending.{held_within, done_passed, said}
use Rattle.raft_log.proofs.Extending.{InPlace, Allowed, last_allowed}
use Rattle.raft_log.proofs.Settling.{settle_room}
use Rattle.log_laws.specs.Keep.{AfterChanged, AfterDecided, AfterExtended, AfterAppended}
use Rattle.log_laws.proofs.After.{after_new, after_commit_to, after_applied_to, after_maybe_commit, after_maybe_persist, after_stable_entries, after_append, after_maybe_append}
use Rattle.log_laws.proofs.Frames.{maybe_append_length, append_length, stable_entries_length}
use Rattle.std.specs.Prelude.{Ok}

-- ---- a good log stays good where the numbers that move keep to the rules that read them

module _ {l : Log} {settled pending : List ℕ} (g : Good l settled pending) where
  same_room : {settled' pending' : List ℕ} → length settled' ≡ length settled → length pending' ≡ length pending → Good l settled' pending'
  same_room a b =
      record {
        starts = g.starts;
        start_le_applied = g.start_le_applied;
        applied_le_committed = g.applied_le_committed;
        start_le_committed = g.start_le_committed;
        committed_le_last = g.committed_le_last;
        applied_le_persisted = g.applied_le_persisted;
        persisted_lt_offset = g.persisted_lt_offset;
        start_lt_offset = g.start_lt_offset;
        settled_room = omega (arith, g.settled_room);
        pending_room = omega (arith, g.pending_room);
        last_le_limit = g.last_le_limit;
      }

  committed_moved : (i : ℕ) → l.applied.0 ≤ i → i ≤ last_of l → Good (with_committed l i) settled pending
  committed_moved i a b =
      record {
        starts = g.starts;
        start_le_applied = g.start_le_applied;
        applied_le_committed = a;
        start_le_committed = omega (arith, g.start_le_applied);
        committed_le_last = b;
        applied_le_persisted = g.applied_le_persisted;
        persisted_lt_offset = g.persisted_lt_offset;
        start_lt_offset = g.start_lt_offset;
        settled_room = g.settled_room;
        pending_room = g.pending_room;
        last_le_limit = g.last_le_limit;
      }

  applied_moved : (i : ℕ) → l.applied.0 ≤ i → i ≤ min l.committed.0 l.persisted.0 → Good (with_applied l i) settled pending
  applied_moved i a b =
      record {
        starts = g.starts;
        start_le_applied = omega (arith, g.start_le_applied);
        applied_le_committed = omega arith;
        start_le_committed = g.start_le_committed;
        committed_le_last = g.committed_le_last;
        applied_le_persisted = omega arith;
        persisted_lt_offset = g.persisted_lt_offset;
        start_lt_offset = g.start_lt_offset;
        settled_room = g.settled_room;
        pending_room = g.pending_room;
        last_le_limit = g.last_le_limit;
      }

  pending_moved : {settled' : List ℕ} (offset count persisted : ℕ)
      → l.start.0 < offset → l.applied.0 ≤ persisted → persisted < offset → l.committed.0 ≤ offset + count - 1
      → offset - 1 - l.start.0 ≤ room settled' → count ≤ room pending → offset + count - 1 ≤ index_limit
      → Good (with_pending l offset count persisted) settled' pending
  pending_moved offset count persisted a b c d e f h =
      record {
        starts = g.starts;
        start_le_applied = g.start_le_applied;
        applied_le_committed = g.applied_le_committed;
        start_le_committed = g.start_le_committed;
        committed_le_last = d;
        applied_le_persisted = b;
        persisted_lt_offset = c;
        start_lt_offset = a;
        settled_room = e;
        pending_room = f;
        last_le_limit = h;
      }

-- ---- the calls that move one number

module _ (l : Log) (settled pending : List ℕ) where
  pub commit_to_keeps : (i : ℕ) → AfterChanged Good (commit_to l settled pending i) settled pending
  commit_to_keeps i = after_commit_to Good l settled pending i (λ g. g) (λ g above within. committed_moved g i (omega (arith, g.applied_le_committed)) within)

  pub applied_to_keeps : (i : ℕ) → AfterChanged Good (applied_to l settled pending i) settled pending
  applied_to_keeps i = after_applied_to Good l settled pending i (λ g. g) (λ g. applied_moved g i)

  pub maybe_commit_keeps : (i t : ℕ) → AfterDecided Good (maybe_commit l settled pending i t) settled pending
  maybe_commit_keeps i t = after_maybe_commit Good l settled pending i t (λ g above within. committed_moved g i (omega (arith, g.applied_le_committed)) within)

  pub maybe_persist_keeps : (i t : ℕ) → AfterDecided Good (maybe_persist l settled pending i t) settled pending
  maybe_persist_keeps i t =
      after_maybe_persist Good l settled pending i t (λ g above below.
      pending_moved g l.offset.0 l.count i g.start_lt_offset (omega (arith, g.applied_le_persisted)) below g.committed_le_last g.settled_room g.pending_room g.last_le_limit)

-- ---- set-up

pub new_keeps : (start startterm last : ℕ) (settled pending : List ℕ) → AfterChanged Good (new_log start startterm last settled) settled pending
new_keeps start startterm last settled pending =
    after_new Good start startterm last settled pending (λ s z.
    let above = s.start_le_last in
    let limited = s.last_le_limit in
    let fits = s.settled_room in
    record {
      starts = s.starts;
      start_le_applied = omega arith;
      applied_le_committed = omega arith;
      start_le_committed = omega arith;
      committed_le_last = omega arith;
      applied_le_persisted = above;
      persisted_lt_offset = omega arith;
      start_lt_offset = omega arith;
      settled_room = omega arith;
      pending_room = omega arith;
      last_le_limit = omega arith;
    })

-- ---- `stable_entries`

module _ (l : Log) (settled pending : List ℕ) where
  -- all records in settled
  all_settled : Good l settled pending → last_of l - l.start.0 ≤ room settled → (settled' : List ℕ) → length settled' ≡ length settled
      → Good (with_pending l (last_of l + 1) 0 l.persisted.0) settled' pending
  all_settled g fits settled' e =
      pending_moved g (last_of l + 1) 0 l.persisted.0
      (omega (arith, g.start_lt_offset)) g.applied_le_persisted (omega (arith, g.persisted_lt_offset)) (omega (arith, g.committed_le_last))
      (omega arith) (omega arith) (omega (arith, g.last_le_limit))

  pub stable_entries_keeps : (i t : ℕ)
      → AfterChanged Good (stable_entries l settled pending i t) (stable_entries_store (stable_entries l settled pending i t) l settled pending) pending
  stable_entries_keeps i t =
      after_stable_entries Good l settled pending i t (λ a e.
      let (good, fits, same) = settle_room l settled pending i t e in
      subst (λ (x : Log). Good x (stable_entries_store (Ok a) l settled pending) pending) same
      (all_settled good fits _ (stable_entries_length l settled pending i t a e)))

-- ---- the cut

-- numbers: pending from `first` on ends at `last`; where pending begins earlier, settled holds no more; committed moves up to no more than what bounds it and `last`
ends_at : (first last : ℕ) → 0 < first → first ≤ last + 1 → first + (last + 1 - first) - 1 ≡ last
ends_at first last h k = omega arith

fewer_settled : (first offset start most : ℕ) → first ≤ offset → offset - 1 - start ≤ most → first - 1 - start ≤ most
fewer_settled first offset start most h k = omega arith

moves_up_to : (committed commit last bound : ℕ) → committed ≤ bound → last ≤ bound → max committed (min commit last) ≤ bound
moves_up_to committed commit last bound h k = omega arith

-- records up to `last`, those from `conflict` on new, with persisted before it
cut_good : {l : Log} {settled pending : List ℕ} → Good l settled pending → (conflict last persisted : ℕ)
    → l.committed.0 < conflict → conflict ≤ last + 1 → last ≤ index_limit → last + 1 - min l.offset.0 conflict ≤ room pending
    → l.applied.0 ≤ persisted → persisted < l.offset.0 → persisted < conflict
    → Good (cut_log l conflict last persisted) settled pending
cut_good {l} g conflict last persisted a b c d e f h =
    let start : l.start.0 < min l.offset.0 conflict = omega (arith, g.start_lt_offset, g.start_le_committed) in
    let above : persisted < min l.offset.0 conflict = omega arith in
    let smaller : min l.offset.0 conflict ≤ l.offset.0 = omega arith in
    let ends : min l.offset.0 conflict + (last + 1 - min l.offset.0 conflict) - 1 ≡ last = ends_at _ _ (omega arith) (omega arith) in
    pending_moved g (min l.offset.0 conflict) (last + 1 - min l.offset.0 conflict) persisted
    start e above (omega (arith, ends)) (fewer_settled _ _ _ _ smaller g.settled_room) d (omega (arith, ends))

-- ---- `append`

module _ (l : Log) (settled pending : List ℕ) where
  -- a run that has its place
  in_place_good : (first n : ℕ) {a : Log} → Good l settled pending → first - 1 + n ≤ index_limit → InPlace l pending first n a → Good a settled pending
  in_place_good first n g limited p =
      let above = p.above in
      subst (λ (x : Log). Good x settled pending) p.same
      (cut_good g first (first + n - 1) l.persisted.0
      above (omega arith) (omega arith) p.places
      g.applied_le_persisted g.persisted_lt_offset p.fresh)

  -- an empty run leaves the log; another rises from its own first index
  allowed_good : (run : List ℕ) {a : Log} → Allowed l settled pending run a → Good a settled pending
  allowed_good run p =
      let g = whole_good l settled pending p.whole in
      ⊎_elim
      (λ empty. subst (λ (x : Log). Good x settled pending) (p.none empty) g)
      (λ more.
      let some : length run ≡ 0 → ⊥ = λ e. omega arith in
      let bad = neither (eqb (first_of run) 0) (misnumbered run (first_of run - 1)) (ap not (simp (ne_eqb _ _ some) at p.formed.0)) in
      in_place_good (first_of run) (run_count run) g (numbered_rises run (first_of run - 1) (not-false _ bad.1)).limited (p.some some))
      (eq-zero-or-pos (length run))

  pub append_keeps : (run : List ℕ) → AfterExtended Good (append_run l settled pending run) settled (append_run_store (append_run l settled pending run) pending run)
  append_keeps run =
      after_append Good l settled pending run (λ m a e. same_room (allowed_good run (last_allowed l settled pending run e)) refl (append_length pending run _))

-- ---- `maybe_append`

module _ {l : Log} {settled pending : List ℕ} (g : Good l settled pending) where
  -- where no record differs, the last is held
  last_held : (idx term : ℕ) (run : List ℕ) → outside l idx term ≡ false → mismatched l settled pending idx term ≡ false → zero_term_in run ≡ false
      → run_count run ≤ alike_before l settled pending idx run (run_count run) → idx + run_count run ≤ last_of l
  unfolding terms_set
  last_held idx term run o e z h =
      let held : Held l settled pending idx run (run_count run) = record { good = g; within = held_within l settled pending idx term g o e; set = eqb-true _ _ (not-false _ z) } in
      omega (arith, alike_held held)

  -- the log after a message of n records, k of them before the first that differs
  message_good : (idx n k commit : ℕ) → cuts l idx n k ≡ false → (n ≤ k → idx + n ≤ last_of l) → idx + n ≤ index_limit
      → overfull (after_message l idx n k commit) pending ≡ false → Good (after_message l idx n k commit) settled pending
  message_good idx n k commit c h lim r = go (ltb k n) refl c r
    where
      go : (b : Bool) → ltb k n ≡ b → b && leb (idx + 1 + k) l.committed.0 ≡ false
          → overfull (commit_up (cut_if b l (idx + 1 + k) (idx + n)) commit (idx + n)) pending ≡ false
          → Good (commit_up (cut_if b l (idx + 1 + k) (idx + n)) commit (idx + n)) settled pending
      go true e c r =
          let within : k < n = ltb-true _ _ e in
          let above : l.committed.0 < idx + 1 + k = leb-false _ _ c in
          let kept = min l.persisted.0 (idx + 1 + k - 1) in
          let cut : Good (cut_log l (idx + 1 + k) (idx + n) kept) settled pending =
          cut_good g (idx + 1 + k) (idx + n) kept above (omega arith) lim (ltb-false _ _ r)
          (omega (arith, g.applied_le_persisted, g.applied_le_committed)) (omega (arith, g.persisted_lt_offset)) (omega arith) in
          committed_moved cut _ (omega (arith, g.applied_le_committed)) (moves_up_to _ _ _ _ cut.committed_le_last (omega (arith, ends_at (min l.offset.0 (idx + 1 + k)) (idx + n) (omega (arith, g.start_lt_offset)) (omega arith))))
      go false e c r = committed_moved g _ (omega (arith, g.applied_le_committed)) (moves_up_to _ _ _ _ g.committed_le_last (h (ltb-false _ _ e)))

module _ (l : Log) (settled pending : List ℕ) where
  pub maybe_append_keeps : (idx term commit : ℕ) (run : List ℕ)
      → AfterAppended Good (maybe_append l settled pending idx term commit run) settled (maybe_append_store (maybe_append l settled pending idx term commit run) pending idx run)
  maybe_append_keeps idx term commit run =
      after_maybe_append Good l settled pending idx term commit run (λ a e.
      let n : ℕ = run_count run in
      let k : ℕ = alike_before l settled pending idx run (run_count run) in
      let (p, answer) = done_passed l settled pending idx term commit run e in
      let g = whole_good l settled pending p.whole in
      let taken : said idx n k (after_message l idx n k commit) ≡ a = cc answer in
      let same : after_message l idx n k commit ≡ a.log = ap (λ (x : Appended). x.log) taken in
      same_room
      (subst (λ (x : Log). Good x settled pending) same
      (message_good g idx n k commit p.spares (last_held g idx term run p.inside p.matches p.formed.1) (numbered_rises run idx (not-false _ p.formed.0)).limited p.room))
      refl (maybe_append_length pending idx run _))
