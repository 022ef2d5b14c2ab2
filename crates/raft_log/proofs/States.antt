-- The state rules as a test and as facts say the same; and the term at an index, by where the index stands.
use mathlib.Core.Path.{◌≡◌, refl, sym, ap, ◌∙◌}
use mathlib.Core.Bool.{Bool, true, false, not, ◌||◌, false≢true, and-eq-true_iff}
use mathlib.Core.List.{List}
use mathlib.Core.Logic.{◌⊎◌, ⊎_elim, ◌↔◌}
use Prim.Native.Nat.{ℕ, ◌-◌, ◌≤◌, ◌<◌}
use native.Mathlib.Omega.{arith}
use borrow.Author.Tests.{lt-ltb, le-ltb, le-leb, eq-eqb, ne_eqb, ltb-true, leb-true, eqb-true, not-true, not-false}
use lib.Dec.{eqb}
use Rattle.raft_log.specs.declared.Log.{Log}
use Rattle.raft_log.specs.Words.{store_term}
use Rattle.raft_log.specs.State.{Good, agree, state_ok, broken, last_of, term_at}

-- a test that cannot be true is false
pub refuted : (b : Bool) → (b ≡ true → ⊥) → b ≡ false
refuted true h = absurd (h refl)
refuted false h = refl

pub not_both : {b : Bool} → b ≡ true → b ≡ false → ⊥
not_both p q = false≢true (sym q ∙ p)

-- where it is not so that one holds, neither does
pub neither : (a b : Bool) → not (a || b) ≡ true → (a ≡ false) × (b ≡ false)
neither true b h = absurd (false≢true h)
neither false b h = (refl, not-true b h)

agreed : (a b : Bool) → agree a b ≡ true → a ≡ b
agreed true b h = sym h
agreed false b h = sym (not-true b h)

module _ (l : Log) (settled pending : List ℕ) where
  pub good_ok : Good l settled pending → state_ok l settled pending ≡ true
  unfolding state_ok
  good_ok g =
      simp (
        g.starts,
        le-leb _ _ g.start_le_applied,
        le-leb _ _ g.applied_le_committed,
        le-leb _ _ g.start_le_committed,
        le-leb _ _ g.committed_le_last,
        le-leb _ _ g.applied_le_persisted,
        lt-ltb _ _ g.persisted_lt_offset,
        lt-ltb _ _ g.start_lt_offset,
        le-leb _ _ g.settled_room,
        le-leb _ _ g.pending_room,
        le-leb _ _ g.last_le_limit,
      )

  pub ok_good : state_ok l settled pending ≡ true → Good l settled pending
  unfolding state_ok
  ok_good h =
      let a = (and-eq-true_iff _ _).0 h in
      let b = (and-eq-true_iff _ _).0 a.0 in
      let d = (and-eq-true_iff _ _).0 b.0 in
      let e = (and-eq-true_iff _ _).0 d.0 in
      let f = (and-eq-true_iff _ _).0 e.0 in
      let g = (and-eq-true_iff _ _).0 f.0 in
      let i = (and-eq-true_iff _ _).0 g.0 in
      let j = (and-eq-true_iff _ _).0 i.0 in
      let k = (and-eq-true_iff _ _).0 j.0 in
      let m = (and-eq-true_iff _ _).0 k.0 in
      record {
        starts = m.0;
        start_le_applied = leb-true _ _ m.1;
        applied_le_committed = leb-true _ _ k.1;
        start_le_committed = leb-true _ _ j.1;
        committed_le_last = leb-true _ _ i.1;
        applied_le_persisted = leb-true _ _ g.1;
        persisted_lt_offset = ltb-true _ _ f.1;
        start_lt_offset = ltb-true _ _ e.1;
        settled_room = leb-true _ _ d.1;
        pending_room = leb-true _ _ b.1;
        last_le_limit = leb-true _ _ a.1;
      }

  -- a log is good exactly if no rule is broken
  pub good_whole : Good l settled pending → broken l settled pending ≡ false
  good_whole g = ap not (good_ok g)

  pub whole_good : broken l settled pending ≡ false → Good l settled pending
  whole_good h = ok_good (not-false _ h)

  -- where a rule is broken
  pub bad_state : (Good l settled pending → ⊥) → state_ok l settled pending ≡ false
  bad_state h = refuted _ (λ e. h (ok_good e))

  -- the term at an index, by where the index stands
  module _ (i : ℕ) where
    pub term_below : i < l.start.0 → term_at l settled pending i ≡ 0
    unfolding term_at
    term_below h = simp (lt-ltb _ _ h)

    pub term_start : i ≡ l.start.0 → term_at l settled pending i ≡ l.startterm.0
    unfolding term_at
    term_start h = simp (le-ltb i l.start.0 (omega arith), eq-eqb _ _ h)

    pub term_settled : l.start.0 < i → i < l.offset.0 → term_at l settled pending i ≡ store_term settled (i - l.start.0 - 1)
    unfolding term_at
    term_settled h k = simp (le-ltb i l.start.0 (omega arith), ne_eqb i l.start.0 (omega arith), lt-ltb _ _ k)

    pub term_pending : l.start.0 < i → l.offset.0 ≤ i → i - l.offset.0 < l.count → term_at l settled pending i ≡ store_term pending (i - l.offset.0)
    unfolding term_at
    term_pending h k m =
        simp (le-ltb i l.start.0 (omega arith), ne_eqb i l.start.0 (omega arith), le-ltb _ _ k, lt-ltb _ _ m)

    pub term_beyond : l.start.0 < i → l.offset.0 ≤ i → l.count ≤ i - l.offset.0 → term_at l settled pending i ≡ 0
    unfolding term_at
    term_beyond h k m =
        simp (le-ltb i l.start.0 (omega arith), ne_eqb i l.start.0 (omega arith), le-ltb _ _ k, le-ltb _ _ m)

  module _ (good : Good l settled pending) where
    -- outside the log the term is 0
    pub no_term : (i : ℕ) → (i < l.start.0) ⊎ (last_of l < i) → term_at l settled pending i ≡ 0
    no_term i =
        ⊎_elim
        (term_below i)
        (λ beyond. let o = good.start_lt_offset in term_beyond i (omega arith) (omega arith) (omega arith))

    -- "start index 0 exactly if start term 0"
    pub zero_start : (l.start.0 ≡ 0) ↔ (l.startterm.0 ≡ 0)
    zero_start =
        let same = agreed (eqb l.start.0 0) (eqb l.startterm.0 0) good.starts in
        (λ z. eqb-true _ _ (sym same ∙ eq-eqb _ _ z), λ z. eqb-true _ _ (same ∙ eq-eqb _ _ z))
